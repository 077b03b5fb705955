use Rattle.std.proofs.Common.{◌+◌, drop, get_or, Some, None, sym, ap, ◌∙◌}
use Rattle.std.specs.List.{flat_map}
use Rattle.std.specs.Prelude.{option_copied}
use Rattle.machine.specs.Changes.{all_tickets, move_from}
use Rattle.machine.specs.State.{Ticket}
use Rattle.hall.specs.Sights.{sight_of, ticket_of}
use Rattle.hall.proofs.Walking.{each_next, found_is, grows_by_move, none_is, skipped, still_few, tickets_next}
use Rattle.hall.proofs.parts.Parts.moves_of.Goals as goal
use Rattle.hall.proofs.parts.Parts.moves_of.Goals.{in-Some+in_ok-add_move, in_default}

pub numbers-preserved : goal.numbers-preserved
numbers-preserved c =
    let s = sight_of c.args.actor c.args.self.now in
    let n = get_or c.args.numbers.now c.numbers.number-index 0 in
    let ts = all_tickets (drop c.numbers.number-index c.args.numbers.now) s in
    let rest = all_tickets (drop (c.numbers.number-index + 1) c.args.numbers.now) s in
    elim c.match-own.branch [
      | in-Some+in_ok-add_move w ↦ record {
        made = each_next (λ (t : Ticket). move_from t t.purpose) (ticket_of n w.in-Some.seat.now) ts rest c.numbers.out c.match-own.out _
            (tickets_next c.args.numbers.now c.numbers.number-index 0 s (Some (ticket_of n w.in-Some.seat.now)) c.numbers-test.true (found_is n _ _ w.in-Some.seat.now w.in-Some.ensures.ticket w.in-Some.ensures.seat))
            c.numbers.invariant.made (w.out-is ∙ w.in_ok-add_move.ensures.ok);
        few = grows_by_move (ticket_of 0 w.in-Some.seat.now) (ticket_of 0 w.in-Some.seat.now).purpose c.numbers.out c.match-own.out c.numbers.number-index (w.out-is ∙ w.in_ok-add_move.ensures.ok) c.numbers.invariant.few;
      }
      | in_default w ↦ record {
        made = skipped (flat_map (λ (t : Ticket). move_from t t.purpose)) ts rest c.numbers.out c.match-own.out _
            (tickets_next c.args.numbers.now c.numbers.number-index 0 s None c.numbers-test.true (none_is n _ _ c.own.ensures.ticket (ap option_copied (sym w.in_default.is) ∙ c.own.ensures.seat)))
            c.numbers.invariant.made w.out-is;
        few = still_few c.numbers.out c.match-own.out c.numbers.number-index w.out-is c.numbers.invariant.few;
      }
    ]
