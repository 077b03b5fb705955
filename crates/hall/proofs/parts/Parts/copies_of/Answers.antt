use Rattle.std.proofs.Common.{◌+◌, ◌++◌, ◌∷◌, [], drop, get_or, map, Some, None, sym, ap, ◌∙◌}
use Rattle.std.specs.Prelude.{option_copied}
use Rattle.machine.specs.Changes.{all_tickets, copy_from}
use Rattle.hall.specs.Sights.{sight_of, ticket_of}
use Rattle.hall.proofs.Walking.{found_is, grows, mapped_next, none_is, skipped, still_few, tickets_next}
use Rattle.hall.proofs.parts.Parts.copies_of.Goals as goal
use Rattle.hall.proofs.parts.Parts.copies_of.Goals.{in-Some+in_ok-copy_from+in_ok-push, in_default}

pub numbers-preserved : goal.numbers-preserved
numbers-preserved c =
    let s = sight_of c.args.actor c.args.self.now in
    let n = get_or c.args.numbers.now c.numbers.number-index 0 in
    let ts = all_tickets (drop c.numbers.number-index c.args.numbers.now) s in
    let rest = all_tickets (drop (c.numbers.number-index + 1) c.args.numbers.now) s in
    elim c.match-own.branch [
      | in-Some+in_ok-copy_from+in_ok-push w ↦ record {
        made = mapped_next copy_from (ticket_of n w.in-Some.seat.now) ts rest c.numbers.out c.match-own.out _
            (tickets_next c.args.numbers.now c.numbers.number-index 0 s (Some (ticket_of n w.in-Some.seat.now)) c.numbers-test.true (found_is n _ _ w.in-Some.seat.now w.in-Some.ensures.ticket w.in-Some.ensures.seat))
            c.numbers.invariant.made (w.out-is ∙ w.in_ok-push.ensures.ok ∙ ap (λ x. c.numbers.out ++ x ∷ []) w.in_ok-copy_from.ensures);
        few = grows c.numbers.out c.match-own.out w.in_ok-copy_from.field-0 c.numbers.number-index (w.out-is ∙ w.in_ok-push.ensures.ok) c.numbers.invariant.few;
      }
      | in_default w ↦ record {
        made = skipped (map copy_from) ts rest c.numbers.out c.match-own.out _
            (tickets_next c.args.numbers.now c.numbers.number-index 0 s None c.numbers-test.true (none_is n _ _ c.own.ensures.ticket (ap option_copied (sym w.in_default.is) ∙ c.own.ensures.seat)))
            c.numbers.invariant.made w.out-is;
        few = still_few c.numbers.out c.match-own.out c.numbers.number-index w.out-is c.numbers.invariant.few;
      }
    ]
