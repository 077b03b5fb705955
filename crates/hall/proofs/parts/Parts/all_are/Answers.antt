use Rattle.std.proofs.Common.{◌+◌, drop, get_or, Some, None, sym, ap, ◌∙◌}
use Rattle.std.specs.Prelude.{option_copied}
use Rattle.machine.specs.Changes.{all_tickets}
use Rattle.hall.specs.Commits.{all_are}
use Rattle.hall.specs.Sights.{sight_of, ticket_of}
use Rattle.hall.proofs.Walking.{are_next, are_stop, found_is, none_is, tickets_next}
use Rattle.hall.proofs.parts.Parts.all_are.Goals as goal
use Rattle.hall.proofs.parts.Parts.all_are.Goals.{in-Some+else-not-is_such, in_default}

pub returns-then-not-is_such : goal.returns-then-not-is_such
returns-then-not-is_such c =
    let s = sight_of c.args.actor c.args.self.now in
    let n = get_or c.args.numbers.now c.numbers.number-index 0 in
    are_stop c.args.moving (ticket_of n c.in-Some.seat.now) (all_tickets (drop c.numbers.number-index c.args.numbers.now) s) (all_tickets (drop (c.numbers.number-index + 1) c.args.numbers.now) s)
    (all_tickets c.args.numbers.now s)
    (tickets_next c.args.numbers.now c.numbers.number-index 0 s (Some (ticket_of n c.in-Some.seat.now)) c.numbers-test.true (found_is n _ _ c.in-Some.seat.now c.in-Some.ensures.ticket c.in-Some.ensures.seat))
    (sym c.if-not-is_such.ensures) c.numbers.invariant

pub numbers-preserved : goal.numbers-preserved
numbers-preserved c =
    let s = sight_of c.args.actor c.args.self.now in
    let n = get_or c.args.numbers.now c.numbers.number-index 0 in
    elim c.match-own.branch [
      | in-Some+else-not-is_such w ↦
          are_next c.args.moving (ticket_of n w.in-Some.seat.now) (all_tickets (drop c.numbers.number-index c.args.numbers.now) s) (all_tickets (drop (c.numbers.number-index + 1) c.args.numbers.now) s)
          (all_tickets c.args.numbers.now s)
          (tickets_next c.args.numbers.now c.numbers.number-index 0 s (Some (ticket_of n w.in-Some.seat.now)) c.numbers-test.true (found_is n _ _ w.in-Some.seat.now w.in-Some.ensures.ticket w.in-Some.ensures.seat))
          (sym w.is_such.ensures ∙ w.if-not-is_such.false) c.numbers.invariant
      | in_default w ↦
          c.numbers.invariant
          ∙ ap (all_are c.args.moving) (tickets_next c.args.numbers.now c.numbers.number-index 0 s None c.numbers-test.true (none_is n _ _ c.own.ensures.ticket (ap option_copied (sym w.in_default.is) ∙ c.own.ensures.seat)))
    ]
