use Rattle.std.proofs.Common.{◌+◌, List, drop, get_or, Some, None, sym, ap, ◌∙◌}
use Rattle.std.specs.List.{flat_map}
use Rattle.std.specs.Prelude.{option_copied}
use Rattle.machine.specs.Changes.{all_tickets, new_files}
use Rattle.machine.specs.State.{Ticket}
use Rattle.hall.specs.Commits.{scratch_more}
use Rattle.hall.specs.Sights.{sight_of, ticket_of}
use Rattle.hall.proofs.Walking.{found_is, none_is, scratch_next, tickets_next}
use Rattle.hall.proofs.parts.Parts.scratch_of.Goals as goal
use Rattle.hall.proofs.parts.Parts.scratch_of.Goals.{in-Some+in_ok-add_scratch, in_default}

pub numbers-preserved : goal.numbers-preserved
numbers-preserved c =
    let s = sight_of c.args.actor c.args.self.now in
    let v = c.args.self.now.vault.database in
    let n = get_or c.args.numbers.now c.numbers.number-index 0 in
    let ts = all_tickets (drop c.numbers.number-index c.args.numbers.now) s in
    let rest = all_tickets (drop (c.numbers.number-index + 1) c.args.numbers.now) s in
    elim c.match-own.branch [
      | in-Some+in_ok-add_scratch w ↦
          scratch_next (new_files v) (ticket_of n w.in-Some.seat.now) ts rest c.numbers.out c.match-own.out _
          (tickets_next c.args.numbers.now c.numbers.number-index 0 s (Some (ticket_of n w.in-Some.seat.now)) c.numbers-test.true (found_is n _ _ w.in-Some.seat.now w.in-Some.ensures.ticket w.in-Some.ensures.seat))
          (w.out-is ∙ w.in_ok-add_scratch.ensures.ok) c.numbers.invariant
      | in_default w ↦
          ap (scratch_more (flat_map (new_files v) rest)) w.out-is
          ∙ ap (λ (l : List Ticket). scratch_more (flat_map (new_files v) l) c.numbers.out)
          (sym (tickets_next c.args.numbers.now c.numbers.number-index 0 s None c.numbers-test.true (none_is n _ _ c.own.ensures.ticket (ap option_copied (sym w.in_default.is) ∙ c.own.ensures.seat))))
          ∙ c.numbers.invariant
    ]
