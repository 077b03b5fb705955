use Rattle.std.proofs.Common.{◌≡◌, ◌≤◌, ◌++◌, drop, length}
use Rattle.std.specs.List.{flat_map}
use Rattle.machine.specs.Changes.{all_tickets, move_from}
use Rattle.machine.specs.State.{Ticket}
use Rattle.hall.specs.Sights.{sight_of}
use Rattle.hall.proofs.parts.Parts.moves_of.Given as goal

abbrev pub invariant-numbers : goal.invariant-numbers
invariant-numbers l = record {
  made : l.out ++ flat_map (λ (t : Ticket). move_from t t.purpose) (all_tickets (drop l.number-index l.numbers) (sight_of l.actor l.self))
      ≡ flat_map (λ (t : Ticket). move_from t t.purpose) (all_tickets l.numbers (sight_of l.actor l.self));
  few : length l.out ≤ l.number-index;
}
