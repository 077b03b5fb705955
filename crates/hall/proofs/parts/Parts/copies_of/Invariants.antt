use Rattle.std.proofs.Common.{◌≡◌, ◌≤◌, ◌++◌, drop, length, map}
use Rattle.machine.specs.Changes.{all_tickets, copy_from}
use Rattle.hall.specs.Sights.{sight_of}
use Rattle.hall.proofs.parts.Parts.copies_of.Given as goal

abbrev pub invariant-numbers : goal.invariant-numbers
invariant-numbers l = record {
  made : l.out ++ map copy_from (all_tickets (drop l.number-index l.numbers) (sight_of l.actor l.self)) ≡ map copy_from (all_tickets l.numbers (sight_of l.actor l.self));
  few : length l.out ≤ l.number-index;
}
