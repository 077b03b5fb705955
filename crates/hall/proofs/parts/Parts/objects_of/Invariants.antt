use Rattle.std.proofs.Common.{◌≡◌, ◌≤◌, ◌++◌, drop, length}
use Rattle.machine.specs.Changes.{held_from}
use Rattle.hall.specs.Commits.{zipped}
use Rattle.hall.specs.Sights.{sight_of}
use Rattle.hall.proofs.parts.Parts.objects_of.Given as goal

abbrev pub invariant-items : goal.invariant-items
invariant-items l = record {
  made : l.out ++ zipped held_from (drop l.at l.items) (drop l.at l.numbers) (sight_of l.actor l.self) ≡ zipped held_from l.items l.numbers (sight_of l.actor l.self);
  few : length l.out ≤ l.at;
}
