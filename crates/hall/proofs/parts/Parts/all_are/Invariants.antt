use Rattle.std.proofs.Common.{◌≡◌, drop}
use Rattle.machine.specs.Changes.{all_tickets}
use Rattle.hall.specs.Commits.{all_are}
use Rattle.hall.specs.Sights.{sight_of}
use Rattle.hall.proofs.parts.Parts.all_are.Given as goal

abbrev pub invariant-numbers : goal.invariant-numbers
invariant-numbers l = all_are l.moving (all_tickets l.numbers (sight_of l.actor l.self)) ≡ all_are l.moving (all_tickets (drop l.number-index l.numbers) (sight_of l.actor l.self))
