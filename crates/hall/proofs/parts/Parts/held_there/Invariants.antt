use Rattle.std.proofs.Common.{◌≡◌}
use Rattle.kinds.specs.Refusals.{foremost}
use Rattle.machine.specs.Machine.{held_by}
use Rattle.hall.specs.Commits.{lies}
use Rattle.hall.specs.Sights.{tickets_of}
use Rattle.hall.proofs.parts.Parts.held_there.Given as goal

abbrev pub invariant-seats : goal.invariant-seats
invariant-seats l = foremost (held_by (lies l.here) (tickets_of l.self.seats)) ≡ foremost (held_by (lies l.here) (tickets_of l.number-iterator))
