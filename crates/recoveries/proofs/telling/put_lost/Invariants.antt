use Rattle.std.proofs.Common.{◌≡◌, ◌++◌}
use Rattle.recoveries.specs.Telling.{lost_lines}
use Rattle.recoveries.proofs.telling.put_lost.Given as goal

abbrev pub invariant-lost : goal.invariant-lost
invariant-lost l = l.out.items ++ lost_lines l.object-iterator ≡ l.fn.out.items ++ lost_lines l.lost.entries
