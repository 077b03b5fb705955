use Rattle.std.proofs.Common.{length, ◌-◌, ◌≤◌, take}
use Rattle.expiration.specs.Expiring.{AreOf}
use Rattle.expiration.proofs.lines.run_of.Given as goal

abbrev pub invariant-run : goal.invariant-run
invariant-run l = record { some : 1 ≤ l.run; few : l.run ≤ 256; within : l.run ≤ length l.lines; of : AreOf l.filespace (take l.run l.lines) }

abbrev pub decreases-run : goal.decreases-run
decreases-run l = length l.lines - l.run
