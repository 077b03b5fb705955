use Rattle.std.proofs.Common.{ℕ, ◌≤◌}
use Rattle.space_index.specs.Counts.{AreCounted}
use Rattle.space_index.proofs.Counting.{so_often}
use Rattle.space_index.proofs.updates.put_times.Given as goal

abbrev pub invariant-each : goal.invariant-each
invariant-each l = record {
  upto : l.counter ≤ l.times;
  counted : (count : ℕ) (had : ℕ → ℕ) → AreCounted l.initial.blocks count had → AreCounted l.blocks count (so_often had l.segment l.counter);
}
