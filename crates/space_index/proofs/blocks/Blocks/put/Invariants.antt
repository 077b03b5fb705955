use Rattle.std.proofs.Common.{ℕ, ◌≤◌}
use Rattle.space_index.specs.Counts.{AreCounted}
use Rattle.space_index.proofs.Counting.{so_far}
use Rattle.space_index.proofs.blocks.Blocks.put.Given as goal

abbrev pub invariant-each : goal.invariant-each
invariant-each l = record {
  from : l.initial.block ≤ l.block;
  upto : l.block ≤ l.end;
  counted : (count : ℕ) (times : ℕ → ℕ) → AreCounted l.initial.self count times → AreCounted l.self count (so_far times l.initial.block l.block);
}
