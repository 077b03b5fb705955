use Rattle.std.proofs.Common.{◌≡◌, ◌+◌, ℕ}
use Rattle.volume_rows.specs.Holdings.{weight_of}
use Rattle.space_index.specs.Counts.{reach, AreCounted}
use Rattle.space_index.specs.Index.{segment_on}
use Rattle.space_index.proofs.updates.put_copies.Given as goal

abbrev pub invariant-copies : goal.invariant-copies
invariant-copies l = (count : ℕ) → AreCounted l.initial.blocks count (λ k. 0)
    → (times : ℕ → ℕ) × ((k : ℕ) → times k + weight_of (λ h. reach (segment_on l.file h) k) l.held-iterator ≡ weight_of (λ h. reach (segment_on l.file h) k) l.segments) × AreCounted l.blocks count times
