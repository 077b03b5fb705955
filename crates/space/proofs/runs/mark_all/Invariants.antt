use Rattle.std.proofs.Common.{◌≡◌, ℕ, [], take}
use Rattle.space.specs.Pieces.{blocks_used}
use Rattle.space.proofs.runs.mark_all.Given as goal

abbrev pub invariant-segments : goal.invariant-segments
invariant-segments l = (count : ℕ) → l.initial.extents ≡ blocks_used count [] → l.extents ≡ blocks_used count (take l.segment-index l.segments)
