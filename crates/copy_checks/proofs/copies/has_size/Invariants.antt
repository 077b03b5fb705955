use Rattle.std.proofs.Common.{◌≡◌, drop}
use Rattle.std.specs.Prelude.{◌==◌}
use Rattle.volume_frames.specs.Frames.{bytes_len}
use Rattle.copy_checks.proofs.copies.has_size.Given as goal

abbrev pub invariant-segments : goal.invariant-segments
invariant-segments l = (bytes_len (drop l.segment-index l.segments) == l.left) ≡ (bytes_len l.segments == l.size)
