use Rattle.std.proofs.Common.{◌+◌, ◌<◌, ◌^◌, take}
use Rattle.std.specs.List.{AllByRecursion}
use Rattle.kinds.specs.declared.segment.Segment.{Segment}
use Rattle.hall.proofs.reading.frames_are_bounded.Given as goal

abbrev pub invariant-segments : goal.invariant-segments
invariant-segments l = record { near : AllByRecursion (λ (s : Segment). s.offset + 32 + s.len < 2 ^ 64) (take l.segment-index l.segments) }
