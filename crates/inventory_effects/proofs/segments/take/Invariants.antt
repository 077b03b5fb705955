use Rattle.std.proofs.Common.{◌≡◌, drop}
use Rattle.inventory_effects.specs.Volumes.{taken}
use Rattle.inventory_effects.proofs.segments.take.Given as goal

abbrev pub invariant-segments : goal.invariant-segments
invariant-segments l = taken l.object (drop l.segment-index l.segments) l.today l.pools ≡ taken l.object l.segments l.today l.fn.pools
