use Rattle.std.proofs.Common.{◌≡◌, drop}
use Rattle.inventory_effects.specs.Volumes.{taken}
use Rattle.db_losses.proofs.gone.take.Given as goal

abbrev pub invariant-segments : goal.invariant-segments
invariant-segments l = taken l.object (drop l.segment-index l.segments) l.day l.pools ≡ taken l.object l.segments l.day l.fn.pools
