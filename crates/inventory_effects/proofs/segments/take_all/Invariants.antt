use Rattle.std.proofs.Common.{◌≡◌, drop}
use Rattle.inventory_effects.specs.Volumes.{all_taken}
use Rattle.inventory_effects.proofs.segments.take_all.Given as goal

abbrev pub invariant-copies : goal.invariant-copies
invariant-copies l = all_taken l.object (drop l.copy-index l.copies) l.today l.pools ≡ all_taken l.object l.copies l.today l.fn.pools
