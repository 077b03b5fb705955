use Rattle.std.proofs.Common.{◌≡◌, drop}
use Rattle.inventory_fits.specs.Targets.{after_scratch, target_at}
use Rattle.inventory_fits.proofs.targets.target_at.Given as goal

abbrev pub invariant-scratch : goal.invariant-scratch
invariant-scratch l = after_scratch l.pools l.file (drop l.volume-index l.scratch) l.target ≡ target_at l.pools l.file l.scratch
