use Rattle.std.proofs.Common.{◌≡◌, drop}
use Rattle.db_losses.specs.Losses.{all_gone, lost_of}
use Rattle.db_losses.proofs.gone.take_versions.Given as goal

abbrev pub invariant-versions : goal.invariant-versions
invariant-versions l = all_gone (lost_of l.losses (drop l.version-index l.versions)) l.day l.pools ≡ all_gone (lost_of l.losses l.versions) l.day l.fn.pools
