use Rattle.std.proofs.Common.{◌≡◌, ◌++◌, drop}
use Rattle.db_losses.specs.Losses.{versions_left}
use Rattle.db_losses.proofs.left.versions_left.Given as goal

abbrev pub invariant-versions : goal.invariant-versions
invariant-versions l = l.out.items ++ versions_left l.losses (drop l.version-index l.versions) ≡ versions_left l.losses l.versions
