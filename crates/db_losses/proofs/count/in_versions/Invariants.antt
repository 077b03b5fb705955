use Rattle.std.proofs.Common.{◌≡◌, ◌+◌, drop, length}
use Rattle.db_losses.specs.Losses.{copies_in}
use Rattle.db_losses.proofs.count.in_versions.Given as goal

abbrev pub invariant-versions : goal.invariant-versions
invariant-versions l = l.count + length (copies_in (drop l.version-index l.versions)) ≡ length (copies_in l.versions)
