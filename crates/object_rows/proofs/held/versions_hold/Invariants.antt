use Rattle.std.proofs.Common.{◌≡◌, drop}
use Rattle.object_rows.specs.Held.{versions_hold}
use Rattle.object_rows.proofs.held.versions_hold.Given as goal

abbrev pub invariant-versions : goal.invariant-versions
invariant-versions l = versions_hold l.pool (drop l.version-index l.versions) ≡ versions_hold l.pool l.versions
