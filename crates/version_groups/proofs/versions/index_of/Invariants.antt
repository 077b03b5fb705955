use Rattle.std.proofs.Common.{◌≡◌, drop}
use Rattle.version_groups.specs.Versions.{version_of}
use Rattle.version_groups.proofs.versions.index_of.Given as goal

abbrev pub invariant-versions : goal.invariant-versions
invariant-versions l = version_of l.object l.versions ≡ version_of l.object (drop l.i l.versions)
