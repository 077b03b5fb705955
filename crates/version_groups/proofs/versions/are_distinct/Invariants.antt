use Rattle.std.proofs.Common.{◌≡◌, drop}
use Rattle.version_groups.specs.Versions.{are_distinct}
use Rattle.version_groups.proofs.versions.are_distinct.Given as goal

abbrev pub invariant-versions : goal.invariant-versions
invariant-versions l = are_distinct l.versions ≡ are_distinct (drop l.i l.versions)
