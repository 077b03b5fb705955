use Rattle.std.proofs.Common.{◌≡◌, drop, map}
use Rattle.version_groups.specs.declared.versions.Version.{Version}
use Rattle.version_groups.specs.kinds.Least.{lesser}
use Rattle.object_rows.specs.Changes.{least}
use Rattle.object_rows.proofs.spaces.least_of.Given as goal

abbrev pub invariant-versions : goal.invariant-versions
invariant-versions l = lesser l.found (least (map (λ (v : Version). v.object) (drop l.version-index l.versions))) ≡ least (map (λ (v : Version). v.object) l.versions)
