use Rattle.std.proofs.Common.{◌≡◌, drop}
use Rattle.inventory_bytes.specs.Segments.{filled, of_versions}
use Rattle.inventory_bytes.proofs.segments.put_versions.Given as goal

abbrev pub invariant-versions : goal.invariant-versions
invariant-versions l = filled (of_versions (drop l.version-index l.versions)) l.volumes.entries ≡ filled (of_versions l.versions) l.fn.volumes.entries
