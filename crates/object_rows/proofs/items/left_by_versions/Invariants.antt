use Rattle.std.proofs.Common.{◌≡◌, drop}
use Rattle.std.specs.List.{sum_by}
use Rattle.object_rows.specs.Items.{items_of_version, left}
use Rattle.object_rows.proofs.items.left_by_versions.Given as goal

abbrev pub invariant-versions : goal.invariant-versions
invariant-versions l = left (sum_by items_of_version (drop l.version-index l.versions)) l.rest ≡ left (sum_by items_of_version l.versions) l.fn.room
