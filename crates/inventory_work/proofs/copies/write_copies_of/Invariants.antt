use Rattle.std.proofs.Common.{◌≡◌, ◌++◌, drop}
use Rattle.std.specs.List.{flat_map}
use Rattle.inventory_work.specs.Copies.{copies_of_version}
use Rattle.inventory_work.proofs.copies.write_copies_of.Given as goal

abbrev pub invariant-versions : goal.invariant-versions
invariant-versions l =
    l.lines.items ++ flat_map (copies_of_version l.here l.node) (drop l.version-index l.versions) ≡ l.fn.lines.items ++ flat_map (copies_of_version l.here l.node) l.versions
