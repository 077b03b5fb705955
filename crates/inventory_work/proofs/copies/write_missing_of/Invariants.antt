use Rattle.std.proofs.Common.{◌≡◌, ◌++◌, drop}
use Rattle.std.specs.List.{flat_map}
use Rattle.inventory_work.specs.Copies.{missing_lines}
use Rattle.inventory_work.proofs.copies.write_missing_of.Given as goal

abbrev pub invariant-versions : goal.invariant-versions
invariant-versions l =
    l.lines.items ++ flat_map (missing_lines l.primary l.copy) (drop l.version-index l.versions) ≡ l.fn.lines.items ++ flat_map (missing_lines l.primary l.copy) l.versions
