use Rattle.std.proofs.Common.{◌≡◌, ◌++◌, drop}
use Rattle.std.specs.List.{flat_map}
use Rattle.inventory_work.specs.Copies.{copy_lines}
use Rattle.inventory_work.proofs.copies.write_copies.Given as goal

abbrev pub invariant-copies : goal.invariant-copies
invariant-copies l =
    l.lines.items ++ flat_map (copy_lines l.here l.node l.version) (drop l.copy-index l.copies) ≡ l.fn.lines.items ++ flat_map (copy_lines l.here l.node l.version) l.copies
