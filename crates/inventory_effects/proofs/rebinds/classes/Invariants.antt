use Rattle.std.proofs.Common.{◌≡◌, ◌++◌, map, drop}
use Rattle.inventory_rules.specs.Versions.{class_of}
use Rattle.inventory_effects.proofs.rebinds.classes.Given as goal

abbrev pub invariant-items : goal.invariant-items
invariant-items l = l.names.items ++ map class_of (drop l.item-index l.items) ≡ map class_of l.items
