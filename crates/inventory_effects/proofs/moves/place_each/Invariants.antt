use Rattle.std.proofs.Common.{◌≡◌, ◌++◌, map, drop}
use Rattle.inventory_rules.specs.Copies.{placed_as}
use Rattle.inventory_effects.proofs.moves.place_each.Given as goal

abbrev pub invariant-items : goal.invariant-items
invariant-items l = l.rows.items ++ map (placed_as l.tables.number) (drop l.item-index l.items) ≡ map (placed_as l.tables.number) l.items
