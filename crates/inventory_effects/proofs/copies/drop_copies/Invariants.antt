use Rattle.std.proofs.Common.{◌≡◌, drop}
use Rattle.inventory_rows.specs.State.{inv_of}
use Rattle.inventory_rules.specs.Common.{each}
use Rattle.inventory_rules.specs.Copies.{drop_copy}
use Rattle.inventory_effects.proofs.copies.drop_copies.Given as goal

abbrev pub invariant-items : goal.invariant-items
invariant-items l = each drop_copy (drop l.item-index l.items) (inv_of l.tables) ≡ each drop_copy l.fn.items (inv_of l.fn.tables)
