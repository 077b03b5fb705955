use Rattle.std.proofs.Common.{◌≡◌, drop}
use Rattle.inventory_rows.specs.State.{inv_of}
use Rattle.inventory_rules.specs.Common.{each}
use Rattle.inventory_rules.specs.Versions.{discard}
use Rattle.inventory_effects.proofs.versions.discard_all.Given as goal

abbrev pub invariant-items : goal.invariant-items
invariant-items l = each discard (drop l.item-index l.items) (inv_of l.tables) ≡ each discard l.fn.items (inv_of l.fn.tables)
