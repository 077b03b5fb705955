-- The tests by which it is decided, before a transaction is made, whether and why the database refuses it.
use Rattle.std.specs.Prelude.{◌≡◌, ◌^◌, true, Option, List, ◌++◌}
use Rattle.std.specs.Map.{keys_of}
use Rattle.kinds.specs.declared.refusal.Refusal.{Refusal}
use Rattle.kinds.specs.declared.refusal.Refusal.TheVariants as refusal
use Rattle.kinds.specs.Refusals.{foremost, unless}
use Rattle.entries.specs.declared.change.Change.{Change}
use Rattle.entries.specs.declared.change.Change.TheVariants as change
use Rattle.inventory_rows.specs.State.{Inv}
use Rattle.inventory_rules.specs.Transactions.{parts_fit, causes, then_valid}
use Rattle.inventory_rules.specs.Journal.{Journal}
use Rattle.inventory_rules.specs.Common.{full_at}
use Rattle.inventory_rules.specs.Valid.{are_apart}
use Rattle.inventory_sizes.specs.Sizes.{has_item_room}
use Rattle.inventory_rules.specs.Ordered.{IsOrdered}

-- a database that would be too large, or a transaction whose number would reach the bound
abbrev pub sizes : Change → Inv → List Refusal
sizes c v = unless (has_item_room c v) refusal.InventoryFull ++ full_at v.number (2 ^ 62)

-- The foremost of the causes, a size among them; where there is none, 4 where what the change brings doesn't fit where it comes. Over a valid
-- database this is what the rules refuse.
unfoldable pub tested : Journal → Change → Inv → Option Refusal
tested j c v = then_valid (foremost (causes j c v ++ sizes c v)) (parts_fit c v)

-- the rows ascend: filespaces by number, the paths of each, and pools by number, of which none stands twice
pub record IsAscending (v : Inv) : Type 0 where
  pub rows : IsOrdered v
  pub pools : are_apart (keys_of v.stores.pools) ≡ true
