-- When a database would hold too much after a transaction.
use Rattle.std.specs.Prelude.{◌+◌, Bool, nat_le}
use Rattle.entries.specs.declared.change.Change.{Change}
use Rattle.inventory_rows.specs.Items.{count_items, most_items}
use Rattle.inventory_rows.specs.State.{Inv}
use Rattle.inventory_rules.specs.Transactions.{items_added, items_gone}

-- with the items that come, and without those that they replace, the lists have no more than they may
abbrev pub has_item_room : Change → Inv → Bool
has_item_room c v = nat_le (count_items v + items_added c v) (most_items + items_gone c v)
