-- What stays where segments come on volumes and go from them.
use Rattle.std.specs.Prelude.{◌≡◌, ℕ, Bool, is_some, ◌&&◌, [], Option, Result}
use Rattle.std.specs.List.{list_all}
use Rattle.std.specs.Option.{option_map}
use Rattle.kinds.specs.declared.refusal.Refusal.{Refusal}
use Rattle.inventory_rules.specs.inventory_rows.version_groups.declared.copies.CopyRow.{CopyRow}
use Rattle.inventory_rules.specs.inventory_rows.volume_rows.declared.volume.Volume.{Volume}
use Rattle.inventory_rules.specs.inventory_rows.object_rows.Rows.{Rows}
use Rattle.inventory_rules.specs.inventory_rows.pool_tables.Rows.{row_at}
use Rattle.inventory_rules.specs.inventory_rows.Search.{pool}
use Rattle.inventory_rules.specs.inventory_rows.State.{Inv}
use Rattle.inventory_rules.specs.Common.{or_same, with_clients, with_stores}
use Rattle.inventory_rules.specs.Valid.{is_of_pool}

-- the pool and the capacity of a volume that is there
abbrev pub shape_of : Option Volume → Option (ℕ × ℕ)
shape_of volume = option_map (λ w. (w.pool, w.capacity)) volume

-- all but the rows of the volumes is as it was, and each row is there that was, with its pool and its capacity, and no other
pub record OnlyVolumes (v w : Inv) : Type 0 where
  pub only : w ≡ with_stores (record v.stores { volumes = w.stores.volumes }) v
  pub shapes : (file : ℕ) → shape_of (row_at file w.stores.volumes) ≡ shape_of (row_at file v.stores.volumes)

-- a copy lies in a pool that is there, and each of its segments on a volume of that pool
abbrev pub is_cited : Inv → ℕ × CopyRow → Bool
is_cited v e = is_some (pool e.1.pool v) && list_all (λ s. is_of_pool e.1.pool (row_at s.file v.stores.volumes)) e.1.segments

-- what a change makes of the nodes, filespaces and objects; where it is refused, they stay
abbrev pub clients_after : (Rows → Result Rows Refusal) → Inv → Inv
clients_after step v = with_clients (or_same v.clients (step v.clients)) v

-- no node, no filespace, and no object
abbrev pub nothing : Rows
nothing = record { nodes = []; filespaces = []; held = [] }
