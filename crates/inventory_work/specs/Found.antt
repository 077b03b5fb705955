-- Things by their names.
use Rattle.std.specs.Prelude.{ℕ, List, Option, Result, Ok}
use Rattle.kinds.specs.declared.refusal.Refusal.{Refusal}
use Rattle.inventory_rows.specs.version_groups.Entries.{on_ok, if_found}
use Rattle.inventory_rows.specs.object_rows.Names.{node_named, filespace_named}
use Rattle.inventory_rows.specs.object_rows.Rows.{Rows}
use Rattle.inventory_rows.specs.pool_tables.Rows.{named}
use Rattle.inventory_rows.specs.pool_rows.PoolRows.{PoolRows, pool_named, volume_named}
use Rattle.inventory_rows.specs.State.{Inv}
use Rattle.inventory_work.specs.declared.search.Found.{Found}
use Rattle.inventory_work.specs.declared.search.Found.TheVariants as found
use Rattle.inventory_work.specs.declared.search.Named.{Named}
use Rattle.inventory_work.specs.declared.search.Named.TheVariants as thing

-- the number, which has to be there
abbrev pub number_found : Option ℕ → Result Found Refusal
number_found number = if_found number (λ n. Ok (found.Number n))

-- the capacity of a device class, which has to be there
abbrev pub device_found : List ℕ → PoolRows → Result Found Refusal
device_found class s = if_found (named class s.classes) (λ capacity. Ok (found.DevClass capacity))

-- the number of the filespace with this name of the node with that one, which both have to be there
abbrev pub filespace_asked : (node filespace : List ℕ) → Rows → Result ℕ Refusal
filespace_asked node filespace rows =
    if_found (node_named node rows.nodes) (λ n. if_found (filespace_named n filespace rows.filespaces) Ok)

abbrev pub filespace_found : (node filespace : List ℕ) → Rows → Result Found Refusal
filespace_found node filespace rows = on_ok found.Number (filespace_asked node filespace rows)

-- what a name leads to: a number, or the capacity of a device class
abbrev pub find_named : Named → Inv → Result Found Refusal
find_named (thing.Node name) v = number_found (node_named name v.clients.nodes)
find_named (thing.DevClass name) v = device_found name v.stores
find_named (thing.Pool name) v = number_found (pool_named name v.stores)
find_named (thing.Volume name) v = number_found (volume_named name v.stores)
find_named (thing.Filespace node filespace) v = filespace_found node filespace v.clients
