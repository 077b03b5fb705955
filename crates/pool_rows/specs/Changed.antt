-- A change of device classes, storage pools and volumes as a whole.
use Rattle.std.specs.Prelude.{ℕ, Bool, true, not, is_none, ◌&&◌, List, Result}
use Rattle.pool_tables.specs.kinds.declared.change.Verb.{Verb}
use Rattle.pool_tables.specs.kinds.declared.change.Verb.TheVariants.{Define, Update, Delete}
use Rattle.pool_tables.specs.kinds.declared.change.PoolChange.{PoolChange}
use Rattle.pool_tables.specs.kinds.declared.change.PoolChange.TheVariants.{DevClass, Pool, Volume}
use Rattle.pool_tables.specs.kinds.declared.refusal.Refusal.{Refusal}
use Rattle.pool_tables.specs.Rows.{row_at}
use Rattle.pool_tables.specs.Scratch.{is_scratch_name}
use Rattle.pool_rows.specs.PoolRows.{PoolRows}
use Rattle.pool_rows.specs.ClassChanges.{change_class}
use Rattle.pool_rows.specs.Changes.{change_pool, change_volume}

-- the state after the change, or the refusal; a pool that is defined gets this number
abbrev pub changed : PoolChange → ℕ → PoolRows → Result PoolRows Refusal
changed (DevClass verb class capacity) number s = change_class verb class capacity s
changed (Pool verb name class kind settings) number s = change_pool verb number name class kind settings s
changed (Volume verb name pool file capacity access) number s = change_volume verb name pool file capacity access s

-- a pool that is defined gets a number that no pool has
abbrev pub is_pool_free : Verb → ℕ → PoolRows → Bool
is_pool_free Define number s = is_none (row_at number s.pools)
is_pool_free Update number s = true
is_pool_free Delete number s = true

-- a volume that is defined has a file number that no volume has, and a name that only scratch volumes have is not its name
abbrev pub is_volume_free : Verb → List ℕ → ℕ → PoolRows → Bool
is_volume_free Define name file s = is_none (row_at file s.volumes) && not (is_scratch_name name)
is_volume_free Update name file s = true
is_volume_free Delete name file s = true

-- what is defined may have its number and its name
abbrev pub is_free : PoolChange → ℕ → PoolRows → Bool
is_free (DevClass verb class capacity) number s = true
is_free (Pool verb name class kind settings) number s = is_pool_free verb number s
is_free (Volume verb name pool file capacity access) number s = is_volume_free verb name file s
