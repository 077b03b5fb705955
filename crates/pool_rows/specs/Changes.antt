-- The changes that an administrator makes, each with the least of the refusals that hold.
use Rattle.std.specs.Prelude.{ℕ, Bool, true, false, ◌==◌, ◌&&◌, is_some, Option, Some, None, Result, Ok, Err, List, [], if◌then◌else◌}
use Rattle.pool_tables.specs.kinds.declared.change.Verb.{Verb}
use Rattle.pool_tables.specs.kinds.declared.change.Verb.TheVariants.{Define, Update, Delete}
use Rattle.pool_tables.specs.kinds.declared.pool.Access.{Access}
use Rattle.pool_tables.specs.kinds.declared.pool.PoolKind.{PoolKind}
use Rattle.pool_tables.specs.kinds.declared.pool.PoolRule.{PoolRule}
use Rattle.pool_tables.specs.kinds.declared.refusal.Refusal.{Refusal}
use Rattle.pool_tables.specs.kinds.declared.refusal.Refusal.TheVariants.{NotFound, Exists, BadHierarchy}
use Rattle.pool_tables.specs.volume_rows.declared.volume.Volume.{Volume}
use Rattle.pool_tables.specs.volume_rows.Holdings.{least_object}
use Rattle.pool_tables.specs.declared.pool.Pool.{Pool}
use Rattle.pool_tables.specs.Rows.{named, row_at, with_row, without_row, edit_row, number_where}
use Rattle.pool_rows.specs.PoolRows.{PoolRows, pool_named, volume_named}
use Rattle.pool_tables.specs.RowChanges.{with_access, with_settings}
use Rattle.pool_rows.specs.Users.{used_by_pool, used_by_volume, used_by_object}
use Rattle.pool_rows.specs.Hierarchy.{is_bad_hierarchy}

-- ---- storage pools

-- a next pool that is named is there
abbrev pub is_next_there : Option ℕ → PoolRows → Bool
is_next_there None s = true
is_next_there (Some next) s = is_some (row_at next s.pools)

abbrev pub new_pool : List ℕ → List ℕ → PoolKind → PoolRule → Pool
new_pool name class kind rule = record { name = name; class = class; kind = kind; settings = rule }

-- a pool comes with this number
abbrev pub define_pool : ℕ → List ℕ → List ℕ → PoolKind → PoolRule → PoolRows → Result PoolRows Refusal
define_pool number name class kind rule s =
    if is_some (named class s.classes) && is_next_there rule.next s then (
    if is_some (pool_named name s) then Err Exists else (
    if is_bad_hierarchy number class kind rule.next s then Err BadHierarchy else Ok (record s { pools = with_row number (new_pool name class kind rule) s.pools })
    )
    ) else Err NotFound

-- the pool with this number may not have this next pool
abbrev pub is_bad_row : ℕ → Option ℕ → PoolRows → Option Pool → Bool
is_bad_row number next s None = false
is_bad_row number next s (Some pool) = is_bad_hierarchy number pool.class pool.kind next s

abbrev pub update_numbered : PoolRule → PoolRows → Option ℕ → Result PoolRows Refusal
update_numbered rule s None = Err NotFound
update_numbered rule s (Some number) =
    if is_bad_row number rule.next s (row_at number s.pools) then Err BadHierarchy else Ok (record s { pools = edit_row number (with_settings rule) s.pools })

-- a pool's settings become these; its class and kind stay
abbrev pub update_pool : List ℕ → PoolRule → PoolRows → Result PoolRows Refusal
update_pool name rule s = if is_next_there rule.next s then update_numbered rule s (pool_named name s) else Err NotFound

-- the least volume of the pool
abbrev pub volume_of_pool : ℕ → PoolRows → Option ℕ
volume_of_pool pool s = number_where (λ v. v.pool == pool) s.volumes

abbrev pub is_pool : Option ℕ → ℕ → Bool
is_pool None pool = false
is_pool (Some next) pool = next == pool

-- the least pool of which the pool is the next one
abbrev pub pool_before : ℕ → PoolRows → Option ℕ
pool_before pool s = number_where (λ p. is_pool p.settings.next pool) s.pools

abbrev pub unless_before : ℕ → PoolRows → Option ℕ → Result PoolRows Refusal
unless_before number s None = Ok (record s { pools = without_row number s.pools })
unless_before number s (Some pool) = Err (used_by_pool pool)

abbrev pub unless_filled : ℕ → PoolRows → Option ℕ → Result PoolRows Refusal
unless_filled number s None = unless_before number s (pool_before number s)
unless_filled number s (Some file) = Err (used_by_volume file)

abbrev pub delete_numbered : PoolRows → Option ℕ → Result PoolRows Refusal
delete_numbered s None = Err NotFound
delete_numbered s (Some number) = unless_filled number s (volume_of_pool number s)

-- a pool that has no volumes, and is no pool's next one, goes
abbrev pub delete_pool : List ℕ → PoolRows → Result PoolRows Refusal
delete_pool name s = delete_numbered s (pool_named name s)

abbrev pub change_pool : Verb → ℕ → List ℕ → List ℕ → PoolKind → PoolRule → PoolRows → Result PoolRows Refusal
change_pool Define number name class kind rule s = define_pool number name class kind rule s
change_pool Update number name class kind rule s = update_pool name rule s
change_pool Delete number name class kind rule s = delete_pool name s

-- ---- volumes

abbrev pub new_volume : List ℕ → ℕ → ℕ → Access → Volume
new_volume name pool capacity access = record {
  name = name;
  pool = pool;
  scratch = false;
  capacity = capacity;
  access = access;
  end = 0;
  emptied = None;
  segments = [];
}

-- a volume comes with this file number
abbrev pub define_volume : List ℕ → ℕ → ℕ → ℕ → Access → PoolRows → Result PoolRows Refusal
define_volume name pool file capacity access s =
    if is_some (row_at pool s.pools) then (
    if is_some (volume_named name s) then Err Exists else Ok (record s { volumes = with_row file (new_volume name pool capacity access) s.volumes })
    ) else Err NotFound

abbrev pub update_filed : Access → PoolRows → Option ℕ → Result PoolRows Refusal
update_filed access s None = Err NotFound
update_filed access s (Some file) = Ok (record s { volumes = edit_row file (with_access access) s.volumes })

-- a volume's access becomes this
abbrev pub update_volume : List ℕ → Access → PoolRows → Result PoolRows Refusal
update_volume name access s = update_filed access s (volume_named name s)

abbrev pub object_on : Option Volume → Option ℕ
object_on None = None
object_on (Some v) = least_object v.segments

abbrev pub unless_held : ℕ → PoolRows → Option ℕ → Result PoolRows Refusal
unless_held file s None = Ok (record s { volumes = without_row file s.volumes })
unless_held file s (Some object) = Err (used_by_object object)

abbrev pub delete_filed : PoolRows → Option ℕ → Result PoolRows Refusal
delete_filed s None = Err NotFound
delete_filed s (Some file) = unless_held file s (object_on (row_at file s.volumes))

-- a volume without copies goes
abbrev pub delete_volume : List ℕ → PoolRows → Result PoolRows Refusal
delete_volume name s = delete_filed s (volume_named name s)

abbrev pub change_volume : Verb → List ℕ → ℕ → ℕ → ℕ → Access → PoolRows → Result PoolRows Refusal
change_volume Define name pool file capacity access s = define_volume name pool file capacity access s
change_volume Update name pool file capacity access s = update_volume name access s
change_volume Delete name pool file capacity access s = delete_volume name s
