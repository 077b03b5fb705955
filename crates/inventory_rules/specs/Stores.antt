-- Changes of the device classes, the storage pools and the volumes: why they are refused, what they make of the rows, what has to fit, how many items they bring, and what making
-- them asks.
use Rattle.std.specs.Option.{option_map_or, ForSome}
use Rattle.std.specs.Prelude.{Bool, not, if◌then◌else◌, ℕ, true, ◌&&◌, List, Option, Some, None, [], ◌^◌, ◌∷◌, ◌++◌, map, ◌+◌, ◌==◌, false, ⊤, ◌<◌, IsOk, IsTrue, ◌≡◌, ◌≤◌, Ok}
use Rattle.kinds.specs.Refusals.{unless, bad_value, refusal_of}
use Rattle.kinds.specs.declared.change.DefineOrDelete.TheVariants as two
use Rattle.kinds.specs.declared.change.PoolChange.{PoolChange}
use Rattle.kinds.specs.declared.change.PoolChange.TheVariants as store
use Rattle.kinds.specs.declared.change.Verb.TheVariants as verb
use Rattle.kinds.specs.declared.pool.Access.{Access}
use Rattle.kinds.specs.declared.pool.PoolKind.{PoolKind}
use Rattle.kinds.specs.declared.pool.PoolRule.{PoolRule}
use Rattle.kinds.specs.declared.refusal.By.TheVariants as by
use Rattle.kinds.specs.declared.refusal.Refusal.{Refusal}
use Rattle.kinds.specs.declared.refusal.Refusal.TheVariants as refusal
use Rattle.kinds.specs.Names.{is_same_name}
use Rattle.inventory_rows.specs.pool_tables.Rows.{row_at}
use Rattle.inventory_rows.specs.pool_tables.Scratch.{is_scratch_name}
use Rattle.inventory_rows.specs.pool_tables.declared.pool.Pool.{Pool}
use Rattle.inventory_rows.specs.pool_rows.Changed.{changed, is_free}
use Rattle.inventory_rows.specs.pool_rows.Changed as stores
use Rattle.inventory_rows.specs.pool_rows.PoolRows.{pool_named, volume_named, pool_capacity}
use Rattle.inventory_rows.specs.pool_rows.Segments.{may_reuse_at}
use Rattle.inventory_rows.specs.Delays.{lowered}
use Rattle.inventory_rows.specs.Search.{is_primary_kind, pool, is_destination, is_primary, holds_copy}
use Rattle.inventory_rows.specs.State.{Inv}
use Rattle.inventory_rows.specs.declared.backup.Backup.{Backup}
use Rattle.inventory_rules.specs.Common.{full_at, file_bound, files_refused, draw_file, or_same, with_stores}
use Rattle.inventory_rules.specs.Valid.{disk, may_have, is_format_size}

-- ---- refused

-- an update leaves a pool's class and kind as they are
abbrev pub is_same_kind : PoolKind → PoolKind → Bool
is_same_kind a b = if is_primary_kind a then is_primary_kind b else not (is_primary_kind b)

abbrev pub stays : List ℕ → PoolKind → Option Pool → Bool
stays class kind None = true
stays class kind (Some p) = is_same_name p.class class && is_same_kind p.kind kind

abbrev pub pool_by_name : List ℕ → Inv → Option Pool
pool_by_name name v = option_map_or (λ n. pool n v) (pool_named name v.stores) None

-- a pool that is a destination of a copy group stays
abbrev pub destination_used : List ℕ → Inv → List Refusal
destination_used name v = option_map_or (λ n. unless (not (is_destination n v)) (refusal.InUse by.Destination)) (pool_named name v.stores) []

-- the access that a volume gets is one that a volume of its pool may have
abbrev pub access_refused : Access → Option Pool → List Refusal
access_refused access None = []
access_refused access (Some p) = unless (may_have access (is_primary_kind p.kind)) bad_value

abbrev pub pool_of_volume : List ℕ → Inv → Option Pool
pool_of_volume name v = option_map_or (λ file. option_map_or (λ volume. pool volume.pool v) (row_at file v.stores.volumes) None) (volume_named name v.stores) None

-- a client's objects are kept together only on sequential volumes
abbrev pub collocation_refused : List ℕ → PoolRule → List Refusal
collocation_refused class rule = unless (not (rule.collocate && is_same_name disk class)) bad_value

abbrev pub store_bounds : PoolChange → Inv → List Refusal
store_bounds (store.DevClass v1 class capacity) v = []
store_bounds (store.Pool verb.Define name class kind rule) v = collocation_refused class rule ++ full_at v.next_pool (2 ^ 16)
store_bounds (store.Pool verb.Update name class kind rule) v = unless (stays class kind (pool_by_name name v)) bad_value ++ collocation_refused class rule
store_bounds (store.Pool verb.Delete name class kind rule) v = destination_used name v
store_bounds (store.Volume verb.Define name number file capacity access) v = files_refused (file ∷ []) v ++ file_bound file v
store_bounds (store.Volume verb.Update name number file capacity access) v = access_refused access (pool_of_volume name v)
store_bounds (store.Volume verb.Delete name number file capacity access) v = []

abbrev pub store_refused : PoolChange → Inv → List Refusal
store_refused c v = refusal_of (changed c v.next_pool v.stores) ++ store_bounds c v

-- ---- effect

-- each listed backup's least delay of the pool is lowered to this delay, where that is less
abbrev pub backups_lowered : Option ℕ → ℕ → List (ℕ × Backup) → List (ℕ × Backup)
backups_lowered None delay backups = backups
backups_lowered (Some pool) delay backups = map (λ b. (b.0, record b.1 { delays = lowered pool delay b.1.delays })) backups

abbrev pub drawn_for_store : PoolChange → Inv → Inv
drawn_for_store (store.DevClass v1 name capacity) v = v
drawn_for_store (store.Pool verb.Define name class kind rule) v = record v { next_pool = v.next_pool + 1 }
drawn_for_store (store.Pool verb.Update name class kind rule) v = record v { backups = backups_lowered (pool_named name v.stores) rule.reuse_delay v.backups }
drawn_for_store (store.Pool verb.Delete name class kind rule) v = v
drawn_for_store (store.Volume verb.Define name pool file capacity access) v = draw_file file v
drawn_for_store (store.Volume verb.Update name pool file capacity access) v = v
drawn_for_store (store.Volume verb.Delete name pool file capacity access) v = v

abbrev pub store_changed : PoolChange → Inv → Inv
store_changed c v = drawn_for_store c (with_stores (or_same v.stores (stores.changed c v.next_pool v.stores)) v)

-- ---- fits

-- a sequential volume has the capacity of its class, and one of random access is formatted in MiB
abbrev pub capacity_fits : Option ℕ → ℕ → Bool
capacity_fits (Some class) capacity = capacity == class
capacity_fits None capacity = is_format_size capacity

-- a volume that is defined has no scratch volume's name, and a capacity and an access that its pool's volumes may have
abbrev pub volume_fits : List ℕ → ℕ → ℕ → Access → Inv → Bool
volume_fits name number capacity access v =
    not (is_scratch_name name) && (capacity_fits (pool_capacity number v.stores) capacity && may_have access (is_primary number v))

-- a pool that goes holds no copy, not of an empty object either
abbrev pub store_fits : PoolChange → Inv → Bool
store_fits (store.DevClass v1 class capacity) v = true
store_fits (store.Pool verb.Define name class kind rule) v = true
store_fits (store.Pool verb.Update name class kind rule) v = true
store_fits (store.Pool verb.Delete name class kind rule) v = option_map_or (λ n. not (holds_copy n v)) (pool_named name v.stores) true
store_fits (store.Volume verb.Define name number file capacity access) v = volume_fits name number capacity access v
store_fits (store.Volume verb.Update name number file capacity access) v = true
store_fits (store.Volume verb.Delete name number file capacity access) v = true

-- ---- items

abbrev pub is_new_store : PoolChange → Bool
is_new_store (store.DevClass two.Define class capacity) = true
is_new_store (store.DevClass two.Delete class capacity) = false
is_new_store (store.Pool verb.Define name class kind rule) = true
is_new_store (store.Pool verb.Update name class kind rule) = false
is_new_store (store.Pool verb.Delete name class kind rule) = false
is_new_store (store.Volume verb.Define name pool file capacity access) = true
is_new_store (store.Volume verb.Update name pool file capacity access) = false
is_new_store (store.Volume verb.Delete name pool file capacity access) = false

-- ---- made

-- the number behind one that is drawn for a pool or a volume has a place in four bytes
abbrev pub HasNextStore : PoolChange → Inv → Type 0
HasNextStore (store.DevClass v1 name capacity) v = ⊤
HasNextStore (store.Pool verb.Define name class kind rule) v = v.next_pool + 1 < 2 ^ 32
HasNextStore (store.Pool verb.Update name class kind rule) v = ⊤
HasNextStore (store.Pool verb.Delete name class kind rule) v = ⊤
HasNextStore (store.Volume verb.Define name pool file capacity access) v = file + 1 < 2 ^ 32
HasNextStore (store.Volume verb.Update name pool file capacity access) v = ⊤
HasNextStore (store.Volume verb.Delete name pool file capacity access) v = ⊤

-- a change of the device classes, pools and volumes isn't refused, and its numbers are free
pub record CanStores (c : PoolChange) (v : Inv) : Type 0 where
  pub free : IsTrue (is_free c v.next_pool v.stores)
  pub made : IsOk (changed c v.next_pool v.stores)
  pub next : HasNextStore c v

-- a volume may be reused today; where it has a day of emptying, that is past
pub record CanReuse (file : ℕ) (v : Inv) : Type 0 where
  pub emptied : ForSome (row_at file v.stores.volumes) (λ f. ForSome f.emptied (λ day. day ≤ v.today))
  pub made : may_reuse_at file v.today v.stores ≡ Ok tt
