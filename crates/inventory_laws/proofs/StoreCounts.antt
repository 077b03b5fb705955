-- How many items the device classes, pools and volumes are after a change of them.
use Rattle.std.proofs.Common.{◌≡◌, ℕ, ◌+◌, ◌≤◌, Bool, true, false, cond, ◌&&◌, is_some, List, [], ◌∷◌, ◌++◌, length, map, Option, Some, None, Result, Ok, Err, refl, arith}
use Rattle.std.specs.Prelude.{◌==◌, min}
use Rattle.std.specs.BTreeMap.{insert_entry, is_at}
use Rattle.std.specs.Cmp.Lexicographic.{slice_cmp}
use Rattle.std.specs.Map.{remove_entry}
use Rattle.std.specs.Ordering.{nat_cmp}
use Rattle.kinds.specs.declared.change.DefineOrDelete.TheVariants as two
use Rattle.kinds.specs.declared.change.PoolChange.{PoolChange}
use Rattle.kinds.specs.declared.change.PoolChange.TheVariants as store
use Rattle.kinds.specs.declared.change.Verb.TheVariants as verb
use Rattle.kinds.specs.declared.pool.Access.{Access}
use Rattle.kinds.specs.declared.pool.PoolKind.{PoolKind}
use Rattle.kinds.specs.declared.pool.PoolRule.{PoolRule}
use Rattle.kinds.specs.declared.refusal.Refusal.{Refusal}
use Rattle.kinds.specs.declared.refusal.Refusal.TheVariants.{BadHierarchy, Exists, NotFound}
use Rattle.inventory_rules.specs.entries.declared.change.Change.TheVariants as change
use Rattle.inventory_rules.specs.inventory_rows.volume_rows.declared.volume.Volume.{Volume}
use Rattle.inventory_rules.specs.inventory_rows.volume_rows.Volumes.{reset}
use Rattle.inventory_rules.specs.inventory_rows.pool_tables.declared.pool.Pool.{Pool}
use Rattle.inventory_rules.specs.inventory_rows.pool_tables.RowChanges.{is_scratch_row, reuse_volume, with_access, with_settings}
use Rattle.inventory_rules.specs.inventory_rows.pool_tables.Rows.{edit_row, edited, named, row_at, with_row, without_row}
use Rattle.inventory_rules.specs.inventory_rows.pool_rows.Changed.{changed}
use Rattle.inventory_rules.specs.inventory_rows.pool_rows.Changes.{define_pool, define_volume, delete_filed, delete_numbered, delete_pool, delete_volume, is_bad_row, is_next_there, new_pool, new_volume, object_on, pool_before, unless_before, unless_filled, unless_held, update_filed, update_numbered, update_pool, update_volume, volume_of_pool}
use Rattle.inventory_rules.specs.inventory_rows.pool_rows.ClassChanges.{class_gone, define_class, delete_class, pool_of_class}
use Rattle.inventory_rules.specs.inventory_rows.pool_rows.Hierarchy.{is_bad_hierarchy}
use Rattle.inventory_rules.specs.inventory_rows.pool_rows.PoolRows.{PoolRows, class_capacity, pool_named, volume_named}
use Rattle.inventory_rules.specs.inventory_rows.Delays.{lowered}
use Rattle.inventory_rules.specs.inventory_rows.declared.backup.Backup.{Backup}
use Rattle.inventory_rules.specs.inventory_rows.Items.{count_items}
use Rattle.inventory_rules.specs.inventory_rows.State.{Inv}
use Rattle.inventory_rules.specs.Common.{or_same, file_bound, files_refused, one_if}
use Rattle.inventory_rules.specs.Stores.{backups_lowered, store_bounds, store_refused, is_new_store}
use Rattle.inventory_rules.specs.Transactions.{effect}
use Rattle.kinds.specs.Refusals.{refusal_of}
use Rattle.inventory_rules.specs.Facts.{Facts}
use Rattle.inventory_laws.proofs.Absent.{free_volume, one_free, undrawn}
use Rattle.inventory_laws.proofs.CountedParts.{in_backups, in_clients, in_domains, in_stores, nothing_first, nothing_then, third_less, third_more}
use Rattle.inventory_laws.proofs.Weights.{length-inserted, length-removed, length-set, rows-map}

-- ---- one of three numbers changes

class_more : (w c p f : ℕ) → w ≡ 1 + c → w + (p + f) + 0 ≡ c + (p + f) + 1
class_more w c p f h = omega (arith, h)

pool_more : (c w p f : ℕ) → w ≡ 1 + p → c + (w + f) + 0 ≡ c + (p + f) + 1
pool_more c w p f h = omega (arith, h)

volume_more : (c p w f : ℕ) → w ≡ 1 + f → c + (p + w) + 0 ≡ c + (p + f) + 1
volume_more c p w f h = omega (arith, h)

class_less : (w c p f : ℕ) → w ≤ c → w + (p + f) ≤ c + (p + f)
class_less w c p f h = omega (arith, h)

pool_less : (c w p f : ℕ) → w ≤ p → c + (w + f) ≤ c + (p + f)
pool_less c w p f h = omega (arith, h)

volume_less : (c p w f : ℕ) → w ≤ f → c + (p + w) ≤ c + (p + f)
volume_less c p w f h = omega (arith, h)

same_less : (w k : ℕ) → w ≡ k → w ≤ k
same_less w k h = omega (arith, h)

pub length-edited : {V : Type 0} (number : ℕ) (edit : V → V) (es : List (ℕ × V)) → length (edit_row number edit es) ≡ length es
length-edited {V} number edit es = go (row_at number es) where
  go : (o : Option V) → length (edited number edit es o) ≡ length es
  go None = refl
  go (Some x) = length-set (is_at (nat_cmp number)) es (edit x)

-- ---- device classes

class_defined : (class : List ℕ) (capacity : ℕ) (s : PoolRows) → refusal_of (define_class class capacity s) ≡ [] → in_stores (or_same s (define_class class capacity s)) + 0 ≡ in_stores s + 1
class_defined class capacity s h = go (named class s.classes) refl h where
  go : (o : Option (Option ℕ)) → named class s.classes ≡ o → refusal_of (cond {A = Result PoolRows Refusal} (is_some o) (Err Exists) (Ok (record s { classes = insert_entry (slice_cmp nat_cmp) s.classes class (Some capacity) }))) ≡ []
      → in_stores (or_same s (cond {A = Result PoolRows Refusal} (is_some o) (Err Exists) (Ok (record s { classes = insert_entry (slice_cmp nat_cmp) s.classes class (Some capacity) })))) + 0 ≡ in_stores s + 1
  go (Some x) e k = absurd cc
  go None e k =
      class_more (length (insert_entry (slice_cmp nat_cmp) s.classes class (Some capacity))) (length s.classes) (length s.pools) (length s.volumes)
      (length-inserted (slice_cmp nat_cmp) s.classes class (Some capacity) e)

class_deleted : (class : List ℕ) (s : PoolRows) → in_stores (or_same s (delete_class class s)) ≤ in_stores s
class_deleted class s = there (is_some (class_capacity class s)) where
  go : (o : Option ℕ) → in_stores (or_same s (class_gone class s o)) ≤ in_stores s
  go None = class_less (length (remove_entry (is_at (slice_cmp nat_cmp class)) s.classes)) (length s.classes) (length s.pools) (length s.volumes) (length-removed (is_at (slice_cmp nat_cmp class)) s.classes)
  go (Some p) = omega arith

  there : (b : Bool) → in_stores (or_same s (cond {A = Result PoolRows Refusal} b (class_gone class s (pool_of_class class s)) (Err NotFound))) ≤ in_stores s
  there true = go (pool_of_class class s)
  there false = omega arith

-- ---- pools

abbrev pools_with : ℕ → Pool → PoolRows → Result PoolRows Refusal
pools_with number p s = Ok (record s { pools = with_row number p s.pools })

pool_defined : (number : ℕ) (name class : List ℕ) (kind : PoolKind) (rule : PoolRule) (s : PoolRows) → row_at number s.pools ≡ None → refusal_of (define_pool number name class kind rule s) ≡ []
    → in_stores (or_same s (define_pool number name class kind rule s)) + 0 ≡ in_stores s + 1
pool_defined number name class kind rule s absent h =
    go (is_some (named class s.classes) && is_next_there rule.next s) (is_some (pool_named name s)) (is_bad_hierarchy number class kind rule.next s) h where
      go : (a b d : Bool) → refusal_of (cond {A = Result PoolRows Refusal} a (cond {A = Result PoolRows Refusal} b (Err Exists) (cond {A = Result PoolRows Refusal} d (Err BadHierarchy) (pools_with number (new_pool name class kind rule) s))) (Err NotFound)) ≡ []
          → in_stores (or_same s (cond {A = Result PoolRows Refusal} a (cond {A = Result PoolRows Refusal} b (Err Exists) (cond {A = Result PoolRows Refusal} d (Err BadHierarchy) (pools_with number (new_pool name class kind rule) s))) (Err NotFound))) + 0 ≡ in_stores s + 1
      go false b d k = absurd cc
      go true true d k = absurd cc
      go true false true k = absurd cc
      go true false false k =
          pool_more (length s.classes) (length (with_row number (new_pool name class kind rule) s.pools)) (length s.pools) (length s.volumes) (length-inserted nat_cmp s.pools number (new_pool name class kind rule) absent)

pool_updated : (name : List ℕ) (rule : PoolRule) (s : PoolRows) → in_stores (or_same s (update_pool name rule s)) ≤ in_stores s
pool_updated name rule s = there (is_next_there rule.next s) where
  go : (number : ℕ) (b : Bool) → in_stores (or_same s (cond {A = Result PoolRows Refusal} b (Err BadHierarchy) (Ok (record s { pools = edit_row number (with_settings rule) s.pools })))) ≤ in_stores s
  go number true = omega arith
  go number false =
      pool_less (length s.classes) (length (edit_row number (with_settings rule) s.pools)) (length s.pools) (length s.volumes)
      (same_less (length (edit_row number (with_settings rule) s.pools)) (length s.pools) (length-edited number (with_settings rule) s.pools))

  numbered : (o : Option ℕ) → in_stores (or_same s (update_numbered rule s o)) ≤ in_stores s
  numbered None = omega arith
  numbered (Some number) = go number (is_bad_row number rule.next s (row_at number s.pools))

  there : (b : Bool) → in_stores (or_same s (cond {A = Result PoolRows Refusal} b (update_numbered rule s (pool_named name s)) (Err NotFound))) ≤ in_stores s
  there true = numbered (pool_named name s)
  there false = omega arith

pool_deleted : (name : List ℕ) (s : PoolRows) → in_stores (or_same s (delete_pool name s)) ≤ in_stores s
pool_deleted name s = numbered (pool_named name s) where
  before : (number : ℕ) (o : Option ℕ) → in_stores (or_same s (unless_before number s o)) ≤ in_stores s
  before number None = pool_less (length s.classes) (length (without_row number s.pools)) (length s.pools) (length s.volumes) (length-removed (is_at (nat_cmp number)) s.pools)
  before number (Some p) = omega arith

  filled : (number : ℕ) (o : Option ℕ) → in_stores (or_same s (unless_filled number s o)) ≤ in_stores s
  filled number None = before number (pool_before number s)
  filled number (Some f) = omega arith

  numbered : (o : Option ℕ) → in_stores (or_same s (delete_numbered s o)) ≤ in_stores s
  numbered None = omega arith
  numbered (Some number) = filled number (volume_of_pool number s)

-- ---- volumes

volume_defined : (name : List ℕ) (pool file capacity : ℕ) (access : Access) (s : PoolRows) → row_at file s.volumes ≡ None → refusal_of (define_volume name pool file capacity access s) ≡ []
    → in_stores (or_same s (define_volume name pool file capacity access s)) + 0 ≡ in_stores s + 1
volume_defined name pool file capacity access s absent h = go (is_some (row_at pool s.pools)) (is_some (volume_named name s)) h where
  go : (a b : Bool) → refusal_of (cond {A = Result PoolRows Refusal} a (cond {A = Result PoolRows Refusal} b (Err Exists) (Ok (record s { volumes = with_row file (new_volume name pool capacity access) s.volumes }))) (Err NotFound)) ≡ []
      → in_stores (or_same s (cond {A = Result PoolRows Refusal} a (cond {A = Result PoolRows Refusal} b (Err Exists) (Ok (record s { volumes = with_row file (new_volume name pool capacity access) s.volumes }))) (Err NotFound))) + 0 ≡ in_stores s + 1
  go false b k = absurd cc
  go true true k = absurd cc
  go true false k =
      volume_more (length s.classes) (length s.pools) (length (with_row file (new_volume name pool capacity access) s.volumes)) (length s.volumes) (length-inserted nat_cmp s.volumes file (new_volume name pool capacity access) absent)

volume_updated : (name : List ℕ) (access : Access) (s : PoolRows) → in_stores (or_same s (update_volume name access s)) ≤ in_stores s
volume_updated name access s = go (volume_named name s) where
  go : (o : Option ℕ) → in_stores (or_same s (update_filed access s o)) ≤ in_stores s
  go None = omega arith
  go (Some file) =
      volume_less (length s.classes) (length s.pools) (length (edit_row file (with_access access) s.volumes)) (length s.volumes)
      (same_less (length (edit_row file (with_access access) s.volumes)) (length s.volumes) (length-edited file (with_access access) s.volumes))

volume_deleted : (name : List ℕ) (s : PoolRows) → in_stores (or_same s (delete_volume name s)) ≤ in_stores s
volume_deleted name s = filed (volume_named name s) where
  held : (file : ℕ) (o : Option ℕ) → in_stores (or_same s (unless_held file s o)) ≤ in_stores s
  held file None = volume_less (length s.classes) (length s.pools) (length (without_row file s.volumes)) (length s.volumes) (length-removed (is_at (nat_cmp file)) s.volumes)
  held file (Some object) = omega arith

  filed : (o : Option ℕ) → in_stores (or_same s (delete_filed s o)) ≤ in_stores s
  filed None = omega arith
  filed (Some file) = held file (object_on (row_at file s.volumes))

-- ---- a change of them

pub stores_more : (c : PoolChange) (v : Inv) → Facts v → store_refused c v ≡ [] → is_new_store c ≡ true → in_stores (or_same v.stores (changed c v.next_pool v.stores)) + 0 ≡ in_stores v.stores + 1
stores_more (store.DevClass two.Define class capacity) v f h n =
    class_defined class capacity v.stores (nothing_first (refusal_of (changed (store.DevClass two.Define class capacity) v.next_pool v.stores)) (store_bounds (store.DevClass two.Define class capacity) v) h)
stores_more (store.DevClass two.Delete class capacity) v f h n = absurd cc
stores_more (store.Pool verb.Define name class kind rule) v f h n =
    pool_defined v.next_pool name class kind rule v.stores (undrawn 1 v.next_pool v.stores.pools f.pools_drawn)
    (nothing_first (refusal_of (changed (store.Pool verb.Define name class kind rule) v.next_pool v.stores)) (store_bounds (store.Pool verb.Define name class kind rule) v) h)
stores_more (store.Pool verb.Update name class kind rule) v f h n = absurd cc
stores_more (store.Pool verb.Delete name class kind rule) v f h n = absurd cc
stores_more (store.Volume verb.Define name pool file capacity access) v f h n =
    let bounds : (files_refused (file ∷ []) v ++ file_bound file v) ≡ [] = nothing_then (refusal_of (changed (store.Volume verb.Define name pool file capacity access) v.next_pool v.stores)) (store_bounds (store.Volume verb.Define name pool file capacity access) v) h in
    volume_defined name pool file capacity access v.stores (free_volume file v (one_free file v (nothing_first (files_refused (file ∷ []) v) (file_bound file v) bounds)))
    (nothing_first (refusal_of (changed (store.Volume verb.Define name pool file capacity access) v.next_pool v.stores)) (store_bounds (store.Volume verb.Define name pool file capacity access) v) h)
stores_more (store.Volume verb.Update name pool file capacity access) v f h n = absurd cc
stores_more (store.Volume verb.Delete name pool file capacity access) v f h n = absurd cc

more_stores : (c : PoolChange) (v : Inv) → Facts v → store_refused c v ≡ [] → is_new_store c ≡ true
    → in_domains v.domains + in_clients v.clients + in_stores (or_same v.stores (changed c v.next_pool v.stores)) + in_backups v.backups + 0 ≡ count_items v + 1
more_stores c v f h n =
    third_more (in_domains v.domains) (in_clients v.clients) (in_stores v.stores) (in_stores (or_same v.stores (changed c v.next_pool v.stores))) (in_backups v.backups) 0 1 (stores_more c v f h n)

pub stores_counted : (c : PoolChange) (v : Inv) → Facts v → store_refused c v ≡ [] → is_new_store c ≡ true → count_items (effect (change.Pool c) v) + 0 ≡ count_items v + one_if (is_new_store c)
unfolding effect
stores_counted (store.DevClass two.Define class capacity) v f h n = more_stores (store.DevClass two.Define class capacity) v f h n
stores_counted (store.DevClass two.Delete class capacity) v f h n = absurd cc
stores_counted (store.Pool verb.Define name class kind rule) v f h n = more_stores (store.Pool verb.Define name class kind rule) v f h n
stores_counted (store.Pool verb.Update name class kind rule) v f h n = absurd cc
stores_counted (store.Pool verb.Delete name class kind rule) v f h n = absurd cc
stores_counted (store.Volume verb.Define name pool file capacity access) v f h n = more_stores (store.Volume verb.Define name pool file capacity access) v f h n
stores_counted (store.Volume verb.Update name pool file capacity access) v f h n = absurd cc
stores_counted (store.Volume verb.Delete name pool file capacity access) v f h n = absurd cc

-- ---- delays that are lowered

length-map : {X Y : Type 0} (f : X → Y) (xs : List X) → length (map f xs) ≡ length xs
length-map f [] = refl
length-map f (x ∷ xs) = let more : length (map f xs) ≡ length xs = length-map f xs in omega (arith, more)

lowered_same : (o : Option ℕ) (delay : ℕ) (backups : List (ℕ × Backup)) → in_backups (backups_lowered o delay backups) ≡ in_backups backups
lowered_same None delay backups = refl
lowered_same (Some pool) delay backups =
    rows-map (λ (b : Backup). length b.delays) (λ (b : Backup). record b { delays = lowered pool delay b.delays }) (λ b. length-map (λ (d : ℕ × ℕ). cond (d.0 == pool) (d.0, min d.1 delay) d) b.delays) backups

less_twice : (d c s b w u : ℕ) → w ≤ s → u ≡ b → d + c + w + u ≤ d + c + s + b
less_twice d c s b w u h e = omega (arith, h, e)

less_stores : (c : PoolChange) (v : Inv) → in_stores (or_same v.stores (changed c v.next_pool v.stores)) ≤ in_stores v.stores → in_domains v.domains + in_clients v.clients + in_stores (or_same v.stores (changed c v.next_pool v.stores)) + in_backups v.backups ≤ count_items v
less_stores c v h = third_less (in_domains v.domains) (in_clients v.clients) (in_stores v.stores) (in_stores (or_same v.stores (changed c v.next_pool v.stores))) (in_backups v.backups) h

pub stores_take : (c : PoolChange) (v : Inv) → is_new_store c ≡ false → count_items (effect (change.Pool c) v) ≤ count_items v
unfolding effect
stores_take (store.DevClass two.Define class capacity) v n = absurd cc
stores_take (store.DevClass two.Delete class capacity) v n = less_stores (store.DevClass two.Delete class capacity) v (class_deleted class v.stores)
stores_take (store.Pool verb.Define name class kind rule) v n = absurd cc
stores_take (store.Pool verb.Update name class kind rule) v n =
    less_twice (in_domains v.domains) (in_clients v.clients) (in_stores v.stores) (in_backups v.backups) (in_stores (or_same v.stores (update_pool name rule v.stores))) (in_backups (backups_lowered (pool_named name (or_same v.stores (update_pool name rule v.stores))) rule.reuse_delay v.backups))
    (pool_updated name rule v.stores) (lowered_same (pool_named name (or_same v.stores (update_pool name rule v.stores))) rule.reuse_delay v.backups)
stores_take (store.Pool verb.Delete name class kind rule) v n = less_stores (store.Pool verb.Delete name class kind rule) v (pool_deleted name v.stores)
stores_take (store.Volume verb.Define name pool file capacity access) v n = absurd cc
stores_take (store.Volume verb.Update name pool file capacity access) v n = less_stores (store.Volume verb.Update name pool file capacity access) v (volume_updated name access v.stores)
stores_take (store.Volume verb.Delete name pool file capacity access) v n = less_stores (store.Volume verb.Delete name pool file capacity access) v (volume_deleted name v.stores)

-- ---- a volume is reused

reused_less : (file : ℕ) (volumes : List (ℕ × Volume)) → length (reuse_volume file volumes) ≤ length volumes
reused_less file volumes = go (is_scratch_row (row_at file volumes)) where
  go : (b : Bool) → length (cond b (without_row file volumes) (edit_row file reset volumes)) ≤ length volumes
  go true = length-removed (is_at (nat_cmp file)) volumes
  go false = same_less (length (edit_row file reset volumes)) (length volumes) (length-edited file reset volumes)

pub reuse_takes : (file : ℕ) (v : Inv) → count_items (effect (change.Reuse file) v) ≤ count_items v
unfolding effect
reuse_takes file v =
    third_less (in_domains v.domains) (in_clients v.clients) (in_stores v.stores) (length v.stores.classes + (length v.stores.pools + length (reuse_volume file v.stores.volumes))) (in_backups v.backups)
    (volume_less (length v.stores.classes) (length v.stores.pools) (length (reuse_volume file v.stores.volumes)) (length v.stores.volumes) (reused_less file v.stores.volumes))
