-- Whether a pool is there and sequential, over a transaction that doesn't delete it.
use Rattle.std.proofs.Common.{◌≡◌, ℕ, true, false, ◌&&◌, List, Option, None, Some, Ok, Err, IfOk, is_some, refl, sym, ap, ◌∙◌}
use Rattle.std.specs.BTreeMap.{insert_entry, is_at}
use Rattle.std.specs.Cmp.Lexicographic.{slice_cmp}
use Rattle.std.specs.Map.{remove_entry}
use Rattle.std.specs.Option.{option_map_or}
use Rattle.std.specs.Ordering.{nat_cmp}
use Rattle.kinds.specs.declared.change.DefineOrDelete.{DefineOrDelete}
use Rattle.kinds.specs.declared.change.DefineOrDelete.TheVariants as two
use Rattle.kinds.specs.declared.change.ObjectChange.{ObjectChange}
use Rattle.kinds.specs.declared.change.ObjectChange.TheVariants as client
use Rattle.kinds.specs.declared.change.PoolChange.{PoolChange}
use Rattle.kinds.specs.declared.change.PoolChange.TheVariants as store
use Rattle.kinds.specs.declared.change.Verb.{Verb}
use Rattle.kinds.specs.declared.change.Verb.TheVariants as verb
use Rattle.kinds.specs.declared.pool.Access.{Access}
use Rattle.kinds.specs.declared.pool.PoolKind.{PoolKind}
use Rattle.kinds.specs.declared.pool.PoolRule.{PoolRule}
use Rattle.kinds.specs.declared.refusal.Refusal.TheVariants as refusal
use Rattle.entries.specs.declared.change.Change.{Change}
use Rattle.entries.specs.declared.change.Change.TheVariants as change
use Rattle.inventory_rows.specs.volume_rows.declared.volume.Volume.{Volume}
use Rattle.inventory_rows.specs.pool_tables.declared.pool.Pool.{Pool}
use Rattle.inventory_rows.specs.pool_tables.RowChanges.{with_access, with_settings}
use Rattle.inventory_rows.specs.pool_tables.Rows.{edit_row, edited, named, row_at, set_row, with_row, without_row}
use Rattle.inventory_rows.specs.pool_rows.Changed as stores
use Rattle.inventory_rows.specs.pool_rows.Changes.{change_pool, change_volume, delete_filed, delete_numbered, is_bad_row, is_next_there, new_pool, new_volume, object_on, pool_before, unless_before, unless_filled, unless_held, update_filed, update_numbered, volume_of_pool}
use Rattle.inventory_rows.specs.pool_rows.ClassChanges.{change_class, class_gone, pool_of_class}
use Rattle.inventory_rows.specs.pool_rows.Hierarchy.{is_bad_hierarchy}
use Rattle.inventory_rows.specs.pool_rows.PoolRows.{PoolRows, capacity_there, class_capacity, pool_class_capacity, pool_named, volume_named}
use Rattle.inventory_rows.specs.Search.{is_primary_kind}
use Rattle.inventory_rows.specs.State.{Inv}
use Rattle.inventory_rules.specs.Clients.{client_changed}
use Rattle.inventory_rules.specs.Facts.{Facts}
use Rattle.inventory_rules.specs.Stores.{store_changed}
use Rattle.inventory_rules.specs.Transactions.{OnlyData, effect}
use Rattle.inventory_rules.proofs.Touched.{effect-data}
use Rattle.inventory_rows.proofs.of_pool_tables.Counting.{apart_at, at_is}
use Rattle.inventory_laws.proofs.Classes.{alike, defined_stays, deleted_stays}
use Rattle.inventory_laws.proofs.Gone.{lookup-beside_removed}
use Rattle.inventory_laws.proofs.Pools.{alike_row, undrawn}
use Rattle.inventory_laws.proofs.Said.{if_either, kept_or}
use Rattle.inventory_laws.proofs.Stored.{Alike, same_capacity}
use Rattle.inventory_laws.proofs.StoreRows.{found_apart, other_row, row_came, seen_same}

-- the change doesn't delete the pool with this number
abbrev pub KeepsPool : ℕ → Change → Inv → Type 0
KeepsPool n (change.Pool (store.Pool verb.Delete name class kind rule)) v = (k : ℕ) → pool_named name v.stores ≡ Some k → k ≡ n → ⊥
KeepsPool n _ v = Unit {0}

capacity_same : (s t : PoolRows) → t.classes ≡ s.classes → (o : Option Pool) → pool_class_capacity t o ≡ pool_class_capacity s o
capacity_same s t same None = refl
capacity_same s t same (Some p) = ap (λ (c : List (List ℕ × Option ℕ)). capacity_there (named p.class c)) same

-- where classes and pools are the same
pub alike_pools : (n : ℕ) (s t : PoolRows) → t.classes ≡ s.classes → t.pools ≡ s.pools → Alike s t n
alike_pools n s t classes pools = record {
  there = ap (λ (rows : List (ℕ × Pool)). is_some (row_at n rows)) pools;
  primary = ap (λ (rows : List (ℕ × Pool)). option_map_or (λ (p : Pool). is_primary_kind p.kind) (row_at n rows) false) pools;
  capacity = capacity_same s t classes (row_at n t.pools) ∙ ap (λ (rows : List (ℕ × Pool)). pool_class_capacity s (row_at n rows)) pools;
}

module _ (v : Inv) (f : Facts v) (n : ℕ) (there : is_some (row_at n v.stores.pools) ≡ true) where
  abbrev As : PoolRows → Type 0
  As t = Alike v.stores t n

  itself : As v.stores
  itself = alike_pools n v.stores v.stores refl refl

  none_of : {A : Type 0} (o : Option A) → is_some o ≡ false → o ≡ None
  none_of None h = refl
  none_of (Some x) h = absurd cc

  some_capacity : (o : Option (Option ℕ)) → is_some (capacity_there o) ≡ true → (x : Option ℕ) × (o ≡ Some x)
  some_capacity None h = absurd cc
  some_capacity (Some x) h = (x, refl)

  classes_same : (what : DefineOrDelete) (class : List ℕ) (capacity : ℕ) → IfOk (change_class what class capacity v.stores) As
  classes_same two.Define class capacity =
      if_either As (is_some (named class v.stores.classes)) (Err refusal.Exists) (Ok (record v.stores { classes = insert_entry (slice_cmp nat_cmp) v.stores.classes class (Some capacity) }))
      (λ is. tt)
      (λ isnt. alike v (insert_entry (slice_cmp nat_cmp) v.stores.classes class (Some capacity))
      (defined_stays v class (Some capacity) f (none_of (named class v.stores.classes) isnt)) n)
  classes_same two.Delete class capacity =
      if_either As (is_some (class_capacity class v.stores)) (class_gone class v.stores (pool_of_class class v.stores)) (Err refusal.NotFound)
      (λ is. gone (some_capacity (named class v.stores.classes) is) (pool_of_class class v.stores) refl) (λ isnt. tt)
    where
      gone : (x : Option ℕ) × (named class v.stores.classes ≡ Some x) → (o : Option ℕ) → pool_of_class class v.stores ≡ o → IfOk (class_gone class v.stores o) As
      gone x None unused = alike v (remove_entry (is_at (slice_cmp nat_cmp class)) v.stores.classes) (deleted_stays v class x.0 x.1 unused) n
      gone x (Some p) used = tt

  defined : (name class : List ℕ) (kind : PoolKind) (rule : PoolRule) → IfOk (change_pool verb.Define v.next_pool name class kind rule v.stores) As
  defined name class kind rule =
      let k = v.next_pool in
      let x = new_pool name class kind rule in
      let absent : row_at k v.stores.pools ≡ None = undrawn 1 k v.stores.pools f.pools_drawn in
      if_either As (is_some (named class v.stores.classes) && is_next_there rule.next v.stores) _ (Err refusal.NotFound) (λ is.
      if_either As (is_some (pool_named name v.stores)) (Err refusal.Exists) _ (λ used. tt) (λ free.
      if_either As (is_bad_hierarchy k class kind rule.next v.stores) (Err refusal.BadHierarchy) (Ok (record v.stores { pools = with_row k x v.stores.pools })) (λ bad. tt) (λ good.
      alike_row v (with_row k x v.stores.pools) n
      (other_row k n x (with_row k x v.stores.pools) v.stores.pools (row_came k x v.stores.pools absent) (found_apart k n v.stores.pools absent there))))) (λ isnt. tt)

  updated : (name class : List ℕ) (kind : PoolKind) (rule : PoolRule) → IfOk (change_pool verb.Update v.next_pool name class kind rule v.stores) As
  updated name class kind rule =
      if_either As (is_next_there rule.next v.stores) (update_numbered rule v.stores (pool_named name v.stores)) (Err refusal.NotFound) (λ is. numbered (pool_named name v.stores)) (λ isnt. tt)
    where
      set : (k : ℕ) (o : Option Pool) → row_at k v.stores.pools ≡ o → As (record v.stores { pools = edited k (with_settings rule) v.stores.pools o })
      set k None at = itself
      set k (Some x) at =
          let rows = set_row k (with_settings rule x) v.stores.pools in
          record {
            there = seen_same is_some k n x (with_settings rule x) v.stores.pools at refl;
            primary = seen_same (λ (o : Option Pool). option_map_or (λ (p : Pool). is_primary_kind p.kind) o false) k n x (with_settings rule x) v.stores.pools at refl;
            capacity = same_capacity v rows (row_at n rows) ∙ seen_same (pool_class_capacity v.stores) k n x (with_settings rule x) v.stores.pools at refl;
          }

      numbered : (o : Option ℕ) → IfOk (update_numbered rule v.stores o) As
      numbered None = tt
      numbered (Some k) = if_either As (is_bad_row k rule.next v.stores (row_at k v.stores.pools)) (Err refusal.BadHierarchy)
          (Ok (record v.stores { pools = edit_row k (with_settings rule) v.stores.pools })) (λ bad. tt) (λ good. set k (row_at k v.stores.pools) refl)

  beside : (k : ℕ) → (k ≡ n → ⊥) → (q : ℕ) → is_at (nat_cmp k) q ≡ true → is_at (nat_cmp n) q ≡ false
  beside k ne q here = apart_at n q (λ e. ne (at_is k q here ∙ sym e))

  deleted : (name class : List ℕ) (kind : PoolKind) (rule : PoolRule) → ((k : ℕ) → pool_named name v.stores ≡ Some k → k ≡ n → ⊥)
      → IfOk (change_pool verb.Delete v.next_pool name class kind rule v.stores) As
  deleted name class kind rule other = numbered (pool_named name v.stores) refl where
    before : (k : ℕ) (o : Option ℕ) → (k ≡ n → ⊥) → IfOk (unless_before k v.stores o) As
    before k None ne = alike_row v (without_row k v.stores.pools) n (lookup-beside_removed (is_at (nat_cmp k)) (is_at (nat_cmp n)) (beside k ne) v.stores.pools)
    before k (Some p) ne = tt

    filled : (k : ℕ) (o : Option ℕ) → (k ≡ n → ⊥) → IfOk (unless_filled k v.stores o) As
    filled k None ne = before k (pool_before k v.stores) ne
    filled k (Some p) ne = tt

    numbered : (o : Option ℕ) → pool_named name v.stores ≡ o → IfOk (delete_numbered v.stores o) As
    numbered None is = tt
    numbered (Some k) is = filled k (volume_of_pool k v.stores) (other k is)

  volumes_same : (rows : List (ℕ × Volume)) → As (record v.stores { volumes = rows })
  volumes_same rows = alike_pools n v.stores (record v.stores { volumes = rows }) refl refl

  rows_same : (what : Verb) (name : List ℕ) (number k capacity : ℕ) (access : Access) → IfOk (change_volume what name number k capacity access v.stores) As
  rows_same verb.Define name number k capacity access =
      if_either As (is_some (row_at number v.stores.pools)) _ (Err refusal.NotFound) (λ is.
      if_either As (is_some (volume_named name v.stores)) (Err refusal.Exists) (Ok (record v.stores { volumes = with_row k (new_volume name number capacity access) v.stores.volumes })) (λ used. tt)
      (λ free. volumes_same (with_row k (new_volume name number capacity access) v.stores.volumes))) (λ isnt. tt)
  rows_same verb.Update name number k capacity access = filed (volume_named name v.stores) where
    filed : (o : Option ℕ) → IfOk (update_filed access v.stores o) As
    filed None = tt
    filed (Some k) = volumes_same (edit_row k (with_access access) v.stores.volumes)
  rows_same verb.Delete name number k capacity access = filed (volume_named name v.stores) where
    held : (k : ℕ) (o : Option ℕ) → IfOk (unless_held k v.stores o) As
    held k None = volumes_same (without_row k v.stores.volumes)
    held k (Some object) = tt

    filed : (o : Option ℕ) → IfOk (delete_filed v.stores o) As
    filed None = tt
    filed (Some k) = held k (object_on (row_at k v.stores.volumes))

  stores_same : (c : PoolChange) → KeepsPool n (change.Pool c) v → As (store_changed c v).stores
  stores_same (store.DevClass what class capacity) keeps = kept_or As v.stores (stores.changed (store.DevClass what class capacity) v.next_pool v.stores) itself (classes_same what class capacity)
  stores_same (store.Pool verb.Define name class kind rule) keeps = kept_or As v.stores (stores.changed (store.Pool verb.Define name class kind rule) v.next_pool v.stores) itself
      (defined name class kind rule)
  stores_same (store.Pool verb.Update name class kind rule) keeps = kept_or As v.stores (stores.changed (store.Pool verb.Update name class kind rule) v.next_pool v.stores) itself
      (updated name class kind rule)
  stores_same (store.Pool verb.Delete name class kind rule) keeps = kept_or As v.stores (stores.changed (store.Pool verb.Delete name class kind rule) v.next_pool v.stores) itself
      (deleted name class kind rule keeps)
  stores_same (store.Volume verb.Define name number k capacity access) keeps = kept_or As v.stores (stores.changed (store.Volume verb.Define name number k capacity access) v.next_pool v.stores) itself
      (rows_same verb.Define name number k capacity access)
  stores_same (store.Volume verb.Update name number k capacity access) keeps = kept_or As v.stores (stores.changed (store.Volume verb.Update name number k capacity access) v.next_pool v.stores) itself
      (rows_same verb.Update name number k capacity access)
  stores_same (store.Volume verb.Delete name number k capacity access) keeps = kept_or As v.stores (stores.changed (store.Volume verb.Delete name number k capacity access) v.next_pool v.stores) itself
      (rows_same verb.Delete name number k capacity access)

  clients_same : (c : ObjectChange) → As (client_changed c v).stores
  clients_same (client.Node two.Define name domain) = itself
  clients_same (client.Node two.Delete name domain) = itself
  clients_same (client.Filespace two.Define node name k) = itself
  clients_same (client.Filespace two.Delete node name k) = itself

  of_data : (w : Inv) → OnlyData v w → As w.stores
  of_data w o = alike_pools n v.stores w.stores o.classes o.pools

  -- a pool that is there and that no change deletes is there behind it, and sequential or not as it was
  pub pool_alike : (c : Change) → KeepsPool n c v → As (effect c v).stores
  unfolding effect
  pool_alike (change.Day day) keeps = itself
  pool_alike (change.Policy c) keeps = itself
  pool_alike (change.Object c) keeps = clients_same c
  pool_alike (change.Pool c) keeps = stores_same c keeps
  pool_alike (change.Backup c) keeps = of_data (effect (change.Backup c) v) (effect-data (change.Backup c) v refl)
  pool_alike (change.Hold c) keeps = of_data (effect (change.Hold c) v) (effect-data (change.Hold c) v refl)
  pool_alike (change.Rebind c) keeps = of_data (effect (change.Rebind c) v) (effect-data (change.Rebind c) v refl)
  pool_alike (change.Gone c) keeps = of_data (effect (change.Gone c) v) (effect-data (change.Gone c) v refl)
  pool_alike (change.Move c) keeps = of_data (effect (change.Move c) v) (effect-data (change.Move c) v refl)
  pool_alike (change.Copy c) keeps = of_data (effect (change.Copy c) v) (effect-data (change.Copy c) v refl)
  pool_alike (change.DropCopies c) keeps = of_data (effect (change.DropCopies c) v) (effect-data (change.DropCopies c) v refl)
  pool_alike (change.Expire c) keeps = of_data (effect (change.Expire c) v) (effect-data (change.Expire c) v refl)
  pool_alike (change.Discard c) keeps = of_data (effect (change.Discard c) v) (effect-data (change.Discard c) v refl)
  pool_alike (change.Reuse k) keeps = of_data (effect (change.Reuse k) v) (effect-data (change.Reuse k) v refl)
  pool_alike (change.DbBegin k after) keeps = itself
  pool_alike (change.DbEnd k) keeps = itself
  pool_alike (change.DbDelete k) keeps = itself
