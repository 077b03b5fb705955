-- No change of the stores that isn't refused gives two pools one number.
use Rattle.std.proofs.Common.{◌≡◌, ℕ, Bool, true, false, cond, not, ◌&&◌, List, [], ◌∷◌, Option, Some, None, is_some, Result, Ok, Err, if◌then◌else◌, refl, ap, ◌∙◌}
use Rattle.std.specs.Prelude.{◌==◌}
use Rattle.std.specs.Cmp.{nat_eq_equiv}
use Rattle.std.specs.Map.{keys_of, lookup, remove_entry}
use Rattle.std.specs.BTreeMap.{insert_entry, is_at}
use Rattle.std.specs.Cmp.Lexicographic.{slice_cmp}
use Rattle.std.specs.Ordering.{nat_cmp}
use Rattle.kinds.specs.declared.change.DefineOrDelete.TheVariants as two
use Rattle.kinds.specs.declared.change.PoolChange.{PoolChange}
use Rattle.kinds.specs.declared.change.PoolChange.TheVariants as store
use Rattle.kinds.specs.declared.change.Verb.TheVariants as verb
use Rattle.kinds.specs.declared.pool.Access.{Access}
use Rattle.kinds.specs.declared.pool.PoolRule.{PoolRule}
use Rattle.kinds.specs.declared.refusal.Refusal.{Refusal}
use Rattle.kinds.specs.declared.refusal.Refusal.TheVariants.{BadHierarchy, Exists, NotFound}
use Rattle.inventory_rules.specs.entries.declared.change.Change.TheVariants as change
use Rattle.inventory_rules.specs.inventory_rows.pool_tables.declared.pool.Pool.{Pool}
use Rattle.inventory_rules.specs.inventory_rows.pool_tables.RowChanges.{with_settings}
use Rattle.inventory_rules.specs.inventory_rows.pool_tables.Rows.{edit_row, edited, named, row_at, with_row, without_row}
use Rattle.inventory_rules.specs.inventory_rows.pool_rows.Changed.{changed}
use Rattle.inventory_rules.specs.inventory_rows.pool_rows.ClassChanges.{class_gone, pool_of_class}
use Rattle.inventory_rules.specs.inventory_rows.pool_rows.Changes.{delete_filed, delete_numbered, is_bad_row, is_next_there, new_pool, new_volume, object_on, pool_before, unless_before, unless_filled, unless_held, update_filed, update_numbered, volume_of_pool}
use Rattle.inventory_rules.specs.inventory_rows.pool_rows.Hierarchy.{is_bad_hierarchy}
use Rattle.inventory_rules.specs.inventory_rows.pool_rows.PoolRows.{PoolRows, class_capacity, pool_named, volume_named}
use Rattle.inventory_rules.specs.inventory_rows.State.{Inv}
use Rattle.inventory_rules.specs.Common.{or_same, with_stores}
use Rattle.inventory_rules.specs.Stores.{drawn_for_store}
use Rattle.inventory_rules.specs.Transactions.{effect}
use Rattle.inventory_rules.specs.Valid.{are_apart, is_valid}
use Rattle.inventory_laws.proofs.Facts.{facts_of}
use Rattle.inventory_laws.proofs.Lists.{later_left, later_with, picks_map}
use Rattle.inventory_laws.proofs.StoreRows.{map_same, row_came, row_went}
use Rattle.inventory_laws.proofs.Pools.{undrawn}
use Rattle.inventory_laws.proofs.StoreVolumes.{number_free}

-- the pools of what a change gives have numbers of their own
abbrev Apart : PoolRows → Result PoolRows Refusal → Type 0
Apart s r = are_apart (keys_of (or_same s r).pools) ≡ true

either : (s : PoolRows) (b : Bool) (p q : Result PoolRows Refusal) → Apart s p → Apart s q → Apart s (if b then p else q)
either s true p q x y = x
either s false p q x y = y

class_gone_apart : (class : List ℕ) (s : PoolRows) (o : Option ℕ) → are_apart (keys_of s.pools) ≡ true → Apart s (class_gone class s o)
class_gone_apart class s None h = h
class_gone_apart class s (Some n) h = h

-- a pool comes, goes or changes
came_apart : (k : ℕ) (x : Pool) (pools : List (ℕ × Pool)) → row_at k pools ≡ None → are_apart (keys_of pools) ≡ true → are_apart (keys_of (with_row k x pools)) ≡ true
came_apart k x pools absent h =
    later_with (λ a b. not (a == b)) (λ a b. ap not (nat_eq_equiv.symm a b)) k (keys_of (with_row k x pools)) (keys_of pools) (picks_map (λ (e : ℕ × Pool). e.0) (k, x) (with_row k x pools) pools (row_came k x pools absent)) (number_free k pools absent) h

-- nothing goes where nothing is found
remove_entry_absent : {K X : Type 0} (test : K → Bool) (es : List (K × X)) → lookup test es ≡ None → remove_entry test es ≡ es
remove_entry_absent test [] h = refl
remove_entry_absent {K} {X} test (e ∷ es) h =
    elim (test e.0) as (λ b. cond b (Some e.1) (lookup test es) ≡ None → cond b es (e ∷ remove_entry test es) ≡ e ∷ es) [
      | true ↦ λ t. absurd cc
      | false ↦ λ t. ap (λ (r : List (K × X)). e ∷ r) (remove_entry_absent test es t)
    ] h

went_apart : (k : ℕ) (pools : List (ℕ × Pool)) → are_apart (keys_of pools) ≡ true → are_apart (keys_of (without_row k pools)) ≡ true
went_apart k pools h =
    elim (row_at k pools) as (λ o. row_at k pools ≡ o → are_apart (keys_of (without_row k pools)) ≡ true) [
      | None ↦ λ none. ap (λ (l : List (ℕ × Pool)). are_apart (keys_of l)) (remove_entry_absent (is_at (nat_cmp k)) pools none) ∙ h
      | Some x ↦ λ there. later_left (λ a b. not (a == b)) k (keys_of pools) (keys_of (without_row k pools)) (picks_map (λ (e : ℕ × Pool). e.0) (k, x) pools (without_row k pools) (row_went k x pools there)) h
    ] refl

edited_apart : (k : ℕ) (f : Pool → Pool) (pools : List (ℕ × Pool)) → are_apart (keys_of pools) ≡ true → are_apart (keys_of (edit_row k f pools)) ≡ true
edited_apart k f pools h =
    elim (row_at k pools) as (λ o. row_at k pools ≡ o → are_apart (keys_of (edited k f pools o)) ≡ true) [
      | None ↦ λ _. h
      | Some x ↦ λ there. ap are_apart (map_same (λ (e : ℕ × Pool). e.0) k x (f x) pools there (λ q. refl)) ∙ h
    ] refl

before_apart : (k : ℕ) (s : PoolRows) (o : Option ℕ) → are_apart (keys_of s.pools) ≡ true → Apart s (unless_before k s o)
before_apart k s None h = went_apart k s.pools h
before_apart k s (Some n) h = h

filled_apart : (k : ℕ) (s : PoolRows) (o : Option ℕ) → are_apart (keys_of s.pools) ≡ true → Apart s (unless_filled k s o)
filled_apart k s None h = before_apart k s (pool_before k s) h
filled_apart k s (Some n) h = h

deleted_apart : (s : PoolRows) (o : Option ℕ) → are_apart (keys_of s.pools) ≡ true → Apart s (delete_numbered s o)
deleted_apart s None h = h
deleted_apart s (Some k) h = filled_apart k s (volume_of_pool k s) h

numbered_apart : (rule : PoolRule) (s : PoolRows) (o : Option ℕ) → are_apart (keys_of s.pools) ≡ true → Apart s (update_numbered rule s o)
numbered_apart rule s None h = h
numbered_apart rule s (Some k) h =
    either s (is_bad_row k rule.next s (row_at k s.pools)) (Err BadHierarchy) (Ok (record s { pools = edit_row k (with_settings rule) s.pools })) h (edited_apart k (with_settings rule) s.pools h)

filed_apart : (access : Access) (s : PoolRows) (o : Option ℕ) → are_apart (keys_of s.pools) ≡ true → Apart s (update_filed access s o)
filed_apart access s None h = h
filed_apart access s (Some file) h = h

held_apart : (file : ℕ) (s : PoolRows) (o : Option ℕ) → are_apart (keys_of s.pools) ≡ true → Apart s (unless_held file s o)
held_apart file s None h = h
held_apart file s (Some n) h = h

gone_apart : (s : PoolRows) (o : Option ℕ) → are_apart (keys_of s.pools) ≡ true → Apart s (delete_filed s o)
gone_apart s None h = h
gone_apart s (Some file) h = held_apart file s (object_on (row_at file s.volumes)) h

changed_apart : (c : PoolChange) (k : ℕ) (s : PoolRows) → row_at k s.pools ≡ None → are_apart (keys_of s.pools) ≡ true → Apart s (changed c k s)
changed_apart (store.DevClass two.Define class capacity) k s absent h =
    either s (is_some (named class s.classes)) (Err Exists) (Ok (record s { classes = insert_entry (slice_cmp nat_cmp) s.classes class (Some capacity) })) h h
changed_apart (store.DevClass two.Delete class capacity) k s absent h =
    either s (is_some (class_capacity class s)) (class_gone class s (pool_of_class class s)) (Err NotFound) (class_gone_apart class s (pool_of_class class s) h) h
changed_apart (store.Pool verb.Define name class kind rule) k s absent h =
    let new : Result PoolRows Refusal = Ok (record s { pools = with_row k (new_pool name class kind rule) s.pools }) in
    let hierarchy : Result PoolRows Refusal = (if is_bad_hierarchy k class kind rule.next s then Err BadHierarchy else new) in
    let named_so : Result PoolRows Refusal = (if is_some (pool_named name s) then Err Exists else hierarchy) in
    either s (is_some (named class s.classes) && is_next_there rule.next s) named_so (Err NotFound)
    (either s (is_some (pool_named name s)) (Err Exists) hierarchy h (either s (is_bad_hierarchy k class kind rule.next s) (Err BadHierarchy) new h (came_apart k (new_pool name class kind rule) s.pools absent h))) h
changed_apart (store.Pool verb.Update name class kind rule) k s absent h =
    either s (is_next_there rule.next s) (update_numbered rule s (pool_named name s)) (Err NotFound) (numbered_apart rule s (pool_named name s) h) h
changed_apart (store.Pool verb.Delete name class kind rule) k s absent h = deleted_apart s (pool_named name s) h
changed_apart (store.Volume verb.Define name number file capacity access) k s absent h =
    let new : Result PoolRows Refusal = Ok (record s { volumes = with_row file (new_volume name number capacity access) s.volumes }) in
    let named_so : Result PoolRows Refusal = (if is_some (volume_named name s) then Err Exists else new) in
    either s (is_some (row_at number s.pools)) named_so (Err NotFound) (either s (is_some (volume_named name s)) (Err Exists) new h h) h
changed_apart (store.Volume verb.Update name number file capacity access) k s absent h = filed_apart access s (volume_named name s) h
changed_apart (store.Volume verb.Delete name number file capacity access) k s absent h = gone_apart s (volume_named name s) h

stores_of : (c : PoolChange) (w : Inv) → (drawn_for_store c w).stores ≡ w.stores
stores_of (store.DevClass v1 class capacity) w = refl
stores_of (store.Pool verb.Define name class kind rule) w = refl
stores_of (store.Pool verb.Update name class kind rule) w = refl
stores_of (store.Pool verb.Delete name class kind rule) w = refl
stores_of (store.Volume verb.Define name number file capacity access) w = refl
stores_of (store.Volume verb.Update name number file capacity access) w = refl
stores_of (store.Volume verb.Delete name number file capacity access) w = refl

pub numbers_stay : (c : PoolChange) (v : Inv) → is_valid v ≡ true → are_apart (keys_of v.stores.pools) ≡ true → are_apart (keys_of (effect (change.Pool c) v).stores.pools) ≡ true
unfolding effect
numbers_stay c v valid h =
    ap (λ (s : PoolRows). are_apart (keys_of s.pools)) (stores_of c (with_stores (or_same v.stores (changed c v.next_pool v.stores)) v))
    ∙ changed_apart c v.next_pool v.stores (undrawn 1 v.next_pool v.stores.pools (facts_of v valid).pools_drawn) h
