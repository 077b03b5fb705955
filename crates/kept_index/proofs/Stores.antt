-- What changes of device classes, storage pools and volumes make of the rows of volumes, and of an index of them.
use Rattle.std.proofs.Common.{◌≡◌, ◌⊎◌, inl, inr, ℕ, ◌+◌, Bool, true, false, cond, eqb, not, ◌&&◌, ◌||◌, List, [], ◌∷◌, ◌++◌, Option, Some, None, is_some, is_none, nat_le, Result, Ok, Err, if◌then◌else◌, refl, sym, ap, subst, ◌∙◌}
use Rattle.std.specs.Prelude.{◌==◌}
use Rattle.std.specs.List.{list_all}
use Rattle.std.specs.Map.{keys_of, remove_entry}
use Rattle.std.specs.BTreeMap.{insert_entry, is_at}
use Rattle.std.specs.Cmp.Lexicographic.{slice_cmp}
use Rattle.std.specs.Ordering.{nat_cmp}
use Rattle.std.proofs.lemmas.Bool.{and_from, and_parts, eqb-false, false≢true, not-false, not-true, or_parts}
use Rattle.kinds.specs.declared.change.DefineOrDelete.{DefineOrDelete}
use Rattle.kinds.specs.declared.change.DefineOrDelete.TheVariants as two
use Rattle.kinds.specs.declared.change.PoolChange.{PoolChange}
use Rattle.kinds.specs.declared.change.PoolChange.TheVariants as store
use Rattle.kinds.specs.declared.change.Verb.{Verb}
use Rattle.kinds.specs.declared.change.Verb.TheVariants as verb
use Rattle.kinds.specs.declared.pool.Access.{Access}
use Rattle.kinds.specs.declared.pool.PoolKind.{PoolKind}
use Rattle.kinds.specs.declared.pool.PoolRule.{PoolRule}
use Rattle.kinds.specs.declared.refusal.Refusal.{Refusal}
use Rattle.kinds.specs.declared.refusal.Refusal.TheVariants.{BadHierarchy, Exists, NotFound}
use Rattle.kinds.specs.Names.{is_same_name}
use Rattle.kinds.specs.Refusals.{bad_value, refusal_of}
use Rattle.entries.specs.declared.change.Change.TheVariants as change
use Rattle.inventory_rows.specs.volume_rows.declared.volume.Volume.{Volume}
use Rattle.inventory_rows.specs.volume_rows.Holdings.{least_object}
use Rattle.inventory_rows.specs.volume_rows.Volumes.{reset, reuse_unless_used}
use Rattle.inventory_rows.specs.pool_tables.declared.pool.Pool.{Pool}
use Rattle.inventory_rows.specs.State.{Inv}
use Rattle.pool_tables.specs.Names.{pool_name}
use Rattle.pool_tables.specs.RowChanges.{is_scratch_row, with_access, with_settings}
use Rattle.pool_tables.specs.Rows.{edit_row, edited, named, row_at, with_row, without_row}
use Rattle.pool_tables.specs.Scratch.{volume_name}
use Rattle.pool_tables.proofs.Ascending.{none_from}
use Rattle.pool_tables.proofs.Counting.{apart_at, at_is, each_there}
use Rattle.pool_rows.specs.Changed.{changed}
use Rattle.pool_rows.specs.Changes.{change_pool, define_pool, delete_filed, delete_numbered, is_bad_row, is_next_there, new_pool, new_volume, object_on, unless_held, update_filed, update_numbered, update_pool, volume_of_pool}
use Rattle.pool_rows.specs.ClassChanges.{change_class, class_gone, define_class, pool_of_class}
use Rattle.pool_rows.specs.Hierarchy.{is_bad_hierarchy}
use Rattle.pool_rows.specs.PoolRows.{PoolRows, capacity_there, class_capacity, is_sequential, is_sequential_at, is_sequential_row, pool_capacity, pool_class_capacity, pool_named, volume_named}
use Rattle.pool_rows.specs.Segments.{delay_of, reuse_row}
use Rattle.inventory_rules.specs.Common.{file_bound, files_refused, is_free_file, or_same}
use Rattle.inventory_rules.specs.Facts.{Facts}
use Rattle.inventory_rules.specs.Journal.{no_journal}
use Rattle.inventory_rules.specs.Stores.{store_bounds}
use Rattle.inventory_rules.specs.Transactions.{changed as made, effect}
use Rattle.inventory_rules.specs.Valid.{are_apart}
use Rattle.inventory_laws.proofs.Classes.{alike, defined_stays, deleted_stays}
use Rattle.inventory_laws.proofs.Facts.{facts_of}
use Rattle.inventory_laws.proofs.PoolLaws.{free_filled}
use Rattle.inventory_laws.proofs.Pools.{alike_row, undrawn}
use Rattle.inventory_laws.proofs.StoreLegal.{held, none_of_both, unless_so, where_so}
use Rattle.inventory_laws.proofs.StoreRows.{all_there, found_apart, none_where, number_there, other_row, row_came, row_went, seen_same, some_from}
use Rattle.space.specs.declared.site.Site.{Site}
use Rattle.space.specs.Claims.{Claims}
use Rattle.space_index.specs.declared.index.Index.{Index}
use Rattle.space_index.specs.Index.{copies_reach, claims_reach, shape_at, shape_by, shape_of_row, times_at}
use Rattle.space_index.specs.Claimed.{pool_on}
use Rattle.space_index.specs.Tails.{IsIndexOf, IsIndexWith, base_at, base_of, tail_by}
use Rattle.space_index.specs.Updates.{ChangesAt, IsAccessOf, rows_with}
use Rattle.space_index.proofs.Following.{index_same, stays_same}
use Rattle.space_index.proofs.Listings.{bases_kept, tails_same}
use Rattle.space_index.proofs.Volumes.{row_changes, row_comes}
use Rattle.kept_index.specs.Steps.{IsLegalOn, named_in}
use Rattle.kept_index.proofs.Effects.{effect_stores, legal_causes}

-- ---- where no volume changes

-- each volume is of a pool that is sequential where it was
abbrev SameKinds : PoolRows → PoolRows → Type 0
SameKinds s t = (file : ℕ) (x : Volume) → row_at file s.volumes ≡ Some x → is_sequential x.pool t ≡ is_sequential x.pool s

record StaysSo (s t : PoolRows) : Type 0 where
  volumes : t.volumes ≡ s.volumes
  kinds : SameKinds s t

-- the volumes of each pool are as large as they were
record StaysAll (s t : PoolRows) : Type 0 where
  volumes : t.volumes ≡ s.volumes
  sizes : (pool : ℕ) → pool_capacity pool t ≡ pool_capacity pool s

-- where no ticket has space
unmoved : (i : Index) (c : Claims) (s t : PoolRows) → ((file : ℕ) → pool_on file c.tickets ≡ None) → StaysSo s t → IsIndexOf i s c → IsIndexOf i t c
unmoved i c s t unheld stays is = record {
  random = index_same i.random (shape_at s) (shape_at t) (times_at s c) (times_at t c) (λ f. shape_row (row_at f s.volumes) (stays.kinds f) ∙ ap (λ (l : List (ℕ × Volume)). shape_of_row t (row_at f l)) (sym stays.volumes))
      (λ f k. ap (λ (l : List (ℕ × Volume)). copies_reach f (row_at f l) k + claims_reach c f k) (sym stays.volumes)) is.random;
  tails = tails_same i.tails (base_at s c.tickets) (base_at t c.tickets) (λ f. ap (base_of s (row_at f s.volumes)) (unheld f) ∙ base_row (row_at f s.volumes) (stays.kinds f) ∙ ap (λ (l : List (ℕ × Volume)). base_of t (row_at f l) None) (sym stays.volumes) ∙ sym (ap (base_of t (row_at f t.volumes)) (unheld f))) is.tails;
  held = is.held;
}
  where
    shape_row : (o : Option Volume) → ((x : Volume) → o ≡ Some x → is_sequential x.pool t ≡ is_sequential x.pool s) → shape_of_row s o ≡ shape_of_row t o
    shape_row None h = refl
    shape_row (Some x) h = ap (λ (b : Bool). shape_by b x) (sym (h x refl))

    base_row : (o : Option Volume) → ((x : Volume) → o ≡ Some x → is_sequential x.pool t ≡ is_sequential x.pool s) → base_of s o None ≡ base_of t o None
    base_row None h = refl
    base_row (Some x) h = ap (λ (b : Bool). tail_by b x) (sym (h x refl))

unmoved_all : (i : Index) (c : Claims) (s t : PoolRows) → StaysAll s t → IsIndexOf i s c → IsIndexOf i t c
unmoved_all i c s t stays is = record {
  random = stays_same i.random s t c c stays.volumes (λ pool. ap is_some (stays.sizes pool)) refl refl is.random;
  tails = tails_same i.tails (base_at s c.tickets) (base_at t c.tickets) (bases_kept c.tickets s t stays.volumes stays.sizes) is.tails;
  held = is.held;
}

-- what a change makes of the rows, where it is made
stays_as : (s t : PoolRows) (r : Result PoolRows Refusal) → r ≡ Ok t → StaysSo s t → StaysSo s (or_same s r)
stays_as s t r is stays = subst (λ (q : Result PoolRows Refusal). StaysSo s (or_same s q)) (sym is) stays

all_as : (s t : PoolRows) (r : Result PoolRows Refusal) → r ≡ Ok t → StaysAll s t → StaysAll s (or_same s r)
all_as s t r is stays = subst (λ (q : Result PoolRows Refusal). StaysAll s (or_same s q)) (sym is) stays

-- ---- device classes

class_there : (o : Option (Option ℕ)) → is_some (capacity_there o) ≡ true → (x : Option ℕ) × (o ≡ Some x)
class_there None h = absurd (false≢true h)
class_there (Some x) h = (x, refl)

class_free : (class : List ℕ) (s : PoolRows) (o : Option ℕ) → refusal_of (class_gone class s o) ≡ []
    → (o ≡ None) × (class_gone class s o ≡ Ok (record s { classes = remove_entry (is_at (slice_cmp nat_cmp class)) s.classes }))
class_free class s None h = (refl, refl)
class_free class s (Some pool) h = absurd cc

class_stays : (d : DefineOrDelete) (class : List ℕ) (capacity : ℕ) (v : Inv) → Facts v → refusal_of (change_class d class capacity v.stores) ≡ [] → StaysAll v.stores (or_same v.stores (change_class d class capacity v.stores))
class_stays two.Define class capacity v f legal =
    let s = v.stores in
    let classes = insert_entry (slice_cmp nat_cmp) s.classes class (Some capacity) in
    let new : Result PoolRows Refusal = Ok (record s { classes = classes }) in
    let t = unless_so (is_some (named class s.classes)) Exists new legal in
    all_as s (record s { classes = classes }) (define_class class capacity s) t.2
    (record { volumes = refl; sizes = λ pool. (alike v classes (defined_stays v class (Some capacity) f (none_from (named class s.classes) t.0)) pool).capacity })
class_stays two.Delete class capacity v f legal =
    let s = v.stores in
    let classes = remove_entry (is_at (slice_cmp nat_cmp class)) s.classes in
    let t = where_so (is_some (class_capacity class s)) NotFound (class_gone class s (pool_of_class class s)) legal in
    let u = class_free class s (pool_of_class class s) t.1 in
    let there = class_there (named class s.classes) t.0 in
    all_as s (record s { classes = classes }) (change_class two.Delete class capacity s) (t.2 ∙ u.1)
    (record { volumes = refl; sizes = λ pool. (alike v classes (deleted_stays v class there.0 there.1 u.0) pool).capacity })

-- ---- storage pools

-- a volume's pool is there
its_pool : (v : Inv) (file : ℕ) (x : Volume) → Facts v → row_at file v.stores.volumes ≡ Some x → is_some (row_at x.pool v.stores.pools) ≡ true
its_pool v file x f found = all_there (λ (e : ℕ × Volume). is_some (row_at e.1.pool v.stores.pools)) file x v.stores.volumes found f.volumes_cite

pool_comes : (name class : List ℕ) (kind : PoolKind) (rule : PoolRule) (v : Inv) → Facts v → refusal_of (define_pool v.next_pool name class kind rule v.stores) ≡ []
    → StaysSo v.stores (or_same v.stores (define_pool v.next_pool name class kind rule v.stores))
pool_comes name class kind rule v f legal =
    let s = v.stores in
    let k = v.next_pool in
    let row = new_pool name class kind rule in
    let pools = with_row k row s.pools in
    let new : Result PoolRows Refusal = Ok (record s { pools = pools }) in
    let hierarchy : Result PoolRows Refusal = (if is_bad_hierarchy k class kind rule.next s then Err BadHierarchy else new) in
    let named_so : Result PoolRows Refusal = (if is_some (pool_named name s) then Err Exists else hierarchy) in
    let a = where_so (is_some (named class s.classes) && is_next_there rule.next s) NotFound named_so legal in
    let b = unless_so (is_some (pool_named name s)) Exists hierarchy a.1 in
    let d = unless_so (is_bad_hierarchy k class kind rule.next s) BadHierarchy new b.1 in
    let free : row_at k s.pools ≡ None = undrawn 1 k s.pools f.pools_drawn in
    stays_as s (record s { pools = pools }) (define_pool k name class kind rule s) (a.2 ∙ b.2 ∙ d.2)
    (record {
      volumes = refl;
      kinds = λ file x found.
          ap is_some ((alike_row v pools x.pool (other_row k x.pool row pools s.pools (row_came k row s.pools free) (found_apart k x.pool s.pools free (its_pool v file x f found)))).capacity);
    })

pool_goes : (v : Inv) (o : Option ℕ) → Facts v → ((k : ℕ) → o ≡ Some k → is_some (row_at k v.stores.pools) ≡ true) → refusal_of (delete_numbered v.stores o) ≡ [] → StaysSo v.stores (or_same v.stores (delete_numbered v.stores o))
pool_goes v None f there legal = absurd cc
pool_goes v (Some k) f there legal =
    let s = v.stores in
    let pools = without_row k s.pools in
    let t = free_filled v k (volume_of_pool k s) legal in
    let row = some_from (row_at k s.pools) (there k refl) in
    let empty = none_where (λ (e : Volume). e.pool == k) s.volumes t.0 in
    stays_as s (record s { pools = pools }) (delete_numbered s (Some k)) t.2
    (record {
      volumes = refl;
      kinds = λ file x found.
          ap is_some ((alike_row v pools x.pool (sym (other_row k x.pool row.0 s.pools pools (row_went k row.0 s.pools row.1) (eqb-false x.pool k (each_there (λ (e : ℕ × Volume). eqb e.1.pool k ≡ false) file x s.volumes found empty))))).capacity);
    })

-- settings are none of a pool's class
settled : (rule : PoolRule) (k q : ℕ) (s : PoolRows) → pool_capacity q (record s { pools = edit_row k (with_settings rule) s.pools }) ≡ pool_capacity q s
settled rule k q s = aside (row_at q (edit_row k (with_settings rule) s.pools)) ∙ go (row_at k s.pools) refl where
  aside : (o : Option Pool) → pool_class_capacity (record s { pools = edit_row k (with_settings rule) s.pools }) o ≡ pool_class_capacity s o
  aside None = refl
  aside (Some x) = refl

  go : (o : Option Pool) → row_at k s.pools ≡ o → pool_class_capacity s (row_at q (edited k (with_settings rule) s.pools o)) ≡ pool_class_capacity s (row_at q s.pools)
  go None there = refl
  go (Some x) there = seen_same (λ (o : Option Pool). pool_class_capacity s o) k q x (with_settings rule x) s.pools there refl

numbered_stays : (rule : PoolRule) (s : PoolRows) (o : Option ℕ) → StaysAll s (or_same s (update_numbered rule s o))
numbered_stays rule s None = record { volumes = refl; sizes = λ pool. refl }
numbered_stays rule s (Some k) = go (is_bad_row k rule.next s (row_at k s.pools)) where
  go : (b : Bool) → StaysAll s (or_same s (if b then Err BadHierarchy else Ok (record s { pools = edit_row k (with_settings rule) s.pools })))
  go true = record { volumes = refl; sizes = λ pool. refl }
  go false = record { volumes = refl; sizes = λ pool. settled rule k pool s }

pool_settled : (name : List ℕ) (rule : PoolRule) (s : PoolRows) → StaysAll s (or_same s (update_pool name rule s))
pool_settled name rule s = go (is_next_there rule.next s) where
  go : (b : Bool) → StaysAll s (or_same s (if b then update_numbered rule s (pool_named name s) else Err NotFound))
  go true = numbered_stays rule s (pool_named name s)
  go false = record { volumes = refl; sizes = λ pool. refl }

-- nothing is held, or the pool is updated
pub unheld_or : (P : Type 0) (i : Index) (s : PoolRows) (c : Claims) → IsIndexOf i s c → P ⊎ ((t : PoolRows) (d : Claims) (sites : ℕ → Option Site) → IsIndexWith i t d sites → (file : ℕ) → pool_on file d.tickets ≡ None) → P ⊎ ((file : ℕ) → pool_on file c.tickets ≡ None)
unheld_or P i s c is (inl h) = inl h
unheld_or P i s c is (inr h) = inr (h s c (base_at s c.tickets) is)

pool_index : (i : Index) (c : Claims) (w : Verb) (name class : List ℕ) (kind : PoolKind) (rule : PoolRule) (v : Inv) → Facts v → refusal_of (change_pool w v.next_pool name class kind rule v.stores) ≡ [] → (w ≡ verb.Update) ⊎ ((file : ℕ) → pool_on file c.tickets ≡ None)
    → IsIndexOf i v.stores c → IsIndexOf i (or_same v.stores (change_pool w v.next_pool name class kind rule v.stores)) c
pool_index i c verb.Update name class kind rule v f legal held is = unmoved_all i c v.stores (or_same v.stores (update_pool name rule v.stores)) (pool_settled name rule v.stores) is
pool_index i c verb.Define name class kind rule v f legal (inl other) is = absurd cc
pool_index i c verb.Define name class kind rule v f legal (inr unheld) is =
    unmoved i c v.stores (or_same v.stores (define_pool v.next_pool name class kind rule v.stores)) unheld (pool_comes name class kind rule v f legal) is
pool_index i c verb.Delete name class kind rule v f legal (inl other) is = absurd cc
pool_index i c verb.Delete name class kind rule v f legal (inr unheld) is =
    unmoved i c v.stores (or_same v.stores (delete_numbered v.stores (pool_named name v.stores))) unheld
    (pool_goes v (pool_named name v.stores) f (λ k there. number_there (λ (p : Pool). is_same_name (pool_name p) name) k v.stores.pools there) legal) is

-- ---- legal changes

store_legal : (k : PoolChange) (v : Inv) → IsLegalOn (change.Pool k) v → refusal_of (changed k v.next_pool v.stores) ≡ []
store_legal k v legal = (none_of_both (refusal_of (changed k v.next_pool v.stores)) (store_bounds k v) (legal_causes no_journal (change.Pool k) v legal.allowed)).0

store_bound : (k : PoolChange) (v : Inv) → IsLegalOn (change.Pool k) v → store_bounds k v ≡ []
store_bound k v legal = (none_of_both (refusal_of (changed k v.next_pool v.stores)) (store_bounds k v) (legal_causes no_journal (change.Pool k) v legal.allowed)).1

pub classes_index : (i : Index) (c : Claims) (d : DefineOrDelete) (class : List ℕ) (capacity : ℕ) (v : Inv) (t : PoolRows) → IsLegalOn (change.Pool (store.DevClass d class capacity)) v → t ≡ (effect (change.Pool (store.DevClass d class capacity)) v).stores
    → IsIndexOf i v.stores c → IsIndexOf i t c
classes_index i c d class capacity v t legal rows is =
    let k = store.DevClass d class capacity in
    subst (λ (u : PoolRows). IsIndexOf i u c) (sym (rows ∙ effect_stores (change.Pool k) v))
    (unmoved_all i c v.stores (or_same v.stores (change_class d class capacity v.stores)) (class_stays d class capacity v (facts_of v legal.valid) (store_legal k v legal)) is)

pub pools_index : (i : Index) (c : Claims) (w : Verb) (name class : List ℕ) (kind : PoolKind) (rule : PoolRule) (v : Inv) (t : PoolRows) → IsLegalOn (change.Pool (store.Pool w name class kind rule)) v
    → t ≡ (effect (change.Pool (store.Pool w name class kind rule)) v).stores → (w ≡ verb.Update) ⊎ ((file : ℕ) → pool_on file c.tickets ≡ None) → IsIndexOf i v.stores c → IsIndexOf i t c
pools_index i c w name class kind rule v t legal rows held is =
    let k = store.Pool w name class kind rule in
    subst (λ (u : PoolRows). IsIndexOf i u c) (sym (rows ∙ effect_stores (change.Pool k) v ∙ aside w))
    (pool_index i c w name class kind rule v (facts_of v legal.valid) (store_legal k v legal) held is)
  where
    aside : (x : Verb) → (made (change.Pool (store.Pool x name class kind rule)) v).stores ≡ or_same v.stores (change_pool x v.next_pool name class kind rule v.stores)
    aside verb.Define = refl
    aside verb.Update = refl
    aside verb.Delete = refl

-- ---- volumes

-- a volume comes under a number that is free
pub record Comes (file : ℕ) (s t : PoolRows) : Type 0 where
  pub changes : ChangesAt file s t
  pub free : row_at file s.volumes ≡ None

free_file : (v : Inv) (file : ℕ) → files_refused (file ∷ []) v ≡ [] → row_at file v.stores.volumes ≡ None
free_file v file h =
    let one = and_parts (is_free_file v file && true) true (held ((is_free_file v file && true) && true) bad_value h) in
    let two = and_parts (is_free_file v file) true one.0 in
    let three = and_parts (nat_le 4 file) (is_none (row_at file v.stores.volumes) && is_none (row_at file v.backups)) two.0 in
    none_there (row_at file v.stores.volumes) (and_parts (is_none (row_at file v.stores.volumes)) (is_none (row_at file v.backups)) three.1).0
  where
    none_there : (o : Option Volume) → is_none o ≡ true → o ≡ None
    none_there None h = refl
    none_there (Some x) h = absurd (false≢true h)

pub defined_comes : (name : List ℕ) (pool file capacity : ℕ) (access : Access) (v : Inv) (t : PoolRows) → IsLegalOn (change.Pool (store.Volume verb.Define name pool file capacity access)) v
    → t ≡ (effect (change.Pool (store.Volume verb.Define name pool file capacity access)) v).stores → Comes file v.stores t
defined_comes name pool file capacity access v t legal rows =
    let s = v.stores in
    let k = store.Volume verb.Define name pool file capacity access in
    let x = new_volume name pool capacity access in
    let new : Result PoolRows Refusal = Ok (record s { volumes = with_row file x s.volumes }) in
    let named_so : Result PoolRows Refusal = (if is_some (volume_named name s) then Err Exists else new) in
    let a = where_so (is_some (row_at pool s.pools)) NotFound named_so (store_legal k v legal) in
    let b = unless_so (is_some (volume_named name s)) Exists new a.1 in
    let free = free_file v file (none_of_both (files_refused (file ∷ []) v) (file_bound file v) (store_bound k v legal)).0 in
    record {
      changes = subst (λ (u : PoolRows). ChangesAt file s u) (sym (rows ∙ effect_stores (change.Pool k) v ∙ ap (or_same s) (a.2 ∙ b.2))) (row_comes s file x free).0;
      free = free;
    }

-- the volume that is named gets another access
pub record HasNew (file : ℕ) (access : Access) (s t : PoolRows) : Type 0 where
  pub changes : ChangesAt file s t
  pub row : IsAccessOf access (row_at file s.volumes) (row_at file t.volumes)

access_row : (name : List ℕ) (access : Access) (file : ℕ) (s : PoolRows) → volume_named name s ≡ Some file → HasNew file access s (rows_with s (edit_row file (with_access access) s.volumes))
access_row name access file s is =
    let row = some_from (row_at file s.volumes) (number_there (λ (e : Volume). is_same_name (volume_name e) name) file s.volumes is) in
    let changes = row_changes s file (with_access access) row.0 row.1 in
    record {
      changes = changes.0;
      row = subst (λ (o : Option Volume). IsAccessOf access o (row_at file (edit_row file (with_access access) s.volumes))) (sym row.1)
          (subst (λ (o : Option Volume). IsAccessOf access (Some row.0) o) (sym changes.1) (record { access = refl; pool = refl; capacity = refl; segments = refl }));
    }

pub record Named (P : ℕ → Type 0) (o : Option ℕ) : Type 0 where
  pub file : ℕ
  pub is : o ≡ Some file
  pub has : P file

pub access_changes : (name : List ℕ) (pool file capacity : ℕ) (access : Access) (v : Inv) (t : PoolRows) (o : Option ℕ) → IsLegalOn (change.Pool (store.Volume verb.Update name pool file capacity access)) v
    → o ≡ named_in (store.Volume verb.Update name pool file capacity access) v.stores → t ≡ (effect (change.Pool (store.Volume verb.Update name pool file capacity access)) v).stores → Named (λ at. HasNew at access v.stores t) o
access_changes name pool file capacity access v t o legal is rows =
    let k : PoolChange = store.Volume verb.Update name pool file capacity access in
    go (volume_named name v.stores) refl (store_legal k v legal) (rows ∙ effect_stores (change.Pool k) v) is
  where
    go : (n : Option ℕ) → volume_named name v.stores ≡ n → refusal_of (update_filed access v.stores n) ≡ [] → t ≡ or_same v.stores (update_filed access v.stores n) → o ≡ n → Named (λ at. HasNew at access v.stores t) o
    go None found h made same = absurd cc
    go (Some at) found h made same = record { file = at; is = same; has = subst (λ (u : PoolRows). HasNew at access v.stores u) (sym made) (access_row name access at v.stores found) }

-- the volume that is named goes
pub record GoesFrom (file : ℕ) (s t : PoolRows) : Type 0 where
  pub changes : ChangesAt file s t
  pub gone : row_at file t.volumes ≡ None

apart_front : (xs ys : List ℕ) → are_apart (xs ++ ys) ≡ true → are_apart xs ≡ true
apart_front [] ys h = refl
apart_front (x ∷ xs) ys h =
    let parts = and_parts (list_all (λ b. not (x == b)) (xs ++ ys)) (are_apart (xs ++ ys)) h in
    and_from (list_all (λ b. not (x == b)) xs) (are_apart xs) (front xs parts.0) (apart_front xs ys parts.1)
  where
    front : (zs : List ℕ) → list_all (λ b. not (x == b)) (zs ++ ys) ≡ true → list_all (λ b. not (x == b)) zs ≡ true
    front [] t = refl
    front (z ∷ zs) t = let p = and_parts (not (x == z)) (list_all (λ b. not (x == b)) (zs ++ ys)) t in and_from (not (x == z)) (list_all (λ b. not (x == b)) zs) p.0 (front zs p.1)

none_else : (k j : ℕ) (rows : List (ℕ × Volume)) → k ≡ j → list_all (λ b. not (j == b)) (keys_of rows) ≡ true → row_at k rows ≡ None
none_else k j [] same h = refl
none_else k j (e ∷ rows) same h =
    let parts = and_parts (not (j == e.0)) (list_all (λ b. not (j == b)) (keys_of rows)) h in
    ap (λ b. cond b (Some e.1) (row_at k rows)) (apart_at k e.0 (λ t. eqb-false j e.0 (not-true (eqb j e.0) parts.0) (sym same ∙ t))) ∙ none_else k j rows same parts.1

gone_row : (k : ℕ) (rows : List (ℕ × Volume)) → are_apart (keys_of rows) ≡ true → row_at k (without_row k rows) ≡ None
gone_row k [] h = refl
gone_row k (e ∷ rows) h =
    let parts = and_parts (list_all (λ b. not (e.0 == b)) (keys_of rows)) (are_apart (keys_of rows)) h in
    elim (is_at (nat_cmp k) e.0) as (λ b. is_at (nat_cmp k) e.0 ≡ b → row_at k (cond b rows (e ∷ without_row k rows)) ≡ None) [
      | true ↦ λ on. none_else k e.0 rows (at_is k e.0 on) parts.0
      | false ↦ λ off. ap (λ b. cond b (Some e.1) (row_at k (without_row k rows))) off ∙ gone_row k rows parts.1
    ] refl

row_goes : (file : ℕ) (x : Volume) (v : Inv) → Facts v → row_at file v.stores.volumes ≡ Some x → GoesFrom file v.stores (rows_with v.stores (without_row file v.stores.volumes))
row_goes file x v f found = record {
  changes = record { others = λ q apart. sym (other_row file q x v.stores.volumes (without_row file v.stores.volumes) (row_went file x v.stores.volumes found) apart); kinds = λ pool. refl };
  gone = gone_row file v.stores.volumes (apart_front (keys_of v.stores.volumes) (keys_of v.backups) f.files_apart);
}

pub deleted_goes : (name : List ℕ) (pool file capacity : ℕ) (access : Access) (v : Inv) (t : PoolRows) (o : Option ℕ) → IsLegalOn (change.Pool (store.Volume verb.Delete name pool file capacity access)) v
    → o ≡ named_in (store.Volume verb.Delete name pool file capacity access) v.stores → t ≡ (effect (change.Pool (store.Volume verb.Delete name pool file capacity access)) v).stores → Named (λ at. GoesFrom at v.stores t) o
deleted_goes name pool file capacity access v t o legal is rows =
    let k : PoolChange = store.Volume verb.Delete name pool file capacity access in
    go (volume_named name v.stores) refl (store_legal k v legal) (rows ∙ effect_stores (change.Pool k) v) is
  where
    unheld : (at : ℕ) (n : Option ℕ) → refusal_of (unless_held at v.stores n) ≡ [] → unless_held at v.stores n ≡ Ok (rows_with v.stores (without_row at v.stores.volumes))
    unheld at None h = refl
    unheld at (Some object) h = absurd cc

    go : (n : Option ℕ) → volume_named name v.stores ≡ n → refusal_of (delete_filed v.stores n) ≡ [] → t ≡ or_same v.stores (delete_filed v.stores n) → o ≡ n → Named (λ at. GoesFrom at v.stores t) o
    go None found h made same = absurd cc
    go (Some at) found h made same =
        let row = some_from (row_at at v.stores.volumes) (number_there (λ (e : Volume). is_same_name (volume_name e) name) at v.stores.volumes found) in
        record {
          file = at;
          is = same;
          has = subst (λ (u : PoolRows). GoesFrom at v.stores u) (sym (made ∙ ap (or_same v.stores) (unheld at (object_on (row_at at v.stores.volumes)) h))) (row_goes at row.0 v (facts_of v legal.valid) row.1);
        }

-- ---- a sequential volume is reused

pub record StaysAside (file : ℕ) (s t : PoolRows) : Type 0 where
  pub changes : ChangesAt file s t
  pub before : shape_at s file ≡ None
  pub after : shape_at t file ≡ None

sequential_row : (s : PoolRows) (file today : ℕ) (o : Option Volume) → refusal_of (reuse_row s file today o) ≡ [] → (x : Volume) × (o ≡ Some x) × (is_sequential_at file s ≡ true)
sequential_row s file today None h = absurd cc
sequential_row s file today (Some x) h =
    let t = unless_so (not (is_sequential_at file s) || x.end == 0) NotFound (reuse_unless_used file (delay_of (row_at x.pool s.pools)) today x (least_object x.segments)) h in
    (x, refl, not-false (is_sequential_at file s) (or_parts (not (is_sequential_at file s)) (x.end == 0) t.0).0)

none_kept : (file : ℕ) (s : PoolRows) (y : Volume) → row_at file s.volumes ≡ Some y → is_sequential y.pool s ≡ true → shape_at s file ≡ None
none_kept file s y there kind = ap (shape_of_row s) there ∙ ap (λ (b : Bool). shape_by b y) kind

reused_row : (v : Inv) (file : ℕ) (x : Volume) → Facts v → row_at file v.stores.volumes ≡ Some x → is_sequential x.pool v.stores ≡ true → (b : Bool)
    → StaysAside file v.stores (rows_with v.stores (if b then without_row file v.stores.volumes else edit_row file reset v.stores.volumes))
reused_row v file x f found sequential true =
    let goes = row_goes file x v f found in
    record { changes = goes.changes; before = none_kept file v.stores x found sequential; after = ap (shape_of_row (rows_with v.stores (without_row file v.stores.volumes))) goes.gone }
reused_row v file x f found sequential false =
    let changes = row_changes v.stores file reset x found in
    record { changes = changes.0; before = none_kept file v.stores x found sequential; after = none_kept file (rows_with v.stores (edit_row file reset v.stores.volumes)) (reset x) changes.1 sequential }

pub reused_stays : (file : ℕ) (v : Inv) (t : PoolRows) → IsLegalOn (change.Reuse file) v → t ≡ (effect (change.Reuse file) v).stores → StaysAside file v.stores t
reused_stays file v t legal rows =
    let row = sequential_row v.stores file v.today (row_at file v.stores.volumes) (legal_causes no_journal (change.Reuse file) v legal.allowed) in
    subst (λ (u : PoolRows). StaysAside file v.stores u) (sym (rows ∙ effect_stores (change.Reuse file) v))
    (reused_row v file row.0 (facts_of v legal.valid) row.1 (ap (is_sequential_row v.stores) (sym row.1) ∙ row.2) (is_scratch_row (row_at file v.stores.volumes)))
