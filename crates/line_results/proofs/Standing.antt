-- No transaction puts the database's pools out of their order.
use Rattle.std.proofs.Common.{◌≡◌, ℕ, ◌<◌, ◌≤◌, ◌==◌, ◌&&◌, is_some, nat_lt, cond, if◌then◌else◌, Bool, true, false, List, [], ◌∷◌, Option, None, Some, Result, Ok, Err, refl, sym, ap, subst, ◌∙◌, arith}
use Rattle.std.proofs.lemmas.Bool.{eq-eqb, false≢true, ltb-false, ltb-true}
use Rattle.std.proofs.lemmas.Map.{keys-set_value}
use Rattle.std.specs.BTreeMap.{insert_entry, is_at}
use Rattle.std.specs.List.{AllByRecursion}
use Rattle.std.specs.List.Sorted.{IsStrictlySortedBy}
use Rattle.std.specs.Map.{keys_of}
use Rattle.std.specs.Cmp.Lexicographic.{slice_cmp}
use Rattle.std.specs.Ordering.{match_ordering, nat_cmp}
use Rattle.std.specs.declared.cmp.Ordering.TheVariants.{Less, Equal, Greater}
use Rattle.kinds.specs.declared.change.DefineOrDelete.{DefineOrDelete}
use Rattle.kinds.specs.declared.change.DefineOrDelete.TheVariants as two
use Rattle.kinds.specs.declared.change.PoolChange.{PoolChange}
use Rattle.kinds.specs.declared.change.PoolChange.TheVariants as store
use Rattle.kinds.specs.declared.change.Verb.{Verb}
use Rattle.kinds.specs.declared.change.Verb.TheVariants as verb
use Rattle.kinds.specs.declared.pool.Access.{Access}
use Rattle.kinds.specs.declared.pool.PoolKind.{PoolKind}
use Rattle.kinds.specs.declared.pool.PoolRule.{PoolRule}
use Rattle.kinds.specs.declared.refusal.Refusal.{Refusal}
use Rattle.kinds.specs.declared.refusal.Refusal.TheVariants as refused
use Rattle.entries.specs.declared.change.Change.{Change}
use Rattle.entries.specs.declared.change.Change.TheVariants as change
use Rattle.inventory_rows.specs.pool_rows.ClassChanges.{change_class, class_gone, pool_of_class}
use Rattle.inventory_rows.specs.pool_rows.Changed.{changed}
use Rattle.inventory_rows.specs.pool_rows.Changes.{change_pool, change_volume, delete_filed, delete_numbered, is_bad_row, is_next_there, new_pool, new_volume, object_on, pool_before, unless_before, unless_filled, unless_held, update_filed, update_numbered, volume_of_pool}
use Rattle.inventory_rows.specs.pool_rows.Hierarchy.{is_bad_hierarchy}
use Rattle.inventory_rows.specs.pool_rows.PoolRows.{PoolRows, class_capacity, pool_named, volume_named}
use Rattle.inventory_rows.specs.pool_tables.RowChanges.{with_settings}
use Rattle.inventory_rows.specs.pool_tables.Rows.{edit_row, edited, named, row_at, with_row, without_row}
use Rattle.inventory_rows.specs.pool_tables.declared.pool.Pool.{Pool}
use Rattle.inventory_rows.specs.State.{Inv}
use Rattle.inventory_rules.specs.Common.{or_same}
use Rattle.inventory_rules.specs.Transactions.{effect}
use Rattle.inventory_rules.proofs.Touched.{effect-clients, effect-data}
use Rattle.line_results.specs.Migrating.{StandByNumber}

-- ---- numbers

less-is : (x y : ℕ) → nat_cmp x y ≡ Less → x < y
less-is x y h = go (nat_lt x y) (x == y) refl h where
  go : (b c : Bool) → nat_lt x y ≡ b → cond b Less (cond c Equal Greater) ≡ Less → x < y
  go true c is k = ltb-true x y is
  go false true is k = absurd (let odd : Equal ≡ Less = k in cc)
  go false false is k = absurd (let odd : Greater ≡ Less = k in cc)

is-less : (x y : ℕ) → x < y → nat_cmp x y ≡ Less
is-less x y l = go (nat_lt x y) refl where
  go : (b : Bool) → nat_lt x y ≡ b → cond b Less (cond (x == y) Equal Greater) ≡ Less
  go true is = refl
  go false is = absurd (let least : y ≤ x = ltb-false x y is in omega (arith, least, l))

greater-is : (x y : ℕ) → nat_cmp x y ≡ Greater → y < x
greater-is x y h = go (nat_lt x y) (x == y) refl refl h where
  same : (x == y) ≡ false → x ≡ y → ⊥
  same other is = false≢true (sym other ∙ eq-eqb x y is)

  more : nat_lt x y ≡ false → (x ≡ y → ⊥) → (b : Bool) → nat_lt y x ≡ b → y < x
  more least apart true is = ltb-true y x is
  more least apart false is = absurd (apart (let a : y ≤ x = ltb-false x y least in let b : x ≤ y = ltb-false y x is in omega (arith, a, b)))

  go : (b c : Bool) → nat_lt x y ≡ b → (x == y) ≡ c → cond b Less (cond c Equal Greater) ≡ Greater → y < x
  go true c is other k = absurd (let odd : Less ≡ Greater = k in cc)
  go false true is other k = absurd (let odd : Equal ≡ Greater = k in cc)
  go false false is other k = more is (same other) (nat_lt y x) refl

-- ---- rows in ascending order

abbrev Rows : Type 0
Rows = List (ℕ × Pool)

abbrev Ascend : Rows → Type 0
Ascend es = IsStrictlySortedBy nat_cmp (keys_of es)

abbrev Above : ℕ → Rows → Type 0
Above k es = AllByRecursion (λ y. nat_cmp k y ≡ Less) (keys_of es)

above-less : (a b : ℕ) (es : Rows) → a < b → Above b es → Above a es
above-less a b [] l h = tt
above-less a b (e ∷ es) l h = ((let m : b < e.0 = less-is b e.0 h.0 in is-less a e.0 (omega (arith, l, m))), above-less a b es l h.1)

above-with : (a k : ℕ) (p : Pool) (es : Rows) → nat_cmp a k ≡ Less → Above a es → Above a (with_row k p es)
above-with a k p [] l h = (l, tt)
above-with a k p (e ∷ es) l h =
    elim (nat_cmp k e.0) as (λ o. Above a (match_ordering o ((k, p) ∷ e ∷ es) ((e.0, p) ∷ es) (e ∷ with_row k p es))) [
      | Less ↦ (l, h)
      | Equal ↦ h
      | Greater ↦ (h.0, above-with a k p es l h.1)
    ]

ascend-with : (k : ℕ) (p : Pool) (es : Rows) → Ascend es → Ascend (with_row k p es)
unfolding IsStrictlySortedBy
ascend-with k p [] h = (tt, tt)
ascend-with k p (e ∷ es) h =
    elim (nat_cmp k e.0) as (λ o. nat_cmp k e.0 ≡ o → Ascend (match_ordering o ((k, p) ∷ e ∷ es) ((e.0, p) ∷ es) (e ∷ with_row k p es))) [
      | Less ↦ λ is. ((is, above-less k e.0 es (less-is k e.0 is) h.0), h)
      | Equal ↦ λ is. h
      | Greater ↦ λ is. (above-with e.0 k p es (is-less e.0 k (greater-is k e.0 is)) h.0, ascend-with k p es h.1)
    ] refl

above-without : (a k : ℕ) (es : Rows) → Above a es → Above a (without_row k es)
above-without a k [] h = tt
above-without a k (e ∷ es) h = elim (is_at (nat_cmp k) e.0) as (λ b. Above a (cond b es (e ∷ without_row k es))) [
  | true ↦ h.1
  | false ↦ (h.0, above-without a k es h.1)
]

ascend-without : (k : ℕ) (es : Rows) → Ascend es → Ascend (without_row k es)
unfolding IsStrictlySortedBy
ascend-without k [] h = tt
ascend-without k (e ∷ es) h = elim (is_at (nat_cmp k) e.0) as (λ b. Ascend (cond b es (e ∷ without_row k es))) [
  | true ↦ h.1
  | false ↦ (above-without e.0 k es h.0, ascend-without k es h.1)
]

ascend-edit : (k : ℕ) (edit : Pool → Pool) (es : Rows) → Ascend es → Ascend (edit_row k edit es)
ascend-edit k edit es h = go (row_at k es) where
  go : (o : Option Pool) → Ascend (edited k edit es o)
  go None = h
  go (Some p) = subst (IsStrictlySortedBy nat_cmp) (sym (keys-set_value (is_at (nat_cmp k)) es (edit p))) h

-- ---- one change of classes, pools or volumes

-- where it is made its pools are in their order
abbrev Keeps : Result PoolRows Refusal → Type 0
Keeps (Ok s) = Ascend s.pools
Keeps (Err e) = Unit {0}

keeps-if : (b : Bool) (x y : Result PoolRows Refusal) → Keeps x → Keeps y → Keeps (if b then x else y)
keeps-if true x y h k = h
keeps-if false x y h k = k

keeps-same : (s : PoolRows) (r : Result PoolRows Refusal) → Ascend s.pools → Keeps r → Ascend (or_same s r).pools
keeps-same s (Ok t) h k = k
keeps-same s (Err e) h k = h

module _ (s : PoolRows) (h : Ascend s.pools) where
  gone-class : (class : List ℕ) (o : Option ℕ) → Keeps (class_gone class s o)
  gone-class class None = h
  gone-class class (Some p) = tt

  gone-before : (k : ℕ) (o : Option ℕ) → Keeps (unless_before k s o)
  gone-before k None = ascend-without k s.pools h
  gone-before k (Some p) = tt

  gone-filled : (k : ℕ) (o : Option ℕ) → Keeps (unless_filled k s o)
  gone-filled k None = gone-before k (pool_before k s)
  gone-filled k (Some p) = tt

  gone-pool : (o : Option ℕ) → Keeps (delete_numbered s o)
  gone-pool None = tt
  gone-pool (Some k) = gone-filled k (volume_of_pool k s)

  gone-held : (file : ℕ) (o : Option ℕ) → Keeps (unless_held file s o)
  gone-held file None = h
  gone-held file (Some p) = tt

  gone-volume : (o : Option ℕ) → Keeps (delete_filed s o)
  gone-volume None = tt
  gone-volume (Some file) = gone-held file (object_on (row_at file s.volumes))

  new-access : (access : Access) (o : Option ℕ) → Keeps (update_filed access s o)
  new-access access None = tt
  new-access access (Some file) = h

  keeps-class : (define : DefineOrDelete) (class : List ℕ) (capacity : ℕ) → Keeps (change_class define class capacity s)
  keeps-class two.Define class capacity =
      keeps-if (is_some (named class s.classes)) (Err refused.Exists) (Ok (record s { classes = insert_entry (slice_cmp nat_cmp) s.classes class (Some capacity) })) tt h
  keeps-class two.Delete class capacity = keeps-if (is_some (class_capacity class s)) (class_gone class s (pool_of_class class s)) (Err refused.NotFound) (gone-class class (pool_of_class class s)) tt

  new-settings : (rule : PoolRule) (o : Option ℕ) → Keeps (update_numbered rule s o)
  new-settings rule None = tt
  new-settings rule (Some k) =
      keeps-if (is_bad_row k rule.next s (row_at k s.pools)) (Err refused.BadHierarchy) (Ok (record s { pools = edit_row k (with_settings rule) s.pools })) tt (ascend-edit k (with_settings rule) s.pools h)

  keeps-pool : (number : ℕ) (name class : List ℕ) (kind : PoolKind) (rule : PoolRule) (what : Verb) → Keeps (change_pool what number name class kind rule s)
  keeps-pool number name class kind rule verb.Define =
      let new : PoolRows = record s { pools = with_row number (new_pool name class kind rule) s.pools } in
      let last : Result PoolRows Refusal = (if is_bad_hierarchy number class kind rule.next s then Err refused.BadHierarchy else Ok new) in
      let next : Result PoolRows Refusal = (if is_some (pool_named name s) then Err refused.Exists else last) in
      keeps-if (is_some (named class s.classes) && is_next_there rule.next s) next (Err refused.NotFound)
      (keeps-if (is_some (pool_named name s)) (Err refused.Exists) last tt
      (keeps-if (is_bad_hierarchy number class kind rule.next s) (Err refused.BadHierarchy) (Ok new) tt (ascend-with number (new_pool name class kind rule) s.pools h))) tt
  keeps-pool number name class kind rule verb.Update = keeps-if (is_next_there rule.next s) (update_numbered rule s (pool_named name s)) (Err refused.NotFound) (new-settings rule (pool_named name s)) tt
  keeps-pool number name class kind rule verb.Delete = gone-pool (pool_named name s)

  keeps-volume : (name : List ℕ) (pool file capacity : ℕ) (access : Access) (what : Verb) → Keeps (change_volume what name pool file capacity access s)
  keeps-volume name pool file capacity access verb.Define =
      let new : PoolRows = record s { volumes = with_row file (new_volume name pool capacity access) s.volumes } in
      keeps-if (is_some (row_at pool s.pools)) (if is_some (volume_named name s) then Err refused.Exists else Ok new) (Err refused.NotFound)
      (keeps-if (is_some (volume_named name s)) (Err refused.Exists) (Ok new) tt h) tt
  keeps-volume name pool file capacity access verb.Update = new-access access (volume_named name s)
  keeps-volume name pool file capacity access verb.Delete = gone-volume (volume_named name s)

  keeps : (c : PoolChange) (number : ℕ) → Keeps (changed c number s)
  keeps (store.DevClass what class capacity) number = keeps-class what class capacity
  keeps (store.Pool what name class kind rule) number = keeps-pool number name class kind rule what
  keeps (store.Volume what name pool file capacity access) number = keeps-volume name pool file capacity access what

-- ---- transactions

stands-stores : (c : PoolChange) (v : Inv) → StandByNumber v → StandByNumber (effect (change.Pool c) v)
unfolding effect
stands-stores (store.DevClass v1 class capacity) v h = keeps-same v.stores (changed (store.DevClass v1 class capacity) v.next_pool v.stores) h (keeps v.stores h (store.DevClass v1 class capacity) v.next_pool)
stands-stores (store.Pool verb.Define name class kind rule) v h = keeps-same v.stores (changed (store.Pool verb.Define name class kind rule) v.next_pool v.stores) h (keeps v.stores h (store.Pool verb.Define name class kind rule) v.next_pool)
stands-stores (store.Pool verb.Update name class kind rule) v h = keeps-same v.stores (changed (store.Pool verb.Update name class kind rule) v.next_pool v.stores) h (keeps v.stores h (store.Pool verb.Update name class kind rule) v.next_pool)
stands-stores (store.Pool verb.Delete name class kind rule) v h = keeps-same v.stores (changed (store.Pool verb.Delete name class kind rule) v.next_pool v.stores) h (keeps v.stores h (store.Pool verb.Delete name class kind rule) v.next_pool)
stands-stores (store.Volume verb.Define name pool file capacity access) v h =
    keeps-same v.stores (changed (store.Volume verb.Define name pool file capacity access) v.next_pool v.stores) h (keeps v.stores h (store.Volume verb.Define name pool file capacity access) v.next_pool)
stands-stores (store.Volume verb.Update name pool file capacity access) v h =
    keeps-same v.stores (changed (store.Volume verb.Update name pool file capacity access) v.next_pool v.stores) h (keeps v.stores h (store.Volume verb.Update name pool file capacity access) v.next_pool)
stands-stores (store.Volume verb.Delete name pool file capacity access) v h =
    keeps-same v.stores (changed (store.Volume verb.Delete name pool file capacity access) v.next_pool v.stores) h (keeps v.stores h (store.Volume verb.Delete name pool file capacity access) v.next_pool)

stands-as : (v w : Inv) → w.stores.pools ≡ v.stores.pools → StandByNumber v → StandByNumber w
stands-as v w same h = subst Ascend (sym same) h

pub stands-one : (c : Change) (v : Inv) → StandByNumber v → StandByNumber (effect c v)
unfolding effect
stands-one (change.Day day) v h = h
stands-one (change.Policy c) v h = h
stands-one (change.Object c) v h = stands-as v (effect (change.Object c) v) (ap (λ (x : Inv). x.stores.pools) (effect-clients c v)) h
stands-one (change.Pool c) v h = stands-stores c v h
stands-one (change.Backup c) v h = stands-as v (effect (change.Backup c) v) (effect-data (change.Backup c) v refl).pools h
stands-one (change.Hold c) v h = stands-as v (effect (change.Hold c) v) (effect-data (change.Hold c) v refl).pools h
stands-one (change.Rebind c) v h = stands-as v (effect (change.Rebind c) v) (effect-data (change.Rebind c) v refl).pools h
stands-one (change.Gone c) v h = stands-as v (effect (change.Gone c) v) (effect-data (change.Gone c) v refl).pools h
stands-one (change.Move c) v h = stands-as v (effect (change.Move c) v) (effect-data (change.Move c) v refl).pools h
stands-one (change.Copy c) v h = stands-as v (effect (change.Copy c) v) (effect-data (change.Copy c) v refl).pools h
stands-one (change.DropCopies c) v h = stands-as v (effect (change.DropCopies c) v) (effect-data (change.DropCopies c) v refl).pools h
stands-one (change.Expire c) v h = stands-as v (effect (change.Expire c) v) (effect-data (change.Expire c) v refl).pools h
stands-one (change.Discard c) v h = stands-as v (effect (change.Discard c) v) (effect-data (change.Discard c) v refl).pools h
stands-one (change.Reuse file) v h = h
stands-one (change.DbBegin file after) v h = h
stands-one (change.DbEnd file) v h = h
stands-one (change.DbDelete file) v h = h
