-- Where volumes end, and which numbers are drawn next, over a transaction; and which pools are sequential.
use Rattle.std.proofs.Common.{◌≡◌, ℕ, ◌+◌, ◌≤◌, max, eqb, Bool, true, false, cond, not, ◌&&◌, List, [], ◌∷◌, ◌++◌, map, Option, None, Some, Result, Ok, Err, IfOk, is_some, is_none, refl, sym, ap, subst, ◌∙◌, arith}
use Rattle.std.specs.Prelude.{◌==◌, nat_le}
use Rattle.std.specs.List.{AllByRecursion, list_all}
use Rattle.std.specs.BTreeMap.{insert_entry, is_at}
use Rattle.std.specs.Cmp.Lexicographic.{slice_cmp}
use Rattle.std.specs.Map.{keys_of, remove_entry}
use Rattle.std.specs.Option.{option_map_or}
use Rattle.std.specs.Ordering.{nat_cmp}
use Rattle.std.proofs.lemmas.Bool.{and_parts, eqb-false, eqb-true, leb-true, not-true}
use Rattle.std.proofs.lemmas.Option.{same_Some}
use Rattle.kinds.specs.Refusals.{refusal_of, bad_value}
use Rattle.kinds.specs.declared.change.DefineOrDelete.{DefineOrDelete}
use Rattle.kinds.specs.declared.change.DefineOrDelete.TheVariants as two
use Rattle.kinds.specs.declared.change.ObjectChange.{ObjectChange}
use Rattle.kinds.specs.declared.change.ObjectChange.TheVariants as client
use Rattle.kinds.specs.declared.change.PoolChange.{PoolChange}
use Rattle.kinds.specs.declared.change.PoolChange.TheVariants as store
use Rattle.kinds.specs.declared.change.Verb.{Verb}
use Rattle.kinds.specs.declared.change.Verb.TheVariants as verb
use Rattle.kinds.specs.declared.pool.Access.{Access}
use Rattle.kinds.specs.declared.pool.PoolKind.{PoolKind}
use Rattle.kinds.specs.declared.pool.PoolRule.{PoolRule}
use Rattle.kinds.specs.declared.refusal.Refusal.{Refusal}
use Rattle.kinds.specs.declared.refusal.Refusal.TheVariants as refusal
use Rattle.kinds.specs.declared.segment.Segment.{Segment}
use Rattle.inventory_rules.specs.entries.change_items.declared.items.DiscardedVersion.{DiscardedVersion}
use Rattle.inventory_rules.specs.entries.change_items.declared.items.NamedVersion.{NamedVersion}
use Rattle.inventory_rules.specs.entries.change_items.declared.items.NewHeldObject.{NewHeldObject}
use Rattle.inventory_rules.specs.entries.change_items.declared.items.NewVersion.{NewVersion}
use Rattle.inventory_rules.specs.entries.change_items.declared.items.ScratchVolume.{ScratchVolume}
use Rattle.inventory_rules.specs.entries.declared.change.Change.{Change}
use Rattle.inventory_rules.specs.entries.declared.change.Change.TheVariants as change
use Rattle.inventory_rules.specs.inventory_rows.version_groups.Entries.{all_later}
use Rattle.inventory_rules.specs.inventory_rows.version_groups.declared.copies.CopyRow.{CopyRow}
use Rattle.inventory_rules.specs.inventory_rows.volume_rows.Held.{held_of}
use Rattle.inventory_rules.specs.inventory_rows.volume_rows.Holdings.{is_held}
use Rattle.inventory_rules.specs.inventory_rows.volume_rows.Volumes.{put_on, reset, take_from}
use Rattle.inventory_rules.specs.inventory_rows.volume_rows.declared.held.HeldSegment.{HeldSegment}
use Rattle.inventory_rules.specs.inventory_rows.volume_rows.declared.volume.Volume.{Volume}
use Rattle.inventory_rules.specs.inventory_rows.pool_tables.declared.pool.Pool.{Pool}
use Rattle.inventory_rules.specs.inventory_rows.pool_tables.RowChanges as row
use Rattle.inventory_rules.specs.inventory_rows.pool_tables.RowChanges.{is_scratch_row, reuse_volume, scratch_volume, with_access, with_settings}
use Rattle.inventory_rules.specs.inventory_rows.pool_tables.Rows.{change_row, changed as row_changed, edit_row, edited, named, row_at, row_set, set_row, with_row, without_row}
use Rattle.inventory_rules.proofs.of_inventory_rows.of_pool_tables.Counting.{apart_at, at_is, each_there}
use Rattle.inventory_rules.specs.inventory_rows.pool_rows.Changed as stores
use Rattle.inventory_rules.specs.inventory_rows.pool_rows.Changes.{change_pool, change_volume, define_volume, delete_filed, delete_numbered, is_bad_row, is_next_there, new_pool, new_volume, object_on, pool_before, unless_before, unless_filled, unless_held, update_filed, update_numbered, volume_of_pool}
use Rattle.inventory_rules.specs.inventory_rows.pool_rows.ClassChanges.{change_class, class_gone, pool_of_class}
use Rattle.inventory_rules.specs.inventory_rows.pool_rows.Hierarchy.{is_bad_hierarchy}
use Rattle.inventory_rules.specs.inventory_rows.pool_rows.PoolRows.{PoolRows, capacity_there, class_capacity, is_sequential, is_sequential_at, pool_capacity, pool_class_capacity, pool_named, volume_named}
use Rattle.inventory_rules.specs.inventory_rows.pool_rows.Segments.{put_segment, take_segment, with_volumes}
use Rattle.inventory_rules.specs.inventory_rows.Search.{is_primary_kind, pool, segments_on}
use Rattle.inventory_rules.specs.inventory_rows.State.{Inv}
use Rattle.inventory_rules.specs.Clients.{client_changed}
use Rattle.inventory_rules.specs.Common.{each, file_bound, files_refused, is_free_file, or_same, with_stores}
use Rattle.inventory_rules.specs.Copies.{add_copy, added, change_copy, copy_list_refused, drop_copy, move_copy, move_refused, put_moved, segments_in, version_at}
use Rattle.inventory_rules.specs.Facts.{Facts}
use Rattle.inventory_rules.specs.Journal.{Journal}
use Rattle.inventory_rules.specs.Segments.{make_scratch, put, scratch_refused, take_all, take_away}
use Rattle.inventory_rules.specs.Stores.{store_changed}
use Rattle.inventory_rules.specs.Transactions.{OnlyData, causes, changed, effect}
use Rattle.inventory_rules.specs.Valid.{are_apart, are_disjoint, is_emptied_rightly, is_placed, is_sized, is_valid, is_volume, may_have}
use Rattle.inventory_rules.specs.Versions.{back_up, copies_at, discard, expire, held_too, hold, inserted, mark_gone, new_refused, objects_refused, rebind}
use Rattle.inventory_rules.proofs.Touched.{effect-data}
use Rattle.inventory_laws.specs.Rising.{DrawsOn, EndsLater, is_reuse}
use Rattle.inventory_laws.proofs.Causes.{back_nil, front_nil, holds}
use Rattle.inventory_laws.proofs.Changing.{apart_front}
use Rattle.inventory_laws.proofs.Classes.{alike, defined_stays, deleted_stays}
use Rattle.inventory_laws.proofs.Facts.{facts_of}
use Rattle.inventory_laws.proofs.Gone.{lookup-beside_removed, lookup-beside_set}
use Rattle.inventory_laws.proofs.Lists.{all_of, each_also, each_mapped}
use Rattle.inventory_laws.proofs.Pools.{alike_row, undrawn}
use Rattle.inventory_laws.proofs.Said.{if_either, kept_or}
use Rattle.inventory_laws.proofs.Stays.{no_volumes, row_at-inserted_other}
use Rattle.inventory_laws.proofs.Stored.{Alike, same_capacity}
use Rattle.inventory_laws.proofs.StoreRows.{found_apart, none_where, other_row, row_came, seen_same}
use Rattle.inventory_laws.proofs.VolumeFacts.{capacity_kept}

-- ---- rows

-- another row than the one that goes, comes or changes
beside_at : (k file : ℕ) → (k ≡ file → ⊥) → (q : ℕ) → is_at (nat_cmp k) q ≡ true → is_at (nat_cmp file) q ≡ false
beside_at k file ne q here = apart_at file q (λ e. ne (at_is k q here ∙ sym e))

row_without : {V : Type 0} (k file : ℕ) (rows : List (ℕ × V)) → (k ≡ file → ⊥) → row_at file (without_row k rows) ≡ row_at file rows
row_without k file rows ne = lookup-beside_removed (is_at (nat_cmp k)) (is_at (nat_cmp file)) (beside_at k file ne) rows

row_beside_set : {V : Type 0} (k file : ℕ) (x : V) (rows : List (ℕ × V)) → (k ≡ file → ⊥) → row_at file (set_row k x rows) ≡ row_at file rows
row_beside_set k file x rows ne = lookup-beside_set (is_at (nat_cmp k)) (is_at (nat_cmp file)) (beside_at k file ne) x rows

-- the row that goes is no longer found where no two have one number
no_key : {V : Type 0} (k : ℕ) (rows : List (ℕ × V)) → list_all (λ y. not (k == y)) (keys_of rows) ≡ true → row_at k rows ≡ None
no_key k [] h = refl
no_key {V} k (e ∷ rows) h =
    let t = and_parts (not (k == e.0)) (list_all (λ y. not (k == y)) (keys_of rows)) h in
    ap (λ b. cond b (Some e.1) (row_at k rows)) (apart_at k e.0 (eqb-false k e.0 (not-true (k == e.0) t.0))) ∙ no_key k rows t.1

pub row_gone : {V : Type 0} (k : ℕ) (rows : List (ℕ × V)) → are_apart (keys_of rows) ≡ true → row_at k (without_row k rows) ≡ None
row_gone k [] h = refl
row_gone {V} k (e ∷ rows) h =
    let t = and_parts (list_all (λ y. not (e.0 == y)) (keys_of rows)) (are_apart (keys_of rows)) h in
    elim (is_at (nat_cmp k) e.0) as (λ b. is_at (nat_cmp k) e.0 ≡ b → row_at k (cond b rows (e ∷ without_row k rows)) ≡ None) [
      | true ↦ λ is. no_key k rows (subst (λ (n : ℕ). list_all (λ y. not (n == y)) (keys_of rows) ≡ true) (sym (at_is k e.0 is)) t.0)
      | false ↦ λ isnt. ap (λ b. cond b (Some e.1) (row_at k (without_row k rows))) isnt ∙ row_gone k rows t.1
    ] refl

-- ---- what holds of a volume still

-- what a property has to stand: that a segment comes on a volume, that one goes from it on this day, and that its access is another
pub record Stands (today : ℕ) (P : Volume → Type 0) : Type 0 where
  pub comes : (b : Bool) (s : HeldSegment) (x : Volume) → P x → P (put_on b s x)
  pub goes : (b : Bool) (s : HeldSegment) (x : Volume) → P x → P (take_from b s today x)
  pub changes : (access : Access) (x : Volume) → P x → P (with_access access x)

module _ (file : ℕ) (today : ℕ) (P : Volume → Type 0) (stands : Stands today P) where
  -- the row is there, and has the property
  abbrev pub Still : Option Volume → Type 0
  Still None = ⊥
  Still (Some b) = P b

  abbrev At : List (ℕ × Volume) → Type 0
  At rows = Still (row_at file rows)

  at_set : (k : ℕ) (x new : Volume) (rows : List (ℕ × Volume)) → row_at k rows ≡ Some x → (P x → P new) → At rows → At (set_row k new rows)
  at_set k x new [] there up h = absurd h
  at_set k x new (e ∷ rows) there up h =
      elim (is_at (nat_cmp k) e.0) as (λ b. cond b (Some e.1) (row_at k rows) ≡ Some x → At (cond b ((e.0, new) ∷ rows) (e ∷ set_row k new rows))) [
        | true ↦ λ s. here (is_at (nat_cmp file) e.0) (same_Some e.1 x s) h
        | false ↦ λ s. further (is_at (nat_cmp file) e.0) (at_set k x new rows s up) h
      ] there
    where
      here : (b : Bool) → e.1 ≡ x → Still (cond b (Some e.1) (row_at file rows)) → Still (cond b (Some new) (row_at file rows))
      here true is h = up (subst P is h)
      here false is h = h

      further : (b : Bool) → (At rows → At (set_row k new rows)) → Still (cond b (Some e.1) (row_at file rows)) → Still (cond b (Some e.1) (row_at file (set_row k new rows)))
      further true step h = h
      further false step h = step h

  at_changed : (k : ℕ) (change : Volume → Result Volume Refusal) (rows : List (ℕ × Volume)) → ((x : Volume) → IfOk (change x) (λ y. P x → P y)) → At rows → IfOk
      (change_row k change rows) At
  at_changed k change rows step h = go (row_at k rows) refl where
    made : (x : Volume) (r : Result Volume Refusal) → row_at k rows ≡ Some x → IfOk r (λ y. P x → P y) → IfOk (row_set k rows r) At
    made x (Ok y) there up = at_set k x y rows there up h
    made x (Err e) there up = tt

    go : (o : Option Volume) → row_at k rows ≡ o → IfOk (row_changed k change rows o) At
    go None there = tt
    go (Some x) there = made x (change x) there (step x)

  in_stores : (s : PoolRows) (r : Result (List (ℕ × Volume)) Refusal) → At s.volumes → IfOk r At → At (or_same s (with_volumes s r)).volumes
  in_stores s (Ok rows) was h = h
  in_stores s (Err e) was h = was

  -- ---- the steps

  abbrev pub Is : Inv → Type 0
  Is v = At v.stores.volumes × (v.today ≡ today)

  put_is : (object : ℕ) (segments : List Segment) (v : Inv) → Is v → Is (put object segments v)
  put_is object [] v h = h
  put_is object (s ∷ segments) v h =
      let b = is_sequential_at s.file v.stores in
      let change : Volume → Result Volume Refusal = row.put b (held_of object s) in
      put_is object segments (with_stores (or_same v.stores (put_segment object s v.stores)) v)
      (in_stores v.stores (change_row s.file change v.stores.volumes) h.0 (at_changed s.file change v.stores.volumes (λ x is. stands.comes b (held_of object s) x is) h.0), h.1)

  taken_is : (object : ℕ) (segments : List Segment) (v : Inv) → Is v → Is (take_away object segments v)
  taken_is object [] v h = h
  taken_is object (s ∷ segments) v h =
      let b = is_sequential_at s.file v.stores in
      let change : Volume → Result Volume Refusal = row.take b (held_of object s) v.today in
      taken_is object segments (with_stores (or_same v.stores (take_segment object s v.today v.stores)) v) (
        in_stores v.stores (change_row s.file change v.stores.volumes) h.0
            (at_changed s.file change v.stores.volumes (λ x. if_either (λ y. P x → P y) (is_held (held_of object s) x.segments) (Ok (take_from b (held_of object s) v.today x))
            (Err refusal.NotFound)
            (λ held is. subst (λ (d : ℕ). P (take_from b (held_of object s) d x)) (sym h.1) (stands.goes b (held_of object s) x is)) (λ isnt. tt)) h.0),
        h.1,
      )

  all_taken_is : (object : ℕ) (copies : List CopyRow) (v : Inv) → Is v → Is (take_all object copies v)
  all_taken_is object [] v h = h
  all_taken_is object (c ∷ copies) v h = all_taken_is object copies (take_away object c.segments v) (taken_is object c.segments v h)

  -- a number under which no row stands is another
  free_apart : (k : ℕ) (rows : List (ℕ × Volume)) → is_none (row_at k rows) ≡ true → At rows → k ≡ file → ⊥
  free_apart k rows none h same = go (row_at file rows) h (subst (λ (n : ℕ). is_none (row_at n rows) ≡ true) same none) where
    go : (o : Option Volume) → Still o → is_none o ≡ true → ⊥
    go None h none = h
    go (Some x) h none = absurd cc

  with_is : (k : ℕ) (x : Volume) (rows : List (ℕ × Volume)) → (k ≡ file → ⊥) → At rows → At (with_row k x rows)
  with_is k x rows ne h = subst Still (sym (row_at-inserted_other k file x rows ne)) h

  scratch_is : (scratch : List ScratchVolume) (v : Inv) → AllByRecursion (λ (s : ScratchVolume). s.file ≡ file → ⊥) scratch → Is v → Is (each make_scratch scratch v)
  scratch_is [] v apart h = h
  scratch_is (s ∷ scratch) v apart h = scratch_is scratch (make_scratch s v) apart.1
      (with_is s.file (scratch_volume s.pool s.file (option_map_or (λ c. c) (pool_capacity s.pool v.stores) 0)) v.stores.volumes apart.0 h.0, h.1)

  all_free : (v : Inv) (files : List ℕ) → files_refused files v ≡ [] → AllByRecursion (λ k. is_none (row_at k v.stores.volumes) ≡ true) files
  all_free v files h =
      let t = and_parts (list_all (is_free_file v) files) (all_later (λ a b. not (a == b)) files) (holds (list_all (is_free_file v) files && all_later (λ a b. not (a == b)) files) bad_value h) in
      all_of (λ k. is_none (row_at k v.stores.volumes)) files (no_volumes files v t.0)

  scratches_is : (scratch : List ScratchVolume) (v : Inv) → scratch_refused scratch v ≡ [] → Is v → Is (each make_scratch scratch v)
  scratches_is scratch v h is =
      let free = all_free v (map (λ (s : ScratchVolume). s.file) scratch) (front_nil (files_refused (map (λ (s : ScratchVolume). s.file) scratch) v) _ h) in
      scratch_is scratch v
      (each_also (λ (s : ScratchVolume). is_none (row_at s.file v.stores.volumes) ≡ true) (λ (s : ScratchVolume). s.file ≡ file → ⊥) scratch (λ s none. free_apart s.file v.stores.volumes none is.0)
      (each_mapped (λ k. is_none (row_at k v.stores.volumes) ≡ true) (λ (s : ScratchVolume). s.file) scratch free)) is

  each_is : {X : Type 0} (step : X → Inv → Inv) (xs : List X) → ((x : X) (v : Inv) → Is v → Is (step x v)) → (v : Inv) → Is v → Is (each step xs v)
  each_is step [] one v h = h
  each_is step (x ∷ xs) one v h = each_is step xs one (step x v) (one x v h)

  -- ---- device classes, pools and volumes

  abbrev InStores : PoolRows → Type 0
  InStores s = At s.volumes

  classes_is : (verb : DefineOrDelete) (class : List ℕ) (capacity : ℕ) (s : PoolRows) → InStores s → IfOk (change_class verb class capacity s) InStores
  classes_is two.Define class capacity s h = if_either InStores (is_some (named class s.classes)) (Err refusal.Exists)
      (Ok (record s { classes = insert_entry (slice_cmp nat_cmp) s.classes class (Some capacity) })) (λ is. tt) (λ isnt. h)
  classes_is two.Delete class capacity s h = if_either InStores (is_some (class_capacity class s)) (class_gone class s (pool_of_class class s)) (Err refusal.NotFound)
      (λ is. gone (pool_of_class class s)) (λ isnt. tt) where
        gone : (o : Option ℕ) → IfOk (class_gone class s o) InStores
        gone None = h
        gone (Some n) = tt

  pools_is : (what : Verb) (number : ℕ) (name class : List ℕ) (kind : PoolKind) (rule : PoolRule) (s : PoolRows) → InStores s
      → IfOk (change_pool what number name class kind rule s) InStores
  pools_is verb.Define number name class kind rule s h =
      if_either InStores (is_some (named class s.classes) && is_next_there rule.next s) _ (Err refusal.NotFound) (λ is.
      if_either InStores (is_some (pool_named name s)) (Err refusal.Exists) _ (λ there. tt) (λ free.
      if_either InStores (is_bad_hierarchy number class kind rule.next s) (Err refusal.BadHierarchy) (Ok (record s { pools = with_row number (new_pool name class kind rule) s.pools })) (λ bad. tt)
      (λ good. h))) (λ isnt. tt)
  pools_is verb.Update number name class kind rule s h =
      if_either InStores (is_next_there rule.next s) (update_numbered rule s (pool_named name s)) (Err refusal.NotFound) (λ is. updated (pool_named name s)) (λ isnt. tt)
    where
      updated : (o : Option ℕ) → IfOk (update_numbered rule s o) InStores
      updated None = tt
      updated (Some n) = if_either InStores (is_bad_row n rule.next s (row_at n s.pools)) (Err refusal.BadHierarchy) (Ok (record s { pools = edit_row n (with_settings rule) s.pools })) (λ bad. tt)
          (λ good. h)
  pools_is verb.Delete number name class kind rule s h = deleted (pool_named name s) where
    before : (n : ℕ) (o : Option ℕ) → IfOk (unless_before n s o) InStores
    before n None = h
    before n (Some p) = tt

    filled : (n : ℕ) (o : Option ℕ) → IfOk (unless_filled n s o) InStores
    filled n None = before n (pool_before n s)
    filled n (Some f) = tt

    deleted : (o : Option ℕ) → IfOk (delete_numbered s o) InStores
    deleted None = tt
    deleted (Some n) = filled n (volume_of_pool n s)

  defined_is : (name : List ℕ) (number k capacity : ℕ) (access : Access) (s : PoolRows) → (k ≡ file → ⊥) → InStores s → IfOk (define_volume name number k capacity access s) InStores
  defined_is name number k capacity access s ne h =
      if_either InStores (is_some (row_at number s.pools)) _ (Err refusal.NotFound) (λ is.
      if_either InStores (is_some (volume_named name s)) (Err refusal.Exists) (Ok (record s { volumes = with_row k (new_volume name number capacity access) s.volumes })) (λ there. tt)
      (λ free. with_is k (new_volume name number capacity access) s.volumes ne h))
      (λ isnt. tt)

  updated_is : (access : Access) (s : PoolRows) (o : Option ℕ) → InStores s → IfOk (update_filed access s o) InStores
  updated_is access s None h = tt
  updated_is access s (Some k) h = go (row_at k s.volumes) refl where
    go : (o : Option Volume) → row_at k s.volumes ≡ o → At (edited k (with_access access) s.volumes o)
    go None there = h
    go (Some x) there = at_set k x (with_access access x) s.volumes there (λ is. stands.changes access x is) h

  -- the row has the property, where it is there
  abbrev pub Kept : Option Volume → Type 0
  Kept None = Unit {0}
  Kept (Some b) = P b

  kept_still : (o : Option Volume) → Still o → Kept o
  kept_still None h = absurd h
  kept_still (Some b) h = h

  deleted_kept : (s : PoolRows) (o : Option ℕ) → are_apart (keys_of s.volumes) ≡ true → InStores s → IfOk (delete_filed s o) (λ t. Kept (row_at file t.volumes))
  deleted_kept s None apart h = tt
  deleted_kept s (Some k) apart h = go (object_on (row_at k s.volumes)) where
    left : (b : Bool) → eqb k file ≡ b → Kept (row_at file (without_row k s.volumes))
    left true is = subst Kept (sym (subst (λ (n : ℕ). row_at n (without_row k s.volumes) ≡ None) (eqb-true k file is) (row_gone k s.volumes apart))) tt
    left false isnt = subst Kept (sym (row_without k file s.volumes (eqb-false k file isnt))) (kept_still (row_at file s.volumes) h)

    go : (o : Option ℕ) → IfOk (unless_held k s o) (λ t. Kept (row_at file t.volumes))
    go None = left (eqb k file) refl
    go (Some object) = tt

  reused_is : (k : ℕ) (rows : List (ℕ × Volume)) → (k ≡ file → ⊥) → At rows → At (reuse_volume k rows)
  reused_is k rows ne h = go (is_scratch_row (row_at k rows)) where
    reset_is : (o : Option Volume) → At (edited k reset rows o)
    reset_is None = h
    reset_is (Some x) = subst Still (sym (row_beside_set k file (reset x) rows ne)) h

    go : (b : Bool) → At (cond b (without_row k rows) (edit_row k reset rows))
    go true = subst Still (sym (row_without k file rows ne)) h
    go false = reset_is (row_at k rows)

  -- ---- every transaction

  clients_is : (c : ObjectChange) (v : Inv) → Is v → Is (client_changed c v)
  clients_is (client.Node two.Define name domain) v h = h
  clients_is (client.Node two.Delete name domain) v h = h
  clients_is (client.Filespace two.Define node name n) v h = h
  clients_is (client.Filespace two.Delete node name n) v h = h

  stores_kept : (j : Journal) (c : PoolChange) (v : Inv) → Facts v → causes j (change.Pool c) v ≡ [] → Is v → Kept (row_at file (store_changed c v).stores.volumes)
  stores_kept j (store.DevClass what class capacity) v f cause (h, day) = kept_still _
      (kept_or InStores v.stores (stores.changed (store.DevClass what class capacity) v.next_pool v.stores) h (classes_is what class capacity v.stores h))
  stores_kept j (store.Pool verb.Define name class kind rule) v f cause (h, day) = kept_still _
      (kept_or InStores v.stores (stores.changed (store.Pool verb.Define name class kind rule) v.next_pool v.stores) h (pools_is verb.Define v.next_pool name class kind rule v.stores h))
  stores_kept j (store.Pool verb.Update name class kind rule) v f cause (h, day) = kept_still _
      (kept_or InStores v.stores (stores.changed (store.Pool verb.Update name class kind rule) v.next_pool v.stores) h (pools_is verb.Update v.next_pool name class kind rule v.stores h))
  stores_kept j (store.Pool verb.Delete name class kind rule) v f cause (h, day) = kept_still _
      (kept_or InStores v.stores (stores.changed (store.Pool verb.Delete name class kind rule) v.next_pool v.stores) h (pools_is verb.Delete v.next_pool name class kind rule v.stores h))
  stores_kept j (store.Volume verb.Define name number k capacity access) v f cause (h, day) =
      let free = all_free v (k ∷ []) (front_nil (files_refused (k ∷ []) v) (file_bound k v)
      (back_nil (refusal_of (stores.changed (store.Volume verb.Define name number k capacity access) v.next_pool v.stores)) (files_refused (k ∷ []) v ++ file_bound k v) cause)) in
      kept_still _ (kept_or InStores v.stores (stores.changed (store.Volume verb.Define name number k capacity access) v.next_pool v.stores) h
      (defined_is name number k capacity access v.stores (free_apart k v.stores.volumes free.0 h) h))
  stores_kept j (store.Volume verb.Update name number k capacity access) v f cause (h, day) =
      kept_still _ (kept_or InStores v.stores (stores.changed (store.Volume verb.Update name number k capacity access) v.next_pool v.stores) h
      (updated_is access v.stores (volume_named name v.stores) h))
  stores_kept j (store.Volume verb.Delete name number k capacity access) v f cause (h, day) =
      kept_or (λ (t : PoolRows). Kept (row_at file t.volumes)) v.stores (stores.changed (store.Volume verb.Delete name number k capacity access) v.next_pool v.stores)
      (kept_still (row_at file v.stores.volumes) h)
      (deleted_kept v.stores (volume_named name v.stores) (apart_front (keys_of v.stores.volumes) (keys_of v.backups) f.files_apart) h)

  expire_is : (filespace : ℕ) (i : NamedVersion) (v : Inv) → Is v → Is (expire filespace i v)
  expire_is filespace i v h = all_taken_is i.object (copies_at i.object v) v h

  discard_is : (i : DiscardedVersion) (v : Inv) → Is v → Is (discard i v)
  discard_is i v h = all_taken_is i.object (copies_at i.object v) v h

  pub changed_kept : (j : Journal) (c : Change) (v : Inv) → Facts v → causes j c v ≡ [] → is_reuse file c ≡ false → Is v → Kept (row_at file (changed c v).stores.volumes)
  changed_kept j (change.Day day) v f cause other h = kept_still _ h.0
  changed_kept j (change.Policy c) v f cause other h = kept_still _ h.0
  changed_kept j (change.Object c) v f cause other h = kept_still _ (clients_is c v h).0
  changed_kept j (change.Pool c) v f cause other h = stores_kept j c v f cause h
  changed_kept j (change.Backup c) v f cause other h =
      let scratch = front_nil (scratch_refused c.scratch v) (objects_refused (map (λ (i : NewVersion). i.object) c.items) v)
      (back_nil (new_refused c.filespace (map (λ (i : NewVersion). i.object) c.items) v) _ cause) in
      kept_still _ (each_is (back_up c.filespace) c.items (λ i w is. put_is i.object i.segments (inserted c.filespace i w) is) (each make_scratch c.scratch v) (scratches_is c.scratch v scratch h)).0
  changed_kept j (change.Hold c) v f cause other h =
      let scratch = front_nil (scratch_refused c.scratch v) (objects_refused (map (λ (i : NewHeldObject). i.object) c.items) v)
      (back_nil (new_refused c.filespace (map (λ (i : NewHeldObject). i.object) c.items) v) _ cause) in
      kept_still _ (each_is (hold c.filespace) c.items (λ i w is. put_is i.object i.segments (held_too c.filespace i w) is) (each make_scratch c.scratch v) (scratches_is c.scratch v scratch h)).0
  changed_kept j (change.Rebind c) v f cause other h = kept_still _ (each_is (rebind c.filespace) c.items (λ i w is. is) v h).0
  changed_kept j (change.Gone c) v f cause other h = kept_still _ (each_is (mark_gone c.filespace) c.items (λ i w is. is) v h).0
  changed_kept j (change.Move c) v f cause other h =
      let scratch = back_nil (move_refused j c.items v) (scratch_refused c.scratch v) cause in
      kept_still _ (each_is move_copy c.items (λ i w is. taken_is i.object (segments_in i.from (version_at i.object w)) w is) (each put_moved c.items (each make_scratch c.scratch v))
      (each_is put_moved c.items (λ i w is. put_is i.object i.segments w is) (each make_scratch c.scratch v) (scratches_is c.scratch v scratch h))).0
  changed_kept j (change.Copy c) v f cause other h =
      let scratch = back_nil (copy_list_refused j c.items v) (scratch_refused c.scratch v) cause in
      kept_still _ (each_is add_copy c.items (λ i w is. put_is i.object i.segments (change_copy i.object (added i w) w) is) (each make_scratch c.scratch v) (scratches_is c.scratch v scratch h)).0
  changed_kept j (change.DropCopies c) v f cause other h = kept_still _ (each_is drop_copy c.items (λ i w is. taken_is i.object (segments_in i.pool (version_at i.object w)) w is) v h).0
  changed_kept j (change.Expire c) v f cause other h = kept_still _ (each_is (expire c.filespace) c.items (λ i w is. expire_is c.filespace i w is) v h).0
  changed_kept j (change.Discard c) v f cause other h = kept_still _ (each_is discard c.items (λ i w is. discard_is i w is) v h).0
  changed_kept j (change.Reuse k) v f cause other h = kept_still _ (reused_is k v.stores.volumes (λ same. eqb-false file k other (sym same)) h.0)
  changed_kept j (change.DbBegin k after) v f cause other h = kept_still _ h.0
  changed_kept j (change.DbEnd k) v f cause other h = kept_still _ h.0
  changed_kept j (change.DbDelete k) v f cause other h = kept_still _ h.0

-- what holds of a volume, and stands each step, holds of it behind a transaction, if it is there and wasn't reused
pub row_kept : (P : Volume → Type 0) (j : Journal) (c : Change) (v : Inv) (file : ℕ) (old new : Volume) → Stands v.today P → is_valid v ≡ true → causes j c v ≡ [] → is_reuse file c ≡ false
    → row_at file v.stores.volumes ≡ Some old → row_at file (effect c v).stores.volumes ≡ Some new → P old → P new
unfolding effect
row_kept P j c v file old new stands valid cause other before after p =
    subst (Kept file v.today P stands) after (changed_kept file v.today P stands j c v (facts_of v valid) cause other (subst (Still file v.today P stands) (sym before) p, refl))

-- ---- ends of volumes

end_put : (a : Volume) (b : Bool) (s : HeldSegment) (x : Volume) → EndsLater a x → EndsLater a (put_on b s x)
end_put a true s x h = record { pool = h.pool; end = let e = h.end in omega (arith, e) }
end_put a false s x h = record { pool = h.pool; end = h.end }

pub ends_later : (j : Journal) (c : Change) (v : Inv) (file : ℕ) (old new : Volume) → is_valid v ≡ true → causes j c v ≡ [] → is_reuse file c ≡ false → row_at file v.stores.volumes ≡ Some old
    → row_at file (effect c v).stores.volumes ≡ Some new → EndsLater old new
ends_later j c v file old new valid cause other before after =
    row_kept (EndsLater old) j c v file old new (record {
      comes = end_put old;
      goes = λ b s x later. record { pool = later.pool; end = later.end };
      changes = λ access x later. record { pool = later.pool; end = later.end };
    }) valid cause other before after (record { pool = refl; end = omega arith })

-- each segment of a volume that is one ends within it, and the day on which it was emptied is there only where none lies on it
pub last_parts : (v : Inv) (k : ℕ) (volume : Volume) → is_volume v (k, volume) ≡ true
    → (list_all (λ e. is_placed (is_sequential volume.pool v.stores) volume e.1) (segments_on k v) ≡ true) × (is_emptied_rightly (is_sequential volume.pool v.stores) volume (segments_on k v) ≡ true)
last_parts v k volume whole =
    let q : Bool = is_sequential volume.pool v.stores in
    let there : List (ℕ × Segment) = segments_on k v in
    let primary : Bool = option_map_or (λ p. is_primary_kind p.kind) (pool volume.pool v) false in
    let last : Bool = list_all (λ e. is_placed q volume e.1) there && is_emptied_rightly q volume there in
    let third : Bool = are_disjoint q there && last in
    let second : Bool = may_have volume.access primary && third in
    let one = and_parts (is_sized q v volume) second whole in
    let two = and_parts (may_have volume.access primary) third one.1 in
    let three = and_parts (are_disjoint q there) last two.1 in
    and_parts (list_all (λ e. is_placed q volume e.1) there) (is_emptied_rightly q volume there) three.1

pub placed_part : (v : Inv) (k : ℕ) (volume : Volume) → is_volume v (k, volume) ≡ true → list_all (λ e. is_placed (is_sequential volume.pool v.stores) volume e.1) (segments_on k v) ≡ true
placed_part v k volume whole = (last_parts v k volume whole).0

pub all_below : (v : Inv) (file : ℕ) (volume : Volume) → is_valid v ≡ true → row_at file v.stores.volumes ≡ Some volume → is_sequential volume.pool v.stores ≡ true → AllByRecursion
    (λ (e : ℕ × Segment). e.1.offset + 32 + e.1.len ≤ volume.end) (segments_on file v)
all_below v file volume valid there sequential =
    let whole : is_volume v (file, volume) ≡ true = each_there (λ (f : ℕ × Volume). is_volume v f ≡ true) file volume v.stores.volumes there
    (all_of (is_volume v) v.stores.volumes (facts_of v valid).volumes_are) in
    let placed : list_all (λ e. is_placed true volume e.1) (segments_on file v) ≡ true = sym
    (ap (λ (b : Bool). list_all (λ (e : ℕ × Segment). is_placed b volume e.1) (segments_on file v)) sequential) ∙ placed_part v file volume whole in
    each_also (λ (e : ℕ × Segment). is_placed true volume e.1 ≡ true) (λ (e : ℕ × Segment). e.1.offset + 32 + e.1.len ≤ volume.end) (segments_on file v)
    (λ e h. leb-true (e.1.offset + 32 + e.1.len) volume.end (and_parts (nat_le (e.1.offset + 32 + e.1.len) volume.end) true h).0)
    (all_of (λ (e : ℕ × Segment). is_placed true volume e.1) (segments_on file v) placed)

-- ---- which pools are sequential

capacity_of : (s t : PoolRows) → t.classes ≡ s.classes → (o : Option Pool) → pool_class_capacity t o ≡ pool_class_capacity s o
capacity_of s t same None = refl
capacity_of s t same (Some p) = ap (λ (c : List (List ℕ × Option ℕ)). capacity_there (named p.class c)) same

sequential_same : (n : ℕ) (s t : PoolRows) → t.classes ≡ s.classes → t.pools ≡ s.pools → is_sequential n t ≡ is_sequential n s
sequential_same n s t classes pools = ap is_some (capacity_of s t classes (row_at n t.pools) ∙ ap (λ (rows : List (ℕ × Pool)). pool_class_capacity s (row_at n rows)) pools)

module _ (v : Inv) (f : Facts v) (file : ℕ) (volume : Volume) (there : row_at file v.stores.volumes ≡ Some volume) where
  abbrev Same : PoolRows → Type 0
  Same t = is_sequential volume.pool t ≡ is_sequential volume.pool v.stores

  has_pool : is_some (row_at volume.pool v.stores.pools) ≡ true
  has_pool = each_there (λ (e : ℕ × Volume). is_some (pool e.1.pool v) ≡ true) file volume v.stores.volumes there
      (all_of (λ (e : ℕ × Volume). is_some (pool e.1.pool v)) v.stores.volumes f.volumes_cite)

  same_alike : (t : PoolRows) → Alike v.stores t volume.pool → Same t
  same_alike t a = ap is_some a.capacity

  none_of : {A : Type 0} (o : Option A) → is_some o ≡ false → o ≡ None
  none_of None h = refl
  none_of (Some x) h = absurd cc

  some_capacity : (o : Option (Option ℕ)) → is_some (capacity_there o) ≡ true → (x : Option ℕ) × (o ≡ Some x)
  some_capacity None h = absurd cc
  some_capacity (Some x) h = (x, refl)

  classes_same : (what : DefineOrDelete) (class : List ℕ) (capacity : ℕ) → IfOk (change_class what class capacity v.stores) Same
  classes_same two.Define class capacity =
      if_either Same (is_some (named class v.stores.classes)) (Err refusal.Exists) (Ok (record v.stores { classes = insert_entry (slice_cmp nat_cmp) v.stores.classes class (Some capacity) }))
      (λ is. tt)
      (λ isnt. same_alike _ (alike v (insert_entry (slice_cmp nat_cmp) v.stores.classes class (Some capacity))
      (defined_stays v class (Some capacity) f (none_of (named class v.stores.classes) isnt)) volume.pool))
  classes_same two.Delete class capacity =
      if_either Same (is_some (class_capacity class v.stores)) (class_gone class v.stores (pool_of_class class v.stores)) (Err refusal.NotFound)
      (λ is. gone (some_capacity (named class v.stores.classes) is) (pool_of_class class v.stores) refl) (λ isnt. tt)
    where
      gone : (x : Option ℕ) × (named class v.stores.classes ≡ Some x) → (o : Option ℕ) → pool_of_class class v.stores ≡ o → IfOk (class_gone class v.stores o) Same
      gone x None unused = same_alike _ (alike v (remove_entry (is_at (slice_cmp nat_cmp class)) v.stores.classes) (deleted_stays v class x.0 x.1 unused) volume.pool)
      gone x (Some p) used = tt

  pools_same : (what : Verb) (name class : List ℕ) (kind : PoolKind) (rule : PoolRule)
      → IfOk (change_pool what v.next_pool name class kind rule v.stores) Same
  pools_same verb.Define name class kind rule =
      let k = v.next_pool in
      let x = new_pool name class kind rule in
      let absent : row_at k v.stores.pools ≡ None = undrawn 1 k v.stores.pools f.pools_drawn in
      if_either Same (is_some (named class v.stores.classes) && is_next_there rule.next v.stores) _ (Err refusal.NotFound) (λ is.
      if_either Same (is_some (pool_named name v.stores)) (Err refusal.Exists) _ (λ used. tt) (λ free.
      if_either Same (is_bad_hierarchy k class kind rule.next v.stores) (Err refusal.BadHierarchy) (Ok (record v.stores { pools = with_row k x v.stores.pools })) (λ bad. tt) (λ good.
      same_alike _ (alike_row v (with_row k x v.stores.pools) volume.pool
      (other_row k volume.pool x (with_row k x v.stores.pools) v.stores.pools (row_came k x v.stores.pools absent) (found_apart k volume.pool v.stores.pools absent has_pool)))))) (λ isnt. tt)
  pools_same verb.Update name class kind rule =
      if_either Same (is_next_there rule.next v.stores) (update_numbered rule v.stores (pool_named name v.stores)) (Err refusal.NotFound) (λ is. updated (pool_named name v.stores)) (λ isnt. tt)
    where
      set : (k : ℕ) (o : Option Pool) → row_at k v.stores.pools ≡ o → Same (record v.stores { pools = edited k (with_settings rule) v.stores.pools o })
      set k None at = refl
      set k (Some x) at =
          let rows = set_row k (with_settings rule x) v.stores.pools in
          ap is_some (same_capacity v rows (row_at volume.pool rows) ∙ seen_same (pool_class_capacity v.stores) k volume.pool x (with_settings rule x) v.stores.pools at refl)

      updated : (o : Option ℕ) → IfOk (update_numbered rule v.stores o) Same
      updated None = tt
      updated (Some k) = if_either Same (is_bad_row k rule.next v.stores (row_at k v.stores.pools)) (Err refusal.BadHierarchy)
          (Ok (record v.stores { pools = edit_row k (with_settings rule) v.stores.pools })) (λ bad. tt) (λ good. set k (row_at k v.stores.pools) refl)
  pools_same verb.Delete name class kind rule = deleted (pool_named name v.stores) where
    before : (k : ℕ) (o : Option ℕ) → (k ≡ volume.pool → ⊥) → IfOk (unless_before k v.stores o) Same
    before k None ne = same_alike _ (alike_row v (without_row k v.stores.pools) volume.pool (row_without k volume.pool v.stores.pools ne))
    before k (Some p) ne = tt

    filled : (k : ℕ) (o : Option ℕ) → volume_of_pool k v.stores ≡ o → IfOk (unless_filled k v.stores o) Same
    filled k None none =
        before k (pool_before k v.stores) (λ same. eqb-false volume.pool k
        (each_there (λ (e : ℕ × Volume). (e.1.pool == k) ≡ false) file volume v.stores.volumes there (none_where (λ (x : Volume). x.pool == k) v.stores.volumes none)) (sym same))
    filled k (Some p) none = tt

    deleted : (o : Option ℕ) → IfOk (delete_numbered v.stores o) Same
    deleted None = tt
    deleted (Some k) = filled k (volume_of_pool k v.stores) refl

  volumes_same : (rows : List (ℕ × Volume)) → Same (record v.stores { volumes = rows })
  volumes_same rows = ap is_some (capacity_kept volume.pool rows v.stores)

  rows_same : (what : Verb) (name : List ℕ) (number k capacity : ℕ) (access : Access) → IfOk (change_volume what name number k capacity access v.stores) Same
  rows_same verb.Define name number k capacity access =
      if_either Same (is_some (row_at number v.stores.pools)) _ (Err refusal.NotFound) (λ is.
      if_either Same (is_some (volume_named name v.stores)) (Err refusal.Exists) (Ok (record v.stores { volumes = with_row k (new_volume name number capacity access) v.stores.volumes })) (λ used. tt)
      (λ free. volumes_same (with_row k (new_volume name number capacity access) v.stores.volumes))) (λ isnt. tt)
  rows_same verb.Update name number k capacity access = updated (volume_named name v.stores) where
    updated : (o : Option ℕ) → IfOk (update_filed access v.stores o) Same
    updated None = tt
    updated (Some k) = volumes_same (edit_row k (with_access access) v.stores.volumes)
  rows_same verb.Delete name number k capacity access = deleted (volume_named name v.stores) where
    held : (k : ℕ) (o : Option ℕ) → IfOk (unless_held k v.stores o) Same
    held k None = volumes_same (without_row k v.stores.volumes)
    held k (Some object) = tt

    deleted : (o : Option ℕ) → IfOk (delete_filed v.stores o) Same
    deleted None = tt
    deleted (Some k) = held k (object_on (row_at k v.stores.volumes))

  stores_same : (c : PoolChange) → Same (store_changed c v).stores
  stores_same (store.DevClass what class capacity) = kept_or Same v.stores (stores.changed (store.DevClass what class capacity) v.next_pool v.stores) refl (classes_same what class capacity)
  stores_same (store.Pool verb.Define name class kind rule) = kept_or Same v.stores (stores.changed (store.Pool verb.Define name class kind rule) v.next_pool v.stores) refl
      (pools_same verb.Define name class kind rule)
  stores_same (store.Pool verb.Update name class kind rule) = kept_or Same v.stores (stores.changed (store.Pool verb.Update name class kind rule) v.next_pool v.stores) refl
      (pools_same verb.Update name class kind rule)
  stores_same (store.Pool verb.Delete name class kind rule) = kept_or Same v.stores (stores.changed (store.Pool verb.Delete name class kind rule) v.next_pool v.stores) refl
      (pools_same verb.Delete name class kind rule)
  stores_same (store.Volume verb.Define name number k capacity access) = kept_or Same v.stores (stores.changed (store.Volume verb.Define name number k capacity access) v.next_pool v.stores) refl
      (rows_same verb.Define name number k capacity access)
  stores_same (store.Volume verb.Update name number k capacity access) = kept_or Same v.stores (stores.changed (store.Volume verb.Update name number k capacity access) v.next_pool v.stores) refl
      (rows_same verb.Update name number k capacity access)
  stores_same (store.Volume verb.Delete name number k capacity access) = kept_or Same v.stores (stores.changed (store.Volume verb.Delete name number k capacity access) v.next_pool v.stores) refl
      (rows_same verb.Delete name number k capacity access)

  clients_same : (c : ObjectChange) → Same (client_changed c v).stores
  clients_same (client.Node two.Define name domain) = refl
  clients_same (client.Node two.Delete name domain) = refl
  clients_same (client.Filespace two.Define node name k) = refl
  clients_same (client.Filespace two.Delete node name k) = refl

  of_data : (w : Inv) → OnlyData v w → Same w.stores
  of_data w o = sequential_same volume.pool v.stores w.stores o.classes o.pools

  pub sequential_stays : (c : Change) → Same (effect c v).stores
  unfolding effect
  sequential_stays (change.Day day) = refl
  sequential_stays (change.Policy c) = refl
  sequential_stays (change.Object c) = clients_same c
  sequential_stays (change.Pool c) = stores_same c
  sequential_stays (change.Backup c) = of_data (effect (change.Backup c) v) (effect-data (change.Backup c) v refl)
  sequential_stays (change.Hold c) = of_data (effect (change.Hold c) v) (effect-data (change.Hold c) v refl)
  sequential_stays (change.Rebind c) = of_data (effect (change.Rebind c) v) (effect-data (change.Rebind c) v refl)
  sequential_stays (change.Gone c) = of_data (effect (change.Gone c) v) (effect-data (change.Gone c) v refl)
  sequential_stays (change.Move c) = of_data (effect (change.Move c) v) (effect-data (change.Move c) v refl)
  sequential_stays (change.Copy c) = of_data (effect (change.Copy c) v) (effect-data (change.Copy c) v refl)
  sequential_stays (change.DropCopies c) = of_data (effect (change.DropCopies c) v) (effect-data (change.DropCopies c) v refl)
  sequential_stays (change.Expire c) = of_data (effect (change.Expire c) v) (effect-data (change.Expire c) v refl)
  sequential_stays (change.Discard c) = of_data (effect (change.Discard c) v) (effect-data (change.Discard c) v refl)
  sequential_stays (change.Reuse k) = of_data (effect (change.Reuse k) v) (effect-data (change.Reuse k) v refl)
  sequential_stays (change.DbBegin k after) = refl
  sequential_stays (change.DbEnd k) = refl
  sequential_stays (change.DbDelete k) = refl

-- ---- the numbers that are drawn next

module _ (a b c d e : ℕ) where
  -- each is no less than such a number
  abbrev NoLess : Inv → Type 0
  NoLess v = (a ≤ v.next_node) × (b ≤ v.next_filespace) × (c ≤ v.next_pool) × (d ≤ v.next_file) × (e ≤ v.next_object)

  each_no_less : {X : Type 0} (step : X → Inv → Inv) (xs : List X) → ((x : X) (v : Inv) → NoLess v → NoLess (step x v)) → (v : Inv) → NoLess v → NoLess (each step xs v)
  each_no_less step [] one v h = h
  each_no_less step (x ∷ xs) one v h = each_no_less step xs one (step x v) (one x v h)

  put_no_less : (object : ℕ) (segments : List Segment) (v : Inv) → NoLess v → NoLess (put object segments v)
  put_no_less object [] v h = h
  put_no_less object (s ∷ segments) v h = put_no_less object segments (put object (s ∷ []) v) h

  taken_no_less : (object : ℕ) (segments : List Segment) (v : Inv) → NoLess v → NoLess (take_away object segments v)
  taken_no_less object [] v h = h
  taken_no_less object (s ∷ segments) v h = taken_no_less object segments (take_away object (s ∷ []) v) h

  all_taken_no_less : (object : ℕ) (copies : List CopyRow) (v : Inv) → NoLess v → NoLess (take_all object copies v)
  all_taken_no_less object [] v h = h
  all_taken_no_less object (x ∷ copies) v h = all_taken_no_less object copies (take_away object x.segments v) (taken_no_less object x.segments v h)

  le_max : (m n k : ℕ) → m ≤ n → m ≤ max n k
  le_max m n k h = omega (arith, h)

  scratch_no_less : (s : ScratchVolume) (v : Inv) → NoLess v → NoLess (make_scratch s v)
  scratch_no_less s v h = (h.0, h.1, h.2, le_max d v.next_file (s.file + 1) h.3, h.4)

  inserted_no_less : (filespace : ℕ) (i : NewVersion) (v : Inv) → NoLess v → NoLess (inserted filespace i v)
  inserted_no_less filespace i v h = (h.0, h.1, h.2, h.3, le_max e v.next_object (i.object + 1) h.4)

  held_no_less : (filespace : ℕ) (i : NewHeldObject) (v : Inv) → NoLess v → NoLess (held_too filespace i v)
  held_no_less filespace i v h = (h.0, h.1, h.2, h.3, le_max e v.next_object (i.object + 1) h.4)

  one_more : (m n : ℕ) → m ≤ n → m ≤ n + 1
  one_more m n h = omega (arith, h)

  clients_no_less : (x : ObjectChange) (v : Inv) → NoLess v → NoLess (client_changed x v)
  clients_no_less (client.Node two.Define name domain) v h = (one_more a v.next_node h.0, h.1, h.2, h.3, h.4)
  clients_no_less (client.Node two.Delete name domain) v h = h
  clients_no_less (client.Filespace two.Define node name n) v h = (h.0, le_max b v.next_filespace (n + 1) h.1, h.2, h.3, h.4)
  clients_no_less (client.Filespace two.Delete node name n) v h = h

  stores_no_less : (x : PoolChange) (v : Inv) → NoLess v → NoLess (store_changed x v)
  stores_no_less (store.DevClass what name capacity) v h = h
  stores_no_less (store.Pool verb.Define name class kind rule) v h = (h.0, h.1, one_more c v.next_pool h.2, h.3, h.4)
  stores_no_less (store.Pool verb.Update name class kind rule) v h = h
  stores_no_less (store.Pool verb.Delete name class kind rule) v h = h
  stores_no_less (store.Volume verb.Define name number k capacity access) v h = (h.0, h.1, h.2, le_max d v.next_file (k + 1) h.3, h.4)
  stores_no_less (store.Volume verb.Update name number k capacity access) v h = h
  stores_no_less (store.Volume verb.Delete name number k capacity access) v h = h

  scratches_no_less : (scratch : List ScratchVolume) (v : Inv) → NoLess v → NoLess (each make_scratch scratch v)
  scratches_no_less scratch v h = each_no_less make_scratch scratch scratch_no_less v h

  changed_no_less : (x : Change) (v : Inv) → NoLess v → NoLess (changed x v)
  changed_no_less (change.Day day) v h = h
  changed_no_less (change.Policy x) v h = h
  changed_no_less (change.Object x) v h = clients_no_less x v h
  changed_no_less (change.Pool x) v h = stores_no_less x v h
  changed_no_less (change.Backup x) v h = each_no_less (back_up x.filespace) x.items (λ i w is. put_no_less i.object i.segments (inserted x.filespace i w) (inserted_no_less x.filespace i w is))
      (each make_scratch x.scratch v) (scratches_no_less x.scratch v h)
  changed_no_less (change.Hold x) v h = each_no_less (hold x.filespace) x.items (λ i w is. put_no_less i.object i.segments (held_too x.filespace i w) (held_no_less x.filespace i w is))
      (each make_scratch x.scratch v) (scratches_no_less x.scratch v h)
  changed_no_less (change.Rebind x) v h = each_no_less (rebind x.filespace) x.items (λ i w is. is) v h
  changed_no_less (change.Gone x) v h = each_no_less (mark_gone x.filespace) x.items (λ i w is. is) v h
  changed_no_less (change.Move x) v h =
      each_no_less move_copy x.items (λ i w is. taken_no_less i.object (segments_in i.from (version_at i.object w)) w is) (each put_moved x.items (each make_scratch x.scratch v))
      (each_no_less put_moved x.items (λ i w is. put_no_less i.object i.segments w is) (each make_scratch x.scratch v) (scratches_no_less x.scratch v h))
  changed_no_less (change.Copy x) v h = each_no_less add_copy x.items (λ i w is. put_no_less i.object i.segments (change_copy i.object (added i w) w) is) (each make_scratch x.scratch v)
      (scratches_no_less x.scratch v h)
  changed_no_less (change.DropCopies x) v h = each_no_less drop_copy x.items (λ i w is. taken_no_less i.object (segments_in i.pool (version_at i.object w)) w is) v h
  changed_no_less (change.Expire x) v h = each_no_less (expire x.filespace) x.items (λ i w is. all_taken_no_less i.object (copies_at i.object w) w is) v h
  changed_no_less (change.Discard x) v h = each_no_less discard x.items (λ i w is. all_taken_no_less i.object (copies_at i.object w) w is) v h
  changed_no_less (change.Reuse k) v h = h
  changed_no_less (change.DbBegin k after) v h = (h.0, h.1, h.2, le_max d v.next_file (k + 1) h.3, h.4)
  changed_no_less (change.DbEnd k) v h = h
  changed_no_less (change.DbDelete k) v h = h

pub draws_on : (c : Change) (v : Inv) → DrawsOn v (effect c v)
unfolding effect
draws_on c v =
    let h = changed_no_less v.next_node v.next_filespace v.next_pool v.next_file v.next_object c v (omega arith, omega arith, omega arith, omega arith, omega arith) in
    record { node = h.0; filespace = h.1; pool = h.2; file = h.3; object = h.4 }
