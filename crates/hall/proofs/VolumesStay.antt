-- Which volumes are there, over a transaction: none goes but one that is deleted or reused, and none comes but one that is defined, or a scratch volume of the transaction.
use Rattle.std.proofs.Common.{◌≡◌, ◌⊎◌, inl, inr, ℕ, Bool, true, false, cond, ◌&&◌, List, [], ◌∷◌, ◌++◌, map, Option, None, Some, Result, Ok, Err, IfOk, is_some, is_none, refl, sym, ap, subst, ◌∙◌}
use Rattle.std.specs.List.{AllByRecursion, list_all}
use Rattle.std.specs.BTreeMap.{insert_entry, is_at}
use Rattle.std.specs.Cmp.Lexicographic.{slice_cmp}
use Rattle.std.specs.Ordering.{is_eq, match_ordering, nat_cmp}
use Rattle.std.specs.declared.cmp.Ordering.TheVariants.{Less, Equal, Greater}
use Rattle.std.specs.Option.{option_map, option_map_or}
use Rattle.std.proofs.lemmas.Bool.{and_parts, cases_eq, false≢true}
use Rattle.std.proofs.lemmas.Option.{same_Some}
use Rattle.kinds.specs.Refusals.{bad_value, refusal_of}
use Rattle.kinds.specs.declared.change.DefineOrDelete.{DefineOrDelete}
use Rattle.kinds.specs.declared.change.DefineOrDelete.TheVariants as two
use Rattle.kinds.specs.declared.change.ObjectChange.{ObjectChange}
use Rattle.kinds.specs.declared.change.ObjectChange.TheVariants as client
use Rattle.kinds.specs.declared.change.PoolChange.{PoolChange}
use Rattle.kinds.specs.declared.change.PoolChange.TheVariants as store
use Rattle.kinds.specs.declared.change.Verb.{Verb}
use Rattle.kinds.specs.declared.change.Verb.TheVariants as verb
use Rattle.kinds.specs.declared.pool.Access.{Access}
use Rattle.kinds.specs.declared.pool.PoolKind.{PoolKind}
use Rattle.kinds.specs.declared.pool.PoolRule.{PoolRule}
use Rattle.kinds.specs.declared.refusal.Refusal.{Refusal}
use Rattle.kinds.specs.declared.refusal.Refusal.TheVariants as refusal
use Rattle.kinds.specs.declared.segment.Segment.{Segment}
use Rattle.entries.specs.change_items.declared.items.NewHeldObject.{NewHeldObject}
use Rattle.entries.specs.change_items.declared.items.NewVersion.{NewVersion}
use Rattle.entries.specs.change_items.declared.items.ScratchVolume.{ScratchVolume}
use Rattle.entries.specs.declared.change.Change.{Change}
use Rattle.entries.specs.declared.change.Change.TheVariants as change
use Rattle.inventory_rows.specs.version_groups.declared.copies.CopyRow.{CopyRow}
use Rattle.inventory_rows.specs.volume_rows.Held.{held_of}
use Rattle.inventory_rows.specs.volume_rows.Volumes.{put_on, reset, take_from}
use Rattle.inventory_rows.specs.volume_rows.Holdings.{is_held}
use Rattle.inventory_rows.specs.volume_rows.declared.held.HeldSegment.{HeldSegment}
use Rattle.inventory_rows.specs.volume_rows.declared.volume.Volume.{Volume}
use Rattle.inventory_rows.specs.pool_tables.RowChanges as row
use Rattle.inventory_rows.specs.pool_tables.RowChanges.{is_scratch_row, reuse_volume, scratch_volume, with_access}
use Rattle.inventory_rows.specs.pool_tables.Rows.{change_row, changed as row_changed, edit_row, edited, named, row_at, row_set, with_row, without_row}
use Rattle.inventory_rows.specs.pool_rows.Changed as stores
use Rattle.inventory_rows.specs.pool_rows.Changes.{change_pool, define_volume, delete_filed, delete_numbered, is_bad_row, is_next_there, new_pool, new_volume, object_on, pool_before, unless_before, unless_filled, unless_held, update_filed, update_numbered, volume_of_pool}
use Rattle.inventory_rows.specs.pool_rows.ClassChanges.{change_class, class_gone, pool_of_class}
use Rattle.inventory_rows.specs.pool_rows.Hierarchy.{is_bad_hierarchy}
use Rattle.inventory_rows.specs.pool_rows.PoolRows.{PoolRows, class_capacity, is_sequential_at, pool_capacity, pool_named, volume_named}
use Rattle.inventory_rows.specs.pool_rows.Segments.{with_volumes}
use Rattle.inventory_rows.specs.State.{Inv}
use Rattle.inventory_rules.specs.Clients.{client_changed}
use Rattle.inventory_rules.specs.Common.{each, file_bound, files_refused, is_free_file, or_same}
use Rattle.inventory_rules.specs.Copies.{add_copy, added, change_copy, copy_list_refused, drop_copy, move_copy, move_refused, put_moved, segments_in, version_at}
use Rattle.inventory_rules.specs.Journal.{Journal}
use Rattle.inventory_rules.specs.Segments.{make_scratch, put, scratch_refused, take_all, take_away}
use Rattle.inventory_rules.specs.Stores.{store_changed}
use Rattle.inventory_rules.specs.Transactions.{causes, changed, effect}
use Rattle.inventory_rules.specs.Versions.{back_up, copies_at, discard, expire, held_too, hold, inserted, mark_gone, new_refused, objects_refused, rebind}
use Rattle.inventory_rows.proofs.of_pool_tables.Counting.{apart_at, at_is}
use Rattle.inventory_laws.proofs.Causes.{back_nil, front_nil, holds}
use Rattle.inventory_laws.proofs.Gone.{lookup-beside_removed}
use Rattle.inventory_laws.proofs.Lists.{all_of, each_also, each_mapped}
use Rattle.inventory_laws.proofs.Said.{if_either, kept_or}
use Rattle.inventory_laws.proofs.Stays.{no_volumes, row_at-inserted_other}
use Rattle.inventory_laws.proofs.StoreRows.{nat_itself, number_there, seen_same}

-- the change neither deletes nor reuses the volume with this file
abbrev pub KeepsVolume : ℕ → Change → Inv → Type 0
KeepsVolume file (change.Pool (store.Volume verb.Delete name number k capacity access)) v = (it : ℕ) → volume_named name v.stores ≡ Some it → it ≡ file → ⊥
KeepsVolume file (change.Reuse k) v = k ≡ file → ⊥
KeepsVolume file _ v = Unit {0}

-- it is one of the scratch volumes, in this pool
abbrev pub IsScratch : (file pool : ℕ) → List ScratchVolume → Type 0
IsScratch file pool [] = ⊥
IsScratch file pool (s ∷ scratch) = ((s.file ≡ file) × (s.pool ≡ pool)) ⊎ IsScratch file pool scratch

-- the change brings a volume with this file: one that is defined, or a scratch volume in this pool
abbrev pub BringsVolume : (file pool : ℕ) → Change → Type 0
BringsVolume file pool (change.Pool (store.Volume verb.Define name number k capacity access)) = k ≡ file
BringsVolume file pool (change.Backup c) = IsScratch file pool c.scratch
BringsVolume file pool (change.Hold c) = IsScratch file pool c.scratch
BringsVolume file pool (change.Move c) = IsScratch file pool c.scratch
BringsVolume file pool (change.Copy c) = IsScratch file pool c.scratch
BringsVolume file pool _ = ⊥

module _ (file : ℕ) where
  -- the pool of the volume with this file
  abbrev pub there : List (ℕ × Volume) → Option ℕ
  there rows = option_map (λ (w : Volume). w.pool) (row_at file rows)

  abbrev pub in_inv : Inv → Option ℕ
  in_inv v = there v.stores.volumes

  abbrev pool_of : Option Volume → Option ℕ
  pool_of o = option_map (λ (w : Volume). w.pool) o

  -- ---- a row changes

  set_so : (k : ℕ) (rows : List (ℕ × Volume)) (x : Volume) (r : Result Volume Refusal) (s : PoolRows) → row_at k rows ≡ Some x → s.volumes ≡ rows → IfOk r (λ y. y.pool ≡ x.pool)
      → there (or_same s (with_volumes s (row_set k rows r))).volumes ≡ there rows
  set_so k rows x (Ok y) s at is same = seen_same pool_of k file x y rows at (ap (λ (p : ℕ). Some p) same)
  set_so k rows x (Err e) s at is same = ap there is

  changed_so : (k : ℕ) (change : Volume → Result Volume Refusal) (s : PoolRows) → ((x : Volume) → IfOk (change x) (λ y. y.pool ≡ x.pool))
      → there (or_same s (with_volumes s (change_row k change s.volumes))).volumes ≡ there s.volumes
  changed_so k change s keeps = go (row_at k s.volumes) refl where
    go : (o : Option Volume) → row_at k s.volumes ≡ o → there (or_same s (with_volumes s (row_changed k change s.volumes o))).volumes ≡ there s.volumes
    go None at = refl
    go (Some x) at = set_so k s.volumes x (change x) s at refl (keeps x)

  put_keeps : (b : Bool) (s : HeldSegment) (x : Volume) → (put_on b s x).pool ≡ x.pool
  put_keeps true s x = refl
  put_keeps false s x = refl

  put_so : (object : ℕ) (segments : List Segment) (v : Inv) → in_inv (put object segments v) ≡ in_inv v
  put_so object [] v = refl
  put_so object (s ∷ segments) v =
      put_so object segments (put object (s ∷ []) v)
      ∙ changed_so s.file (row.put (is_sequential_at s.file v.stores) (held_of object s)) v.stores (λ x. put_keeps (is_sequential_at s.file v.stores) (held_of object s) x)

  taken_so : (object : ℕ) (segments : List Segment) (v : Inv) → in_inv (take_away object segments v) ≡ in_inv v
  taken_so object [] v = refl
  taken_so object (s ∷ segments) v =
      taken_so object segments (take_away object (s ∷ []) v)
      ∙ changed_so s.file (row.take (is_sequential_at s.file v.stores) (held_of object s) v.today) v.stores
      (λ x. if_either (λ (y : Volume). y.pool ≡ x.pool) (is_held (held_of object s) x.segments) (Ok (take_from (is_sequential_at s.file v.stores) (held_of object s) v.today x)) (Err refusal.NotFound) (λ is. refl) (λ isnt. tt))

  all_taken_so : (object : ℕ) (copies : List CopyRow) (v : Inv) → in_inv (take_all object copies v) ≡ in_inv v
  all_taken_so object [] v = refl
  all_taken_so object (c ∷ copies) v = all_taken_so object copies (take_away object c.segments v) ∙ taken_so object c.segments v

  each_so : {X : Type 0} (step : X → Inv → Inv) → ((x : X) (v : Inv) → in_inv (step x v) ≡ in_inv v) → (xs : List X) (v : Inv) → in_inv (each step xs v) ≡ in_inv v
  each_so step one [] v = refl
  each_so step one (x ∷ xs) v = each_so step one xs (step x v) ∙ one x v

  -- ---- scratch volumes

  other : (k : ℕ) (x : Volume) (rows : List (ℕ × Volume)) → (k ≡ file → ⊥) → there (with_row k x rows) ≡ there rows
  other k x rows ne = ap pool_of (row_at-inserted_other k file x rows ne)

  -- the one that comes is found
  itself : (x : Volume) (rows : List (ℕ × Volume)) → there (with_row file x rows) ≡ Some x.pool
  itself x [] = ap (λ b. pool_of (cond b (Some x) None)) (nat_itself file)
  itself x (e ∷ rows) =
      elim (nat_cmp file e.0) as (λ o. nat_cmp file e.0 ≡ o → there (match_ordering o ((file, x) ∷ e ∷ rows) ((e.0, x) ∷ rows) (e ∷ with_row file x rows)) ≡ Some x.pool) [
        | Less ↦ λ _. ap (λ b. pool_of (cond b (Some x) (row_at file (e ∷ rows)))) (nat_itself file)
        | Equal ↦ λ is. ap (λ o. pool_of (cond (is_eq o) (Some x) (row_at file rows))) is
        | Greater ↦ λ is. ap (λ o. pool_of (cond (is_eq o) (Some e.1) (row_at file (with_row file x rows)))) is ∙ itself x rows
      ] refl

  free_apart : (k : ℕ) (rows : List (ℕ × Volume)) → is_none (row_at k rows) ≡ true → is_some (there rows) ≡ true → k ≡ file → ⊥
  free_apart k rows none h same = go (row_at file rows) h (subst (λ (n : ℕ). is_none (row_at n rows) ≡ true) same none) where
    go : (o : Option Volume) → is_some (pool_of o) ≡ true → is_none o ≡ true → ⊥
    go None h none = false≢true h
    go (Some x) h none = false≢true none

  abbrev scratch_row : ScratchVolume → Inv → Volume
  scratch_row s v = scratch_volume s.pool s.file (option_map_or (λ c. c) (pool_capacity s.pool v.stores) 0)

  scratch_stay : (scratch : List ScratchVolume) (v : Inv) → AllByRecursion (λ (s : ScratchVolume). s.file ≡ file → ⊥) scratch → in_inv (each make_scratch scratch v) ≡ in_inv v
  scratch_stay [] v apart = refl
  scratch_stay (s ∷ scratch) v apart = scratch_stay scratch (make_scratch s v) apart.1 ∙ other s.file (scratch_row s v) v.stores.volumes apart.0

  all_free : (v : Inv) (files : List ℕ) → files_refused files v ≡ [] → AllByRecursion (λ k. is_none (row_at k v.stores.volumes) ≡ true) files
  all_free v files h =
      let t = and_parts (list_all (is_free_file v) files) _ (holds (list_all (is_free_file v) files && _) bad_value h) in
      all_of (λ k. is_none (row_at k v.stores.volumes)) files (no_volumes files v t.0)

  scratches_stay : (scratch : List ScratchVolume) (v : Inv) → scratch_refused scratch v ≡ [] → is_some (in_inv v) ≡ true → in_inv (each make_scratch scratch v) ≡ in_inv v
  scratches_stay scratch v h is =
      let free = all_free v (map (λ (s : ScratchVolume). s.file) scratch) (front_nil (files_refused (map (λ (s : ScratchVolume). s.file) scratch) v) _ h) in
      scratch_stay scratch v
      (each_also (λ (s : ScratchVolume). is_none (row_at s.file v.stores.volumes) ≡ true) (λ (s : ScratchVolume). s.file ≡ file → ⊥) scratch
      (λ s none. free_apart s.file v.stores.volumes none is)
      (each_mapped (λ k. is_none (row_at k v.stores.volumes) ≡ true) (λ (s : ScratchVolume). s.file) scratch free))

  -- it was there, or is one of them
  scratches_new : (pool : ℕ) (scratch : List ScratchVolume) (v : Inv) → in_inv (each make_scratch scratch v) ≡ Some pool → (in_inv v ≡ Some pool) ⊎ IsScratch file pool scratch
  scratches_new pool [] v is = inl is
  scratches_new pool (s ∷ scratch) v is = go (scratches_new pool scratch (make_scratch s v) is) where
    go : (in_inv (make_scratch s v) ≡ Some pool) ⊎ IsScratch file pool scratch → (in_inv v ≡ Some pool) ⊎ IsScratch file pool (s ∷ scratch)
    go (inr later) = inr (inr later)
    go (inl here) = elim (cases_eq s.file file) as (λ _. (in_inv v ≡ Some pool) ⊎ IsScratch file pool (s ∷ scratch)) [
      | inl same ↦ inr (inl (same, same_Some s.pool pool (sym (itself (scratch_row s v) v.stores.volumes) ∙ subst (λ n. there (with_row n (scratch_row s v) v.stores.volumes) ≡ Some pool) same here)))
      | inr ne ↦ inl (sym (other s.file (scratch_row s v) v.stores.volumes ne) ∙ here)
    ]

  -- ---- device classes, pools and volumes

  module _ (s : PoolRows) where
    abbrev So : PoolRows → Type 0
    So t = there t.volumes ≡ there s.volumes

    classes_so : (what : DefineOrDelete) (class : List ℕ) (capacity : ℕ) → IfOk (change_class what class capacity s) So
    classes_so two.Define class capacity = if_either So (is_some (named class s.classes)) (Err refusal.Exists)
        (Ok (record s { classes = insert_entry (slice_cmp nat_cmp) s.classes class (Some capacity) })) (λ is. tt) (λ isnt. refl)
    classes_so two.Delete class capacity = if_either So (is_some (class_capacity class s)) (class_gone class s (pool_of_class class s)) (Err refusal.NotFound)
        (λ is. gone (pool_of_class class s)) (λ isnt. tt) where
          gone : (o : Option ℕ) → IfOk (class_gone class s o) So
          gone None = refl
          gone (Some n) = tt

    pools_so : (what : Verb) (number : ℕ) (name class : List ℕ) (kind : PoolKind) (rule : PoolRule) → IfOk (change_pool what number name class kind rule s) So
    pools_so verb.Define number name class kind rule =
        if_either So (is_some (named class s.classes) && is_next_there rule.next s) _ (Err refusal.NotFound) (λ is.
        if_either So (is_some (pool_named name s)) (Err refusal.Exists) _ (λ used. tt) (λ free.
        if_either So (is_bad_hierarchy number class kind rule.next s) (Err refusal.BadHierarchy) (Ok (record s { pools = with_row number (new_pool name class kind rule) s.pools })) (λ bad. tt)
        (λ good. refl))) (λ isnt. tt)
    pools_so verb.Update number name class kind rule =
        if_either So (is_next_there rule.next s) (update_numbered rule s (pool_named name s)) (Err refusal.NotFound) (λ is. numbered (pool_named name s)) (λ isnt. tt)
      where
        numbered : (o : Option ℕ) → IfOk (update_numbered rule s o) So
        numbered None = tt
        numbered (Some n) = if_either So (is_bad_row n rule.next s (row_at n s.pools)) (Err refusal.BadHierarchy) (Ok (record s { pools = edit_row n (row.with_settings rule) s.pools })) (λ bad. tt)
            (λ good. refl)
    pools_so verb.Delete number name class kind rule = numbered (pool_named name s) where
      before : (n : ℕ) (o : Option ℕ) → IfOk (unless_before n s o) So
      before n None = refl
      before n (Some p) = tt

      filled : (n : ℕ) (o : Option ℕ) → IfOk (unless_filled n s o) So
      filled n None = before n (pool_before n s)
      filled n (Some f) = tt

      numbered : (o : Option ℕ) → IfOk (delete_numbered s o) So
      numbered None = tt
      numbered (Some n) = filled n (volume_of_pool n s)

    defined_so : (name : List ℕ) (number k capacity : ℕ) (access : Access) → (k ≡ file → ⊥) → IfOk (define_volume name number k capacity access s) So
    defined_so name number k capacity access ne =
        if_either So (is_some (row_at number s.pools)) _ (Err refusal.NotFound) (λ is.
        if_either So (is_some (volume_named name s)) (Err refusal.Exists) (Ok (record s { volumes = with_row k (new_volume name number capacity access) s.volumes })) (λ used. tt)
        (λ free. other k (new_volume name number capacity access) s.volumes ne))
        (λ isnt. tt)

    updated_so : (access : Access) (o : Option ℕ) → IfOk (update_filed access s o) So
    updated_so access None = tt
    updated_so access (Some k) = go (row_at k s.volumes) refl where
      go : (o : Option Volume) → row_at k s.volumes ≡ o → there (edited k (with_access access) s.volumes o) ≡ there s.volumes
      go None at = refl
      go (Some x) at = seen_same pool_of k file x (with_access access x) s.volumes at refl

    beside : (k : ℕ) → (k ≡ file → ⊥) → (q : ℕ) → is_at (nat_cmp k) q ≡ true → is_at (nat_cmp file) q ≡ false
    beside k ne q here = apart_at file q (λ e. ne (at_is k q here ∙ sym e))

    without_so : (k : ℕ) → (k ≡ file → ⊥) → there (without_row k s.volumes) ≡ there s.volumes
    without_so k ne = ap pool_of (lookup-beside_removed (is_at (nat_cmp k)) (is_at (nat_cmp file)) (beside k ne) s.volumes)

    deleted_so : (o : Option ℕ) → ((k : ℕ) → o ≡ Some k → k ≡ file → ⊥) → IfOk (delete_filed s o) So
    deleted_so None apart = tt
    deleted_so (Some k) apart = go (object_on (row_at k s.volumes)) where
      go : (o : Option ℕ) → IfOk (unless_held k s o) So
      go None = without_so k (apart k refl)
      go (Some object) = tt

  -- ---- a volume is reused

  reused_so : (k : ℕ) (s : PoolRows) → (k ≡ file → ⊥) → there (reuse_volume k s.volumes) ≡ there s.volumes
  reused_so k s ne = go (is_scratch_row (row_at k s.volumes)) where
    edited_so : (o : Option Volume) → row_at k s.volumes ≡ o → there (edited k reset s.volumes o) ≡ there s.volumes
    edited_so None at = refl
    edited_so (Some x) at = seen_same pool_of k file x (reset x) s.volumes at refl

    go : (b : Bool) → there (cond b (without_row k s.volumes) (edit_row k reset s.volumes)) ≡ there s.volumes
    go true = without_so s k ne
    go false = edited_so (row_at k s.volumes) refl

  none_reused : (s : PoolRows) → is_some (there s.volumes) ≡ false → there (reuse_volume file s.volumes) ≡ there s.volumes
  none_reused s none = go (row_at file s.volumes) none where
    go : (o : Option Volume) → is_some (pool_of o) ≡ false → there (cond (is_scratch_row o) (without_row file s.volumes) (edited file reset s.volumes o)) ≡ there s.volumes
    go None none = refl
    go (Some x) none = absurd (false≢true (sym none))

  -- ---- every transaction

  clients_so : (c : ObjectChange) (v : Inv) → in_inv (client_changed c v) ≡ in_inv v
  clients_so (client.Node two.Define name domain) v = refl
  clients_so (client.Node two.Delete name domain) v = refl
  clients_so (client.Filespace two.Define node name n) v = refl
  clients_so (client.Filespace two.Delete node name n) v = refl

  -- what happens to scratch volumes comes first
  abbrev scratched : Change → Inv → Inv
  scratched (change.Backup c) v = each make_scratch c.scratch v
  scratched (change.Hold c) v = each make_scratch c.scratch v
  scratched (change.Move c) v = each make_scratch c.scratch v
  scratched (change.Copy c) v = each make_scratch c.scratch v
  scratched _ v = v

  stored : (v : Inv) (r : Result PoolRows Refusal) → IfOk r (So v.stores) → there (or_same v.stores r).volumes ≡ in_inv v
  stored v r h = kept_or (So v.stores) v.stores r refl h

  -- where a volume is defined, it is another one
  abbrev DefinesOther : Change → Type 0
  DefinesOther (change.Pool (store.Volume verb.Define name number k capacity access)) = k ≡ file → ⊥
  DefinesOther _ = Unit {0}

  stores_so : (c : PoolChange) (v : Inv) → KeepsVolume file (change.Pool c) v → DefinesOther (change.Pool c) → in_inv (store_changed c v) ≡ in_inv v
  stores_so (store.DevClass what class capacity) v keeps apart = stored v (stores.changed (store.DevClass what class capacity) v.next_pool v.stores) (classes_so v.stores what class capacity)
  stores_so (store.Pool verb.Define name class kind rule) v keeps apart =
      stored v (stores.changed (store.Pool verb.Define name class kind rule) v.next_pool v.stores) (pools_so v.stores verb.Define v.next_pool name class kind rule)
  stores_so (store.Pool verb.Update name class kind rule) v keeps apart =
      stored v (stores.changed (store.Pool verb.Update name class kind rule) v.next_pool v.stores) (pools_so v.stores verb.Update v.next_pool name class kind rule)
  stores_so (store.Pool verb.Delete name class kind rule) v keeps apart =
      stored v (stores.changed (store.Pool verb.Delete name class kind rule) v.next_pool v.stores) (pools_so v.stores verb.Delete v.next_pool name class kind rule)
  stores_so (store.Volume verb.Define name number k capacity access) v keeps apart =
      stored v (stores.changed (store.Volume verb.Define name number k capacity access) v.next_pool v.stores) (defined_so v.stores name number k capacity access apart)
  stores_so (store.Volume verb.Update name number k capacity access) v keeps apart =
      stored v (stores.changed (store.Volume verb.Update name number k capacity access) v.next_pool v.stores) (updated_so v.stores access (volume_named name v.stores))
  stores_so (store.Volume verb.Delete name number k capacity access) v keeps apart =
      stored v (stores.changed (store.Volume verb.Delete name number k capacity access) v.next_pool v.stores) (deleted_so v.stores (volume_named name v.stores) keeps)

  changed_there : (c : Change) (v : Inv) → KeepsVolume file c v → DefinesOther c → in_inv (changed c v) ≡ in_inv (scratched c v)
  changed_there (change.Day day) v keeps apart = refl
  changed_there (change.Policy c) v keeps apart = refl
  changed_there (change.Object c) v keeps apart = clients_so c v
  changed_there (change.Pool c) v keeps apart = stores_so c v keeps apart
  changed_there (change.Backup c) v keeps apart = each_so (back_up c.filespace) (λ i w. put_so i.object i.segments (inserted c.filespace i w)) c.items (each make_scratch c.scratch v)
  changed_there (change.Hold c) v keeps apart = each_so (hold c.filespace) (λ i w. put_so i.object i.segments (held_too c.filespace i w)) c.items (each make_scratch c.scratch v)
  changed_there (change.Rebind c) v keeps apart = each_so (rebind c.filespace) (λ i w. refl) c.items v
  changed_there (change.Gone c) v keeps apart = each_so (mark_gone c.filespace) (λ i w. refl) c.items v
  changed_there (change.Move c) v keeps apart =
      each_so move_copy (λ i w. taken_so i.object (segments_in i.from (version_at i.object w)) w) c.items (each put_moved c.items (each make_scratch c.scratch v))
      ∙ each_so put_moved (λ i w. put_so i.object i.segments w) c.items (each make_scratch c.scratch v)
  changed_there (change.Copy c) v keeps apart = each_so add_copy (λ i w. put_so i.object i.segments (change_copy i.object (added i w) w)) c.items (each make_scratch c.scratch v)
  changed_there (change.DropCopies c) v keeps apart = each_so drop_copy (λ i w. taken_so i.object (segments_in i.pool (version_at i.object w)) w) c.items v
  changed_there (change.Expire c) v keeps apart = each_so (expire c.filespace) (λ i w. all_taken_so i.object (copies_at i.object w) w) c.items v
  changed_there (change.Discard c) v keeps apart = each_so discard (λ i w. all_taken_so i.object (copies_at i.object w) w) c.items v
  changed_there (change.Reuse k) v keeps apart = reused_so k v.stores keeps
  changed_there (change.DbBegin k after) v keeps apart = refl
  changed_there (change.DbEnd k) v keeps apart = refl
  changed_there (change.DbDelete k) v keeps apart = refl

  -- ---- none goes

  define_apart : (j : Journal) (c : Change) (v : Inv) → causes j c v ≡ [] → is_some (in_inv v) ≡ true → DefinesOther c
  define_apart j (change.Pool (store.Volume verb.Define name number k capacity access)) v cause is =
      free_apart k v.stores.volumes
      (all_free v (k ∷ []) (front_nil (files_refused (k ∷ []) v) (file_bound k v)
      (back_nil (refusal_of (stores.changed (store.Volume verb.Define name number k capacity access) v.next_pool v.stores)) (files_refused (k ∷ []) v ++ file_bound k v) cause))).0 is
  define_apart j (change.Pool (store.Volume verb.Update name number k capacity access)) v cause is = tt
  define_apart j (change.Pool (store.Volume verb.Delete name number k capacity access)) v cause is = tt
  define_apart j (change.Pool (store.Pool what name class kind rule)) v cause is = tt
  define_apart j (change.Pool (store.DevClass what class capacity)) v cause is = tt
  define_apart j (change.Day day) v cause is = tt
  define_apart j (change.Policy c) v cause is = tt
  define_apart j (change.Object c) v cause is = tt
  define_apart j (change.Backup c) v cause is = tt
  define_apart j (change.Hold c) v cause is = tt
  define_apart j (change.Rebind c) v cause is = tt
  define_apart j (change.Gone c) v cause is = tt
  define_apart j (change.Move c) v cause is = tt
  define_apart j (change.Copy c) v cause is = tt
  define_apart j (change.DropCopies c) v cause is = tt
  define_apart j (change.Expire c) v cause is = tt
  define_apart j (change.Discard c) v cause is = tt
  define_apart j (change.Reuse k) v cause is = tt
  define_apart j (change.DbBegin k after) v cause is = tt
  define_apart j (change.DbEnd k) v cause is = tt
  define_apart j (change.DbDelete k) v cause is = tt

  scratched_stay : (j : Journal) (c : Change) (v : Inv) → causes j c v ≡ [] → is_some (in_inv v) ≡ true → in_inv (scratched c v) ≡ in_inv v
  scratched_stay j (change.Backup c) v cause is =
      scratches_stay c.scratch v (front_nil (scratch_refused c.scratch v) (objects_refused (map (λ (i : NewVersion). i.object) c.items) v)
      (back_nil (new_refused c.filespace (map (λ (i : NewVersion). i.object) c.items) v) _ cause)) is
  scratched_stay j (change.Hold c) v cause is =
      scratches_stay c.scratch v (front_nil (scratch_refused c.scratch v) (objects_refused (map (λ (i : NewHeldObject). i.object) c.items) v)
      (back_nil (new_refused c.filespace (map (λ (i : NewHeldObject). i.object) c.items) v) _ cause)) is
  scratched_stay j (change.Move c) v cause is = scratches_stay c.scratch v (back_nil (move_refused j c.items v) (scratch_refused c.scratch v) cause) is
  scratched_stay j (change.Copy c) v cause is = scratches_stay c.scratch v (back_nil (copy_list_refused j c.items v) (scratch_refused c.scratch v) cause) is
  scratched_stay j (change.Day day) v cause is = refl
  scratched_stay j (change.Policy c) v cause is = refl
  scratched_stay j (change.Object c) v cause is = refl
  scratched_stay j (change.Pool c) v cause is = refl
  scratched_stay j (change.Rebind c) v cause is = refl
  scratched_stay j (change.Gone c) v cause is = refl
  scratched_stay j (change.DropCopies c) v cause is = refl
  scratched_stay j (change.Expire c) v cause is = refl
  scratched_stay j (change.Discard c) v cause is = refl
  scratched_stay j (change.Reuse k) v cause is = refl
  scratched_stay j (change.DbBegin k after) v cause is = refl
  scratched_stay j (change.DbEnd k) v cause is = refl
  scratched_stay j (change.DbDelete k) v cause is = refl

  -- one that is there stays in its pool
  pub volume_stays : (j : Journal) (c : Change) (v : Inv) → causes j c v ≡ [] → KeepsVolume file c v → is_some (in_inv v) ≡ true → in_inv (effect c v) ≡ in_inv v
  unfolding effect
  volume_stays j c v cause keeps is = changed_there c v keeps (define_apart j c v cause is) ∙ scratched_stay j c v cause is

  -- ---- none comes

  -- what isn't there isn't deleted
  not_deleted : (name : List ℕ) (v : Inv) → is_some (in_inv v) ≡ false → (it : ℕ) → volume_named name v.stores ≡ Some it → it ≡ file → ⊥
  not_deleted name v none it named_so same = clash (row_at file v.stores.volumes) none (subst (λ (n : ℕ). is_some (row_at n v.stores.volumes) ≡ true) same (number_there _ it v.stores.volumes named_so)) where
    clash : (o : Option Volume) → is_some (pool_of o) ≡ false → is_some o ≡ true → ⊥
    clash None a b = false≢true b
    clash (Some x) a b = false≢true (sym a)

  -- where nothing was there and nothing comes
  never : {A : Type 0} (v w : Inv) (pool : ℕ) → is_some (in_inv v) ≡ false → in_inv w ≡ in_inv v → in_inv w ≡ Some pool → A
  never v w pool none same is = absurd (false≢true (sym none ∙ (ap is_some (sym same) ∙ ap is_some is)))

  defined_new : (c : PoolChange) (v : Inv) (pool : ℕ) → is_some (in_inv v) ≡ false → in_inv (store_changed c v) ≡ Some pool → BringsVolume file pool (change.Pool c)
  defined_new (store.Volume verb.Define name number k capacity access) v pool none is = elim (cases_eq k file) as (λ _. k ≡ file) [
    | inl same ↦ same
    | inr ne ↦ never v (store_changed (store.Volume verb.Define name number k capacity access) v) pool none (stores_so (store.Volume verb.Define name number k capacity access) v tt ne) is
  ]
  defined_new (store.Volume verb.Update name number k capacity access) v pool none is =
      never v (store_changed (store.Volume verb.Update name number k capacity access) v) pool none (stores_so (store.Volume verb.Update name number k capacity access) v tt tt) is
  defined_new (store.Volume verb.Delete name number k capacity access) v pool none is =
      never v (store_changed (store.Volume verb.Delete name number k capacity access) v) pool none (stores_so (store.Volume verb.Delete name number k capacity access) v (not_deleted name v none) tt) is
  defined_new (store.Pool verb.Define name class kind rule) v pool none is = never v (store_changed (store.Pool verb.Define name class kind rule) v) pool none (stores_so (store.Pool verb.Define name class kind rule) v tt tt) is
  defined_new (store.Pool verb.Update name class kind rule) v pool none is = never v (store_changed (store.Pool verb.Update name class kind rule) v) pool none (stores_so (store.Pool verb.Update name class kind rule) v tt tt) is
  defined_new (store.Pool verb.Delete name class kind rule) v pool none is = never v (store_changed (store.Pool verb.Delete name class kind rule) v) pool none (stores_so (store.Pool verb.Delete name class kind rule) v tt tt) is
  defined_new (store.DevClass what class capacity) v pool none is = never v (store_changed (store.DevClass what class capacity) v) pool none (stores_so (store.DevClass what class capacity) v tt tt) is

  reused_new : (k : ℕ) (v : Inv) (pool : ℕ) → is_some (in_inv v) ≡ false → in_inv (changed (change.Reuse k) v) ≡ Some pool → ⊥
  reused_new k v pool none is = elim (cases_eq k file) as (λ _. ⊥) [
    | inl same ↦ never v (changed (change.Reuse k) v) pool none (subst (λ (n : ℕ). there (reuse_volume n v.stores.volumes) ≡ in_inv v) (sym same) (none_reused v.stores none)) is
    | inr ne ↦ never v (changed (change.Reuse k) v) pool none (reused_so k v.stores ne) is
  ]

  -- it was one of the scratch volumes
  one_of : (pool : ℕ) (scratch : List ScratchVolume) (v : Inv) → is_some (in_inv v) ≡ false → in_inv (each make_scratch scratch v) ≡ Some pool → IsScratch file pool scratch
  one_of pool scratch v none is = go (scratches_new pool scratch v is) where
    go : (in_inv v ≡ Some pool) ⊎ IsScratch file pool scratch → IsScratch file pool scratch
    go (inl was) = absurd (false≢true (sym none ∙ ap is_some was))
    go (inr new) = new

  changed_new : (c : Change) (v : Inv) (pool : ℕ) → is_some (in_inv v) ≡ false → in_inv (changed c v) ≡ Some pool → BringsVolume file pool c
  changed_new (change.Day day) v pool none is = never v (changed (change.Day day) v) pool none refl is
  changed_new (change.Policy c) v pool none is = never v (changed (change.Policy c) v) pool none refl is
  changed_new (change.Object c) v pool none is = never v (changed (change.Object c) v) pool none (clients_so c v) is
  changed_new (change.Pool c) v pool none is = defined_new c v pool none is
  changed_new (change.Backup c) v pool none is = one_of pool c.scratch v none (sym (changed_there (change.Backup c) v tt tt) ∙ is)
  changed_new (change.Hold c) v pool none is = one_of pool c.scratch v none (sym (changed_there (change.Hold c) v tt tt) ∙ is)
  changed_new (change.Rebind c) v pool none is = never v (changed (change.Rebind c) v) pool none (changed_there (change.Rebind c) v tt tt) is
  changed_new (change.Gone c) v pool none is = never v (changed (change.Gone c) v) pool none (changed_there (change.Gone c) v tt tt) is
  changed_new (change.Move c) v pool none is = one_of pool c.scratch v none (sym (changed_there (change.Move c) v tt tt) ∙ is)
  changed_new (change.Copy c) v pool none is = one_of pool c.scratch v none (sym (changed_there (change.Copy c) v tt tt) ∙ is)
  changed_new (change.DropCopies c) v pool none is = never v (changed (change.DropCopies c) v) pool none (changed_there (change.DropCopies c) v tt tt) is
  changed_new (change.Expire c) v pool none is = never v (changed (change.Expire c) v) pool none (changed_there (change.Expire c) v tt tt) is
  changed_new (change.Discard c) v pool none is = never v (changed (change.Discard c) v) pool none (changed_there (change.Discard c) v tt tt) is
  changed_new (change.Reuse k) v pool none is = absurd (reused_new k v pool none is)
  changed_new (change.DbBegin k after) v pool none is = never v (changed (change.DbBegin k after) v) pool none refl is
  changed_new (change.DbEnd k) v pool none is = never v (changed (change.DbEnd k) v) pool none refl is
  changed_new (change.DbDelete k) v pool none is = never v (changed (change.DbDelete k) v) pool none refl is

  pub volume_new : (c : Change) (v : Inv) (pool : ℕ) → is_some (in_inv v) ≡ false → in_inv (effect c v) ≡ Some pool → BringsVolume file pool c
  unfolding effect
  volume_new c v pool none is = changed_new c v pool none is
