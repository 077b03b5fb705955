-- What holds of each object that is kept, and of what a transaction brings, holds of each object that it leaves; and so of their copies, where it holds of those that it places.
use Rattle.std.proofs.Common.{◌≡◌, ◌⊎◌, inl, inr, ℕ, zero, suc, ◌+◌, ◌<◌, eqb, Bool, true, false, cond, not, List, [], ◌∷◌, ◌++◌, map, length, Option, None, Some, Result, Ok, Err, IfOk, is_some, refl, sym, subst, arith}
use Rattle.std.specs.Prelude.{nat_lt}
use Rattle.std.specs.List.{AllByRecursion, Contains, filter, find, flat_map, slice_index_or}
use Rattle.std.specs.BTreeMap.{insert_entry}
use Rattle.std.specs.Cmp.Lexicographic.{slice_cmp}
use Rattle.std.specs.Map.{lookup, remove_entry, set_value}
use Rattle.std.specs.Ordering.{match_ordering, nat_cmp}
use Rattle.std.specs.declared.cmp.Ordering.{Ordering}
use Rattle.std.specs.declared.cmp.Ordering.TheVariants.{Less, Equal, Greater}
use Rattle.std.proofs.lemmas.Bool.{eqb-true}
use Rattle.std.proofs.lemmas.Option.{same_Some}
use Rattle.kinds.specs.declared.change.DefineOrDelete.TheVariants as two
use Rattle.kinds.specs.declared.change.ObjectChange.{ObjectChange}
use Rattle.kinds.specs.declared.change.ObjectChange.TheVariants as client
use Rattle.kinds.specs.declared.change.PoolChange.{PoolChange}
use Rattle.kinds.specs.declared.change.PoolChange.TheVariants as store
use Rattle.kinds.specs.declared.change.Verb.TheVariants as verb
use Rattle.kinds.specs.declared.refusal.Refusal.{Refusal}
use Rattle.kinds.specs.declared.refusal.Refusal.TheVariants as refusal
use Rattle.kinds.specs.declared.segment.Digest.{Digest}
use Rattle.kinds.specs.declared.segment.Segment.{Segment}
use Rattle.inventory_rules.specs.entries.change_items.declared.items.DiscardedVersion.{DiscardedVersion}
use Rattle.inventory_rules.specs.entries.change_items.declared.items.DroppedCopy.{DroppedCopy}
use Rattle.inventory_rules.specs.entries.change_items.declared.items.MovedCopy.{MovedCopy}
use Rattle.inventory_rules.specs.entries.change_items.declared.items.NamedVersion.{NamedVersion}
use Rattle.inventory_rules.specs.entries.change_items.declared.items.NewCopy.{NewCopy}
use Rattle.inventory_rules.specs.entries.change_items.declared.items.NewHeldObject.{NewHeldObject}
use Rattle.inventory_rules.specs.entries.change_items.declared.items.NewVersion.{NewVersion}
use Rattle.inventory_rules.specs.entries.change_items.declared.items.Rebinding.{Rebinding}
use Rattle.inventory_rules.specs.entries.change_items.declared.items.ScratchVolume.{ScratchVolume}
use Rattle.inventory_rules.specs.entries.declared.change.Change.{Change}
use Rattle.inventory_rules.specs.entries.declared.change.Change.TheVariants as change
use Rattle.inventory_rules.specs.inventory_rows.version_groups.declared.copies.CopyChange.{CopyChange}
use Rattle.inventory_rules.specs.inventory_rows.version_groups.declared.copies.CopyChange.TheVariants as copy
use Rattle.inventory_rules.specs.inventory_rows.version_groups.declared.copies.CopyRow.{CopyRow}
use Rattle.inventory_rules.specs.inventory_rows.version_groups.declared.group.Group.{Group}
use Rattle.inventory_rules.specs.inventory_rows.version_groups.declared.group.GroupChange.{GroupChange}
use Rattle.inventory_rules.specs.inventory_rows.version_groups.declared.group.GroupChange.TheVariants as group
use Rattle.inventory_rules.specs.inventory_rows.version_groups.declared.groups.Filespace.{Filespace}
use Rattle.inventory_rules.specs.inventory_rows.version_groups.declared.versions.Version.{Version}
use Rattle.inventory_rules.specs.inventory_rows.version_groups.Copies.{copies_after, has_copy, with_copy, without_copy}
use Rattle.inventory_rules.specs.inventory_rows.version_groups.Entries.{changed_at, on_ok}
use Rattle.inventory_rules.specs.inventory_rows.version_groups.Groups.{at_path, class_after, group_after, group_with, groups_after, groups_with, names_kept, versions_after, versions_at, without_empty}
use Rattle.inventory_rules.specs.inventory_rows.version_groups.Versions.{has_active, having_copies, is_empty, retired, revived, superseded, undone, version_of, with_copies}
use Rattle.inventory_rules.specs.inventory_rows.object_rows.declared.held_object.HeldRow.{HeldRow}
use Rattle.inventory_rules.specs.inventory_rows.object_rows.declared.place.Node.{Node}
use Rattle.inventory_rules.specs.inventory_rows.object_rows.declared.place.Place.{Place}
use Rattle.inventory_rules.specs.inventory_rows.object_rows.Changes.{filespaces_defined, filespaces_without, nodes_with, nodes_without, with_nodes}
use Rattle.inventory_rules.specs.inventory_rows.object_rows.Filespaces.{at_number, filespaces_after, filespaces_copied, filespaces_with, groups_copied, in_filespace, versions_in, versions_of}
use Rattle.inventory_rules.specs.inventory_rows.object_rows.HeldRows.{has_row, has_under, held_copied, held_versions, held_without}
use Rattle.inventory_rules.specs.inventory_rows.object_rows.Names.{filespace_named}
use Rattle.inventory_rules.specs.inventory_rows.object_rows.Places.{listed}
use Rattle.inventory_rules.specs.inventory_rows.object_rows.Rows.{Rows, filespaces_cleared, kept_of, rows_after, rows_altered, rows_cleared, rows_copied, rows_without, with_filespaces, with_held}
use Rattle.inventory_rules.specs.inventory_rows.Search.{copies, versions}
use Rattle.inventory_rules.specs.inventory_rows.State.{Inv}
use Rattle.inventory_rules.specs.Clients.{client_changed}
use Rattle.inventory_rules.specs.Common.{each, or_same, this}
use Rattle.inventory_rules.specs.Copies.{add_copy, change_copy, drop_copy, move_copy, placed_now, put_moved, segments_in, version_at}
use Rattle.inventory_rules.specs.Segments.{make_scratch, take_away}
use Rattle.inventory_rules.specs.Stores.{store_changed}
use Rattle.inventory_rules.specs.Transactions.{changed, effect}
use Rattle.inventory_rules.specs.Versions.{back_up, change_group, copies_at, discard, expire, held_too, hold, inserted, mark_gone, new_held, new_version, rebind, take_versions}
use Rattle.inventory_laws.specs.Origins.{ComesFrom, HasOldOrNew, IsOldOrNew, IsPlaced, Known, known, new_objects, placed_segments}
use Rattle.inventory_laws.specs.Volumes.{OnlyVolumes}
use Rattle.inventory_laws.proofs.Lists.{each_also, each_any, each_joined, each_mapped}
use Rattle.inventory_laws.proofs.Said.{if_either, if_some, kept_or, on_ok_if, unless_used_if}
use Rattle.inventory_laws.proofs.VersionVolumes.{all_scratch_only, all_taken_only, put_only, taken_only}

-- ---- values under keys

module _ {A X : Type 0} (Q : X → Type 0) where
  -- each value
  abbrev Values : List (A × X) → Type 0
  Values es = AllByRecursion (λ (e : A × X). Q e.1) es

  value_found : (test : A → Bool) (es : List (A × X)) (x : X) → lookup test es ≡ Some x → Values es → Q x
  value_found test [] x there h = absurd cc
  value_found test (e ∷ es) x there h = elim (test e.0) as (λ b. cond b (Some e.1) (lookup test es) ≡ Some x → Q x) [
    | true ↦ λ s. subst Q (same_Some e.1 x s) h.0
    | false ↦ λ s. value_found test es x s h.1
  ] there

  values_set : (test : A → Bool) (es : List (A × X)) (x : X) → Q x → Values es → Values (set_value test es x)
  values_set test [] x new h = tt
  values_set test (e ∷ es) x new h = elim (test e.0) as (λ b. Values (cond b ((e.0, x) ∷ es) (e ∷ set_value test es x))) [ true ↦ (new, h.1) | false ↦ (h.0, values_set test es x new h.1) ]

  values_left : (test : A → Bool) (es : List (A × X)) → Values es → Values (remove_entry test es)
  values_left test [] h = tt
  values_left test (e ∷ es) h = elim (test e.0) as (λ b. Values (cond b es (e ∷ remove_entry test es))) [ true ↦ h.1 | false ↦ (h.0, values_left test es h.1) ]

  values_with : (cmp : A → A → Ordering) (es : List (A × X)) (k : A) (x : X) → Q x → Values es → Values (insert_entry cmp es k x)
  values_with cmp [] k x new h = (new, tt)
  values_with cmp (e ∷ es) k x new h = elim (cmp k e.0) as (λ o. Values (match_ordering o ((k, x) ∷ e ∷ es) ((e.0, x) ∷ es) (e ∷ insert_entry cmp es k x))) [
    | Less ↦ (new, h)
    | Equal ↦ (new, h.1)
    | Greater ↦ (h.0, values_with cmp es k x new h.1)
  ]

  values_changed : (test : A → Bool) (change : X → Result X Refusal) (es : List (A × X)) → ((x : X) → Q x → IfOk (change x) Q) → Values es → IfOk (changed_at test change es) Values
  values_changed test change es step h =
      if_some Values (lookup test es) (λ x. on_ok (set_value test es) (change x))
      (λ x there. on_ok_if Q Values (set_value test es) (change x) (λ y new. values_set test es y new h) (step x (value_found test es x there h)))

-- ---- lists

each_filtered : {X : Type 0} (P : X → Type 0) (p : X → Bool) (xs : List X) → AllByRecursion P xs → AllByRecursion P (filter p xs)
each_filtered P p [] h = tt
each_filtered P p (x ∷ xs) h = elim (p x) as (λ b. AllByRecursion P (cond b (x ∷ filter p xs) (filter p xs))) [ true ↦ (h.0, each_filtered P p xs h.1) | false ↦ each_filtered P p xs h.1 ]

-- what holds of each element holds of the one that is found, which passes the test
pub each_found : {X : Type 0} (P : X → Type 0) (test : X → Bool) (xs : List X) (x : X) → AllByRecursion P xs → find test xs ≡ Some x → P x × (test x ≡ true)
each_found P test [] x all h = absurd cc
each_found {X} P test (y ∷ xs) x all h =
    elim (test y) as (λ b. test y ≡ b → cond b (Some y) (find test xs) ≡ Some x → P x × (test x ≡ true)) [
      | true ↦ λ t s. let same : y ≡ x = same_Some y x s in (subst P same all.0, subst (λ (z : X). test z ≡ true) same t)
      | false ↦ λ t s. each_found P test xs x all.1 s
    ] refl h

pub each_appended : {X : Type 0} (P : X → Type 0) (xs ys : List X) → AllByRecursion P xs → AllByRecursion P ys → AllByRecursion P (xs ++ ys)
each_appended P [] ys a b = b
each_appended P (x ∷ xs) ys a b = (a.0, each_appended P xs ys a.1 b)

each_map : {A B : Type 0} (P : B → Type 0) (f : A → B) (xs : List A) → AllByRecursion (λ x. P (f x)) xs → AllByRecursion P (map f xs)
each_map P f [] h = tt
each_map P f (x ∷ xs) h = (h.0, each_map P f xs h.1)

pub each_flat : {A B : Type 0} (P : B → Type 0) (f : A → List B) (xs : List A) → AllByRecursion (λ x. AllByRecursion P (f x)) xs → AllByRecursion P (flat_map f xs)
each_flat P f [] h = tt
each_flat P f (x ∷ xs) h = each_appended P (f x) (flat_map f xs) h.0 (each_flat P f xs h.1)

each_of_flat : {A B : Type 0} (P : B → Type 0) (f : A → List B) (xs : List A) → AllByRecursion P (flat_map f xs) → AllByRecursion (λ x. AllByRecursion P (f x)) xs
each_of_flat P f [] h = tt
each_of_flat P f (x ∷ xs) h = let t = each_joined P (f x) (flat_map f xs) h in (t.0, each_of_flat P f xs t.1)

contains_behind : {X : Type 0} (xs : List X) (y x : X) → Contains xs x → Contains (y ∷ xs) x
contains_behind xs y x c = (suc c.0, omega (arith, c.1), c.2)

pub each_contained : {X : Type 0} (xs : List X) → AllByRecursion (Contains xs) xs
each_contained [] = tt
each_contained {X} (x ∷ xs) = ((0, omega arith, refl), each_also (Contains xs) (Contains (x ∷ xs)) xs (λ y c. contains_behind xs x y c) (each_contained xs))

holds_at : {X : Type 0} (P : X → Type 0) (xs : List X) (k : ℕ) (x : X) → k < length xs → slice_index_or xs k x ≡ x → AllByRecursion P xs → P x
holds_at P [] k x lt is h = absurd (omega (arith, lt))
holds_at P (y ∷ xs) zero x lt is h = subst P is h.0
holds_at P (y ∷ xs) (suc k) x lt is h = holds_at P xs k x (omega (arith, lt)) is h.1

pub contained_holds : {X : Type 0} (P : X → Type 0) (xs : List X) (x : X) → Contains xs x → AllByRecursion P xs → P x
contained_holds P xs x c h = holds_at P xs c.0 x c.1 c.2 h

-- ---- what is kept

module _ (H : ℕ → ℕ → Digest → Type 0) (K : ℕ → CopyRow → Type 0) (N : ℕ → Type 0) where
  -- H of what is kept of an object, and K of each of its copies
  pub record Has (w : Version) : Type 0 where
    pub is : H w.object w.size w.digest
    pub copies : AllByRecursion (K w.object) w.copies

  abbrev Have : List Version → Type 0
  Have ws = AllByRecursion Has ws

  abbrev HasGroup : Group → Type 0
  HasGroup g = Have g.versions

  abbrev Groups : List (List ℕ × Group) → Type 0
  Groups gs = Values {A = List ℕ} HasGroup gs

  abbrev HasFilespace : Filespace → Type 0
  HasFilespace f = Groups f.groups

  abbrev Filespaces : List (ℕ × Filespace) → Type 0
  Filespaces fs = Values {A = ℕ} HasFilespace fs

  abbrev HasRow : HeldRow → Type 0
  HasRow row = Has row.held.version

  abbrev Held : List (ℕ × HeldRow) → Type 0
  Held rows = Values {A = ℕ} HasRow rows

  -- the filespaces and the held objects
  pub record InRows (rows : Rows) : Type 0 where
    pub filespaces : Filespaces rows.filespaces
    pub held : Held rows.held

  rows_of : (rows : Rows) → Have (kept_of rows) → InRows rows
  rows_of rows h =
      let parts = each_joined Has (versions_of rows.filespaces) (held_versions rows.held) h in
      record {
        filespaces = each_also (λ (f : ℕ × Filespace). Have (versions_in f.1.groups)) (λ (f : ℕ × Filespace). HasFilespace f.1) rows.filespaces
            (λ f have. each_of_flat Has (λ (g : List ℕ × Group). g.1.versions) f.1.groups have)
            (each_of_flat Has (λ (f : ℕ × Filespace). versions_in f.1.groups) rows.filespaces parts.0);
        held = each_mapped Has (λ (e : ℕ × HeldRow). e.1.held.version) rows.held parts.1;
      }

  of_rows : (rows : Rows) → InRows rows → Have (kept_of rows)
  of_rows rows h =
      each_appended Has (versions_of rows.filespaces) (held_versions rows.held)
      (each_flat Has (λ (f : ℕ × Filespace). versions_in f.1.groups) rows.filespaces
      (each_also (λ (f : ℕ × Filespace). HasFilespace f.1) (λ (f : ℕ × Filespace). Have (versions_in f.1.groups)) rows.filespaces
      (λ f have. each_flat Has (λ (g : List ℕ × Group). g.1.versions) f.1.groups have) h.filespaces))
      (each_map Has (λ (e : ℕ × HeldRow). e.1.held.version) rows.held h.held)

  -- ---- the versions of a path

  have_retired : (day : ℕ) (ws : List Version) → Have ws → Have (retired day ws)
  have_retired day [] h = tt
  have_retired day (w ∷ ws) h = (record { is = h.0.is; copies = h.0.copies }, h.1)

  have_revived : (ws : List Version) → Have ws → Have (revived ws)
  have_revived [] h = tt
  have_revived (w ∷ ws) h = (record { is = h.0.is; copies = h.0.copies }, h.1)

  have_superseded : (day : ℕ) (ws : List Version) → Have ws → Have (superseded day ws)
  have_superseded day ws h = elim (has_active ws) as (λ b. Have (cond b (retired day ws) ws)) [ true ↦ have_retired day ws h | false ↦ h ]

  have_undone : (active : Bool) (ws : List Version) → Have ws → Have (undone active ws)
  have_undone active [] h = tt
  have_undone true (w ∷ ws) h = have_revived ws h.1
  have_undone false (w ∷ ws) h = h.1

  have_after : (c : GroupChange) (ws : List Version) → Have ws → Have (versions_after c ws)
  have_after (group.Gone object today) ws h = have_retired today ws h
  have_after (group.Remove object) ws h = each_filtered Has (λ (w : Version). not (eqb w.object object)) ws h
  have_after (group.Rebind class) ws h = h
  have_after (group.Undo class active) ws h = have_undone active ws h

  have_group_after : (c : GroupChange) (g : Group) → HasGroup g → IfOk (group_after c g) HasGroup
  have_group_after c g h = elim (names_kept c g.versions) as (λ b. IfOk
      (cond b (Ok (record { class = class_after c g.class; versions = versions_after c g.versions })) (Err refusal.NotFound)) HasGroup) [
        | true ↦ have_after c g.versions h
        | false ↦ tt
      ]

  have_group_with : (class : List ℕ) (w : Version) (o : Option Group) → Has w → ((g : Group) → o ≡ Some g → HasGroup g) → HasGroup (group_with class w o)
  have_group_with class w None new h = (new, tt)
  have_group_with class w (Some g) new h = (new, have_superseded w.stored g.versions (h g refl))

  have_groups_with : (path class : List ℕ) (w : Version) (gs : List (List ℕ × Group)) → Has w → Groups gs → Groups (groups_with path class w gs)
  have_groups_with path class w gs new h =
      values_with HasGroup (slice_cmp nat_cmp) gs path (group_with class w (lookup (at_path path) gs))
      (have_group_with class w (lookup (at_path path) gs) new (λ g there. value_found HasGroup (at_path path) gs g there h)) h

  have_without_empty : (path : List ℕ) (gs : List (List ℕ × Group)) → Groups gs → Groups (without_empty path gs)
  have_without_empty path gs h = elim (is_empty (versions_at path gs)) as (λ b. Groups (cond b (remove_entry (at_path path) gs) gs)) [ true ↦ values_left HasGroup (at_path path) gs h | false ↦ h ]

  have_groups_after : (path : List ℕ) (c : GroupChange) (gs : List (List ℕ × Group)) → Groups gs → IfOk (groups_after path c gs) Groups
  have_groups_after path c gs h =
      on_ok_if Groups Groups (without_empty path) (changed_at (at_path path) (group_after c) gs) (λ new have. have_without_empty path new have)
      (values_changed HasGroup (at_path path) (group_after c) gs (λ g have. have_group_after c g have) h)

  -- ---- the groups of a filespace

  have_in_filespace : (n : ℕ) (change : List (List ℕ × Group) → Result (List (List ℕ × Group)) Refusal) (fs : List (ℕ × Filespace)) →
      ((gs : List (List ℕ × Group)) → Groups gs → IfOk (change gs) Groups) → Filespaces fs → IfOk (in_filespace n change fs) Filespaces
  have_in_filespace n change fs step h =
      values_changed HasFilespace (at_number n) (λ (f : Filespace). on_ok (λ (gs : List (List ℕ × Group)). record f { groups = gs }) (change f.groups)) fs
      (λ f have. on_ok_if Groups HasFilespace (λ (gs : List (List ℕ × Group)). record f { groups = gs }) (change f.groups) (λ gs new. new) (step f.groups have)) h

  have_filespaces_with : (n : ℕ) (path class : List ℕ) (w : Version) (fs : List (ℕ × Filespace)) → Has w → Filespaces fs → IfOk (filespaces_with n path class w fs) Filespaces
  have_filespaces_with n path class w fs new h = have_in_filespace n (λ gs. Ok (groups_with path class w gs)) fs (λ gs have. have_groups_with path class w gs new have) h

  have_filespaces_after : (n : ℕ) (path : List ℕ) (c : GroupChange) (fs : List (ℕ × Filespace)) → Filespaces fs → IfOk (filespaces_after n path c fs) Filespaces
  have_filespaces_after n path c fs h = have_in_filespace n (groups_after path c) fs (λ gs have. have_groups_after path c gs have) h

  -- ---- rows

  in_filespaces : (rows : Rows) (said : Result (List (ℕ × Filespace)) Refusal) → InRows rows → IfOk said Filespaces → IfOk (with_filespaces rows said) InRows
  in_filespaces rows said h new = on_ok_if Filespaces InRows (λ fs. record { nodes = rows.nodes; filespaces = fs; held = rows.held }) said (λ fs have. record { filespaces = have; held = h.held }) new

  in_held : (rows : Rows) (held : List (ℕ × HeldRow)) → InRows rows → Held held → IfOk (with_held rows (Ok held)) InRows
  in_held rows held h new = record { filespaces = h.filespaces; held = new }

  in_rows_after : (n : ℕ) (path : List ℕ) (c : GroupChange) (rows : Rows) → InRows rows → IfOk (rows_after n path c rows) InRows
  in_rows_after n path c rows h = in_filespaces rows (filespaces_after n path c rows.filespaces) h (have_filespaces_after n path c rows.filespaces h.filespaces)

  in_rows_cleared : (n : ℕ) (path : List ℕ) (object : ℕ) (rows : Rows) → InRows rows → IfOk (rows_cleared n path object rows) InRows
  in_rows_cleared n path object rows h =
      if_either InRows (has_under n path object rows.held) (with_held rows (Ok (held_without object rows.held))) (rows_after n path (group.Remove object) rows)
      (λ is. in_held rows (held_without object rows.held) h (values_left HasRow (at_number object) rows.held h.held)) (λ isnt. in_rows_after n path (group.Remove object) rows h)

  in_rows_without : (object : ℕ) (rows : Rows) → InRows rows → IfOk (rows_without object rows) InRows
  in_rows_without object rows h =
      let found : Option Place = lookup (at_number object) (listed rows.filespaces) in
      if_either InRows (has_row object rows.held) (with_held rows (Ok (held_without object rows.held))) (with_filespaces rows (filespaces_cleared object found rows.filespaces))
      (λ is. in_held rows (held_without object rows.held) h (values_left HasRow (at_number object) rows.held h.held))
      (λ isnt. in_filespaces rows (filespaces_cleared object found rows.filespaces) h
      (if_some Filespaces found (λ (place : Place). filespaces_after place.filespace place.path (group.Remove object) rows.filespaces)
      (λ place there. have_filespaces_after place.filespace place.path (group.Remove object) rows.filespaces h.filespaces)))

  -- ---- copies

  with_copy_each : (P : CopyRow → Type 0) (new : CopyRow) (cs : List CopyRow) → P new → AllByRecursion P cs → AllByRecursion P (with_copy new cs)
  with_copy_each P new [] p h = (p, tt)
  with_copy_each P new (c ∷ cs) p h = elim (nat_lt new.pool c.pool) as
      (λ b. AllByRecursion P (cond b (new ∷ c ∷ cs) (c ∷ with_copy new cs))) [ true ↦ (p, h) | false ↦ (h.0, with_copy_each P new cs p h.1) ]

  without_each : (P : CopyRow → Type 0) (pool : ℕ) (cs : List CopyRow) → AllByRecursion P cs → AllByRecursion P (without_copy pool cs)
  without_each P pool cs h = each_filtered P (λ (c : CopyRow). not (eqb c.pool pool)) cs h

  -- the copy that a change brings
  abbrev Brings : (CopyRow → Type 0) → CopyChange → Type 0
  Brings P (copy.Add new) = P new
  Brings P (copy.Replace from new) = P new
  Brings P (copy.Drop pool) = Unit {0}

  after_each : (P : CopyRow → Type 0) (c : CopyChange) (cs : List CopyRow) → Brings P c → AllByRecursion P cs → IfOk (copies_after c cs) (AllByRecursion P)
  after_each P (copy.Add new) cs p h = with_copy_each P new cs p h
  after_each P (copy.Replace from new) cs p h = if_either (AllByRecursion P) (has_copy from cs) (Ok (with_copy new (without_copy from cs))) (Err refusal.NotFound)
      (λ is. with_copy_each P new (without_copy from cs) p (without_each P from cs h)) (λ isnt. tt)
  after_each P (copy.Drop pool) cs p h = if_either (AllByRecursion P) (has_copy pool cs) (Ok (without_copy pool cs)) (Err refusal.NotFound) (λ is. without_each P pool cs h) (λ isnt. tt)

  has_having : (object : ℕ) (cs : List CopyRow) (w : Version) → AllByRecursion (K object) cs → Has w → Has (having_copies object cs w)
  has_having object cs w new h = elim (eqb w.object object) as (λ b. eqb w.object object ≡ b → Has (cond b (record w { copies = cs }) w)) [
    | true ↦ λ e. record { is = h.is; copies = subst (λ (k : ℕ). AllByRecursion (K k) cs) (sym (eqb-true w.object object e)) new }
    | false ↦ λ e. h
  ] refl

  have_copied : (object : ℕ) (cs : List CopyRow) (ws : List Version) → AllByRecursion (K object) cs → Have ws → Have (with_copies object cs ws)
  have_copied object cs [] new h = tt
  have_copied object cs (w ∷ ws) new h = (has_having object cs w new h.0, have_copied object cs ws new h.1)

  groups_with_copies : (object : ℕ) (cs : List CopyRow) (gs : List (List ℕ × Group)) → AllByRecursion (K object) cs → Groups gs → Groups (groups_copied object cs gs)
  groups_with_copies object cs [] new h = tt
  groups_with_copies object cs (g ∷ gs) new h = (have_copied object cs g.1.versions new h.0, groups_with_copies object cs gs new h.1)

  filespaces_with_copies : (object : ℕ) (cs : List CopyRow) (fs : List (ℕ × Filespace)) → AllByRecursion (K object) cs → Filespaces fs → Filespaces (filespaces_copied object cs fs)
  filespaces_with_copies object cs [] new h = tt
  filespaces_with_copies object cs (f ∷ fs) new h = (groups_with_copies object cs f.1.groups new h.0, filespaces_with_copies object cs fs new h.1)

  held_with_copies : (object : ℕ) (cs : List CopyRow) (held : List (ℕ × HeldRow)) → AllByRecursion (K object) cs → Held held → Held (held_copied object cs held)
  held_with_copies object cs [] new h = tt
  held_with_copies object cs (e ∷ held) new h = (has_having object cs e.1.held.version new h.0, held_with_copies object cs held new h.1)

  in_rows_altered : (object : ℕ) (c : CopyChange) (rows : Rows) → Brings (K object) c → InRows rows → IfOk (rows_altered object c rows) InRows
  in_rows_altered object c rows new h =
      if_some InRows (version_of object (kept_of rows)) (λ (w : Version). on_ok (λ cs. rows_copied object cs rows) (copies_after c w.copies)) (λ w there.
      let found = each_found Has (λ (x : Version). eqb x.object object) (kept_of rows) w (of_rows rows h) there in
      let is : w.object ≡ object = eqb-true w.object object found.1 in
      on_ok_if (AllByRecursion (K object)) InRows (λ cs. rows_copied object cs rows) (copies_after c w.copies)
      (λ cs have. record { filespaces = filespaces_with_copies object cs rows.filespaces have h.filespaces; held = held_with_copies object cs rows.held have h.held })
      (after_each (K object) c w.copies new (subst (λ (k : ℕ). AllByRecursion (K k) w.copies) is found.0.copies)))

  -- ---- the steps of a transaction

  -- N of the number of the transaction that is made on it
  abbrev In : Inv → Type 0
  In v = InRows v.clients × N (this v)

  -- the same objects are kept, and the same number comes next
  still : (v w : Inv) → OnlyVolumes v w → In v → In w
  still v w o h = (subst InRows (sym o.clients) h.0, subst (λ (n : ℕ). N (n + 1)) (sym o.number) h.1)

  each_step : {X : Type 0} (P : X → Type 0) (step : X → Inv → Inv) (xs : List X) → ((x : X) (v : Inv) → P x → In v → In (step x v)) → (v : Inv) → AllByRecursion P xs → In v → In (each step xs v)
  each_step P step [] one v p h = h
  each_step P step (x ∷ xs) one v p h = each_step P step xs one (step x v) p.1 (one x v p.0 h)

  each_free : {X : Type 0} (step : X → Inv → Inv) (xs : List X) → ((x : X) (v : Inv) → In v → In (step x v)) → (v : Inv) → In v → In (each step xs v)
  each_free {X} step xs one v h = each_step (λ (x : X). Unit {0}) step xs (λ x w p have. one x w have) v (each_any (λ (x : X). Unit {0}) xs (λ x. tt)) h

  -- K of a copy of an object with these segments, in whatever pool, that is placed by a transaction with such a number
  abbrev pub Places : ℕ → List Segment → Type 0
  Places object segments = (pool placed : ℕ) → N placed → K object (record { pool = pool; placed = placed; segments = segments })

  insert_step : (filespace : ℕ) (item : NewVersion) (v : Inv) → H item.object item.size item.digest × Places item.object item.segments → In v → In (inserted filespace item v)
  insert_step filespace item v new h = (
    record {
      filespaces = kept_or Filespaces v.clients.filespaces (filespaces_with filespace item.path item.class (new_version v item) v.clients.filespaces) h.0.filespaces
          (have_filespaces_with filespace item.path item.class (new_version v item) v.clients.filespaces (record { is = new.0; copies = (new.1 item.pool (this v) h.1, tt) }) h.0.filespaces);
      held = h.0.held;
    },
    h.1,
  )

  back_up_step : (filespace : ℕ) (item : NewVersion) (v : Inv) → H item.object item.size item.digest × Places item.object item.segments → In v → In (back_up filespace item v)
  back_up_step filespace item v new h = still (inserted filespace item v) (back_up filespace item v) (put_only item.object item.segments (inserted filespace item v))
      (insert_step filespace item v new h)

  hold_step : (filespace : ℕ) (item : NewHeldObject) (v : Inv) → H item.object item.size item.digest × Places item.object item.segments → In v → In (hold filespace item v)
  hold_step filespace item v new h =
      still (held_too filespace item v) (hold filespace item v) (put_only item.object item.segments (held_too filespace item v)) (
        record {
          filespaces = h.0.filespaces;
          held = values_with HasRow nat_cmp v.clients.held item.object (record { filespace = filespace; held = new_held v item }) (record { is = new.0; copies = (new.1 item.pool (this v) h.1, tt) }) h.0.held;
        },
        h.1,
      )

  group_step : (filespace : ℕ) (path : List ℕ) (c : GroupChange) (v : Inv) → In v → In (change_group filespace path c v)
  group_step filespace path c v h = (
    record {
      filespaces = kept_or Filespaces v.clients.filespaces (filespaces_after filespace path c v.clients.filespaces) h.0.filespaces
          (have_filespaces_after filespace path c v.clients.filespaces h.0.filespaces);
      held = h.0.held;
    },
    h.1,
  )

  taken_step : (object : ℕ) (v : Inv) → In v → In (take_versions object v)
  taken_step object v h = still v (take_versions object v) (all_taken_only object (copies_at object v) v) h

  expire_step : (filespace : ℕ) (item : NamedVersion) (v : Inv) → In v → In (expire filespace item v)
  expire_step filespace item v h =
      let w = take_versions item.object v in
      let t = taken_step item.object v h in
      (kept_or InRows w.clients (rows_cleared filespace item.path item.object w.clients) t.0 (in_rows_cleared filespace item.path item.object w.clients t.0), t.1)

  discard_step : (item : DiscardedVersion) (v : Inv) → In v → In (discard item v)
  discard_step item v h =
      let w = take_versions item.object v in
      let t = taken_step item.object v h in
      (kept_or InRows w.clients (rows_without item.object w.clients) t.0 (in_rows_without item.object w.clients t.0), t.1)

  copy_step : (object : ℕ) (c : CopyChange) (v : Inv) → Brings (K object) c → In v → In (change_copy object c v)
  copy_step object c v new h = (kept_or InRows v.clients (rows_altered object c v.clients) h.0 (in_rows_altered object c v.clients new h.0), h.1)

  add_step : (item : NewCopy) (v : Inv) → Places item.object item.segments → In v → In (add_copy item v)
  add_step item v new h =
      let c = copy.Add (placed_now item.pool item.segments v) in
      still (change_copy item.object c v) (add_copy item v) (put_only item.object item.segments (change_copy item.object c v)) (copy_step item.object c v (new item.pool (this v) h.1) h)

  move_step : (item : MovedCopy) (v : Inv) → Places item.object item.segments → In v → In (move_copy item v)
  move_step item v new h =
      let left = segments_in item.from (version_at item.object v) in
      copy_step item.object (copy.Replace item.from (placed_now item.pool item.segments v)) (take_away item.object left v) (new item.pool (this v) h.1)
      (still v (take_away item.object left v) (taken_only item.object left v) h)

  drop_step : (item : DroppedCopy) (v : Inv) → In v → In (drop_copy item v)
  drop_step item v h =
      let left = segments_in item.pool (version_at item.object v) in
      copy_step item.object (copy.Drop item.pool) (take_away item.object left v) tt (still v (take_away item.object left v) (taken_only item.object left v) h)

  put_step : (item : MovedCopy) (v : Inv) → In v → In (put_moved item v)
  put_step item v h = still v (put_moved item v) (put_only item.object item.segments v) h

  scratch_step : (scratch : List ScratchVolume) (v : Inv) → In v → In (each make_scratch scratch v)
  scratch_step scratch v h = still v (each make_scratch scratch v) (all_scratch_only scratch v) h

  -- ---- nodes and filespaces

  nodes_step : (rows : Rows) (said : Result (List (ℕ × Node)) Refusal) → InRows rows → InRows (or_same rows (with_nodes rows said))
  nodes_step rows (Ok nodes) h = record { filespaces = h.filespaces; held = h.held }
  nodes_step rows (Err e) h = h

  clients_step : (c : ObjectChange) (v : Inv) → In v → In (client_changed c v)
  clients_step (client.Node two.Define name domain) v h = (nodes_step v.clients (nodes_with name domain v.next_node v.clients.nodes) h.0, h.1)
  clients_step (client.Node two.Delete name domain) v h = (nodes_step v.clients (nodes_without name v.clients.filespaces v.clients.nodes) h.0, h.1)
  clients_step (client.Filespace two.Define node name n) v h = (
    kept_or InRows v.clients (with_filespaces v.clients (filespaces_defined node name n v.clients.nodes v.clients.filespaces)) h.0
        (in_filespaces v.clients (filespaces_defined node name n v.clients.nodes v.clients.filespaces) h.0
        (if_some Filespaces (lookup (at_number node) v.clients.nodes) _ (λ x there.
        if_either Filespaces (is_some (filespace_named node name v.clients.filespaces)) (Err refusal.Exists)
        (Ok (insert_entry nat_cmp v.clients.filespaces n (record { node = node; name = name; groups = [] }))) (λ is. tt)
        (λ isnt. values_with HasFilespace nat_cmp v.clients.filespaces n (record { node = node; name = name; groups = [] }) tt h.0.filespaces)))),
    h.1,
  )
  clients_step (client.Filespace two.Delete node name n) v h = (
    kept_or InRows v.clients (with_filespaces v.clients (filespaces_without n v.clients.held v.clients.filespaces)) h.0
        (in_filespaces v.clients (filespaces_without n v.clients.held v.clients.filespaces) h.0
        (if_some Filespaces (lookup (at_number n) v.clients.filespaces) _
        (λ f there. unless_used_if Filespaces _ (remove_entry (at_number n) v.clients.filespaces) (values_left HasFilespace (at_number n) v.clients.filespaces h.0.filespaces)))),
    h.1,
  )

  stores_step : (c : PoolChange) (v : Inv) → In v → In (store_changed c v)
  stores_step (store.DevClass v1 name capacity) v h = h
  stores_step (store.Pool verb.Define name class kind rule) v h = h
  stores_step (store.Pool verb.Update name class kind rule) v h = h
  stores_step (store.Pool verb.Delete name class kind rule) v h = h
  stores_step (store.Volume verb.Define name pool file capacity access) v h = h
  stores_step (store.Volume verb.Update name pool file capacity access) v h = h
  stores_step (store.Volume verb.Delete name pool file capacity access) v h = h

  -- ---- every transaction

  -- H of each object that it brings, and K of each copy that it places
  pub record Brought (c : Change) : Type 0 where
    pub objects : AllByRecursion (λ (o : Known). H o.object o.size o.digest) (new_objects c)
    pub places : AllByRecursion (λ (e : ℕ × List Segment). Places e.0 e.1) (placed_segments c)

  both_of : {X : Type 0} (P Q : X → Type 0) (xs : List X) → AllByRecursion P xs → AllByRecursion Q xs → AllByRecursion (λ x. P x × Q x) xs
  both_of P Q [] a b = tt
  both_of P Q (x ∷ xs) a b = ((a.0, b.0), both_of P Q xs a.1 b.1)

  changed_step : (c : Change) (v : Inv) → Brought c → In v → In (changed c v)
  changed_step (change.Day day) v b h = h
  changed_step (change.Policy c) v b h = h
  changed_step (change.Object c) v b h = clients_step c v h
  changed_step (change.Pool c) v b h = stores_step c v h
  changed_step (change.Backup c) v b h =
      each_step (λ (i : NewVersion). H i.object i.size i.digest × Places i.object i.segments) (back_up c.filespace) c.items (λ i w new have. back_up_step c.filespace i w new have)
      (each make_scratch c.scratch v)
      (both_of (λ (i : NewVersion). H i.object i.size i.digest) (λ (i : NewVersion). Places i.object i.segments) c.items
      (each_mapped (λ (o : Known). H o.object o.size o.digest) (λ (i : NewVersion). record { object = i.object; size = i.size; digest = i.digest }) c.items b.objects)
      (each_mapped (λ (e : ℕ × List Segment). Places e.0 e.1) (λ (i : NewVersion). (i.object, i.segments)) c.items b.places)) (scratch_step c.scratch v h)
  changed_step (change.Hold c) v b h =
      each_step (λ (i : NewHeldObject). H i.object i.size i.digest × Places i.object i.segments) (hold c.filespace) c.items (λ i w new have. hold_step c.filespace i w new have)
      (each make_scratch c.scratch v)
      (both_of (λ (i : NewHeldObject). H i.object i.size i.digest) (λ (i : NewHeldObject). Places i.object i.segments) c.items
      (each_mapped (λ (o : Known). H o.object o.size o.digest) (λ (i : NewHeldObject). record { object = i.object; size = i.size; digest = i.digest }) c.items b.objects)
      (each_mapped (λ (e : ℕ × List Segment). Places e.0 e.1) (λ (i : NewHeldObject). (i.object, i.segments)) c.items b.places)) (scratch_step c.scratch v h)
  changed_step (change.Rebind c) v b h = each_free (rebind c.filespace) c.items (λ (i : Rebinding) w have. group_step c.filespace i.path (group.Rebind i.class) w have) v h
  changed_step (change.Gone c) v b h = each_free (mark_gone c.filespace) c.items (λ (i : NamedVersion) w have. group_step c.filespace i.path (group.Gone i.object w.today) w have) v h
  changed_step (change.Move c) v b h =
      each_step (λ (i : MovedCopy). Places i.object i.segments) move_copy c.items (λ i w new have. move_step i w new have) (each put_moved c.items (each make_scratch c.scratch v))
      (each_mapped (λ (e : ℕ × List Segment). Places e.0 e.1) (λ (i : MovedCopy). (i.object, i.segments)) c.items b.places)
      (each_free put_moved c.items (λ i w have. put_step i w have) (each make_scratch c.scratch v) (scratch_step c.scratch v h))
  changed_step (change.Copy c) v b h =
      each_step (λ (i : NewCopy). Places i.object i.segments) add_copy c.items (λ i w new have. add_step i w new have) (each make_scratch c.scratch v)
      (each_mapped (λ (e : ℕ × List Segment). Places e.0 e.1) (λ (i : NewCopy). (i.object, i.segments)) c.items b.places) (scratch_step c.scratch v h)
  changed_step (change.DropCopies c) v b h = each_free drop_copy c.items (λ i w have. drop_step i w have) v h
  changed_step (change.Expire c) v b h = each_free (expire c.filespace) c.items (λ i w have. expire_step c.filespace i w have) v h
  changed_step (change.Discard c) v b h = each_free discard c.items (λ i w have. discard_step i w have) v h
  changed_step (change.Reuse file) v b h = h
  changed_step (change.DbBegin file after) v b h = h
  changed_step (change.DbEnd file) v b h = h
  changed_step (change.DbDelete file) v b h = h

  pub effect_has : (c : Change) (v : Inv) → Brought c → N (this v) → AllByRecursion Has (versions v) → AllByRecursion Has (versions (effect c v))
  unfolding effect
  effect_has c v b n h = of_rows (changed c v).clients (changed_step c v b (rows_of v.clients h, n)).0

-- ---- where each comes from

-- of whatever number
abbrev Any : ℕ → Type 0
Any n = Unit {0}

module _ (c : Change) (v : Inv) where
  abbrev IsKnown : ℕ → ℕ → Digest → Type 0
  IsKnown object size digest = let k : Known = record { object = object; size = size; digest = digest } in Contains (map known (versions v)) k ⊎ Contains (new_objects c) k

  have_places : (ws : List Version) → AllByRecursion (λ (e : ℕ × CopyRow). Contains (copies v) e) (flat_map (λ (w : Version). map (λ (x : CopyRow). (w.object, x)) w.copies) ws)
      → AllByRecursion (λ (k : Known). Contains (map known (versions v)) k) (map known ws) → AllByRecursion (Has IsKnown (IsPlaced c v) Any) ws
  have_places [] placed is = tt
  have_places (w ∷ ws) placed is =
      let parts = each_joined (λ (e : ℕ × CopyRow). Contains (copies v) e) (map (λ (x : CopyRow). (w.object, x)) w.copies)
      (flat_map (λ (w : Version). map (λ (x : CopyRow). (w.object, x)) w.copies) ws) placed in (
        record {
          is = inl is.0;
          copies = each_also (λ (x : CopyRow). Contains (copies v) (w.object, x)) (IsPlaced c v w.object) w.copies (λ x there. inl there)
              (each_mapped (λ (e : ℕ × CopyRow). Contains (copies v) e) (λ (x : CopyRow). (w.object, x)) w.copies parts.0);
        },
        have_places ws parts.1 is.1,
      )

  pub comes_from : AllByRecursion (ComesFrom c v) (versions (effect c v))
  comes_from =
      each_also (Has IsKnown (IsPlaced c v) Any) (ComesFrom c v) (versions (effect c v)) (λ w h. record { object = h.is; copies = h.copies })
      (effect_has IsKnown (IsPlaced c v) Any c v (record {
        objects = each_also (λ (o : Known). Contains (new_objects c) o) (λ (o : Known). IsKnown o.object o.size o.digest) (new_objects c) (λ o there. inr there) (each_contained (new_objects c));
        places = each_also (λ (e : ℕ × List Segment). Contains (placed_segments c) e) (λ (e : ℕ × List Segment). Places IsKnown (IsPlaced c v) Any e.0 e.1) (placed_segments c)
            (λ e there pool placed any. inr there) (each_contained (placed_segments c));
      }) tt (have_places (versions v) (each_contained (copies v)) (each_contained (map known (versions v)))))

-- ---- copies are there, or are placed now

module _ (c : Change) (v : Inv) where
  -- of whatever object
  abbrev AnyOf : ℕ → ℕ → Digest → Type 0
  AnyOf object size digest = Unit {0}

  abbrev IsNext : ℕ → Type 0
  IsNext n = n ≡ this v

  have_old : (ws : List Version) → AllByRecursion (λ (e : ℕ × CopyRow). Contains (copies v) e) (flat_map (λ (w : Version). map (λ (x : CopyRow). (w.object, x)) w.copies) ws)
      → AllByRecursion (Has AnyOf (IsOldOrNew v) IsNext) ws
  have_old [] placed = tt
  have_old (w ∷ ws) placed =
      let parts = each_joined (λ (e : ℕ × CopyRow). Contains (copies v) e) (map (λ (x : CopyRow). (w.object, x)) w.copies)
      (flat_map (λ (w : Version). map (λ (x : CopyRow). (w.object, x)) w.copies) ws) placed in (
        record {
          is = tt;
          copies = each_also (λ (x : CopyRow). Contains (copies v) (w.object, x)) (IsOldOrNew v w.object) w.copies (λ x there. inl there)
              (each_mapped (λ (e : ℕ × CopyRow). Contains (copies v) e) (λ (x : CopyRow). (w.object, x)) w.copies parts.0);
        },
        have_old ws parts.1,
      )

  pub old_or_new : AllByRecursion (HasOldOrNew v) (versions (effect c v))
  old_or_new =
      each_also (Has AnyOf (IsOldOrNew v) IsNext) (HasOldOrNew v) (versions (effect c v)) (λ w h. h.copies)
      (effect_has AnyOf (IsOldOrNew v) IsNext c v (record {
        objects = each_any (λ (o : Known). AnyOf o.object o.size o.digest) (new_objects c) (λ o. tt);
        places = each_any (λ (e : ℕ × List Segment). Places AnyOf (IsOldOrNew v) IsNext e.0 e.1) (placed_segments c) (λ e pool placed is. inr is);
      }) refl (have_old (versions v) (each_contained (copies v))))
