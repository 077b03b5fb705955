-- A new object is kept behind the transaction that brings it, whatever database that is made on, and in whatever order its rows stand.
use Rattle.std.proofs.Common.{◌≡◌, ℕ, ◌==◌, ◌&&◌, ◌||◌, Bool, true, false, cond, List, [], ◌∷◌, length, map, is_none, is_some, Option, Some, None, Ok, Ordering, refl, sym, ap, subst, ◌∙◌}
use Rattle.std.proofs.lemmas.Bool.{and_from, and_parts, eq-eqb, eqb-true, or_left, or_right}
use Rattle.std.proofs.lemmas.List.Folds.{list_any-append}
use Rattle.std.proofs.lemmas.Map.Lookups.{exact_unsigned}
use Rattle.std.specs.BTreeMap.{insert_entry, is_at}
use Rattle.std.specs.Cmp.Lexicographic.{slice_cmp}
use Rattle.std.specs.List.{AllByRecursion, find, flat_map, list_any}
use Rattle.std.specs.Map.{lookup, set_value}
use Rattle.std.specs.Ordering.{is_eq, match_ordering, nat_cmp}
use Rattle.std.specs.declared.cmp.Ordering.TheVariants.{Less, Equal, Greater}
use Rattle.kinds.specs.declared.segment.Segment.{Segment}
use Rattle.steps.specs.entries.change_items.declared.items.NewHeldObject.{NewHeldObject}
use Rattle.steps.specs.entries.change_items.declared.items.NewVersion.{NewVersion}
use Rattle.steps.specs.entries.change_items.declared.items.ScratchVolume.{ScratchVolume}
use Rattle.steps.specs.inventory_rows.version_groups.Entries.{if_found, on_ok}
use Rattle.steps.specs.inventory_rows.version_groups.Groups.{group_at, group_with, groups_with}
use Rattle.steps.specs.inventory_rows.version_groups.Versions.{has_object, superseded}
use Rattle.steps.specs.inventory_rows.version_groups.declared.group.Group.{Group}
use Rattle.steps.specs.inventory_rows.version_groups.declared.groups.Filespace.{Filespace}
use Rattle.steps.specs.inventory_rows.version_groups.declared.versions.Version.{Version}
use Rattle.steps.specs.inventory_rows.object_rows.declared.held_object.HeldObject.{HeldObject}
use Rattle.steps.specs.inventory_rows.object_rows.declared.held_object.HeldRow.{HeldRow}
use Rattle.steps.specs.inventory_rows.object_rows.Filespaces.{at_number, filespace_after, filespace_at, filespaces_with, versions_in, versions_of}
use Rattle.steps.specs.inventory_rows.object_rows.HeldRows.{held_versions, held_with}
use Rattle.steps.specs.inventory_rows.object_rows.Rows.{Rows}
use Rattle.steps.specs.inventory_rows.Search.{version, versions}
use Rattle.steps.specs.inventory_rows.State.{Inv}
use Rattle.item_refusals.specs.inventory_rules.Common.{each, or_same}
use Rattle.item_refusals.specs.inventory_rules.Segments.{make_scratch, put}
use Rattle.item_refusals.specs.inventory_rules.Versions.{back_up, held_too, hold, inserted, new_held, new_version}
use Rattle.steps.specs.declared.asked.HeldItem.{HeldItem}
use Rattle.steps.specs.declared.asked.Item.{Item}
use Rattle.machine.specs.Changes.{held_from, paired, version_from}
use Rattle.machine.specs.State.{Ticket, object_of}

-- ---- tests

or_first : (a b c : Bool) → (a ≡ true → b ≡ true) → (a || c) ≡ true → (b || c) ≡ true
or_first true b c f h = or_left b c (f refl)
or_first false b c f h = or_right b c h

or_rest : (a b c : Bool) → (b ≡ true → c ≡ true) → (a || b) ≡ true → (a || c) ≡ true
or_rest true b c f h = refl
or_rest false b c f h = f h

any-implied : {X : Type 0} (p q : X → Bool) → ((x : X) → p x ≡ true → q x ≡ true) → (xs : List X) → list_any p xs ≡ true → list_any q xs ≡ true
any-implied p q f [] h = absurd cc
any-implied p q f (x ∷ xs) h = or_rest (q x) (list_any p xs) (list_any q xs) (any-implied p q f xs) (or_first (p x) (q x) (list_any p xs) (f x) h)

any-flat_map : {X A : Type 0} (p : A → Bool) (f : X → List A) (xs : List X) → list_any (λ x. list_any p (f x)) xs ≡ true → list_any p (flat_map f xs) ≡ true
any-flat_map p f [] h = absurd cc
any-flat_map p f (x ∷ xs) h = list_any-append p (f x) (flat_map f xs) ∙ or_rest (list_any p (f x)) (list_any (λ x. list_any p (f x)) xs) (list_any p (flat_map f xs)) (any-flat_map p f xs) h

any-map : {X A : Type 0} (p : A → Bool) (f : X → A) (xs : List X) → list_any (λ x. p (f x)) xs ≡ true → list_any p (map f xs) ≡ true
any-map p f [] h = absurd cc
any-map p f (x ∷ xs) h = or_rest (p (f x)) (list_any (λ x. p (f x)) xs) (list_any p (map f xs)) (any-map p f xs) h

any-found : {X : Type 0} (p : X → Bool) (xs : List X) → list_any p xs ≡ true → is_some (find p xs) ≡ true
any-found p [] h = absurd cc
any-found p (x ∷ xs) h = elim (p x) as (λ b. (b || list_any p xs) ≡ true → is_some (cond b (Some x) (find p xs)) ≡ true) [
  | true ↦ λ _. refl
  | false ↦ λ h. any-found p xs h
] h

-- ---- entries

module _ {K X : Type 0} (q : K → X → Bool) where
  abbrev passes : K × X → Bool
  passes e = q e.0 e.1

  -- what passes stays, where what comes in its place passes too
  insert-keeps : (R : K → K → Ordering) (k : K) (y : X) (es : List (K × X))
      → ((key : K) (x : X) → lookup (is_at (R k)) es ≡ Some x → R k key ≡ Equal → q key x ≡ true → q key y ≡ true)
      → list_any passes es ≡ true → list_any passes (insert_entry R es k y) ≡ true
  insert-keeps R k y [] keeps h = absurd cc
  insert-keeps R k y (e ∷ es) keeps h =
      elim (R k e.0) as (λ r. R k e.0 ≡ r → ((key : K) (x : X) → cond (is_eq r) (Some e.1) (lookup (is_at (R k)) es) ≡ Some x → R k key ≡ Equal → q key x ≡ true → q key y ≡ true)
      → list_any passes (match_ordering r ((k, y) ∷ e ∷ es) ((e.0, y) ∷ es) (e ∷ insert_entry R es k y)) ≡ true) [
        | Less ↦ λ _ _. or_right (q k y) (q e.0 e.1 || list_any passes es) h
        | Equal ↦ λ is keeps. or_first (q e.0 e.1) (q e.0 y) (list_any passes es) (keeps e.0 e.1 refl is) h
        | Greater ↦ λ _ keeps. or_rest (q e.0 e.1) (list_any passes es) (list_any passes (insert_entry R es k y)) (insert-keeps R k y es keeps) h
      ] refl keeps

  -- what comes passes
  insert-has : (R : K → K → Ordering) (k : K) (y : X) (es : List (K × X)) → ((key : K) → R k key ≡ Equal → q key y ≡ true) → q k y ≡ true → list_any passes (insert_entry R es k y) ≡ true
  insert-has R k y [] there new = or_left (q k y) false new
  insert-has R k y (e ∷ es) there new =
      elim (R k e.0) as (λ r. R k e.0 ≡ r → list_any passes (match_ordering r ((k, y) ∷ e ∷ es) ((e.0, y) ∷ es) (e ∷ insert_entry R es k y)) ≡ true) [
        | Less ↦ λ _. or_left (q k y) (q e.0 e.1 || list_any passes es) new
        | Equal ↦ λ is. or_left (q e.0 y) (list_any passes es) (there e.0 is)
        | Greater ↦ λ _. or_right (q e.0 e.1) (list_any passes (insert_entry R es k y)) (insert-has R k y es there new)
      ] refl

  set-keeps : (test : K → Bool) (y : X) (es : List (K × X)) → ((key : K) (x : X) → lookup test es ≡ Some x → q key x ≡ true → q key y ≡ true) → list_any passes es ≡ true → list_any passes (set_value test es y) ≡ true
  set-keeps test y [] keeps h = absurd cc
  set-keeps test y (e ∷ es) keeps h =
      elim (test e.0) as (λ b. ((key : K) (x : X) → cond b (Some e.1) (lookup test es) ≡ Some x → q key x ≡ true → q key y ≡ true) → list_any passes (cond b ((e.0, y) ∷ es) (e ∷ set_value test es y)) ≡ true) [
        | true ↦ λ keeps. or_first (q e.0 e.1) (q e.0 y) (list_any passes es) (keeps e.0 e.1 refl) h
        | false ↦ λ keeps. or_rest (q e.0 e.1) (list_any passes es) (list_any passes (set_value test es y)) (set-keeps test y es keeps) h
      ] keeps

  set-has : (test : K → Bool) (x y : X) (es : List (K × X)) → lookup test es ≡ Some x → ((key : K) → q key y ≡ true) → list_any passes (set_value test es y) ≡ true
  set-has test x y [] at new = absurd cc
  set-has test x y (e ∷ es) at new =
      elim (test e.0) as (λ b. cond b (Some e.1) (lookup test es) ≡ Some x → list_any passes (cond b ((e.0, y) ∷ es) (e ∷ set_value test es y)) ≡ true) [
        | true ↦ λ _. or_left (q e.0 y) (list_any passes es) (new e.0)
        | false ↦ λ at. or_right (q e.0 e.1) (list_any passes (set_value test es y)) (set-has test x y es at new)
      ] at

set-there : {K X : Type 0} (test : K → Bool) (y : X) (es : List (K × X)) → is_some (lookup test es) ≡ true → is_some (lookup test (set_value test es y)) ≡ true
set-there test y [] h = h
set-there test y (e ∷ es) h =
    elim (test e.0) as (λ b. test e.0 ≡ b → is_some (cond b (Some e.1) (lookup test es)) ≡ true → is_some (lookup test (cond b ((e.0, y) ∷ es) (e ∷ set_value test es y))) ≡ true) [
      | true ↦ λ is _. ap (λ b. is_some (cond b (Some y) (lookup test es))) is
      | false ↦ λ is h. ap (λ b. is_some (cond b (Some e.1) (lookup test (set_value test es y)))) is ∙ set-there test y es h
    ] refl h

-- ---- versions of paths

-- a group has a version of the object
abbrev pub in_group : ℕ → List ℕ → Group → Bool
in_group object path g = has_object object g.versions

abbrev pub in_filespace : ℕ → ℕ → Filespace → Bool
in_filespace object number f = list_any (λ g. in_group object g.0 g.1) f.groups

-- a path has a version of the object
abbrev pub is_version : ℕ → List (ℕ × Filespace) → Bool
is_version object filespaces = list_any (λ f. in_filespace object f.0 f.1) filespaces

superseded-has : (object day : ℕ) (vs : List Version) → has_object object vs ≡ true → has_object object (superseded day vs) ≡ true
superseded-has object day [] h = h
superseded-has object day (w ∷ vs) h = elim (is_none w.since) as (λ b. has_object object (cond b (record w { since = Some day } ∷ vs) (w ∷ vs)) ≡ true) [
  | true ↦ h
  | false ↦ h
]

group-keeps : (object : ℕ) (class : List ℕ) (w : Version) (found : Option Group) (g : Group) → found ≡ Some g → has_object object g.versions ≡ true → has_object object (group_with class w found).versions ≡ true
group-keeps object class w None g is h = absurd cc
group-keeps object class w (Some x) g is h =
    let same : g ≡ x = cc in
    or_right (w.object == object) (has_object object (superseded w.stored x.versions)) (superseded-has object w.stored x.versions (subst (λ (y : Group). has_object object y.versions ≡ true) same h))

group-has : (class : List ℕ) (w : Version) (found : Option Group) → has_object w.object (group_with class w found).versions ≡ true
group-has class w None = or_left (w.object == w.object) false (eq-eqb w.object w.object refl)
group-has class w (Some x) = or_left (w.object == w.object) (has_object w.object (superseded w.stored x.versions)) (eq-eqb w.object w.object refl)

groups-keep : (object : ℕ) (path class : List ℕ) (w : Version) (groups : List (List ℕ × Group)) → list_any (λ g. in_group object g.0 g.1) groups ≡ true → list_any (λ g. in_group object g.0 g.1) (groups_with path class w groups) ≡ true
groups-keep object path class w groups h =
    insert-keeps (in_group object) (slice_cmp nat_cmp) path (group_with class w (group_at path groups)) groups (λ key g at _ has. group-keeps object class w (group_at path groups) g at has) h

groups-have : (path class : List ℕ) (w : Version) (groups : List (List ℕ × Group)) → list_any (λ g. in_group w.object g.0 g.1) (groups_with path class w groups) ≡ true
groups-have path class w groups =
    insert-has (in_group w.object) (slice_cmp nat_cmp) path (group_with class w (group_at path groups)) groups (λ key _. group-has class w (group_at path groups)) (group-has class w (group_at path groups))

abbrev filespace_with : List ℕ → List ℕ → Version → Filespace → Filespace
filespace_with path class w f = record f { groups = groups_with path class w f.groups }

abbrev filespaces_by : ℕ → List ℕ → List ℕ → Version → List (ℕ × Filespace) → Option Filespace → List (ℕ × Filespace)
filespaces_by n path class w fs found = or_same fs (if_found found (λ f. on_ok (set_value (at_number n) fs) (filespace_after (λ groups. Ok (groups_with path class w groups)) f)))

filespaces-keep : (object n : ℕ) (path class : List ℕ) (w : Version) (fs : List (ℕ × Filespace)) → is_version object fs ≡ true → is_version object (or_same fs (filespaces_with n path class w fs)) ≡ true
filespaces-keep object n path class w fs h =
    elim (filespace_at n fs) as (λ o. filespace_at n fs ≡ o → is_version object (filespaces_by n path class w fs o) ≡ true) [
      | None ↦ λ _. h
      | Some f ↦ λ at. set-keeps (in_filespace object) (at_number n) (filespace_with path class w f) fs
          (λ key x is has. (let same : Some x ≡ Some f = sym is ∙ at in
          let one : x ≡ f = cc in
          groups-keep object path class w f.groups (subst (λ (y : Filespace). in_filespace object key y ≡ true) one has))) h
    ] refl

filespaces-have : (n : ℕ) (path class : List ℕ) (w : Version) (fs : List (ℕ × Filespace)) → is_some (filespace_at n fs) ≡ true → is_version w.object (or_same fs (filespaces_with n path class w fs)) ≡ true
filespaces-have n path class w fs h =
    elim (filespace_at n fs) as (λ o. filespace_at n fs ≡ o → is_some o ≡ true → is_version w.object (filespaces_by n path class w fs o) ≡ true) [
      | None ↦ λ _ h. absurd cc
      | Some f ↦ λ at _. set-has (in_filespace w.object) (at_number n) f (filespace_with path class w f) fs at (λ key. groups-have path class w f.groups)
    ] refl h

filespaces-there : (n : ℕ) (path class : List ℕ) (w : Version) (fs : List (ℕ × Filespace)) → is_some (filespace_at n fs) ≡ true → is_some (filespace_at n (or_same fs (filespaces_with n path class w fs))) ≡ true
filespaces-there n path class w fs h =
    elim (filespace_at n fs) as (λ o. is_some (filespace_at n (filespaces_by n path class w fs o)) ≡ true) [
      | None ↦ h
      | Some f ↦ set-there (at_number n) (filespace_with path class w f) fs h
    ]

-- ---- volumes

put-clients : (object : ℕ) (segments : List Segment) (v : Inv) → (put object segments v).clients ≡ v.clients
put-clients object [] v = refl
put-clients object (s ∷ segments) v = put-clients object segments _

pub scratch-clients : (scratch : List ScratchVolume) (v : Inv) → (each make_scratch scratch v).clients ≡ v.clients
scratch-clients [] v = refl
scratch-clients (s ∷ scratch) v = scratch-clients scratch (make_scratch s v)

-- ---- files of clients

module _ (n : ℕ) where
  module _ (i : NewVersion) (v : Inv) where
    as_inserted : (P : Rows → Type 0) → P (inserted n i v).clients → P (back_up n i v).clients
    as_inserted P h = subst P (sym (put-clients i.object i.segments (inserted n i v))) h

    backed-keeps : (object : ℕ) → is_version object v.clients.filespaces ≡ true → is_version object (back_up n i v).clients.filespaces ≡ true
    backed-keeps object h = as_inserted (λ (r : Rows). is_version object r.filespaces ≡ true) (filespaces-keep object n i.path i.class (new_version v i) v.clients.filespaces h)

    backed-has : is_some (filespace_at n v.clients.filespaces) ≡ true → is_version i.object (back_up n i v).clients.filespaces ≡ true
    backed-has h = as_inserted (λ (r : Rows). is_version i.object r.filespaces ≡ true) (filespaces-have n i.path i.class (new_version v i) v.clients.filespaces h)

    backed-there : is_some (filespace_at n v.clients.filespaces) ≡ true → is_some (filespace_at n (back_up n i v).clients.filespaces) ≡ true
    backed-there h = as_inserted (λ (r : Rows). is_some (filespace_at n r.filespaces) ≡ true) (filespaces-there n i.path i.class (new_version v i) v.clients.filespaces h)

  all-keep : (object : ℕ) (items : List NewVersion) (v : Inv) → is_version object v.clients.filespaces ≡ true → is_version object (each (back_up n) items v).clients.filespaces ≡ true
  all-keep object [] v h = h
  all-keep object (i ∷ items) v h = all-keep object items (back_up n i v) (backed-keeps i v object h)

  pub all-backed : (items : List Item) (tickets : List Ticket) (v : Inv) → length tickets ≡ length items → is_some (filespace_at n v.clients.filespaces) ≡ true
      → AllByRecursion (λ t. is_version (object_of t.purpose) (each (back_up n) (paired version_from items tickets) v).clients.filespaces ≡ true) tickets
  all-backed items [] v same there = tt
  all-backed [] (t ∷ tickets) v same there = absurd cc
  all-backed (i ∷ items) (t ∷ tickets) v same there =
      let one : NewVersion = version_from i t in (
        all-keep (object_of t.purpose) (paired version_from items tickets) (back_up n one v) (backed-has one v there),
        all-backed items tickets (back_up n one v) (cc) (backed-there one v there),
      )

-- ---- archived objects

-- the row stands under the object's number and is the object's
abbrev pub in_row : ℕ → ℕ → HeldRow → Bool
in_row object number row = number == object && row.held.version.object == object

abbrev pub is_archived : ℕ → List (ℕ × HeldRow) → Bool
is_archived object held = list_any (λ e. in_row object e.0 e.1) held

module _ (n : ℕ) (it : HeldObject) (held : List (ℕ × HeldRow)) where
  abbrev number : ℕ
  number = it.version.object

  abbrev row : HeldRow
  row = record { filespace = n; held = it }

  held-keep : (object : ℕ) → is_archived object held ≡ true → is_archived object (held_with n it held) ≡ true
  held-keep object h = insert-keeps (in_row object) nat_cmp number row held replaced h where
    replaced : (key : ℕ) (x : HeldRow) → lookup (is_at (nat_cmp number)) held ≡ Some x → nat_cmp number key ≡ Equal → in_row object key x ≡ true → in_row object key row ≡ true
    replaced key x at is has =
        let parts = and_parts (key == object) (x.held.version.object == object) has in
        let same : number ≡ object = exact_unsigned number key is ∙ eqb-true key object parts.0 in
        and_from (key == object) (number == object) parts.0 (eq-eqb number object same)

  held-have : is_archived number (held_with n it held) ≡ true
  held-have =
      insert-has (in_row number) nat_cmp number row held
      (λ key is. and_from (key == number) (number == number) (eq-eqb key number (sym (exact_unsigned number key is))) (eq-eqb number number refl))
      (and_from (number == number) (number == number) (eq-eqb number number refl) (eq-eqb number number refl))

module _ (n : ℕ) where
  module _ (i : NewHeldObject) (v : Inv) where
    as_held : (P : Rows → Type 0) → P (held_too n i v).clients → P (hold n i v).clients
    as_held P h = subst P (sym (put-clients i.object i.segments (held_too n i v))) h

    hold-keeps : (object : ℕ) → is_archived object v.clients.held ≡ true → is_archived object (hold n i v).clients.held ≡ true
    hold-keeps object h = as_held (λ (r : Rows). is_archived object r.held ≡ true) (held-keep n (new_held v i) v.clients.held object h)

    hold-has : is_archived i.object (hold n i v).clients.held ≡ true
    hold-has = as_held (λ (r : Rows). is_archived i.object r.held ≡ true) (held-have n (new_held v i) v.clients.held)

  all-stay : (object : ℕ) (items : List NewHeldObject) (v : Inv) → is_archived object v.clients.held ≡ true → is_archived object (each (hold n) items v).clients.held ≡ true
  all-stay object [] v h = h
  all-stay object (i ∷ items) v h = all-stay object items (hold n i v) (hold-keeps i v object h)

  pub all-held : (items : List HeldItem) (tickets : List Ticket) (v : Inv) → length tickets ≡ length items
      → AllByRecursion (λ t. is_archived (object_of t.purpose) (each (hold n) (paired held_from items tickets) v).clients.held ≡ true) tickets
  all-held items [] v same = tt
  all-held [] (t ∷ tickets) v same = absurd cc
  all-held (i ∷ items) (t ∷ tickets) v same =
      let one : NewHeldObject = held_from i t in
      (all-stay (object_of t.purpose) (paired held_from items tickets) (hold n one v) (hold-has one v), all-held items tickets (hold n one v) cc)

-- ---- what is kept is found

kept-found : (object : ℕ) (v : Inv) → has_object object (versions v) ≡ true → is_some (version object v) ≡ true
kept-found object v h = any-found (λ (w : Version). w.object == object) (versions v) h

pub version-found : (object : ℕ) (v : Inv) → is_version object v.clients.filespaces ≡ true → is_some (version object v) ≡ true
version-found object v h =
    let in_paths : (f : ℕ × Filespace) → in_filespace object f.0 f.1 ≡ true → has_object object (versions_in f.1.groups) ≡ true =
    λ f has. any-flat_map (λ (w : Version). w.object == object) (λ (g : List ℕ × Group). g.1.versions) f.1.groups has in
    let there : has_object object (versions_of v.clients.filespaces) ≡ true =
    any-flat_map (λ (w : Version). w.object == object) (λ (f : ℕ × Filespace). versions_in f.1.groups) v.clients.filespaces
    (any-implied (λ f. in_filespace object f.0 f.1) (λ f. has_object object (versions_in f.1.groups)) in_paths v.clients.filespaces h) in
    kept-found object v (list_any-append (λ (w : Version). w.object == object) (versions_of v.clients.filespaces) (held_versions v.clients.held) ∙ or_left _ _ there)

pub archived-found : (object : ℕ) (v : Inv) → is_archived object v.clients.held ≡ true → is_some (version object v) ≡ true
archived-found object v h =
    let there : has_object object (held_versions v.clients.held) ≡ true =
    any-map (λ (w : Version). w.object == object) (λ (e : ℕ × HeldRow). e.1.held.version) v.clients.held
    (any-implied (λ e. in_row object e.0 e.1) (λ e. e.1.held.version.object == object) (λ e has. (and_parts (e.0 == object) (e.1.held.version.object == object) has).1) v.clients.held h) in
    kept-found object v (list_any-append (λ (w : Version). w.object == object) (versions_of v.clients.filespaces) (held_versions v.clients.held) ∙ or_right _ _ there)
