-- What steps of a transaction leave of the objects that they don't name.
use Rattle.std.proofs.Common.{◌≡◌, ℕ, Bool, true, false, cond, eqb, List, [], ◌∷◌, Option, Some, None, Ok, Err, refl, sym, ap, subst, ◌∙◌}
use Rattle.std.proofs.lemmas.Bool.{and_parts, eqb-false, eqb-true, ne_eqb, or_parts}
use Rattle.std.specs.Bool.{OnTrue}
use Rattle.std.specs.List.{list_all, list_any}
use Rattle.std.specs.Map.{lookup}
use Rattle.std.specs.Option.{is_some, option_map_or}
use Rattle.std.specs.Prelude.{IsTrue, is_none}
use Rattle.entries.specs.change_items.declared.items.DiscardedVersion.{DiscardedVersion}
use Rattle.entries.specs.change_items.declared.items.DroppedCopy.{DroppedCopy}
use Rattle.entries.specs.change_items.declared.items.MovedCopy.{MovedCopy}
use Rattle.entries.specs.change_items.declared.items.NamedVersion.{NamedVersion}
use Rattle.entries.specs.change_items.declared.items.NewCopy.{NewCopy}
use Rattle.entries.specs.change_items.declared.items.NewVersion.{NewVersion}
use Rattle.inventory_rows.specs.version_groups.declared.group.GroupChange.{GroupChange}
use Rattle.inventory_rows.specs.version_groups.declared.group.GroupChange.TheVariants.{Gone, Rebind, Remove}
use Rattle.inventory_rows.specs.version_groups.declared.groups.Filespace.{Filespace}
use Rattle.inventory_rows.specs.version_groups.declared.versions.Version.{Version}
use Rattle.inventory_rows.specs.version_groups.Entries.{if_found}
use Rattle.inventory_rows.specs.version_groups.Groups as grouped
use Rattle.inventory_rows.specs.version_groups.Groups.{groups_after}
use Rattle.inventory_rows.specs.version_groups.Versions.{has_object, is_active, retired, superseded, version_of}
use Rattle.inventory_rows.proofs.of_version_groups.Laws.{AfterIs, after-is}
use Rattle.inventory_rows.specs.object_rows.declared.held_object.HeldRow.{HeldRow}
use Rattle.inventory_rows.specs.object_rows.declared.place.Place.{Place}
use Rattle.inventory_rows.specs.object_rows.Filespaces.{at_number, filespaces_after, filespaces_with, groups_in, versions_at}
use Rattle.inventory_rows.specs.object_rows.HeldRows.{held_at, held_without, is_under as row_under}
use Rattle.inventory_rows.specs.object_rows.Places.{listed}
use Rattle.inventory_rows.specs.object_rows.Rows.{Rows, filespaces_cleared, kept_of, rows_after, rows_cleared, rows_without, with_filespaces as rows_with_filespaces, with_held}
use Rattle.inventory_rows.proofs.of_object_rows.Steps.{Within, within}
use Rattle.inventory_rows.specs.Search.{version}
use Rattle.inventory_rows.specs.State.{Inv}
use Rattle.inventory_rules.specs.Common.{each, or_same, with_clients, with_filespaces, CanEach}
use Rattle.inventory_rules.specs.Copies.{add_copy, added, change_copy, drop_copy, dropped, move_copy, moved, put_moved, segments_in, take_moved, version_at}
use Rattle.inventory_rules.specs.Segments.{take_away}
use Rattle.inventory_rules.specs.Versions.{after_object, back_up, change_group, copies_at, discard, expire, inserted, mark_gone, new_version, take_versions, AreGroupsOrdered, CanBeGone}
use Rattle.inventory_laws.specs.Kept.{clients_after}
use Rattle.inventory_laws.specs.Volumes.{OnlyVolumes}
use Rattle.inventory_laws.proofs.GroupSteps.{either_way}
use Rattle.inventory_laws.proofs.Grouped.{versions_changed, versions_put}
use Rattle.inventory_laws.proofs.HeldNumbers.{held_object, held_there-without}
use Rattle.inventory_laws.proofs.Kept.{held_goes, is_held_there, splice_held, splice_kept}
use Rattle.inventory_laws.proofs.Others.{other_copied, other_removed, same_version}
use Rattle.inventory_laws.proofs.VersionVolumes.{all_taken_only, put_only, taken_only}

-- ---- one item after the other

-- an item that names another object
abbrev pub names_it : {X : Type 0} → (X → ℕ) → ℕ → X → Bool
names_it object k x = eqb (object x) k

pub each_same : {X : Type 0} (k : ℕ) (object : X → ℕ) (step : X → Inv → Inv) → ((x : X) (u : Inv) → eqb (object x) k ≡ false → version k (step x u) ≡ version k u)
    → (xs : List X) (u : Inv) → list_any (names_it object k) xs ≡ false → version k (each step xs u) ≡ version k u
each_same k object step same [] u h = refl
each_same k object step same (x ∷ xs) u h =
    let hs : (eqb (object x) k ≡ false) × (list_any (names_it object k) xs ≡ false) = or_parts (eqb (object x) k) (list_any (names_it object k) xs) h in
    each_same k object step same xs (step x u) hs.1 ∙ same x u hs.0

-- the same, where each step keeps something else
pub each_kept : {X : Type 0} (P : Inv → Type 0) (k : ℕ) (object : X → ℕ) (step : X → Inv → Inv) → ((x : X) (u : Inv) → P u → P (step x u)) → ((x : X) (u : Inv) → P u → eqb (object x) k ≡ false → version k (step x u) ≡ version k u)
    → (xs : List X) (u : Inv) → P u → list_any (names_it object k) xs ≡ false → version k (each step xs u) ≡ version k u
each_kept P k object step keeps same [] u p h = refl
each_kept P k object step keeps same (x ∷ xs) u p h =
    let hs : (eqb (object x) k ≡ false) × (list_any (names_it object k) xs ≡ false) = or_parts (eqb (object x) k) (list_any (names_it object k) xs) h in
    each_kept P k object step keeps same xs (step x u) (keeps x u p) hs.1 ∙ same x u p hs.0

pub turned : (o k : ℕ) → eqb o k ≡ false → eqb k o ≡ false
turned o k h = ne_eqb k o (λ e. eqb-false o k h (sym e))

-- ---- volumes alone

pub same_rows : (v w : Inv) → OnlyVolumes v w → w.clients ≡ v.clients
same_rows v w o = o.clients

pub by_rows : (k : ℕ) (v w : Inv) → w.clients ≡ v.clients → version k w ≡ version k v
by_rows k v w h = ap (λ (r : Rows). version_of k (kept_of r)) h

-- ---- copies

pub move_same : (k : ℕ) (item : MovedCopy) (u : Inv) → eqb item.object k ≡ false → version k (move_copy item u) ≡ version k u
move_same k item u h =
    other_copied item.object k (moved item u) (take_moved item u) (turned item.object k h)
    ∙ by_rows k u (take_moved item u) (same_rows u (take_moved item u) (taken_only item.object (segments_in item.from (version_at item.object u)) u))

pub put_same : (k : ℕ) (item : MovedCopy) (u : Inv) → version k (put_moved item u) ≡ version k u
put_same k item u = by_rows k u (put_moved item u) (same_rows u (put_moved item u) (put_only item.object item.segments u))

pub add_same : (k : ℕ) (item : NewCopy) (u : Inv) → eqb item.object k ≡ false → version k (add_copy item u) ≡ version k u
add_same k item u h =
    let w : Inv = change_copy item.object (added item u) u in
    by_rows k w (add_copy item u) (same_rows w (add_copy item u) (put_only item.object item.segments w)) ∙ other_copied item.object k (added item u) u (turned item.object k h)

pub drop_same : (k : ℕ) (item : DroppedCopy) (u : Inv) → eqb item.object k ≡ false → version k (drop_copy item u) ≡ version k u
drop_same k item u h =
    let w : Inv = take_away item.object (segments_in item.pool (version_at item.object u)) u in
    other_copied item.object k (dropped item) w (turned item.object k h) ∙ by_rows k u w (same_rows u w (taken_only item.object (segments_in item.pool (version_at item.object u)) u))

-- ---- a path that is bound to another class, and a version that becomes inactive

pub rebind_same : (n k : ℕ) (path class : List ℕ) (u : Inv) → version k (change_group n path (Rebind class) u) ≡ version k u
rebind_same n k path class u =
    either_way (λ w. version k w ≡ version k u) n path (Rebind class) u refl
    (λ new said. same_version k (splice_kept u new (versions_changed n path (Rebind class) u.clients.filespaces new said)) refl)

-- the versions of a path whose group changes are there, and so is the object that the change names
gone_has : (n object day : ℕ) (path : List ℕ) (fs new : List (ℕ × Filespace)) → filespaces_after n path (Gone object day) fs ≡ Ok new → has_object object (versions_at n path fs) ≡ true
gone_has n object day path fs new said =
    let c : GroupChange = Gone object day in
    let w : Within n (groups_after path c) fs new = within n (groups_after path c) fs new said in
    let a : AfterIs path c w.filespace.groups w.groups = after-is path c w.filespace.groups w.groups w.after in
    ap (λ (o : Option Filespace). has_object object (grouped.versions_at path (groups_in o))) w.there ∙ ap (λ o. has_object object (grouped.versions_in o)) a.1 ∙ a.2

retired_other : (k object day : ℕ) (vs : List Version) → is_active object vs ≡ true → eqb object k ≡ false → version_of k (retired day vs) ≡ version_of k vs
retired_other k object day [] h ne = refl
retired_other k object day (w ∷ vs) h ne =
    let named : eqb w.object object ≡ true = (and_parts (eqb w.object object) (is_none w.since) h).0 in
    let off : eqb w.object k ≡ false = ap (λ m. eqb m k) (eqb-true w.object object named) ∙ ne in
    ap (λ b. cond b (Some (record w { since = Some day })) (version_of k vs)) off ∙ sym (ap (λ b. cond b (Some w) (version_of k vs)) off)

pub gone_same : (n k : ℕ) (item : NamedVersion) (u : Inv) → CanBeGone n item u → eqb item.object k ≡ false → version k (mark_gone n item u) ≡ version k u
gone_same n k item u can ne =
    let fs : List (ℕ × Filespace) = u.clients.filespaces in
    let vs : List Version = versions_at n item.path fs in
    either_way (λ w. version k w ≡ version k u) n item.path (Gone item.object u.today) u refl
    (λ new said.
    let has : has_object item.object vs ≡ true = gone_has n item.object u.today item.path fs new said in
    let active : OnTrue true (IsTrue (is_active item.object vs)) = subst (λ b. OnTrue b (IsTrue (is_active item.object vs))) has can in
    same_version k (splice_kept u new (versions_changed n item.path (Gone item.object u.today) fs new said)) (retired_other k item.object u.today vs active ne))

pub each_gone : (n k : ℕ) (items : List NamedVersion) (u : Inv) → CanEach (CanBeGone n) (mark_gone n) items u → list_any (names_it (λ i. i.object) k) items ≡ false → version k (each (mark_gone n) items u) ≡ version k u
each_gone n k [] u can h = refl
each_gone n k (i ∷ items) u can h =
    let hs : (eqb i.object k ≡ false) × (list_any (names_it (λ (i : NamedVersion). i.object) k) items ≡ false) = or_parts (eqb i.object k) (list_any (names_it (λ (i : NamedVersion). i.object) k) items) h in
    each_gone n k items (mark_gone n i u) can.1 hs.1 ∙ gone_same n k i u can.0 hs.0

-- ---- an object goes

-- the held objects stand under their numbers, in these filespaces
abbrev pub Numbered : List (ℕ × Filespace) → Inv → Type 0
Numbered fs u = list_all (is_held_there fs) u.clients.held ≡ true

held_same : (fs : List (ℕ × Filespace)) (object k : ℕ) (row : HeldRow) (u : Inv) → Numbered fs u → held_at object u.clients.held ≡ Some row → eqb object k ≡ false
    → version k (with_clients (record { nodes = u.clients.nodes; filespaces = u.clients.filespaces; held = held_without object u.clients.held }) u) ≡ version k u
held_same fs object k row u numbered there ne =
    let off : eqb row.held.version.object k ≡ false = ap (λ m. eqb m k) (held_object object fs u.clients.held row numbered there) ∙ ne in
    same_version k (splice_held u (held_without object u.clients.held) (held_goes object row u.clients.held there)) (sym (ap (λ b. cond b (Some row.held.version) None) off))

-- rows whose filespaces change by a path's group
pub by_group : (n : ℕ) (path : List ℕ) (c : GroupChange) (u : Inv) → clients_after (rows_after n path c) u ≡ change_group n path c u
by_group n path c u =
    elim (filespaces_after n path c u.clients.filespaces) as (λ r. with_clients (or_same u.clients (rows_with_filespaces u.clients r)) u ≡ with_filespaces (or_same u.clients.filespaces r) u) [
      | Ok new ↦ refl
      | Err e ↦ refl
    ]

-- What a step makes of the rows where an object goes: it is held no more, or a path's group has it no more, or nothing changes.
pub cleared_or : (P : Inv → Type 0) (n object : ℕ) (path : List ℕ) (u : Inv)
    → ((row : HeldRow) → held_at object u.clients.held ≡ Some row → P (with_clients (record { nodes = u.clients.nodes; filespaces = u.clients.filespaces; held = held_without object u.clients.held }) u))
    → P (change_group n path (Remove object) u) → P (clients_after (rows_cleared n path object) u)
cleared_or P n object path u held grouped = go (held_at object u.clients.held) refl where
  there : P (clients_after (rows_after n path (Remove object)) u)
  there = subst P (sym (by_group n path (Remove object) u)) grouped

  go : (o : Option HeldRow) → held_at object u.clients.held ≡ o
      → P (with_clients (or_same u.clients (cond (option_map_or (row_under n path) o false) (with_held u.clients (Ok (held_without object u.clients.held))) (rows_after n path (Remove object) u.clients))) u)
  go None none = there
  go (Some row) found = here (row_under n path row) where
    here : (b : Bool) → P (with_clients (or_same u.clients (cond b (with_held u.clients (Ok (held_without object u.clients.held))) (rows_after n path (Remove object) u.clients))) u)
    here true = held row found
    here false = there

pub without_or : (P : Inv → Type 0) (object : ℕ) (u : Inv)
    → ((row : HeldRow) → held_at object u.clients.held ≡ Some row → P (with_clients (record { nodes = u.clients.nodes; filespaces = u.clients.filespaces; held = held_without object u.clients.held }) u))
    → ((n : ℕ) (path : List ℕ) → P (change_group n path (Remove object) u)) → P u → P (clients_after (rows_without object) u)
without_or P object u held grouped same = go (held_at object u.clients.held) refl where
  placed : (o : Option Place) → P (with_clients (or_same u.clients (rows_with_filespaces u.clients (if_found o (λ place. filespaces_after place.filespace place.path (Remove object) u.clients.filespaces)))) u)
  placed None = same
  placed (Some at) = subst P (sym (by_group at.filespace at.path (Remove object) u)) (grouped at.filespace at.path)

  go : (o : Option HeldRow) → held_at object u.clients.held ≡ o
      → P (with_clients (or_same u.clients (cond (is_some o) (with_held u.clients (Ok (held_without object u.clients.held))) (rows_with_filespaces u.clients (filespaces_cleared object (lookup (at_number object) (listed u.clients.filespaces)) u.clients.filespaces)))) u)
  go None none = placed (lookup (at_number object) (listed u.clients.filespaces))
  go (Some row) found = held row found

pub taken_same : (k object : ℕ) (u : Inv) → (take_versions object u).clients ≡ u.clients
taken_same k object u = same_rows u (take_versions object u) (all_taken_only object (copies_at object u) u)

numbered_as : (fs : List (ℕ × Filespace)) (v w : Inv) → w.clients ≡ v.clients → Numbered fs v → Numbered fs w
numbered_as fs v w h n = subst (λ (r : Rows). list_all (is_held_there fs) r.held ≡ true) (sym h) n

pub expire_same : (fs : List (ℕ × Filespace)) (n k : ℕ) (item : NamedVersion) (u : Inv) → Numbered fs u → eqb item.object k ≡ false → version k (expire n item u) ≡ version k u
expire_same fs n k item u numbered ne =
    let w : Inv = take_versions item.object u in
    cleared_or (λ x. version k x ≡ version k w) n item.object item.path w (λ row there. held_same fs item.object k row w (numbered_as fs u w (taken_same k item.object u) numbered) there ne) (other_removed n item.object k item.path w (turned item.object k ne))
    ∙ by_rows k u w (taken_same k item.object u)

pub expire_numbered : (fs : List (ℕ × Filespace)) (n : ℕ) (item : NamedVersion) (u : Inv) → Numbered fs u → Numbered fs (expire n item u)
expire_numbered fs n item u numbered =
    let w : Inv = take_versions item.object u in
    let before : Numbered fs w = numbered_as fs u w (taken_same 0 item.object u) numbered in
    cleared_or (Numbered fs) n item.object item.path w (λ row there. held_there-without item.object fs w.clients.held before) before

pub discard_same : (fs : List (ℕ × Filespace)) (k : ℕ) (item : DiscardedVersion) (u : Inv) → Numbered fs u → eqb item.object k ≡ false → version k (discard item u) ≡ version k u
discard_same fs k item u numbered ne =
    let w : Inv = take_versions item.object u in
    without_or (λ x. version k x ≡ version k w) item.object w (λ row there. held_same fs item.object k row w (numbered_as fs u w (taken_same k item.object u) numbered) there ne)
    (λ n path. other_removed n item.object k path w (turned item.object k ne)) refl
    ∙ by_rows k u w (taken_same k item.object u)

pub discard_numbered : (fs : List (ℕ × Filespace)) (item : DiscardedVersion) (u : Inv) → Numbered fs u → Numbered fs (discard item u)
discard_numbered fs item u numbered =
    let w : Inv = take_versions item.object u in
    let before : Numbered fs w = numbered_as fs u w (taken_same 0 item.object u) numbered in
    without_or (Numbered fs) item.object w (λ row there. held_there-without item.object fs w.clients.held before) (λ n path. before) before

-- ---- a version comes

-- the newest of some versions is the object's
abbrev pub is_newest : ℕ → List Version → Bool
is_newest k [] = false
is_newest k (w ∷ older) = eqb w.object k

superseded_other : (k day : ℕ) (vs : List Version) → is_newest k vs ≡ false → version_of k (superseded day vs) ≡ version_of k vs
superseded_other k day [] h = refl
superseded_other k day (w ∷ vs) h =
    elim (is_none w.since) as (λ b. version_of k (cond b (record w { since = Some day } ∷ vs) (w ∷ vs)) ≡ version_of k (w ∷ vs)) [
      | true ↦ ap (λ b. cond b (Some (record w { since = Some day })) (version_of k vs)) h ∙ sym (ap (λ b. cond b (Some w) (version_of k vs)) h)
      | false ↦ refl
    ]

pub inserted_same : (n k : ℕ) (item : NewVersion) (u : Inv) → AreGroupsOrdered u.clients.filespaces → eqb item.object k ≡ false → is_newest k (versions_at n item.path u.clients.filespaces) ≡ false → version k (inserted n item u) ≡ version k u
inserted_same n k item u paths ne newest =
    let fs : List (ℕ × Filespace) = u.clients.filespaces in
    let w : Version = new_version u item in
    let vs : List Version = versions_at n item.path fs in
    elim (filespaces_with n item.path item.class w fs) as (λ r. filespaces_with n item.path item.class w fs ≡ r → version k (record (with_filespaces (or_same fs r) u) { next_object = after_object item.object u }) ≡ version k u) [
      | Ok new ↦ λ said.
          same_version k (splice_kept u new (versions_put n item.path item.class w fs new paths said)) (ap (λ b. cond b (Some w) (version_of k (superseded w.stored vs))) ne ∙ superseded_other k w.stored vs newest)
      | Err e ↦ λ _. refl
    ] refl

pub backed_same : (n k : ℕ) (item : NewVersion) (u : Inv) → AreGroupsOrdered u.clients.filespaces → eqb item.object k ≡ false → is_newest k (versions_at n item.path u.clients.filespaces) ≡ false → version k (back_up n item u) ≡ version k u
backed_same n k item u paths ne newest =
    let w : Inv = inserted n item u in
    by_rows k w (back_up n item u) (same_rows w (back_up n item u) (put_only item.object item.segments w)) ∙ inserted_same n k item u paths ne newest
