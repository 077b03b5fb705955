-- What a database keeps for its clients changes as it is said, whatever copies there are.
use Rattle.std.proofs.Common.{◌≡◌, ℕ, Bool, true, false, cond, not, List, [], ◌∷◌, ◌++◌, map, Option, Some, None, Result, Ok, Err, refl, sym, ap, ◌∙◌}
use Rattle.std.specs.Prelude.{◌==◌, ◌||◌, is_none, is_some, if◌then◌else◌}
use Rattle.std.specs.Option.{option_map}
use Rattle.std.specs.Map.{lookup, remove_entry}
use Rattle.std.specs.BTreeMap.{insert_entry}
use Rattle.std.specs.Ordering.{nat_cmp}
use Rattle.std.specs.Cmp.Lexicographic.{slice_cmp}
use Rattle.std.proofs.lemmas.Map.Made.{lookup-map_values}
use Rattle.std.proofs.lemmas.List.{map-append}
use Rattle.kinds.specs.declared.change.DefineOrDelete.TheVariants as two
use Rattle.kinds.specs.declared.change.ObjectChange.{ObjectChange}
use Rattle.kinds.specs.declared.change.ObjectChange.TheVariants as client
use Rattle.kinds.specs.declared.refusal.Refusal.{Refusal}
use Rattle.kinds.specs.declared.refusal.Refusal.TheVariants.{Exists, NotFound}
use Rattle.kinds.specs.declared.segment.Segment.{Segment}
use Rattle.entries.specs.change_items.declared.items.DiscardedVersion.{DiscardedVersion}
use Rattle.entries.specs.change_items.declared.items.DroppedCopy.{DroppedCopy}
use Rattle.entries.specs.change_items.declared.items.MovedCopy.{MovedCopy}
use Rattle.entries.specs.change_items.declared.items.NamedVersion.{NamedVersion}
use Rattle.entries.specs.change_items.declared.items.NewCopy.{NewCopy}
use Rattle.entries.specs.change_items.declared.items.NewHeldObject.{NewHeldObject}
use Rattle.entries.specs.change_items.declared.items.NewVersion.{NewVersion}
use Rattle.entries.specs.change_items.declared.items.ScratchVolume.{ScratchVolume}
use Rattle.entries.specs.declared.change.Change.{Change}
use Rattle.entries.specs.declared.change.Change.TheVariants as change
use Rattle.inventory_rows.specs.version_groups.declared.copies.CopyChange.{CopyChange}
use Rattle.inventory_rows.specs.version_groups.declared.copies.CopyRow.{CopyRow}
use Rattle.inventory_rows.specs.version_groups.declared.group.Group.{Group}
use Rattle.inventory_rows.specs.version_groups.declared.group.GroupChange.{GroupChange}
use Rattle.inventory_rows.specs.version_groups.declared.group.GroupChange.TheVariants as group
use Rattle.inventory_rows.specs.version_groups.declared.groups.Filespace.{Filespace}
use Rattle.inventory_rows.specs.version_groups.declared.versions.Version.{Version}
use Rattle.inventory_rows.specs.version_groups.Copies.{copies_after}
use Rattle.inventory_rows.specs.version_groups.Entries.{on_ok, if_found, changed_at}
use Rattle.inventory_rows.specs.version_groups.Groups.{at_path, class_after, group_after, group_at, group_with, groups_after, groups_with, names_kept, versions_after, versions_at, versions_in, without_empty}
use Rattle.inventory_rows.specs.version_groups.Versions.{has_active, has_object, having_copies, is_empty, retired, superseded, undone, version_of, with_copies, without_object}
use Rattle.inventory_rows.specs.object_rows.declared.held_object.HeldRow.{HeldRow}
use Rattle.inventory_rows.specs.object_rows.declared.place.Node.{Node}
use Rattle.kinds.specs.declared.change.PoolChange.{PoolChange}
use Rattle.kinds.specs.declared.change.PoolChange.TheVariants as store
use Rattle.kinds.specs.declared.change.Verb.TheVariants as verb
use Rattle.kinds.specs.declared.refusal.By.{By}
use Rattle.kinds.specs.Least.{lesser}
use Rattle.inventory_rows.specs.object_rows.Changes.{by_filespace, by_object, filespaces_defined, filespaces_without, least, least_in, least_object, nodes_with, nodes_without, rows_changed, unless_used, with_nodes}
use Rattle.inventory_rows.specs.object_rows.Filespaces as filespace
use Rattle.inventory_rows.specs.object_rows.HeldRows.{has_row, has_under, held_copied, held_without}
use Rattle.inventory_rows.specs.object_rows.Names.{at_name, filespace_named, filespace_of, first_number, named_of, node_named}
use Rattle.inventory_rows.specs.object_rows.Places.{listed, listed_at, listed_in, place_of}
use Rattle.inventory_rows.specs.object_rows.Rows.{Rows, filespaces_cleared, kept_of, rows_after, rows_altered, rows_cleared, rows_copied, rows_without, with_filespaces, with_held}
use Rattle.inventory_rows.specs.State.{Inv}
use Rattle.inventory_rules.specs.Clients as of_clients
use Rattle.inventory_rules.specs.Common as of_common
use Rattle.inventory_rules.specs.Copies as of_copies
use Rattle.inventory_rules.specs.Segments as of_segments
use Rattle.inventory_rules.specs.Stores as of_stores
use Rattle.inventory_rules.specs.Transactions as of_transactions
use Rattle.inventory_rules.specs.Versions as of_versions
use Rattle.inventory_rules.specs.Kept as kept
use Rattle.inventory_rules.proofs.BareHeld.{has_row-bare, has_under-bare, numbers_in-bare}
use Rattle.inventory_rules.proofs.MapValues.{values, remove_entry-values, insert_entry-values, changed_at-values}

-- ---- the versions of a path

has_object-bare : (object : ℕ) (ws : List Version) → has_object object (map kept.without_copies ws) ≡ has_object object ws
has_object-bare object [] = refl
has_object-bare object (w ∷ ws) = ap (λ z. (w.object == object) || z) (has_object-bare object ws)

has_active-bare : (ws : List Version) → has_active (map kept.without_copies ws) ≡ has_active ws
has_active-bare [] = refl
has_active-bare (w ∷ ws) = refl

retired-bare : (day : ℕ) (ws : List Version) → retired day (map kept.without_copies ws) ≡ map kept.without_copies (retired day ws)
retired-bare day [] = refl
retired-bare day (w ∷ ws) = refl

superseded-bare : (day : ℕ) (ws : List Version) → superseded day (map kept.without_copies ws) ≡ map kept.without_copies (superseded day ws)
superseded-bare day [] = refl
superseded-bare day (w ∷ ws) =
    elim (is_none w.since) as (λ b. cond b (retired day (map kept.without_copies (w ∷ ws))) (map kept.without_copies (w ∷ ws)) ≡ map kept.without_copies (cond b (retired day (w ∷ ws)) (w ∷ ws))) [
      | true ↦ refl
      | false ↦ refl
    ]

without_object-bare : (object : ℕ) (ws : List Version) → without_object object (map kept.without_copies ws) ≡ map kept.without_copies (without_object object ws)
without_object-bare object [] = refl
without_object-bare object (w ∷ ws) =
    elim (not (w.object == object)) as (λ b. cond b (kept.without_copies w ∷ without_object object (map kept.without_copies ws)) (without_object object (map kept.without_copies ws)) ≡ map kept.without_copies (cond b (w ∷ without_object object ws) (without_object object ws))) [
      | true ↦ ap (λ z. kept.without_copies w ∷ z) (without_object-bare object ws)
      | false ↦ without_object-bare object ws
    ]

undone-bare : (active : Bool) (ws : List Version) → undone active (map kept.without_copies ws) ≡ map kept.without_copies (undone active ws)
undone-bare active [] = refl
undone-bare true (w ∷ []) = refl
undone-bare true (w ∷ v ∷ ws) = refl
undone-bare false (w ∷ ws) = refl

versions_after-bare : (c : GroupChange) (ws : List Version) → versions_after c (map kept.without_copies ws) ≡ map kept.without_copies (versions_after c ws)
versions_after-bare (group.Gone object today) ws = retired-bare today ws
versions_after-bare (group.Remove object) ws = without_object-bare object ws
versions_after-bare (group.Rebind class) ws = refl
versions_after-bare (group.Undo class active) ws = undone-bare active ws

names_kept-bare : (c : GroupChange) (ws : List Version) → names_kept c (map kept.without_copies ws) ≡ names_kept c ws
names_kept-bare (group.Gone object today) ws = has_object-bare object ws
names_kept-bare (group.Remove object) ws = has_object-bare object ws
names_kept-bare (group.Rebind class) ws = refl
names_kept-bare (group.Undo class active) ws = refl

-- ---- the group of a path

group_after-bare : (c : GroupChange) (g : Group) → group_after c (kept.bare_group g) ≡ on_ok kept.bare_group (group_after c g)
group_after-bare c g = rw (names_kept-bare c g.versions, versions_after-bare c g.versions) (go (names_kept c g.versions)) where
  go : (b : Bool) → cond {A = Result Group Refusal} b (Ok (record { class = class_after c g.class; versions = map kept.without_copies (versions_after c g.versions) })) (Err NotFound)
      ≡ on_ok kept.bare_group (cond b (Ok (record { class = class_after c g.class; versions = versions_after c g.versions })) (Err NotFound))
  go true = refl
  go false = refl

group_with-bare : (class : List ℕ) (w : Version) (o : Option Group) → group_with class (kept.without_copies w) (option_map kept.bare_group o) ≡ kept.bare_group (group_with class w o)
group_with-bare class w None = refl
group_with-bare class w (Some g) = rw (superseded-bare w.stored g.versions) refl

-- ---- the groups of a filespace

groups_with-bare : (path class : List ℕ) (w : Version) (gs : List (List ℕ × Group)) → groups_with path class (kept.without_copies w) (values kept.bare_group gs) ≡ values kept.bare_group (groups_with path class w gs)
groups_with-bare path class w gs =
    ap (λ o. insert_entry (slice_cmp nat_cmp) (values kept.bare_group gs) path (group_with class (kept.without_copies w) o)) (lookup-map_values kept.bare_group (at_path path) gs)
    ∙ ap (λ g. insert_entry (slice_cmp nat_cmp) (values kept.bare_group gs) path g) (group_with-bare class w (group_at path gs))
    ∙ insert_entry-values kept.bare_group (slice_cmp nat_cmp) gs path (group_with class w (group_at path gs))

is_empty-bare : (o : Option Group) → is_empty (versions_in (option_map kept.bare_group o)) ≡ is_empty (versions_in o)
is_empty-bare None = refl
is_empty-bare (Some g) = elim g.versions as (λ ws. is_empty (map kept.without_copies ws) ≡ is_empty ws) [ [] ↦ refl | w ∷ ws ↦ refl ]

without_empty-bare : (path : List ℕ) (gs : List (List ℕ × Group)) → without_empty path (values kept.bare_group gs) ≡ values kept.bare_group (without_empty path gs)
without_empty-bare path gs =
    rw (lookup-map_values kept.bare_group (at_path path) gs, is_empty-bare (group_at path gs), remove_entry-values kept.bare_group (at_path path) gs)
    (go (is_empty (versions_at path gs)))
  where
    go : (b : Bool) → cond b (values kept.bare_group (remove_entry (at_path path) gs)) (values kept.bare_group gs) ≡ values kept.bare_group (cond b (remove_entry (at_path path) gs) gs)
    go true = refl
    go false = refl

emptied-bare : (path : List ℕ) (r : Result (List (List ℕ × Group)) Refusal) → on_ok (without_empty path) (on_ok (values kept.bare_group) r) ≡ on_ok (values kept.bare_group) (on_ok (without_empty path) r)
emptied-bare path (Ok gs) = ap Ok (without_empty-bare path gs)
emptied-bare path (Err e) = refl

groups_after-bare : (path : List ℕ) (c : GroupChange) (gs : List (List ℕ × Group)) → groups_after path c (values kept.bare_group gs) ≡ on_ok (values kept.bare_group) (groups_after path c gs)
groups_after-bare path c gs =
    ap (on_ok (without_empty path)) (changed_at-values kept.bare_group (at_path path) (group_after c) (group_after c) (group_after-bare c) gs)
    ∙ emptied-bare path (changed_at (at_path path) (group_after c) gs)

-- ---- filespaces

filespace_after-bare : (step other : List (List ℕ × Group) → Result (List (List ℕ × Group)) Refusal) → ((gs : List (List ℕ × Group)) → other (values kept.bare_group gs) ≡ on_ok (values kept.bare_group) (step gs)) → (f : Filespace)
    → filespace.filespace_after other (kept.bare_filespace f) ≡ on_ok kept.bare_filespace (filespace.filespace_after step f)
filespace_after-bare step other same f = rw (same f.groups) (go (step f.groups)) where
  go : (r : Result (List (List ℕ × Group)) Refusal) → on_ok (λ (groups : List (List ℕ × Group)). record (kept.bare_filespace f) { groups = groups }) (on_ok (values kept.bare_group) r) ≡ on_ok kept.bare_filespace (on_ok (λ (groups : List (List ℕ × Group)). record f { groups = groups }) r)
  go (Ok gs) = refl
  go (Err e) = refl

in_filespace-bare : (n : ℕ) (step other : List (List ℕ × Group) → Result (List (List ℕ × Group)) Refusal) → ((gs : List (List ℕ × Group)) → other (values kept.bare_group gs) ≡ on_ok (values kept.bare_group) (step gs)) → (fs : List (ℕ × Filespace))
    → filespace.in_filespace n other (kept.bare fs) ≡ on_ok kept.bare (filespace.in_filespace n step fs)
in_filespace-bare n step other same fs =
    changed_at-values kept.bare_filespace (filespace.at_number n) (filespace.filespace_after step) (filespace.filespace_after other) (filespace_after-bare step other same) fs

filespaces_with-bare : (n : ℕ) (path class : List ℕ) (w : Version) (fs : List (ℕ × Filespace)) → filespace.filespaces_with n path class (kept.without_copies w) (kept.bare fs) ≡ on_ok kept.bare (filespace.filespaces_with n path class w fs)
filespaces_with-bare n path class w fs =
    in_filespace-bare n (λ gs. Ok (groups_with path class w gs)) (λ gs. Ok (groups_with path class (kept.without_copies w) gs)) (λ gs. ap Ok (groups_with-bare path class w gs)) fs

filespaces_after-bare : (n : ℕ) (path : List ℕ) (c : GroupChange) (fs : List (ℕ × Filespace)) → filespace.filespaces_after n path c (kept.bare fs) ≡ on_ok kept.bare (filespace.filespaces_after n path c fs)
filespaces_after-bare n path c fs = in_filespace-bare n (groups_after path c) (groups_after path c) (groups_after-bare path c) fs

or_same-bare : (fs : List (ℕ × Filespace)) (r : Result (List (ℕ × Filespace)) Refusal) → of_common.or_same (kept.bare fs) (on_ok kept.bare r) ≡ kept.bare (of_common.or_same fs r)
or_same-bare fs (Ok new) = refl
or_same-bare fs (Err e) = refl

-- ---- copies are not seen

having-bare : (object : ℕ) (copies : List CopyRow) (w : Version) → kept.without_copies (having_copies object copies w) ≡ kept.without_copies w
having-bare object copies w = elim (w.object == object) as (λ b. kept.without_copies (cond b (record w { copies = copies }) w) ≡ kept.without_copies w) [ true ↦ refl | false ↦ refl ]

with_copies-bare : (object : ℕ) (copies : List CopyRow) (ws : List Version) → map kept.without_copies (with_copies object copies ws) ≡ map kept.without_copies ws
with_copies-bare object copies [] = refl
with_copies-bare object copies (w ∷ ws) = rw (having-bare object copies w, with_copies-bare object copies ws) refl

groups_copied-bare : (object : ℕ) (copies : List CopyRow) (gs : List (List ℕ × Group)) → values kept.bare_group (filespace.groups_copied object copies gs) ≡ values kept.bare_group gs
groups_copied-bare object copies [] = refl
groups_copied-bare object copies (g ∷ gs) = rw (with_copies-bare object copies g.1.versions, groups_copied-bare object copies gs) refl

filespaces_copied-bare : (object : ℕ) (copies : List CopyRow) (fs : List (ℕ × Filespace)) → kept.bare (filespace.filespaces_copied object copies fs) ≡ kept.bare fs
filespaces_copied-bare object copies [] = refl
filespaces_copied-bare object copies (f ∷ fs) = rw (groups_copied-bare object copies f.1.groups, filespaces_copied-bare object copies fs) refl

held_copied-bare : (object : ℕ) (copies : List CopyRow) (held : List (ℕ × HeldRow)) → kept.bare_held (held_copied object copies held) ≡ kept.bare_held held
held_copied-bare object copies [] = refl
held_copied-bare object copies (h ∷ held) = rw (having-bare object copies h.1.held.version, held_copied-bare object copies held) refl

rows_copied-bare : (object : ℕ) (copies : List CopyRow) (rows : Rows) → kept.bare_rows (rows_copied object copies rows) ≡ kept.bare_rows rows
rows_copied-bare object copies rows = rw (filespaces_copied-bare object copies rows.filespaces, held_copied-bare object copies rows.held) refl

altered-bare : (object : ℕ) (c : CopyChange) (rows : Rows) → kept.bare_rows (of_common.or_same rows (rows_altered object c rows)) ≡ kept.bare_rows rows
altered-bare object c rows = found (version_of object (kept_of rows)) where
  copied : (r : Result (List CopyRow) Refusal) → kept.bare_rows (of_common.or_same rows (on_ok (λ copies. rows_copied object copies rows) r)) ≡ kept.bare_rows rows
  copied (Ok copies) = rows_copied-bare object copies rows
  copied (Err e) = refl

  found : (o : Option Version) → kept.bare_rows (of_common.or_same rows (if_found o (λ v. on_ok (λ copies. rows_copied object copies rows) (copies_after c v.copies)))) ≡ kept.bare_rows rows
  found None = refl
  found (Some v) = copied (copies_after c v.copies)

-- ---- where versions stand

listed_at-bare : (n : ℕ) (path : List ℕ) (ws : List Version) → listed_at n path (map kept.without_copies ws) ≡ listed_at n path ws
listed_at-bare n path [] = refl
listed_at-bare n path (w ∷ ws) = ap (λ z. (w.object, record { filespace = n; path = path }) ∷ z) (listed_at-bare n path ws)

listed_in-bare : (n : ℕ) (gs : List (List ℕ × Group)) → listed_in n (values kept.bare_group gs) ≡ listed_in n gs
listed_in-bare n [] = refl
listed_in-bare n (g ∷ gs) = rw (listed_at-bare n g.0 g.1.versions, listed_in-bare n gs) refl

listed-bare : (fs : List (ℕ × Filespace)) → listed (kept.bare fs) ≡ listed fs
listed-bare [] = refl
listed-bare (f ∷ fs) = rw (listed_in-bare f.0 f.1.groups, listed-bare fs) refl

-- ---- nodes and filespaces

named_of-bare : (node : ℕ) (fs : List (ℕ × Filespace)) → named_of node (kept.bare fs) ≡ named_of node fs
named_of-bare node [] = refl
named_of-bare node (f ∷ fs) = ap (λ z. (if f.1.node == node then (f.1.name, f.0) ∷ [] else []) ++ z) (named_of-bare node fs)

objects-bare : (ws : List Version) → map (λ (w : Version). w.object) (map kept.without_copies ws) ≡ map (λ (w : Version). w.object) ws
objects-bare [] = refl
objects-bare (w ∷ ws) = ap (λ z. w.object ∷ z) (objects-bare ws)

objects_in-bare : (gs : List (List ℕ × Group)) → map (λ (w : Version). w.object) (filespace.versions_in (values kept.bare_group gs)) ≡ map (λ (w : Version). w.object) (filespace.versions_in gs)
objects_in-bare [] = refl
objects_in-bare (g ∷ gs) =
    map-append (λ (w : Version). w.object) (map kept.without_copies g.1.versions) (filespace.versions_in (values kept.bare_group gs))
    ∙ rw (objects-bare g.1.versions, objects_in-bare gs) refl
    ∙ sym (map-append (λ (w : Version). w.object) g.1.versions (filespace.versions_in gs))

nodes_changed-bare : (rows : Rows) (r : Result (List (ℕ × Node)) Refusal) → with_nodes (kept.bare_rows rows) r ≡ on_ok kept.bare_rows (with_nodes rows r)
nodes_changed-bare rows (Ok nodes) = refl
nodes_changed-bare rows (Err e) = refl

filespaces_changed-bare : (rows : Rows) (r : Result (List (ℕ × Filespace)) Refusal) → with_filespaces (kept.bare_rows rows) (on_ok kept.bare r) ≡ on_ok kept.bare_rows (with_filespaces rows r)
filespaces_changed-bare rows (Ok fs) = refl
filespaces_changed-bare rows (Err e) = refl

nodes_without-bare : (name : List ℕ) (fs : List (ℕ × Filespace)) (nodes : List (ℕ × Node)) → nodes_without name (kept.bare fs) nodes ≡ nodes_without name fs nodes
nodes_without-bare name fs nodes = found (node_named name nodes) where
  found : (o : Option ℕ) → if_found o (λ number. unless_used (by_filespace (filespace_of number (kept.bare fs))) (remove_entry (filespace.at_number number) nodes))
      ≡ if_found o (λ number. unless_used (by_filespace (filespace_of number fs)) (remove_entry (filespace.at_number number) nodes))
  found None = refl
  found (Some number) = ap (λ z. unless_used (by_filespace (first_number z)) (remove_entry (filespace.at_number number) nodes)) (named_of-bare number fs)

abbrev new_filespace : ℕ → List ℕ → Filespace
new_filespace node name = record { node = node; name = name; groups = [] }

filespaces_defined-bare : (node : ℕ) (name : List ℕ) (number : ℕ) (nodes : List (ℕ × Node)) (fs : List (ℕ × Filespace)) → filespaces_defined node name number nodes (kept.bare fs) ≡ on_ok kept.bare (filespaces_defined node name number nodes fs)
filespaces_defined-bare node name number nodes fs = found (lookup (filespace.at_number node) nodes) where
  defined : (b : Bool) → cond b (Err Exists) (Ok (insert_entry nat_cmp (kept.bare fs) number (new_filespace node name))) ≡ on_ok kept.bare (cond b (Err Exists) (Ok (insert_entry nat_cmp fs number (new_filespace node name))))
  defined true = refl
  defined false = ap Ok (insert_entry-values kept.bare_filespace nat_cmp fs number (new_filespace node name))

  found : (o : Option Node) → if_found o (λ _. if is_some (filespace_named node name (kept.bare fs)) then Err Exists else Ok (insert_entry nat_cmp (kept.bare fs) number (new_filespace node name)))
      ≡ on_ok kept.bare (if_found o (λ _. if is_some (filespace_named node name fs) then Err Exists else Ok (insert_entry nat_cmp fs number (new_filespace node name))))
  found None = refl
  found (Some n) =
      ap (λ z. cond (is_some (lookup (at_name name) z)) (Err Exists) (Ok (insert_entry nat_cmp (kept.bare fs) number (new_filespace node name)))) (named_of-bare node fs)
      ∙ defined (is_some (filespace_named node name fs))

filespaces_without-bare : (number : ℕ) (held : List (ℕ × HeldRow)) (fs : List (ℕ × Filespace)) → filespaces_without number (kept.bare_held held) (kept.bare fs) ≡ on_ok kept.bare (filespaces_without number held fs)
filespaces_without-bare number held fs =
    ap (λ ns. if_found (filespace.filespace_at number (kept.bare fs)) (λ f. unless_used (by_object (lesser (least_object f.groups) (least ns))) (remove_entry (filespace.at_number number) (kept.bare fs)))) (numbers_in-bare number held)
    ∙ ap (λ o. if_found o (λ f. unless_used (by_object (lesser (least_object f.groups) (least_in number held))) (remove_entry (filespace.at_number number) (kept.bare fs)))) (lookup-map_values kept.bare_filespace (filespace.at_number number) fs)
    ∙ found (filespace.filespace_at number fs)
  where
    used : (b : Option By) → unless_used b (kept.bare (remove_entry (filespace.at_number number) fs)) ≡ on_ok kept.bare (unless_used b (remove_entry (filespace.at_number number) fs))
    used None = refl
    used (Some user) = refl

    found : (o : Option Filespace) → if_found (option_map kept.bare_filespace o) (λ f. unless_used (by_object (lesser (least_object f.groups) (least_in number held))) (remove_entry (filespace.at_number number) (kept.bare fs)))
        ≡ on_ok kept.bare (if_found o (λ f. unless_used (by_object (lesser (least_object f.groups) (least_in number held))) (remove_entry (filespace.at_number number) fs)))
    found None = refl
    found (Some f) =
        ap (λ z. unless_used (by_object (lesser (least z) (least_in number held))) (remove_entry (filespace.at_number number) (kept.bare fs))) (objects_in-bare f.groups)
        ∙ ap (unless_used (by_object (lesser (least_object f.groups) (least_in number held)))) (remove_entry-values kept.bare_filespace (filespace.at_number number) fs)
        ∙ used (by_object (lesser (least_object f.groups) (least_in number held)))

rows_changed-bare : (c : ObjectChange) (number : ℕ) (rows : Rows) → rows_changed c number (kept.bare_rows rows) ≡ on_ok kept.bare_rows (rows_changed c number rows)
rows_changed-bare (client.Node two.Define name domain) number rows = nodes_changed-bare rows (nodes_with name domain number rows.nodes)
rows_changed-bare (client.Node two.Delete name domain) number rows =
    ap (with_nodes (kept.bare_rows rows)) (nodes_without-bare name rows.filespaces rows.nodes) ∙ nodes_changed-bare rows (nodes_without name rows.filespaces rows.nodes)
rows_changed-bare (client.Filespace two.Define node name n) number rows =
    ap (with_filespaces (kept.bare_rows rows)) (filespaces_defined-bare node name n rows.nodes rows.filespaces) ∙ filespaces_changed-bare rows (filespaces_defined node name n rows.nodes rows.filespaces)
rows_changed-bare (client.Filespace two.Delete node name n) number rows =
    ap (with_filespaces (kept.bare_rows rows)) (filespaces_without-bare n rows.held rows.filespaces) ∙ filespaces_changed-bare rows (filespaces_without n rows.held rows.filespaces)

or_same_rows-bare : (rows : Rows) (r : Result Rows Refusal) → of_common.or_same (kept.bare_rows rows) (on_ok kept.bare_rows r) ≡ kept.bare_rows (of_common.or_same rows r)
or_same_rows-bare rows (Ok new) = refl
or_same_rows-bare rows (Err e) = refl

-- ---- objects that go

-- of two results one is taken, here as there
chosen : {A B : Type 0} (f : A → B) (b c : Bool) (x y : Result A Refusal) (p q : Result B Refusal) → b ≡ c → p ≡ on_ok f x → q ≡ on_ok f y → cond b p q ≡ on_ok f (cond c x y)
chosen f b true x y p q h s t = ap (λ b. cond b p q) h ∙ s
chosen f b false x y p q h s t = ap (λ b. cond b p q) h ∙ t

held_gone-bare : (object : ℕ) (rows : Rows) → with_held (kept.bare_rows rows) (Ok (held_without object (kept.bare_held rows.held))) ≡ on_ok kept.bare_rows (with_held rows (Ok (held_without object rows.held)))
held_gone-bare object rows = ap (λ held. with_held (kept.bare_rows rows) (Ok held)) (remove_entry-values kept.bare_row (filespace.at_number object) rows.held)

rows_after-bare : (n : ℕ) (path : List ℕ) (c : GroupChange) (rows : Rows) → rows_after n path c (kept.bare_rows rows) ≡ on_ok kept.bare_rows (rows_after n path c rows)
rows_after-bare n path c rows =
    ap (with_filespaces (kept.bare_rows rows)) (filespaces_after-bare n path c rows.filespaces) ∙ filespaces_changed-bare rows (filespace.filespaces_after n path c rows.filespaces)

rows_cleared-bare : (n : ℕ) (path : List ℕ) (object : ℕ) (rows : Rows) → rows_cleared n path object (kept.bare_rows rows) ≡ on_ok kept.bare_rows (rows_cleared n path object rows)
rows_cleared-bare n path object rows =
    chosen kept.bare_rows (has_under n path object (kept.bare_held rows.held)) (has_under n path object rows.held)
    (with_held rows (Ok (held_without object rows.held))) (rows_after n path (group.Remove object) rows)
    (with_held (kept.bare_rows rows) (Ok (held_without object (kept.bare_held rows.held)))) (rows_after n path (group.Remove object) (kept.bare_rows rows))
    (has_under-bare n path object rows.held) (held_gone-bare object rows) (rows_after-bare n path (group.Remove object) rows)

place_cleared-bare : (object : ℕ) (fs : List (ℕ × Filespace)) → filespaces_cleared object (place_of object fs) (kept.bare fs) ≡ on_ok kept.bare (filespaces_cleared object (place_of object fs) fs)
place_cleared-bare object fs =
    elim (place_of object fs) as (λ o. filespaces_cleared object o (kept.bare fs) ≡ on_ok kept.bare (filespaces_cleared object o fs)) [
      | None ↦ refl
      | Some place ↦ filespaces_after-bare place.filespace place.path (group.Remove object) fs
    ]

rows_without-bare : (object : ℕ) (rows : Rows) → rows_without object (kept.bare_rows rows) ≡ on_ok kept.bare_rows (rows_without object rows)
rows_without-bare object rows =
    chosen kept.bare_rows (has_row object (kept.bare_held rows.held)) (has_row object rows.held)
    (with_held rows (Ok (held_without object rows.held))) (with_filespaces rows (filespaces_cleared object (place_of object rows.filespaces) rows.filespaces))
    (with_held (kept.bare_rows rows) (Ok (held_without object (kept.bare_held rows.held))))
    (with_filespaces (kept.bare_rows rows) (filespaces_cleared object (place_of object (kept.bare rows.filespaces)) (kept.bare rows.filespaces)))
    (has_row-bare object rows.held) (held_gone-bare object rows)
    (ap (λ z. with_filespaces (kept.bare_rows rows) (filespaces_cleared object (lookup (filespace.at_number object) z) (kept.bare rows.filespaces))) (listed-bare rows.filespaces)
    ∙ ap (with_filespaces (kept.bare_rows rows)) (place_cleared-bare object rows.filespaces)
    ∙ filespaces_changed-bare rows (filespaces_cleared object (place_of object rows.filespaces) rows.filespaces))

-- ---- steps

abbrev with_rows : Inv → Rows → kept.Kept
with_rows v rows = record { today = v.today; next_node = v.next_node; domains = v.domains; clients = rows }

-- the kept part, with these filespaces
abbrev with_spaces : Inv → List (ℕ × Filespace) → kept.Kept
with_spaces v fs = with_rows v (record { nodes = v.clients.nodes; filespaces = fs; held = kept.bare_held v.clients.held })

-- with these held objects
abbrev with_held_objects : Inv → List (ℕ × HeldRow) → kept.Kept
with_held_objects v held = with_rows v (record { nodes = v.clients.nodes; filespaces = kept.bare v.clients.filespaces; held = held })

-- a change of the rows
rows-kept : (v : Inv) (r s : Result Rows Refusal) → s ≡ on_ok kept.bare_rows r → kept.kept (of_common.with_clients (of_common.or_same v.clients r) v) ≡ with_rows v (of_common.or_same (kept.bare_rows v.clients) s)
rows-kept v r s h = ap (with_rows v) (sym (ap (of_common.or_same (kept.bare_rows v.clients)) h ∙ or_same_rows-bare v.clients r))

put-kept : (object : ℕ) (segments : List Segment) (v : Inv) → kept.kept (of_segments.put object segments v) ≡ kept.kept v
put-kept object [] v = refl
put-kept object (s ∷ segments) v = put-kept object segments (of_segments.put object (s ∷ []) v)

take_away-kept : (object : ℕ) (segments : List Segment) (v : Inv) → kept.kept (of_segments.take_away object segments v) ≡ kept.kept v
take_away-kept object [] v = refl
take_away-kept object (s ∷ segments) v = take_away-kept object segments (of_segments.take_away object (s ∷ []) v)

take_all-kept : (object : ℕ) (copies : List CopyRow) (v : Inv) → kept.kept (of_segments.take_all object copies v) ≡ kept.kept v
take_all-kept object [] v = refl
take_all-kept object (c ∷ copies) v = take_all-kept object copies (of_segments.take_away object c.segments v) ∙ take_away-kept object c.segments v

each-kept : {X : Type 0} (step : X → Inv → Inv) (other : X → kept.Kept → kept.Kept) → ((x : X) (v : Inv) → kept.kept (step x v) ≡ other x (kept.kept v)) → (xs : List X) (v : Inv) → kept.kept (of_common.each step xs v) ≡ kept.each other xs (kept.kept v)
each-kept step other same [] v = refl
each-kept step other same (x ∷ xs) v = each-kept step other same xs (step x v) ∙ ap (kept.each other xs) (same x v)

each-same : {X : Type 0} (step : X → Inv → Inv) → ((x : X) (v : Inv) → kept.kept (step x v) ≡ kept.kept v) → (xs : List X) (v : Inv) → kept.kept (of_common.each step xs v) ≡ kept.kept v
each-same step same [] v = refl
each-same step same (x ∷ xs) v = each-same step same xs (step x v) ∙ same x v

scratch-kept : (scratch : List ScratchVolume) (v : Inv) → kept.kept (of_common.each of_segments.make_scratch scratch v) ≡ kept.kept v
scratch-kept scratch v = each-same of_segments.make_scratch (λ s w. refl) scratch v

change_group-kept : (n : ℕ) (path : List ℕ) (c : GroupChange) (v : Inv) → kept.kept (of_versions.change_group n path c v) ≡ kept.change_group n path c (kept.kept v)
change_group-kept n path c v =
    ap (with_spaces v) (sym (ap (of_common.or_same (kept.bare v.clients.filespaces)) (filespaces_after-bare n path c v.clients.filespaces) ∙ or_same-bare v.clients.filespaces (filespace.filespaces_after n path c v.clients.filespaces)))

back_up-kept : (n : ℕ) (item : NewVersion) (v : Inv) → kept.kept (of_versions.back_up n item v) ≡ kept.back_up n item (kept.kept v)
back_up-kept n item v =
    let w = of_versions.new_version v item in
    put-kept item.object item.segments (of_versions.inserted n item v)
    ∙ ap (with_spaces v) (sym (ap (of_common.or_same (kept.bare v.clients.filespaces)) (filespaces_with-bare n item.path item.class w v.clients.filespaces) ∙ or_same-bare v.clients.filespaces (filespace.filespaces_with n item.path item.class w v.clients.filespaces)))

hold-kept : (n : ℕ) (item : NewHeldObject) (v : Inv) → kept.kept (of_versions.hold n item v) ≡ kept.hold n item (kept.kept v)
hold-kept n item v =
    put-kept item.object item.segments (of_versions.held_too n item v)
    ∙ ap (with_held_objects v) (sym (insert_entry-values kept.bare_row nat_cmp v.clients.held item.object (record { filespace = n; held = of_versions.new_held v item })))

expire-kept : (n : ℕ) (item : NamedVersion) (v : Inv) → kept.kept (of_versions.expire n item v) ≡ kept.expire n item (kept.kept v)
expire-kept n item v =
    let w = of_versions.take_versions item.object v in
    rows-kept w (rows_cleared n item.path item.object w.clients) (rows_cleared n item.path item.object (kept.bare_rows w.clients)) (rows_cleared-bare n item.path item.object w.clients)
    ∙ ap (kept.expire n item) (take_all-kept item.object (of_versions.copies_at item.object v) v)

discard-kept : (item : DiscardedVersion) (v : Inv) → kept.kept (of_versions.discard item v) ≡ kept.discard item (kept.kept v)
discard-kept item v =
    let w = of_versions.take_versions item.object v in
    rows-kept w (rows_without item.object w.clients) (rows_without item.object (kept.bare_rows w.clients)) (rows_without-bare item.object w.clients)
    ∙ ap (kept.discard item) (take_all-kept item.object (of_versions.copies_at item.object v) v)

change_copy-kept : (object : ℕ) (c : CopyChange) (v : Inv) → kept.kept (of_copies.change_copy object c v) ≡ kept.kept v
change_copy-kept object c v = ap (with_rows v) (altered-bare object c v.clients)

move_copy-kept : (item : MovedCopy) (v : Inv) → kept.kept (of_copies.move_copy item v) ≡ kept.kept v
move_copy-kept item v =
    change_copy-kept item.object (of_copies.moved item v) (of_copies.take_moved item v)
    ∙ take_away-kept item.object (of_copies.segments_in item.from (of_copies.version_at item.object v)) v

add_copy-kept : (item : NewCopy) (v : Inv) → kept.kept (of_copies.add_copy item v) ≡ kept.kept v
add_copy-kept item v = put-kept item.object item.segments (of_copies.change_copy item.object (of_copies.added item v) v) ∙ change_copy-kept item.object (of_copies.added item v) v

drop_copy-kept : (item : DroppedCopy) (v : Inv) → kept.kept (of_copies.drop_copy item v) ≡ kept.kept v
drop_copy-kept item v =
    change_copy-kept item.object (of_copies.dropped item) (of_segments.take_away item.object (of_copies.segments_in item.pool (of_copies.version_at item.object v)) v)
    ∙ take_away-kept item.object (of_copies.segments_in item.pool (of_copies.version_at item.object v)) v

client-kept : (c : ObjectChange) (v : Inv) → kept.kept (of_clients.client_changed c v) ≡ kept.client_changed c (kept.kept v)
client-kept c v =
    drawn c (of_common.or_same v.clients (rows_changed c v.next_node v.clients)) v
    ∙ ap (λ z. record { today = v.today; next_node = kept.drawn c v.next_node; domains = v.domains; clients = z })
    (sym (ap (of_common.or_same (kept.bare_rows v.clients)) (rows_changed-bare c v.next_node v.clients) ∙ or_same_rows-bare v.clients (rows_changed c v.next_node v.clients)))
  where
    drawn : (c : ObjectChange) (rows : Rows) (v : Inv) → kept.kept (of_clients.drawn_for_client c (record v { clients = rows })) ≡ record { today = v.today; next_node = kept.drawn c v.next_node; domains = v.domains; clients = kept.bare_rows rows }
    drawn (client.Node two.Define name domain) rows v = refl
    drawn (client.Node two.Delete name domain) rows v = refl
    drawn (client.Filespace two.Define node name n) rows v = refl
    drawn (client.Filespace two.Delete node name n) rows v = refl

store-kept : (c : PoolChange) (v : Inv) → kept.kept (of_stores.store_changed c v) ≡ kept.kept v
store-kept (store.DevClass v1 name capacity) v = refl
store-kept (store.Pool verb.Define name class kind rule) v = refl
store-kept (store.Pool verb.Update name class kind rule) v = refl
store-kept (store.Pool verb.Delete name class kind rule) v = refl
store-kept (store.Volume verb.Define name pool file capacity access) v = refl
store-kept (store.Volume verb.Update name pool file capacity access) v = refl
store-kept (store.Volume verb.Delete name pool file capacity access) v = refl

-- what a database keeps after a transaction is what the transaction makes of what it kept
pub effect-kept : (c : Change) (v : Inv) → kept.kept (of_transactions.effect c v) ≡ kept.kept_after c (kept.kept v)
unfolding of_transactions.effect kept.kept_after
effect-kept (change.Day day) v = refl
effect-kept (change.Policy c) v = refl
effect-kept (change.Object c) v = client-kept c v
effect-kept (change.Pool c) v = store-kept c v
effect-kept (change.Backup c) v = each-kept (of_versions.back_up c.filespace) (kept.back_up c.filespace) (back_up-kept c.filespace) c.items (of_common.each of_segments.make_scratch c.scratch v) ∙ ap (kept.each (kept.back_up c.filespace) c.items) (scratch-kept c.scratch v)
effect-kept (change.Hold c) v = each-kept (of_versions.hold c.filespace) (kept.hold c.filespace) (hold-kept c.filespace) c.items (of_common.each of_segments.make_scratch c.scratch v) ∙ ap (kept.each (kept.hold c.filespace) c.items) (scratch-kept c.scratch v)
effect-kept (change.Rebind c) v = each-kept (of_versions.rebind c.filespace) (kept.rebind c.filespace) (λ item w. change_group-kept c.filespace item.path (group.Rebind item.class) w) c.items v
effect-kept (change.Gone c) v = each-kept (of_versions.mark_gone c.filespace) (kept.mark_gone c.filespace) (λ item w. change_group-kept c.filespace item.path (group.Gone item.object w.today) w) c.items v
effect-kept (change.Move c) v =
    each-same of_copies.move_copy move_copy-kept c.items (of_common.each of_copies.put_moved c.items (of_common.each of_segments.make_scratch c.scratch v))
    ∙ each-same of_copies.put_moved (λ i w. put-kept i.object i.segments w) c.items (of_common.each of_segments.make_scratch c.scratch v) ∙ scratch-kept c.scratch v
effect-kept (change.Copy c) v = each-same of_copies.add_copy add_copy-kept c.items (of_common.each of_segments.make_scratch c.scratch v) ∙ scratch-kept c.scratch v
effect-kept (change.DropCopies c) v = each-same of_copies.drop_copy drop_copy-kept c.items v
effect-kept (change.Expire c) v = each-kept (of_versions.expire c.filespace) (kept.expire c.filespace) (expire-kept c.filespace) c.items v
effect-kept (change.Discard c) v = each-kept of_versions.discard kept.discard discard-kept c.items v
effect-kept (change.Reuse file) v = refl
effect-kept (change.DbBegin file after) v = refl
effect-kept (change.DbEnd file) v = refl
effect-kept (change.DbDelete file) v = refl
