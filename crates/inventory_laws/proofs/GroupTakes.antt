-- Versions of a path that change or go leave no more items.
use Rattle.std.proofs.Common.{◌≡◌, ℕ, ◌+◌, ◌≤◌, Bool, true, false, cond, not, List, [], ◌∷◌, length, Option, Some, None, Result, Ok, Err, refl, sym, subst, ◌∙◌, arith}
use Rattle.std.specs.Prelude.{◌==◌}
use Rattle.std.specs.Map.{lookup, set_value, remove_entry}
use Rattle.std.specs.Option.{option_map, unwrap_or}
use Rattle.std.proofs.lemmas.Map.Entries.{sum_by-remove_entry}
use Rattle.kinds.specs.declared.refusal.Refusal.{Refusal}
use Rattle.kinds.specs.declared.refusal.Refusal.TheVariants.{NotFound}
use Rattle.inventory_rules.specs.inventory_rows.version_groups.declared.group.Group.{Group}
use Rattle.inventory_rules.specs.inventory_rows.version_groups.declared.group.GroupChange.{GroupChange}
use Rattle.inventory_rules.specs.inventory_rows.version_groups.declared.group.GroupChange.TheVariants as group
use Rattle.inventory_rules.specs.inventory_rows.version_groups.declared.groups.Filespace.{Filespace}
use Rattle.inventory_rules.specs.inventory_rows.version_groups.declared.versions.Version.{Version}
use Rattle.inventory_rules.specs.inventory_rows.version_groups.Entries.{changed_at, if_found, on_ok}
use Rattle.inventory_rules.specs.inventory_rows.version_groups.Groups.{at_path, class_after, group_after, groups_after, names_kept, versions_after, versions_at, without_empty}
use Rattle.inventory_rules.specs.inventory_rows.version_groups.Versions.{is_empty, retired, revived, undone}
use Rattle.inventory_rules.specs.inventory_rows.object_rows.declared.held_object.HeldRow.{HeldRow}
use Rattle.inventory_rules.specs.inventory_rows.object_rows.declared.place.Place.{Place}
use Rattle.inventory_rules.specs.inventory_rows.object_rows.Filespaces.{at_number, filespace_after, filespaces_after}
use Rattle.inventory_rules.specs.inventory_rows.object_rows.HeldRows.{has_row, has_under, held_without}
use Rattle.inventory_rules.specs.inventory_rows.object_rows.Items.{items_of_held, items_with}
use Rattle.inventory_rules.specs.inventory_rows.object_rows.Places.{listed}
use Rattle.inventory_rules.specs.inventory_rows.object_rows.Rows.{Rows, filespaces_cleared, rows_after, rows_cleared, rows_without, with_filespaces, with_held}
use Rattle.inventory_rules.specs.inventory_rows.Items.{items_of_filespace, items_of_group, items_of_version}
use Rattle.inventory_rules.specs.inventory_rows.State.{Inv}
use Rattle.inventory_rules.specs.Common.{or_same}
use Rattle.inventory_rules.specs.Versions.{change_group, copies_at, take_versions}
use Rattle.inventory_laws.specs.Kept.{clients_after}
use Rattle.inventory_laws.proofs.CountedParts.{same_value}
use Rattle.inventory_laws.proofs.Flat.{in_rows}
use Rattle.inventory_laws.proofs.Stays.{in_data, same_data, take_all_stays}
use Rattle.inventory_laws.proofs.Weights.{less_set, rows, rows-removed, rows-set, weigh, weigh-cons, weigh-filter}

-- ---- one group

one_less : (a b n : ℕ) → a ≡ 1 + (n + b) → b ≤ a
one_less a b n h = omega (arith, h)

retired_less : (day : ℕ) (vs : List Version) → weigh items_of_version (retired day vs) ≤ weigh items_of_version vs
retired_less day [] = omega arith
retired_less day (v ∷ vs) =
    subst (λ n. n ≤ weigh items_of_version (v ∷ vs)) (weigh-cons items_of_version v vs ∙ sym (weigh-cons items_of_version (record v { since = Some day }) vs)) (omega arith)

revived_less : (vs : List Version) → weigh items_of_version (revived vs) ≤ weigh items_of_version vs
revived_less [] = omega arith
revived_less (v ∷ vs) =
    subst (λ n. n ≤ weigh items_of_version (v ∷ vs)) (weigh-cons items_of_version v vs ∙ sym (weigh-cons items_of_version (record v { since = None }) vs)) (omega arith)

less_still : (a b c : ℕ) → a ≤ b → b ≤ c → a ≤ c
less_still a b c h g = omega (arith, h, g)

undone_less : (active : Bool) (vs : List Version) → weigh items_of_version (undone active vs) ≤ weigh items_of_version vs
undone_less active [] = omega arith
undone_less active (v ∷ vs) = go active where
  fewer : weigh items_of_version vs ≤ weigh items_of_version (v ∷ vs)
  fewer = one_less (weigh items_of_version (v ∷ vs)) (weigh items_of_version vs) (items_of_version v) (weigh-cons items_of_version v vs)

  go : (b : Bool) → weigh items_of_version (cond b (revived vs) vs) ≤ weigh items_of_version (v ∷ vs)
  go true = less_still (weigh items_of_version (revived vs)) (weigh items_of_version vs) (weigh items_of_version (v ∷ vs)) (revived_less vs) fewer
  go false = fewer

after_less : (step : GroupChange) (vs : List Version) → weigh items_of_version (versions_after step vs) ≤ weigh items_of_version vs
after_less (group.Gone object today) vs = retired_less today vs
after_less (group.Remove object) vs = weigh-filter items_of_version (λ v. not (v.object == object)) vs
after_less (group.Rebind class) vs = omega arith
after_less (group.Undo class active) vs = undone_less active vs

group_less : (step : GroupChange) (g new : Group) → group_after step g ≡ Ok new → items_of_group new ≤ items_of_group g
group_less step g new h = go (names_kept step g.versions) h where
  go : (b : Bool) → cond {A = Result Group Refusal} b (Ok (record { class = class_after step g.class; versions = versions_after step g.versions })) (Err NotFound) ≡ Ok new → items_of_group new ≤ items_of_group g
  go true k = subst (λ (t : Group). items_of_group t ≤ items_of_group g) (same_value (record { class = class_after step g.class; versions = versions_after step g.versions }) new k) (after_less step g.versions)
  go false k = absurd cc

-- ---- one entry

changed_less : {K X : Type 0} (f : X → ℕ) (test : K → Bool) (step : X → Result X Refusal) → ((x y : X) → step x ≡ Ok y → f y ≤ f x) → (es new : List (K × X)) → changed_at test step es ≡ Ok new → rows f new ≤ rows f es
changed_less {K} {X} f test step less es new h = there (lookup test es) refl h where
  made : (x : X) → lookup test es ≡ Some x → (r : Result X Refusal) → step x ≡ r → on_ok (set_value test es) r ≡ Ok new → rows f new ≤ rows f es
  made x e (Ok y) m k =
      subst (λ (t : List (K × X)). rows f t ≤ rows f es) (same_value (set_value test es y) new k) (less_set (rows f (set_value test es y)) (f x) (rows f es) (f y) (rows-set f test es x y e) (less x y m))
  made x e (Err r) m k = absurd cc

  there : (o : Option X) → lookup test es ≡ o → if_found o (λ x. on_ok (set_value test es) (step x)) ≡ Ok new → rows f new ≤ rows f es
  there None e k = absurd cc
  there (Some x) e k = made x e (step x) refl k

empty_less : (path : List ℕ) (gs : List (List ℕ × Group)) → rows items_of_group (without_empty path gs) ≤ rows items_of_group gs
empty_less path gs = go (is_empty (versions_at path gs)) where
  go : (b : Bool) → rows items_of_group (cond b (remove_entry (at_path path) gs) gs) ≤ rows items_of_group gs
  go true = rows-removed items_of_group (at_path path) gs
  go false = omega arith

groups_less : (path : List ℕ) (step : GroupChange) (gs new : List (List ℕ × Group)) → groups_after path step gs ≡ Ok new → rows items_of_group new ≤ rows items_of_group gs
groups_less path step gs new h = go (changed_at (at_path path) (group_after step) gs) refl h where
  go : (r : Result (List (List ℕ × Group)) Refusal) → changed_at (at_path path) (group_after step) gs ≡ r → on_ok (without_empty path) r ≡ Ok new → rows items_of_group new ≤ rows items_of_group gs
  go (Ok mid) e k =
      subst (λ (t : List (List ℕ × Group)). rows items_of_group t ≤ rows items_of_group gs) (same_value (without_empty path mid) new k)
      (less_still (rows items_of_group (without_empty path mid)) (rows items_of_group mid) (rows items_of_group gs) (empty_less path mid) (changed_less items_of_group (at_path path) (group_after step) (group_less step) gs mid e))
  go (Err r) e k = absurd cc

space_less : (path : List ℕ) (step : GroupChange) (f new : Filespace) → filespace_after (groups_after path step) f ≡ Ok new → items_of_filespace new ≤ items_of_filespace f
space_less path step f new h = go (groups_after path step f.groups) refl h where
  go : (r : Result (List (List ℕ × Group)) Refusal) → groups_after path step f.groups ≡ r → on_ok (λ groups. record f { groups = groups }) r ≡ Ok new → items_of_filespace new ≤ items_of_filespace f
  go (Ok gs) e k = subst (λ (t : Filespace). items_of_filespace t ≤ items_of_filespace f) (same_value (record f { groups = gs }) new k) (groups_less path step f.groups gs e)
  go (Err r) e k = absurd cc

spaces_less : (n : ℕ) (path : List ℕ) (step : GroupChange) (fs : List (ℕ × Filespace)) → rows items_of_filespace (or_same fs (filespaces_after n path step fs)) ≤ rows items_of_filespace fs
spaces_less n path step fs = go (filespaces_after n path step fs) refl where
  go : (r : Result (List (ℕ × Filespace)) Refusal) → filespaces_after n path step fs ≡ r → rows items_of_filespace (or_same fs r) ≤ rows items_of_filespace fs
  go (Ok new) e = changed_less items_of_filespace (at_number n) (filespace_after (groups_after path step)) (space_less path step) fs new e
  go (Err r) e = omega arith

-- ---- the rows of all objects

no_more : (f h i v : ℕ) → h ≤ f → h + i + v ≤ f + i + v
no_more f h i v g = omega (arith, g)

pub group_takes : (n : ℕ) (path : List ℕ) (step : GroupChange) (v : Inv) → in_data (change_group n path step v) ≤ in_data v
group_takes n path step v =
    no_more (rows items_of_filespace v.clients.filespaces) (rows items_of_filespace (or_same v.clients.filespaces (filespaces_after n path step v.clients.filespaces))) (items_of_held v.clients.held) (length v.stores.volumes)
    (spaces_less n path step v.clients.filespaces)

-- ---- objects that go

fewer : (a b c : ℕ) → a + b ≡ c → a ≤ c
fewer a b c h = omega (arith, h)

held_fewer : (test : ℕ → Bool) (held : List (ℕ × HeldRow)) → items_of_held (remove_entry test held) ≤ items_of_held held
held_fewer test held =
    let of : HeldRow → ℕ = λ (r : HeldRow). items_with r.held.version.copies in
    fewer (items_of_held (remove_entry test held)) (unwrap_or (option_map of (lookup test held)) 0) (items_of_held held) (sum_by-remove_entry of test held)

two_less : (f h g i : ℕ) → h ≤ f → i ≤ g → h + i ≤ f + g
two_less f h g i a b = omega (arith, a, b)

-- a held object goes
row_takes : (object : ℕ) (c : Rows) → in_rows (or_same c (with_held c (Ok (held_without object c.held)))) ≤ in_rows c
row_takes object c = two_less (rows items_of_filespace c.filespaces) (rows items_of_filespace c.filespaces) (items_of_held c.held) (items_of_held (held_without object c.held)) (omega arith) (held_fewer (at_number object) c.held)

-- a version goes
path_takes : (n : ℕ) (path : List ℕ) (step : GroupChange) (c : Rows) → in_rows (or_same c (rows_after n path step c)) ≤ in_rows c
path_takes n path step c = go (filespaces_after n path step c.filespaces) (spaces_less n path step c.filespaces) where
  go : (r : Result (List (ℕ × Filespace)) Refusal) → rows items_of_filespace (or_same c.filespaces r) ≤ rows items_of_filespace c.filespaces → in_rows (or_same c (with_filespaces c r)) ≤ in_rows c
  go (Ok new) h = two_less (rows items_of_filespace c.filespaces) (rows items_of_filespace new) (items_of_held c.held) (items_of_held c.held) h (omega arith)
  go (Err e) h = omega arith

pub cleared_takes : (n : ℕ) (path : List ℕ) (object : ℕ) (c : Rows) → in_rows (or_same c (rows_cleared n path object c)) ≤ in_rows c
cleared_takes n path object c = go (has_under n path object c.held) where
  go : (b : Bool) → in_rows (or_same c (cond b (with_held c (Ok (held_without object c.held))) (rows_after n path (group.Remove object) c))) ≤ in_rows c
  go true = row_takes object c
  go false = path_takes n path (group.Remove object) c

pub without_takes : (object : ℕ) (c : Rows) → in_rows (or_same c (rows_without object c)) ≤ in_rows c
without_takes object c = go (has_row object c.held) where
  at : (o : Option Place) → in_rows (or_same c (with_filespaces c (if_found o (λ place. filespaces_after place.filespace place.path (group.Remove object) c.filespaces)))) ≤ in_rows c
  at None = omega arith
  at (Some place) = path_takes place.filespace place.path (group.Remove object) c

  go : (b : Bool) → in_rows (or_same c (cond b (with_held c (Ok (held_without object c.held))) (with_filespaces c (filespaces_cleared object (lookup (at_number object) (listed c.filespaces)) c.filespaces)))) ≤ in_rows c
  go true = row_takes object c
  go false = at (lookup (at_number object) (listed c.filespaces))

-- what goes from its volumes and from the rows
pub going_takes : (step : Rows → Result Rows Refusal) → ((c : Rows) → in_rows (or_same c (step c)) ≤ in_rows c) → (object : ℕ) (v : Inv) → in_data (clients_after step (take_versions object v)) ≤ in_data v
going_takes step less object v =
    let u : Inv = take_versions object v in
    let still : in_data u ≡ in_data v = same_data v u (take_all_stays object (copies_at object v) v) in
    let fewer : in_rows (or_same u.clients (step u.clients)) ≤ in_rows u.clients = less u.clients in
    subst (λ k. in_data (clients_after step u) ≤ k) still (one_less_still (in_rows u.clients) (in_rows (or_same u.clients (step u.clients))) (length u.stores.volumes) fewer)
  where
    one_less_still : (f h v : ℕ) → h ≤ f → h + v ≤ f + v
    one_less_still f h v g = omega (arith, g)
