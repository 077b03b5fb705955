-- New objects: each brings itself, its copy and the copy's segments; a version brings a group where its path had none.
use Rattle.std.proofs.Common.{◌≡◌, ℕ, ◌+◌, Bool, true, false, cond, eqb, not, ◌||◌, is_some, List, [], ◌∷◌, ◌++◌, length, map, Option, Some, None, Ok, refl, sym, ap, ◌∙◌, arith}
use Rattle.std.specs.Prelude.{nat_le}
use Rattle.std.specs.BTreeMap.{insert_entry}
use Rattle.std.specs.Cmp.Lexicographic.{slice_cmp, nat_list_cmp_total}
use Rattle.std.specs.List.{list_all, list_any, sum_by}
use Rattle.std.specs.Map.{lookup, set_value}
use Rattle.std.specs.Ordering.{match_ordering, nat_cmp}
use Rattle.std.specs.declared.cmp.Ordering.TheVariants.{Less, Equal, Greater}
use Rattle.std.proofs.lemmas.Bool.{and_parts, not-true}
use Rattle.std.proofs.lemmas.List.Folds.{list_all-map}
use Rattle.std.proofs.lemmas.List.Sums.{sum_by-cons}
use Rattle.std.proofs.lemmas.Map.Lookups.{exact_bytes}
use Rattle.kinds.specs.declared.refusal.Refusal.TheVariants as refusal
use Rattle.inventory_rules.specs.entries.change_items.declared.items.NewHeldObject.{NewHeldObject}
use Rattle.inventory_rules.specs.entries.change_items.declared.items.NewVersion.{NewVersion}
use Rattle.inventory_rules.specs.entries.change_items.declared.lists.NewHeldObjects.{NewHeldObjects}
use Rattle.inventory_rules.specs.entries.change_items.declared.lists.NewVersions.{NewVersions}
use Rattle.inventory_rules.specs.entries.declared.change.Change.TheVariants as change
use Rattle.kinds.specs.Names.{is_same_name}
use Rattle.inventory_rules.specs.inventory_rows.version_groups.declared.copies.CopyRow.{CopyRow}
use Rattle.inventory_rules.specs.inventory_rows.version_groups.declared.group.Group.{Group}
use Rattle.inventory_rules.specs.inventory_rows.version_groups.declared.groups.Filespace.{Filespace}
use Rattle.inventory_rules.specs.inventory_rows.version_groups.declared.versions.Version.{Version}
use Rattle.inventory_rules.specs.inventory_rows.version_groups.Entries.{all_later, if_found, on_ok}
use Rattle.inventory_rules.specs.inventory_rows.version_groups.Groups.{AreByPath, at_path, group_at, group_with, groups_with}
use Rattle.inventory_rules.specs.inventory_rows.version_groups.Versions.{has_active, has_object, retired, superseded}
use Rattle.inventory_rules.proofs.of_inventory_rows.of_version_groups.Maps.{insert_present, lookup-set}
use Rattle.inventory_rules.specs.inventory_rows.object_rows.Filespaces.{at_number, filespace_after, filespace_at, groups_in}
use Rattle.inventory_rules.proofs.of_inventory_rows.of_pool_tables.Names.{at_name}
use Rattle.inventory_rules.proofs.of_inventory_rows.of_policy_domains.Sorted.{sorted-insert}
use Rattle.inventory_rules.specs.inventory_rows.object_rows.declared.held_object.HeldObject.{HeldObject}
use Rattle.inventory_rules.specs.inventory_rows.object_rows.declared.held_object.HeldRow.{HeldRow}
use Rattle.inventory_rules.specs.inventory_rows.object_rows.HeldRows.{held_versions, held_with}
use Rattle.inventory_rules.specs.inventory_rows.object_rows.Items.{items_of_held}
use Rattle.inventory_rules.specs.inventory_rows.object_rows.Rows.{Rows, kept_of}
use Rattle.inventory_rules.proofs.of_inventory_rows.of_object_rows.Splices.{Splices}
use Rattle.inventory_rules.specs.inventory_rows.Items.{count_items, items_of_filespace, items_of_group, items_of_version}
use Rattle.inventory_rules.specs.inventory_rows.Search as search
use Rattle.inventory_rules.specs.inventory_rows.State.{Inv}
use Rattle.inventory_rules.specs.Common.{each, or_same, this}
use Rattle.inventory_rules.specs.Segments.{make_scratch, scratch_refused}
use Rattle.inventory_rules.specs.Transactions.{effect}
use Rattle.inventory_rules.specs.Versions.{arrivals_refused, back_up, filespace_there, held_too, hold, inserted, is_new_object, items_of_new, items_of_new_held, new_held, new_refused, new_version, objects_refused, paths_added, AreGroupsOrdered}
use Rattle.inventory_rules.specs.Facts.{Facts}
use Rattle.inventory_rules.proofs.Touched.{effect-data}
use Rattle.inventory_laws.proofs.Absent.{unless_holds}
use Rattle.inventory_laws.proofs.Arriving.{Comes, held_arrived, other_arrived}
use Rattle.inventory_laws.proofs.CopyCounts.{is_found}
use Rattle.inventory_laws.proofs.CountedParts.{nothing_first, nothing_then}
use Rattle.inventory_laws.proofs.Flat.{in_held, weigh-append}
use Rattle.inventory_laws.proofs.Kept.{held_comes, is_held_there}
use Rattle.inventory_laws.proofs.PolicyCounts.{found_in}
use Rattle.inventory_laws.proofs.PutSteps.{held_none, held_object_comes, of_held}
use Rattle.inventory_laws.proofs.Stays.{Scratched, Stays, data_more, put_stays, scratched}
use Rattle.inventory_laws.proofs.Tests.{both_none, named_once}
use Rattle.inventory_laws.proofs.VersionArrivals.{IsTaken, taken}
use Rattle.inventory_laws.proofs.VolumeRows.{all_both, all_so}
use Rattle.inventory_laws.proofs.Weights.{rows, rows-inserted, rows-set, weigh, weigh-cons}

-- ---- an entry that comes into its place

or_again : (b r : Bool) → (b || r) ≡ (b || (b || r))
or_again true r = refl
or_again false r = refl

or_swap : (c b r : Bool) → (c || (b || r)) ≡ (b || (c || r))
or_swap true true r = refl
or_swap true false r = refl
or_swap false b r = refl

here_or : {X : Type 0} (b : Bool) (x : X) (o : Option X) → is_some (cond b (Some x) o) ≡ (b || is_some o)
here_or true x o = refl
here_or false x o = refl

-- under which paths something stands then
there-inserted : {X : Type 0} (path q : List ℕ) (x : X) (es : List (List ℕ × X)) → is_some (lookup (at_path q) (insert_entry (slice_cmp nat_cmp) es path x)) ≡ (at_path q path || is_some (lookup (at_path q) es))
there-inserted path q x [] = here_or (at_path q path) x None
there-inserted {X} path q x (e ∷ es) =
    elim (slice_cmp nat_cmp path e.0) as (λ r. slice_cmp nat_cmp path e.0 ≡ r → is_some (lookup (at_path q) (match_ordering r ((path, x) ∷ e ∷ es) ((e.0, x) ∷ es) (e ∷ insert_entry (slice_cmp nat_cmp) es path x))) ≡ (at_path q path || is_some (lookup (at_path q) (e ∷ es)))) [
      | Less ↦ λ _. here_or (at_path q path) x (lookup (at_path q) (e ∷ es))
      | Equal ↦ λ p.
          let same : path ≡ e.0 = exact_bytes path e.0 p in
          here_or (at_path q e.0) x (lookup (at_path q) es) ∙ or_again (at_path q e.0) (is_some (lookup (at_path q) es))
          ∙ ap (λ b. b || (at_path q e.0 || is_some (lookup (at_path q) es))) (ap (at_path q) (sym same))
          ∙ ap (λ b. at_path q path || b) (sym (here_or (at_path q e.0) e.1 (lookup (at_path q) es)))
      | Greater ↦ λ _.
          here_or (at_path q e.0) e.1 (lookup (at_path q) (insert_entry (slice_cmp nat_cmp) es path x)) ∙ ap (λ b. at_path q e.0 || b) (there-inserted path q x es)
          ∙ or_swap (at_path q e.0) (at_path q path) (is_some (lookup (at_path q) es))
          ∙ ap (λ b. at_path q path || b) (sym (here_or (at_path q e.0) e.1 (lookup (at_path q) es)))
    ] refl

-- ---- the groups of a filespace

retired_same : (day : ℕ) (vs : List Version) → weigh items_of_version (retired day vs) ≡ weigh items_of_version vs
retired_same day [] = refl
retired_same day (v ∷ vs) = weigh-cons items_of_version (record v { since = Some day }) vs ∙ sym (weigh-cons items_of_version v vs)

superseded_same : (day : ℕ) (vs : List Version) → weigh items_of_version (superseded day vs) ≡ weigh items_of_version vs
superseded_same day vs = go (has_active vs) where
  go : (b : Bool) → weigh items_of_version (cond b (retired day vs) vs) ≡ weigh items_of_version vs
  go true = retired_same day vs
  go false = refl

abbrev one_unless : Bool → ℕ
one_unless b = cond b 0 1

first_of_path : (a g i z : ℕ) → a ≡ 1 + (g + i) → g ≡ 1 + (z + 0) → a ≡ i + (1 + z) + 1
first_of_path a g i z h e = omega (arith, h, e)

next_of_path : (a g i n z s : ℕ) → a + g ≡ i + n → n ≡ 1 + (z + s) → s ≡ g → a ≡ i + (1 + z) + 0
next_of_path a g i n z s h e r = omega (arith, h, e, r)

groups_more : (path class : List ℕ) (w : Version) (gs : List (List ℕ × Group)) → AreByPath gs → rows items_of_group (groups_with path class w gs) ≡ rows items_of_group gs + (1 + items_of_version w) + one_unless (is_some (group_at path gs))
groups_more path class w gs sorted = go (group_at path gs) refl where
  go : (o : Option Group) → group_at path gs ≡ o → rows items_of_group (insert_entry (slice_cmp nat_cmp) gs path (group_with class w o)) ≡ rows items_of_group gs + (1 + items_of_version w) + one_unless (is_some o)
  go None e =
      first_of_path (rows items_of_group (insert_entry (slice_cmp nat_cmp) gs path (group_with class w None))) (weigh items_of_version (w ∷ [])) (rows items_of_group gs) (items_of_version w)
      (rows-inserted items_of_group (slice_cmp nat_cmp) gs path (group_with class w None) e) (weigh-cons items_of_version w [])
  go (Some g) e =
      next_of_path (rows items_of_group (insert_entry (slice_cmp nat_cmp) gs path (group_with class w (Some g)))) (items_of_group g) (rows items_of_group gs) (weigh items_of_version (w ∷ superseded w.stored g.versions)) (items_of_version w) (weigh items_of_version (superseded w.stored g.versions))
      (ap (λ (t : List (List ℕ × Group)). rows items_of_group t + items_of_group g) (insert_present nat_list_cmp_total path (group_with class w (Some g)) g gs sorted e) ∙ rows-set items_of_group (at_path path) gs g (group_with class w (Some g)) e)
      (weigh-cons items_of_version w (superseded w.stored g.versions))
      (superseded_same w.stored g.versions)

-- ---- one version more

with_more : (a x f y z : ℕ) → a + x ≡ f + y → y ≡ x + z → a ≡ f + z
with_more a x f y z h e = omega (arith, h, e)

added_up : (y i z s u : ℕ) → y ≡ i + (1 + z) + u → z ≡ 1 + (s + 0) → y ≡ i + (1 + (1 + s) + u)
added_up y i z s u h e = omega (arith, h, e)

abbrev spaces : Inv → List (ℕ × Filespace)
spaces v = v.clients.filespaces

-- what stands once a version came into the filespace
record CameIn (n : ℕ) (f : Filespace) (item : NewVersion) (v w : Inv) : Type 0 where
  pub filespace : Filespace
  pub there : filespace_at n (spaces w) ≡ Some filespace
  pub by_path : AreByPath filespace.groups
  pub paths : (q : List ℕ) → is_some (group_at q filespace.groups) ≡ (at_path q item.path || is_some (group_at q f.groups))
  pub adds : rows items_of_filespace (spaces w) ≡ rows items_of_filespace (spaces v) + (items_of_new item + one_unless (is_some (group_at item.path f.groups)))
  pub held : items_of_held w.clients.held ≡ items_of_held v.clients.held
  pub volumes : length w.stores.volumes ≡ length v.stores.volumes

came_in : (n : ℕ) (f : Filespace) (item : NewVersion) (v : Inv) → filespace_at n (spaces v) ≡ Some f → AreByPath f.groups → CameIn n f item v (back_up n item v)
came_in n f item v found sorted =
    let w : Version = new_version v item in
    let gs : List (List ℕ × Group) = groups_with item.path item.class w f.groups in
    let g : Filespace = record f { groups = gs } in
    let mid : Inv = inserted n item v in
    let s : Stays mid (back_up n item v) = put_stays item.object item.segments mid in
    let is : spaces mid ≡ set_value (at_number n) (spaces v) g =
    ap (λ o. or_same (spaces v) (if_found o (λ x. on_ok (set_value (at_number n) (spaces v)) (filespace_after (λ groups. Ok (groups_with item.path item.class w groups)) x)))) found in
    let now : spaces (back_up n item v) ≡ set_value (at_number n) (spaces v) g = ap (λ c. c.filespaces) s.clients ∙ is in
    let more : rows items_of_group gs ≡ rows items_of_group f.groups + (items_of_new item + one_unless (is_some (group_at item.path f.groups))) =
    added_up (rows items_of_group gs) (rows items_of_group f.groups) (items_of_version w) (length item.segments) (one_unless (is_some (group_at item.path f.groups)))
    (groups_more item.path item.class w f.groups sorted) (weigh-cons (λ (c : CopyRow). length c.segments) (record { pool = item.pool; placed = this v; segments = item.segments }) []) in
    record {
      filespace = g;
      there = ap (filespace_at n) now ∙ lookup-set (at_number n) f g (spaces v) found;
      by_path = sorted-insert nat_list_cmp_total item.path (group_with item.class w (group_at item.path f.groups)) f.groups sorted;
      paths = λ q. there-inserted item.path q (group_with item.class w (group_at item.path f.groups)) f.groups;
      adds = ap (λ fs. rows items_of_filespace fs) now
          ∙ with_more (rows items_of_filespace (set_value (at_number n) (spaces v) g)) (items_of_filespace f) (rows items_of_filespace (spaces v)) (items_of_filespace g) (items_of_new item + one_unless (is_some (group_at item.path f.groups)))
          (rows-set items_of_filespace (at_number n) (spaces v) f g found) more;
      held = ap (λ c. items_of_held c.held) s.clients;
      volumes = s.volumes;
    }

-- ---- versions one after the other

summed : (a b f n u s p r : ℕ) → a ≡ b + (s + p) → b ≡ f + (n + u) → r ≡ n + s → a ≡ f + (r + (u + p))
summed a b f n u s p r h e i = omega (arith, h, e, i)

record AllCameIn (n : ℕ) (was : Inv) (seen : List (List ℕ)) (items : List NewVersion) (v w : Inv) : Type 0 where
  pub adds : rows items_of_filespace (spaces w) ≡ rows items_of_filespace (spaces v) + (sum_by items_of_new items + paths_added n seen items was)
  pub held : items_of_held w.clients.held ≡ items_of_held v.clients.held
  pub volumes : length w.stores.volumes ≡ length v.stores.volumes

all_came_in : (n : ℕ) (was : Inv) (items : List NewVersion) (seen : List (List ℕ)) (f : Filespace) (v : Inv) → filespace_at n (spaces v) ≡ Some f → AreByPath f.groups
    → ((q : List ℕ) → is_some (group_at q f.groups) ≡ (is_some (search.group n q was) || list_any (is_same_name q) seen)) → AllCameIn n was seen items v (each (back_up n) items v)
all_came_in n was [] seen f v found sorted paths = record { adds = omega arith; held = refl; volumes = refl }
all_came_in n was (i ∷ items) seen f v found sorted paths =
    let c : CameIn n f i v (back_up n i v) = came_in n f i v found sorted in
    let after : (q : List ℕ) → is_some (group_at q c.filespace.groups) ≡ (is_some (search.group n q was) || list_any (is_same_name q) (i.path ∷ seen)) =
    λ q. c.paths q ∙ ap (λ b. b || is_some (group_at q f.groups)) (at_name q i.path) ∙ ap (λ b. is_same_name q i.path || b) (paths q) ∙ or_swap (is_same_name q i.path) (is_some (search.group n q was)) (list_any (is_same_name q) seen) in
    let r : AllCameIn n was (i.path ∷ seen) items (back_up n i v) (each (back_up n) items (back_up n i v)) = all_came_in n was items (i.path ∷ seen) c.filespace (back_up n i v) c.there c.by_path after in
    let one : one_unless (is_some (group_at i.path f.groups)) ≡ one_unless (is_some (search.group n i.path was) || list_any (is_same_name i.path) seen) = ap one_unless (paths i.path) in
    let adds : rows items_of_filespace (spaces (back_up n i v)) ≡ rows items_of_filespace (spaces v) + (items_of_new i + one_unless (is_some (search.group n i.path was) || list_any (is_same_name i.path) seen)) =
    c.adds ∙ ap (λ k. rows items_of_filespace (spaces v) + (items_of_new i + k)) one in
    record {
      adds = summed (rows items_of_filespace (spaces (each (back_up n) items (back_up n i v)))) (rows items_of_filespace (spaces (back_up n i v))) (rows items_of_filespace (spaces v)) (items_of_new i)
          (one_unless (is_some (search.group n i.path was) || list_any (is_same_name i.path) seen)) (sum_by items_of_new items) (paths_added n (i.path ∷ seen) items was) (sum_by items_of_new (i ∷ items))
          r.adds adds (sum_by-cons items_of_new i items);
      held = r.held ∙ c.held;
      volumes = r.volumes ∙ c.volumes;
    }

or_none : (b : Bool) → b ≡ (b || false)
or_none true = refl
or_none false = refl

all_versions : (a f h g s w u v n : ℕ) → a ≡ f + s → h ≡ g → w ≡ u → u ≡ n + v → a + h + w + 0 ≡ f + g + v + (n + s)
all_versions a f h g s w u v n i j k e = omega (arith, i, j, k, e)

pub versions_counted : (c : NewVersions) (v : Inv) → AreGroupsOrdered v.clients.filespaces → new_refused c.filespace (map (λ i. i.object) c.items) v ++ (scratch_refused c.scratch v ++ objects_refused (map (λ i. i.object) c.items) v) ≡ []
    → count_items (effect (change.Backup c) v) + 0 ≡ count_items v + (length c.scratch + (sum_by items_of_new c.items + paths_added c.filespace [] c.items v))
unfolding effect
versions_counted c v o h =
    let n : ℕ = c.filespace in
    let objects : List ℕ = map (λ i. i.object) c.items in
    let u : Inv = each make_scratch c.scratch v in
    let w : Inv = each (back_up n) c.items u in
    let asked : new_refused n objects v ≡ [] = nothing_first (new_refused n objects v) (scratch_refused c.scratch v ++ objects_refused objects v) h in
    let made : scratch_refused c.scratch v ≡ [] = nothing_first (scratch_refused c.scratch v) (objects_refused objects v) (nothing_then (new_refused n objects v) (scratch_refused c.scratch v ++ objects_refused objects v) h) in
    let s : Scratched (length c.scratch) v u = scratched c.scratch v made in
    let space : filespace_there n v ≡ [] = nothing_first (filespace_there n v) (arrivals_refused objects v) asked in
    let f : (x : Filespace) × (filespace_at n (spaces v) ≡ Some x) = is_found (filespace_at n (spaces v)) (unless_holds (is_some (filespace_at n (spaces v))) refusal.NotFound space) in
    let there : filespace_at n (spaces u) ≡ Some f.0 = ap (λ cl. filespace_at n cl.filespaces) s.clients ∙ f.1 in
    let sorted : AreByPath f.0.groups = found_in (λ (x : Filespace). AreByPath x.groups) (at_number n) (spaces v) f.0 f.1 o in
    let paths : (q : List ℕ) → is_some (group_at q f.0.groups) ≡ (is_some (search.group n q v) || false) =
    λ q. ap (λ x. is_some (group_at q (groups_in x))) (sym f.1) ∙ or_none (is_some (search.group n q v)) in
    let m : AllCameIn n v [] c.items u w = all_came_in n v c.items [] f.0 u there sorted paths in
    data_more v (effect (change.Backup c) v) 0 (length c.scratch + (sum_by items_of_new c.items + paths_added n [] c.items v)) (effect-data (change.Backup c) v refl)
    (all_versions (rows items_of_filespace (spaces w)) (rows items_of_filespace (spaces v)) (items_of_held w.clients.held) (items_of_held v.clients.held) (sum_by items_of_new c.items + paths_added n [] c.items v)
    (length w.stores.volumes) (length u.stores.volumes) (length v.stores.volumes) (length c.scratch)
    (m.adds ∙ ap (λ cl. rows items_of_filespace cl.filespaces + (sum_by items_of_new c.items + paths_added n [] c.items v)) s.clients) (m.held ∙ ap (λ cl. items_of_held cl.held) s.clients) m.volumes s.volumes)

-- ---- archived objects: each brings itself, its copy and the copy's segments

one_more : (n o b a x f : ℕ) → n ≡ b + x → x ≡ 1 + (f + a) → o ≡ b + a → n ≡ 1 + (f + o)
one_more n o b a x f h e g = omega (arith, h, e, g)

weigh_one : (x : Version) {old new : List Version} → Splices [] (x ∷ []) old new → weigh items_of_version new ≡ 1 + (items_of_version x + weigh items_of_version old)
weigh_one x {old} {new} s =
    one_more (weigh items_of_version new) (weigh items_of_version old) (weigh items_of_version s.before) (weigh items_of_version s.after) (weigh items_of_version (x ∷ s.after)) (items_of_version x)
    (ap (weigh items_of_version) s.becomes ∙ weigh-append items_of_version s.before (x ∷ s.after)) (weigh-cons items_of_version x s.after) (ap (weigh items_of_version) s.was ∙ weigh-append items_of_version s.before s.after)

held_up : (h g x z s : ℕ) → h ≡ 1 + (x + g) → x ≡ z → z ≡ 1 + (s + 0) → h ≡ g + (1 + (1 + s))
held_up h g x z s i j k = omega (arith, i, j, k)

-- what stands once an object is held
record HeldToo (filespace : ℕ) (item : NewHeldObject) (v w : Inv) : Type 0 where
  pub adds : items_of_held w.clients.held ≡ items_of_held v.clients.held + items_of_new_held item
  pub spaces : w.clients.filespaces ≡ v.clients.filespaces
  pub held : list_all (is_held_there w.clients.filespaces) w.clients.held ≡ true
  pub others : (k : ℕ) → eqb item.object k ≡ false → has_object k (search.versions w) ≡ has_object k (search.versions v)
  pub volumes : length w.stores.volumes ≡ length v.stores.volumes

held_in : (filespace : ℕ) (item : NewHeldObject) (v : Inv) → list_all (is_held_there v.clients.filespaces) v.clients.held ≡ true → is_some (filespace_at filespace v.clients.filespaces) ≡ true → has_object item.object (search.versions v) ≡ false
    → HeldToo filespace item v (hold filespace item v)
held_in filespace item v held there fresh =
    let mid : Inv = held_too filespace item v in
    let it : HeldObject = new_held v item in
    let new : List (ℕ × HeldRow) = held_with filespace it v.clients.held in
    let c : Comes (of_held item) v mid = held_object_comes filespace item v held there fresh in
    let s : Stays mid (hold filespace item v) = put_stays item.object item.segments mid in
    let heavier : weigh items_of_version (held_versions new) ≡ 1 + (items_of_version it.version + weigh items_of_version (held_versions v.clients.held)) = weigh_one it.version (held_comes filespace it v.clients.held (held_none item.object v held fresh)) in
    record {
      adds = ap (λ c. items_of_held c.held) s.clients ∙ in_held new
          ∙ held_up (weigh items_of_version (held_versions new)) (items_of_held v.clients.held) (items_of_version it.version) (weigh (λ (c : CopyRow). length c.segments) it.version.copies) (length item.segments)
          (heavier ∙ ap (λ n. 1 + (items_of_version it.version + n)) (sym (in_held v.clients.held))) refl
          (weigh-cons (λ (c : CopyRow). length c.segments) (record { pool = item.pool; placed = this v; segments = item.segments }) []);
      spaces = ap (λ c. c.filespaces) s.clients;
      held = ap (λ (x : Rows). list_all (is_held_there x.filespaces) x.held) s.clients ∙ held_arrived (of_held item) v mid c held;
      others = λ k ne. ap (λ (x : Rows). has_object k (kept_of x)) s.clients ∙ other_arrived k (of_held item) v mid c ne;
      volumes = s.volumes;
    }

record AllHeldToo (items : List NewHeldObject) (v w : Inv) : Type 0 where
  pub adds : items_of_held w.clients.held ≡ items_of_held v.clients.held + sum_by items_of_new_held items
  pub spaces : w.clients.filespaces ≡ v.clients.filespaces
  pub volumes : length w.stores.volumes ≡ length v.stores.volumes

then_more : (a b c n s t : ℕ) → a ≡ b + s → b ≡ c + n → t ≡ n + s → a ≡ c + t
then_more a b c n s t h i j = omega (arith, h, i, j)

all_held_in : (filespace : ℕ) (items : List NewHeldObject) (v : Inv) → list_all (is_held_there v.clients.filespaces) v.clients.held ≡ true → is_some (filespace_at filespace v.clients.filespaces) ≡ true
    → list_all (λ (i : NewHeldObject). not (has_object i.object (search.versions v))) items ≡ true → all_later (λ (a b : NewHeldObject). not (eqb a.object b.object)) items ≡ true → AllHeldToo items v (each (hold filespace) items v)
all_held_in filespace [] v held there fresh apart = record { adds = omega arith; spaces = refl; volumes = refl }
all_held_in filespace (i ∷ items) v held there fresh apart =
    let fs = and_parts (not (has_object i.object (search.versions v))) (list_all (λ (b : NewHeldObject). not (has_object b.object (search.versions v))) items) fresh in
    let ds = and_parts (list_all (λ (b : NewHeldObject). not (eqb i.object b.object)) items) (all_later (λ (a b : NewHeldObject). not (eqb a.object b.object)) items) apart in
    let u : Inv = hold filespace i v in
    let one : HeldToo filespace i v u = held_in filespace i v held there (not-true (has_object i.object (search.versions v)) fs.0) in
    let more : AllHeldToo items u (each (hold filespace) items u) =
    all_held_in filespace items u one.held (ap (λ (x : List (ℕ × Filespace)). is_some (filespace_at filespace x)) one.spaces ∙ there)
    (all_both (λ (b : NewHeldObject). not (eqb i.object b.object)) (λ b. not (has_object b.object (search.versions v))) (λ b. not (has_object b.object (search.versions u)))
    (λ b ne h. ap not (one.others b.object (not-true (eqb i.object b.object) ne)) ∙ h) items ds.0 fs.1) ds.1 in
    record {
      adds = then_more (items_of_held (each (hold filespace) items u).clients.held) (items_of_held u.clients.held) (items_of_held v.clients.held) (items_of_new_held i) (sum_by items_of_new_held items) (sum_by items_of_new_held (i ∷ items))
          more.adds one.adds (sum_by-cons items_of_new_held i items);
      spaces = more.spaces ∙ one.spaces;
      volumes = more.volumes ∙ one.volumes;
    }

all_held : (f g h i s w u v n : ℕ) → f ≡ g → h ≡ i + s → w ≡ u → u ≡ n + v → f + h + w + 0 ≡ g + i + v + (n + s)
all_held f g h i s w u v n a b c d = omega (arith, a, b, c, d)

pub held_counted : (c : NewHeldObjects) (v : Inv) → Facts v → new_refused c.filespace (map (λ i. i.object) c.items) v ++ (scratch_refused c.scratch v ++ objects_refused (map (λ i. i.object) c.items) v) ≡ []
    → count_items (effect (change.Hold c) v) + 0 ≡ count_items v + (length c.scratch + sum_by items_of_new_held c.items)
unfolding effect
held_counted c v f h =
    let n : ℕ = c.filespace in
    let object : NewHeldObject → ℕ = λ i. i.object in
    let objects : List ℕ = map object c.items in
    let u : Inv = each make_scratch c.scratch v in
    let w : Inv = each (hold n) c.items u in
    let one = both_none (new_refused n objects v) (scratch_refused c.scratch v ++ objects_refused objects v) h in
    let two = both_none (scratch_refused c.scratch v) (objects_refused objects v) one.1 in
    let t : IsTaken n objects v = taken n objects v one.0 two.1 in
    let s : Scratched (length c.scratch) v u = scratched c.scratch v two.0 in
    let fresh : list_all (λ (i : NewHeldObject). not (has_object i.object (search.versions v))) c.items ≡ true =
    all_so (λ (i : NewHeldObject). is_new_object v i.object) (λ i. not (has_object i.object (search.versions v))) (λ i g. (and_parts (nat_le 1 i.object) (not (has_object i.object (search.versions v))) g).1) c.items
    (sym (list_all-map (is_new_object v) object c.items) ∙ t.new) in
    let m : AllHeldToo c.items u w =
    all_held_in n c.items u (ap (λ (x : Rows). list_all (is_held_there x.filespaces) x.held) s.clients ∙ f.held_cite) (ap (λ (x : Rows). is_some (filespace_at n x.filespaces)) s.clients ∙ t.there)
    (ap (λ (x : Rows). list_all (λ (i : NewHeldObject). not (has_object i.object (kept_of x))) c.items) s.clients ∙ fresh) (named_once object c.items t.once) in
    data_more v (effect (change.Hold c) v) 0 (length c.scratch + sum_by items_of_new_held c.items) (effect-data (change.Hold c) v refl)
    (all_held (rows items_of_filespace (spaces w)) (rows items_of_filespace (spaces v)) (items_of_held w.clients.held) (items_of_held v.clients.held) (sum_by items_of_new_held c.items) (length w.stores.volumes) (length u.stores.volumes) (length v.stores.volumes) (length c.scratch)
    (ap (λ x. rows items_of_filespace x) (m.spaces ∙ ap (λ cl. cl.filespaces) s.clients)) (m.adds ∙ ap (λ cl. items_of_held cl.held + sum_by items_of_new_held c.items) s.clients) m.volumes s.volumes)
