-- What a legal transaction leaves of that which it isn't said to touch.
use Rattle.std.proofs.Common.{◌≡◌, ℕ, true, false, eqb, ◌||◌, List, [], ◌∷◌, ◌++◌, map, Option, Some, None, refl, sym, ap, subst, ◌∙◌}
use Rattle.std.proofs.lemmas.Bool.{eq-eqb, eqb-true, or_parts}
use Rattle.std.specs.BTreeMap.{insert_entry}
use Rattle.std.specs.List.{AllByRecursion, list_all, list_any}
use Rattle.std.specs.Option.{is_some, option_or}
use Rattle.std.specs.Ordering.{is_eq, match_ordering, nat_cmp}
use Rattle.std.specs.Prelude.{cond, is_none, ◌&&◌}
use Rattle.std.specs.declared.cmp.Ordering.{Ordering}
use Rattle.std.specs.declared.cmp.Ordering.TheVariants.{Less, Equal, Greater}
use Rattle.std.proofs.lemmas.Bool.{and_from, and_parts}
use Rattle.entries.specs.change_items.declared.items.DiscardedVersion.{DiscardedVersion}
use Rattle.entries.specs.change_items.declared.items.DroppedCopy.{DroppedCopy}
use Rattle.entries.specs.change_items.declared.items.MovedCopy.{MovedCopy}
use Rattle.entries.specs.change_items.declared.items.NamedVersion.{NamedVersion}
use Rattle.entries.specs.change_items.declared.items.NewCopy.{NewCopy}
use Rattle.entries.specs.change_items.declared.items.NewHeldObject.{NewHeldObject}
use Rattle.entries.specs.change_items.declared.items.NewVersion.{NewVersion}
use Rattle.entries.specs.change_items.declared.items.Rebinding.{Rebinding}
use Rattle.entries.specs.change_items.declared.items.ScratchVolume.{ScratchVolume}
use Rattle.entries.specs.declared.change.Change.{Change}
use Rattle.entries.specs.declared.change.Change.TheVariants as change
use Rattle.inventory_rows.specs.version_groups.declared.group.Group.{Group}
use Rattle.inventory_rows.specs.version_groups.declared.groups.Filespace.{Filespace}
use Rattle.inventory_rows.specs.version_groups.declared.versions.Version.{Version}
use Rattle.inventory_rows.specs.version_groups.Groups as grouped
use Rattle.inventory_rows.specs.version_groups.Groups.{at_path}
use Rattle.inventory_rows.specs.version_groups.Versions.{has_object, version_of}
use Rattle.inventory_rows.specs.object_rows.declared.held_object.HeldRow.{HeldRow}
use Rattle.inventory_rows.specs.object_rows.Filespaces.{at_number, filespace_at, versions_at, versions_of}
use Rattle.inventory_rows.specs.object_rows.HeldRows.{held_versions, is_held_row}
use Rattle.inventory_rows.specs.object_rows.Rows.{Rows}
use Rattle.inventory_rows.proofs.of_object_rows.KeptLaws.{kept-version_of}
use Rattle.inventory_rows.proofs.of_object_rows.Stands.{same_number}
use Rattle.inventory_rows.specs.Ascending.{AreAscending}
use Rattle.inventory_rows.specs.Search.{group, version}
use Rattle.inventory_rows.specs.State.{Inv}
use Rattle.inventory_rules.specs.Common.{each}
use Rattle.inventory_rules.specs.Copies.{add_copy, added, change_copy, drop_copy, dropped, move_copy, moved, put_moved, segments_in, take_moved, version_at}
use Rattle.inventory_rules.specs.Halfway.{VersionFacts}
use Rattle.inventory_rules.specs.Journal.{Journal}
use Rattle.inventory_rules.specs.Segments.{make_scratch, scratch_refused, take_away}
use Rattle.inventory_rules.specs.Transactions.{effect, refused}
use Rattle.inventory_rules.specs.Valid.{is_valid}
use Rattle.inventory_rules.specs.Versions.{back_up, discard, expire, hold, held_too, inserted, mark_gone, new_held, new_refused, objects_refused, rebind, AreGroupsOrdered}
use Rattle.inventory_laws.proofs.Causes.{back_nil}
use Rattle.inventory_laws.proofs.Data.{can_gone}
use Rattle.inventory_laws.proofs.Facts.{facts_of}
use Rattle.inventory_laws.proofs.Kept.{is_held_there}
use Rattle.inventory_laws.proofs.Lists.{all_also}
use Rattle.inventory_laws.proofs.MadeRows.{can_clients}
use Rattle.inventory_laws.proofs.Ordered.{paths_inserted}
use Rattle.inventory_laws.proofs.VersionsWhole.{begins, ordered_elsewhere}
use Rattle.inventory_laws.proofs.VersionVolumes.{all_scratch_only, put_only, taken_only}
use Rattle.contents.proofs.Stayed.{caused_same, stores_same}
use Rattle.inventory_rules.proofs.Touched.{effect-stores}
use Rattle.run_past.specs.Before.{paths, stood}
use Rattle.run_past.specs.Telling.{is_path}
use Rattle.run_past.proofs.Clients.{clients_stand}
use Rattle.run_past.proofs.Groups.{Keeps, Stands, at_put, back_up_keeps, copy_stands, discard_keeps, each_any, each_stays, expire_keeps, gone_keeps, has_group, rebind_keeps}
use Rattle.run_past.proofs.Loops as loops
use Rattle.run_past.proofs.Touched.{HasNewest, is_of, legal_causes, named_none, new_others, newest_none, not_going, not_named, others_paths, stands_newest}
use Rattle.run_past.proofs.Versions.{Numbered, add_same, backed_same, by_rows, discard_numbered, discard_same, drop_same, each_gone, each_kept, each_same, expire_numbered, expire_same, is_newest, move_same, names_it, put_same, rebind_same, same_rows}

-- ---- versions that come, with their paths' newest ones

each_backed : (n k : ℕ) (items : List NewVersion) (u : Inv) → AreGroupsOrdered u.clients.filespaces → list_any (names_it (λ i. i.object) k) items ≡ false
    → AllByRecursion (λ i. is_newest k (versions_at n i.path u.clients.filespaces) ≡ false) items → version k (each (back_up n) items u) ≡ version k u
each_backed n k [] u paths h clear = refl
each_backed n k (i ∷ items) u paths h clear =
    let hs : (eqb i.object k ≡ false) × (list_any (names_it (λ (i : NewVersion). i.object) k) items ≡ false) = or_parts (eqb i.object k) (list_any (names_it (λ (i : NewVersion). i.object) k) items) h in
    let w : Inv = inserted n i u in
    let same : (back_up n i u).clients ≡ w.clients = same_rows w (back_up n i u) (put_only i.object i.segments w) in
    each_backed n k items (back_up n i u) (subst (λ (r : Rows). AreGroupsOrdered r.filespaces) (sym same) (paths_inserted n i u paths)) hs.1
    (loops.all_also (λ (j : NewVersion). is_newest k (versions_at n j.path u.clients.filespaces) ≡ false) (λ (j : NewVersion). is_newest k (versions_at n j.path (back_up n i u).clients.filespaces) ≡ false)
    (λ j before. ap (λ (r : Rows). is_newest k (versions_at n j.path r.filespaces)) same ∙ at_put (λ vs. is_newest k vs ≡ false) n n j.path i u paths before (λ _ _. hs.0)) items clear.1)
    ∙ backed_same n k i u paths hs.0 clear.0

-- ---- objects that are held from now on

abbrev AreRows : Inv → Type 0
AreRows u = list_all is_held_row u.clients.held ≡ true

off : (k o m : ℕ) → m ≡ o → eqb o k ≡ false → eqb m k ≡ false
off k o m is ne = ap (λ x. eqb x k) is ∙ ne

skipped : (k : ℕ) (w : Version) (vs : List Version) → eqb w.object k ≡ false → version_of k (w ∷ vs) ≡ version_of k vs
skipped k w vs ne = ap (λ b. cond b (Some w) (version_of k vs)) ne

held_in : (k o : ℕ) (r : HeldRow) (held : List (ℕ × HeldRow)) → list_all is_held_row held ≡ true → r.held.version.object ≡ o → eqb o k ≡ false → version_of k (held_versions (insert_entry nat_cmp held o r)) ≡ version_of k (held_versions held)
held_in k o r [] all is ne = skipped k r.held.version [] (off k o r.held.version.object is ne)
held_in k o r (e ∷ held) all is ne =
    let new : eqb r.held.version.object k ≡ false = off k o r.held.version.object is ne in
    let hs = and_parts (is_held_row e) (list_all is_held_row held) all in
    let named : e.1.held.version.object ≡ e.0 = eqb-true e.1.held.version.object e.0 (and_parts (eqb e.1.held.version.object e.0) (is_none e.1.held.version.since) hs.0).0 in
    elim (nat_cmp o e.0) as (λ (d : Ordering). nat_cmp o e.0 ≡ d → version_of k (held_versions (match_ordering d ((o, r) ∷ e ∷ held) ((e.0, r) ∷ held) (e ∷ insert_entry nat_cmp held o r))) ≡ version_of k (held_versions (e ∷ held))) [
      | Less ↦ λ _. skipped k r.held.version (held_versions (e ∷ held)) new
      | Equal ↦ λ d.
          skipped k r.held.version (held_versions held) new ∙ sym (skipped k e.1.held.version (held_versions held) (off k o e.1.held.version.object (named ∙ sym (same_number o e.0 (ap is_eq d))) ne))
      | Greater ↦ λ _. ap (λ x. cond (eqb e.1.held.version.object k) (Some e.1.held.version) x) (held_in k o r held hs.1 is ne)
    ] refl

rows_in : (o : ℕ) (r : HeldRow) (held : List (ℕ × HeldRow)) → is_held_row (o, r) ≡ true → list_all is_held_row held ≡ true → list_all is_held_row (insert_entry nat_cmp held o r) ≡ true
rows_in o r [] new all = and_from (is_held_row (o, r)) true new refl
rows_in o r (e ∷ held) new all =
    let hs = and_parts (is_held_row e) (list_all is_held_row held) all in
    elim (nat_cmp o e.0) as (λ (d : Ordering). nat_cmp o e.0 ≡ d → list_all is_held_row (match_ordering d ((o, r) ∷ e ∷ held) ((e.0, r) ∷ held) (e ∷ insert_entry nat_cmp held o r)) ≡ true) [
      | Less ↦ λ _. and_from (is_held_row (o, r)) (list_all is_held_row (e ∷ held)) new all
      | Equal ↦ λ d. and_from (is_held_row (e.0, r)) (list_all is_held_row held) (ap (λ m. is_held_row (m, r)) (sym (same_number o e.0 (ap is_eq d))) ∙ new) hs.1
      | Greater ↦ λ _. and_from (is_held_row e) (list_all is_held_row (insert_entry nat_cmp held o r)) hs.0 (rows_in o r held new hs.1)
    ] refl

hold_same : (n k : ℕ) (item : NewHeldObject) (u : Inv) → AreRows u → eqb item.object k ≡ false → version k (hold n item u) ≡ version k u
hold_same n k item u all ne =
    let w : Inv = held_too n item u in
    let r : HeldRow = record { filespace = n; held = new_held u item } in
    by_rows k w (hold n item u) (same_rows w (hold n item u) (put_only item.object item.segments w))
    ∙ kept-version_of k w.clients ∙ ap (option_or (version_of k (versions_of u.clients.filespaces))) (held_in k item.object r u.clients.held all refl ne) ∙ sym (kept-version_of k u.clients)

hold_rows : (n : ℕ) (item : NewHeldObject) (u : Inv) → AreRows u → AreRows (hold n item u)
hold_rows n item u all =
    let w : Inv = held_too n item u in
    let r : HeldRow = record { filespace = n; held = new_held u item } in
    ap (λ (x : Rows). list_all is_held_row x.held) (same_rows w (hold n item u) (put_only item.object item.segments w))
    ∙ rows_in item.object r u.clients.held (and_from (eqb item.object item.object) true (eq-eqb item.object item.object refl) refl) all

-- ---- the objects

scratched : (scratch : List ScratchVolume) (v : Inv) → (each make_scratch scratch v).clients ≡ v.clients
scratched scratch v = same_rows v (each make_scratch scratch v) (all_scratch_only scratch v)

each_put : (k : ℕ) (items : List MovedCopy) (u : Inv) → version k (each put_moved items u) ≡ version k u
each_put k [] u = refl
each_put k (i ∷ items) u = each_put k items (put_moved i u) ∙ put_same k i u

each_rebound : (n k : ℕ) (items : List Rebinding) (u : Inv) → version k (each (rebind n) items u) ≡ version k u
each_rebound n k [] u = refl
each_rebound n k (i ∷ items) u = each_rebound n k items (rebind n i u) ∙ rebind_same n k i.path i.class u

rows_of : (v : Inv) → VersionFacts v.number v → AreRows v
rows_of v f = all_also (is_held_there v.clients.filespaces) is_held_row v.clients.held (λ e h. (and_parts (is_held_row e) (is_some (filespace_at e.1.filespace v.clients.filespaces)) h).0) f.held

pub stays : (j : Journal) (c : Change) (v : Inv) (k : ℕ) (a : Version) → is_valid v ≡ true → AreAscending v → refused j c v ≡ None → version k v ≡ Some a → list_any (is_of k) (stood c v) ≡ false → version k (effect c v) ≡ Some a
unfolding effect
stays j (change.Day day) v k a valid asc legal there h = there
stays j (change.Policy c) v k a valid asc legal there h = there
stays j (change.Object c) v k a valid asc legal there h = ap (version_of k) (caused_same j c v valid (legal_causes j (change.Object c) v legal)) ∙ there
stays j (change.Pool c) v k a valid asc legal there h = ap (version_of k) (stores_same c v) ∙ there
stays j (change.Backup c) v k a valid asc legal there h =
    let objects : List ℕ = map (λ (i : NewVersion). i.object) c.items in
    let none = legal_causes j (change.Backup c) v legal in
    let fresh : objects_refused objects v ≡ [] = back_nil (scratch_refused c.scratch v) (objects_refused objects v) (back_nil (new_refused c.filespace objects v) (scratch_refused c.scratch v ++ objects_refused objects v) none) in
    let u : Inv = each make_scratch c.scratch v in
    let same : u.clients ≡ v.clients = scratched c.scratch v in
    each_backed c.filespace k c.items u (subst (λ (r : Rows). AreGroupsOrdered r.filespaces) (sym same) asc.paths) (new_others (λ (i : NewVersion). i.object) c.items k a v there fresh)
    (subst (λ (r : Rows). AllByRecursion (λ (i : NewVersion). is_newest k (versions_at c.filespace i.path r.filespaces) ≡ false) c.items) (sym same) (newest_none c.filespace k c.items a v there h))
    ∙ by_rows k v u same ∙ there
stays j (change.Hold c) v k a valid asc legal there h =
    let objects : List ℕ = map (λ (i : NewHeldObject). i.object) c.items in
    let none = legal_causes j (change.Hold c) v legal in
    let fresh : objects_refused objects v ≡ [] = back_nil (scratch_refused c.scratch v) (objects_refused objects v) (back_nil (new_refused c.filespace objects v) (scratch_refused c.scratch v ++ objects_refused objects v) none) in
    let u : Inv = each make_scratch c.scratch v in
    let same : u.clients ≡ v.clients = scratched c.scratch v in
    each_kept AreRows k (λ (i : NewHeldObject). i.object) (hold c.filespace) (hold_rows c.filespace) (hold_same c.filespace k) c.items u
    (ap (λ (r : Rows). list_all is_held_row r.held) same ∙ rows_of v (begins v (facts_of v valid))) (new_others (λ (i : NewHeldObject). i.object) c.items k a v there fresh)
    ∙ by_rows k v u same ∙ there
stays j (change.Rebind c) v k a valid asc legal there h = each_rebound c.filespace k c.items v ∙ there
stays j (change.Gone c) v k a valid asc legal there h =
    each_gone c.filespace k c.items v (can_gone j c v (legal_causes j (change.Gone c) v legal)) (named_none (λ (i : NamedVersion). i.object) c.items k a v there h) ∙ there
stays j (change.Move c) v k a valid asc legal there h =
    let u : Inv = each make_scratch c.scratch v in
    let w : Inv = each put_moved c.items u in
    each_same k (λ (i : MovedCopy). i.object) move_copy (move_same k) c.items w (named_none (λ (i : MovedCopy). i.object) c.items k a v there h)
    ∙ each_put k c.items u ∙ by_rows k v u (scratched c.scratch v) ∙ there
stays j (change.Copy c) v k a valid asc legal there h =
    let u : Inv = each make_scratch c.scratch v in
    each_same k (λ (i : NewCopy). i.object) add_copy (add_same k) c.items u (named_none (λ (i : NewCopy). i.object) c.items k a v there h) ∙ by_rows k v u (scratched c.scratch v) ∙ there
stays j (change.DropCopies c) v k a valid asc legal there h = each_same k (λ (i : DroppedCopy). i.object) drop_copy (drop_same k) c.items v (named_none (λ (i : DroppedCopy). i.object) c.items k a v there h) ∙ there
stays j (change.Expire c) v k a valid asc legal there h =
    let fs : List (ℕ × Filespace) = v.clients.filespaces in
    each_kept (Numbered fs) k (λ (i : NamedVersion). i.object) (expire c.filespace) (expire_numbered fs c.filespace) (expire_same fs c.filespace k) c.items v (begins v (facts_of v valid)).held (named_none (λ (i : NamedVersion). i.object) c.items k a v there h) ∙ there
stays j (change.Discard c) v k a valid asc legal there h =
    let fs : List (ℕ × Filespace) = v.clients.filespaces in
    each_kept (Numbered fs) k (λ (i : DiscardedVersion). i.object) discard (discard_numbered fs) (discard_same fs k) c.items v (begins v (facts_of v valid)).held (named_none (λ (i : DiscardedVersion). i.object) c.items k a v there h) ∙ there
stays j (change.Reuse file) v k a valid asc legal there h = there
stays j (change.DbBegin file after) v k a valid asc legal there h = there
stays j (change.DbEnd file) v k a valid asc legal there h = there
stays j (change.DbDelete file) v k a valid asc legal there h = there

-- ---- the paths

stands_as : (f : ℕ) (p : List ℕ) (m : ℕ) (v w : Inv) → w.clients ≡ v.clients → Stands f p m v → Stands f p m w
stands_as f p m v w h s = ap (λ (r : Rows). has_object m (versions_at f p r.filespaces)) h ∙ s

hold_stands : (n f : ℕ) (p : List ℕ) (m : ℕ) (item : NewHeldObject) (u : Inv) → Stands f p m u → Stands f p m (hold n item u)
hold_stands n f p m item u s = let w : Inv = held_too n item u in stands_as f p m w (hold n item u) (same_rows w (hold n item u) (put_only item.object item.segments w)) s

move_stands : (f : ℕ) (p : List ℕ) (m : ℕ) (item : MovedCopy) (u : Inv) → Stands f p m u → Stands f p m (move_copy item u)
move_stands f p m item u s =
    copy_stands f p m item.object (moved item u) (take_moved item u) (stands_as f p m u (take_moved item u) (same_rows u (take_moved item u) (taken_only item.object (segments_in item.from (version_at item.object u)) u)) s)

put_stands : (f : ℕ) (p : List ℕ) (m : ℕ) (item : MovedCopy) (u : Inv) → Stands f p m u → Stands f p m (put_moved item u)
put_stands f p m item u s = stands_as f p m u (put_moved item u) (same_rows u (put_moved item u) (put_only item.object item.segments u)) s

add_stands : (f : ℕ) (p : List ℕ) (m : ℕ) (item : NewCopy) (u : Inv) → Stands f p m u → Stands f p m (add_copy item u)
add_stands f p m item u s =
    let w : Inv = change_copy item.object (added item u) u in
    stands_as f p m w (add_copy item u) (same_rows w (add_copy item u) (put_only item.object item.segments w)) (copy_stands f p m item.object (added item u) u s)

drop_stands : (f : ℕ) (p : List ℕ) (m : ℕ) (item : DroppedCopy) (u : Inv) → Stands f p m u → Stands f p m (drop_copy item u)
drop_stands f p m item u s =
    let w : Inv = take_away item.object (segments_in item.pool (version_at item.object u)) u in
    copy_stands f p m item.object (dropped item) w (stands_as f p m u w (same_rows u w (taken_only item.object (segments_in item.pool (version_at item.object u)) u)) s)

others_named : (m : ℕ) (items : List DiscardedVersion) → list_any (names_it (λ i. i.object) m) items ≡ false → AllByRecursion (λ i. eqb i.object m ≡ false) items
others_named m [] h = tt
others_named m (i ∷ items) h = let hs = or_parts (eqb i.object m) (list_any (names_it (λ (i : DiscardedVersion). i.object) m) items) h in (hs.0, others_named m items hs.1)

-- a path with a version that stays
stand_on : (j : Journal) (c : Change) (v : Inv) (f : ℕ) (p : List ℕ) (g : Group) (n : HasNewest g) → is_valid v ≡ true → AreAscending v → refused j c v ≡ None → group f p v ≡ Some g → list_any (is_path f p) (paths c v) ≡ false
    → Stands f p n.newest.object v → Stands f p n.newest.object (effect c v)
unfolding effect
stand_on j (change.Day day) v f p g n valid asc legal there h s = s
stand_on j (change.Policy c) v f p g n valid asc legal there h s = s
stand_on j (change.Object c) v f p g n valid asc legal there h s = clients_stand f p n.newest.object c v (can_clients c v (facts_of v valid) (legal_causes j (change.Object c) v legal)) s
stand_on j (change.Pool c) v f p g n valid asc legal there h s = ap (λ (x : Inv). has_object n.newest.object (versions_at f p x.clients.filespaces)) (effect-stores c v) ∙ s
stand_on j (change.Backup c) v f p g n valid asc legal there h s =
    let m : ℕ = n.newest.object in
    let u : Inv = each make_scratch c.scratch v in
    let same : u.clients ≡ v.clients = scratched c.scratch v in
    let first : Keeps f p m u = record { ordered = ordered_elsewhere v u same (record { by_number = asc.filespaces; by_path = asc.paths }); stands = stands_as f p m v u same s } in
    (each_any (Keeps f p m) (back_up c.filespace) (back_up_keeps c.filespace f p m) c.items u first).stands
stand_on j (change.Hold c) v f p g n valid asc legal there h s =
    let m : ℕ = n.newest.object in
    each_any (Stands f p m) (hold c.filespace) (hold_stands c.filespace f p m) c.items (each make_scratch c.scratch v) (stands_as f p m v (each make_scratch c.scratch v) (scratched c.scratch v) s)
stand_on j (change.Rebind c) v f p g n valid asc legal there h s =
    let m : ℕ = n.newest.object in
    (each_any (Keeps f p m) (rebind c.filespace) (λ i u k. rebind_keeps c.filespace f i.path p i.class m u k) c.items v (record { ordered = record { by_number = asc.filespaces; by_path = asc.paths }; stands = s })).stands
stand_on j (change.Gone c) v f p g n valid asc legal there h s =
    let m : ℕ = n.newest.object in
    (each_any (Keeps f p m) (mark_gone c.filespace) (λ i u k. gone_keeps c.filespace f i.object u.today i.path p m u k) c.items v (record { ordered = record { by_number = asc.filespaces; by_path = asc.paths }; stands = s })).stands
stand_on j (change.Move c) v f p g n valid asc legal there h s =
    let m : ℕ = n.newest.object in
    let u : Inv = each make_scratch c.scratch v in
    each_any (Stands f p m) move_copy (move_stands f p m) c.items (each put_moved c.items u) (each_any (Stands f p m) put_moved (put_stands f p m) c.items u (stands_as f p m v u (scratched c.scratch v) s))
stand_on j (change.Copy c) v f p g n valid asc legal there h s =
    let m : ℕ = n.newest.object in
    let u : Inv = each make_scratch c.scratch v in
    each_any (Stands f p m) add_copy (add_stands f p m) c.items u (stands_as f p m v u (scratched c.scratch v) s)
stand_on j (change.DropCopies c) v f p g n valid asc legal there h s = each_any (Stands f p n.newest.object) drop_copy (drop_stands f p n.newest.object) c.items v s
stand_on j (change.Expire c) v f p g n valid asc legal there h s =
    let m : ℕ = n.newest.object in
    (each_stays (Keeps f p m) (λ (i : NamedVersion). (at_number c.filespace f && at_path i.path p) ≡ false) (expire c.filespace) (λ i u away k. expire_keeps c.filespace f p m i u away k) c.items v (others_paths c.filespace f p c.items g v there h)
    (record { ordered = record { by_number = asc.filespaces; by_path = asc.paths }; stands = s })).stands
stand_on j (change.Discard c) v f p g n valid asc legal there h s =
    let m : ℕ = n.newest.object in
    (each_stays (Keeps f p m) (λ (i : DiscardedVersion). eqb i.object m ≡ false) discard (λ i u ne k. discard_keeps f p m i u ne k) c.items v
    (others_named m c.items (not_named c.items g n (not_going f p c.items g v v.clients.filespaces (begins v (facts_of v valid)).objects_apart there there h))) (record { ordered = record { by_number = asc.filespaces; by_path = asc.paths }; stands = s })).stands
stand_on j (change.Reuse file) v f p g n valid asc legal there h s = s
stand_on j (change.DbBegin file after) v f p g n valid asc legal there h s = s
stand_on j (change.DbEnd file) v f p g n valid asc legal there h s = s
stand_on j (change.DbDelete file) v f p g n valid asc legal there h s = s

pub path_stays : (j : Journal) (c : Change) (v : Inv) (f : ℕ) (p : List ℕ) (g : Group) → is_valid v ≡ true → AreAscending v → refused j c v ≡ None → group f p v ≡ Some g → list_any (is_path f p) (paths c v) ≡ false → is_some (group f p (effect c v)) ≡ true
path_stays j c v f p g valid asc legal there h =
    let n : HasNewest g = stands_newest f p g v (begins v (facts_of v valid)).orderly there in
    let m : ℕ = n.newest.object in
    let first : Stands f p m v = ap (λ (o : Option Group). has_object m (grouped.versions_in o)) there ∙ ap (has_object m) n.is ∙ ap (λ b. b || has_object m n.older) (eq-eqb m m refl) in
    has_group f p m (effect c v) (stand_on j c v f p g n valid asc legal there h first)
