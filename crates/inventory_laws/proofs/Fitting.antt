-- What a transaction that no cause refuses brings fits where the database afterwards is valid.
use Rattle.std.proofs.Common.{◌≡◌, ℕ, ◌+◌, Bool, true, false, not, ◌&&◌, List, [], ◌∷◌, ◌++◌, map, Option, Some, None, is_some, refl, sym, ap, ◌∙◌}
use Rattle.std.specs.Prelude.{nat_le}
use Rattle.std.specs.List.{AllByRecursion, flat_map, list_all}
use Rattle.std.specs.Map.{keys_of}
use Rattle.std.specs.Option.{option_map_or}
use Rattle.std.proofs.lemmas.Bool.{and_from}
use Rattle.std.proofs.lemmas.List.Folds.{list_all-map}
use Rattle.kinds.specs.Refusals.{bad_value, unless}
use Rattle.inventory_rules.specs.entries.change_items.declared.items.MovedCopy.{MovedCopy}
use Rattle.inventory_rules.specs.entries.change_items.declared.items.NewCopy.{NewCopy}
use Rattle.inventory_rules.specs.entries.change_items.declared.items.NewHeldObject.{NewHeldObject}
use Rattle.inventory_rules.specs.entries.change_items.declared.items.NewVersion.{NewVersion}
use Rattle.inventory_rules.specs.entries.change_items.declared.items.ScratchVolume.{ScratchVolume}
use Rattle.inventory_rules.specs.entries.change_items.declared.lists.MovedCopies.{MovedCopies}
use Rattle.inventory_rules.specs.entries.change_items.declared.lists.NewCopies.{NewCopies}
use Rattle.inventory_rules.specs.entries.change_items.declared.lists.NewHeldObjects.{NewHeldObjects}
use Rattle.inventory_rules.specs.entries.change_items.declared.lists.NewVersions.{NewVersions}
use Rattle.inventory_rules.specs.entries.declared.change.Change.{Change}
use Rattle.inventory_rules.specs.entries.declared.change.Change.TheVariants as change
use Rattle.inventory_rules.specs.inventory_rows.version_groups.declared.copies.CopyRow.{CopyRow}
use Rattle.inventory_rules.specs.inventory_rows.version_groups.declared.versions.Version.{Version}
use Rattle.inventory_rules.specs.inventory_rows.version_groups.Versions.{has_object, version_of}
use Rattle.inventory_rules.specs.inventory_rows.object_rows.Filespaces.{filespace_at}
use Rattle.inventory_rules.specs.inventory_rows.object_rows.Rows.{Rows, kept_of}
use Rattle.inventory_rules.specs.inventory_rows.volume_rows.declared.volume.Volume.{Volume}
use Rattle.inventory_rules.specs.inventory_rows.pool_rows.PoolRows.{is_sequential}
use Rattle.inventory_rules.specs.inventory_rows.Search.{copy_in, is_primary_kind, pool, segments_on, version}
use Rattle.inventory_rules.specs.inventory_rows.State.{Inv}
use Rattle.inventory_rules.specs.Common.{each}
use Rattle.inventory_rules.specs.Copies.{add_copy, copied_refused, copy_list_refused, copy_refused, move_copy, move_refused, moved_copy_fits, moved_refused, new_copy_fits, placed_by, put_moved, stale_copy}
use Rattle.inventory_rules.specs.Facts.{Facts}
use Rattle.inventory_rules.specs.Held.{IsTied}
use Rattle.inventory_rules.specs.Journal.{Journal}
use Rattle.inventory_rules.specs.Ordered.{IsOrdered}
use Rattle.inventory_rules.specs.Segments.{items_fit, make_scratch, scratch_fits, scratch_refused}
use Rattle.inventory_rules.specs.Transactions.{causes, effect, parts_fit}
use Rattle.inventory_rules.specs.Valid.{are_apart, are_disjoint, is_emptied_rightly, is_placed, is_sized, is_valid, is_volume, may_have, volumes_are}
use Rattle.inventory_rules.specs.Versions.{back_up, hold, is_new_object, name_once, new_held_fits, new_refused, new_version_fits, objects_refused, of_version}
use Rattle.inventory_laws.specs.Kept.{OnlyVolumes}
use Rattle.inventory_laws.specs.Steady.{IsSteady}
use Rattle.inventory_laws.proofs.Assembled.{steady_begins}
use Rattle.inventory_laws.proofs.BackupBack.{back_shapes, hold_shapes, holds_fit, versions_fit}
use Rattle.inventory_laws.proofs.Facts.{facts_of}
use Rattle.inventory_laws.proofs.FitBack.{IsFound, IsLeft, IsMoved, copies_fit, copies_shapes, move_shapes, moves_fit, shapes_of, shapes_then}
use Rattle.inventory_laws.proofs.ScratchBack.{scratch_back}
use Rattle.inventory_laws.proofs.Steady.{scratch_steady}
use Rattle.inventory_laws.proofs.StoreBack.{stores_back}
use Rattle.inventory_laws.proofs.Tests.{before_next, both_none, named_once, unless_holds}
use Rattle.inventory_laws.proofs.VersionArrivals.{IsTaken, taken}
use Rattle.inventory_laws.proofs.VersionVolumes.{all_scratch_only}
use Rattle.inventory_laws.proofs.VersionsWhole.{ordered_elsewhere}
use Rattle.inventory_laws.proofs.VolumeItems.{moved_kept}
use Rattle.inventory_laws.proofs.VolumeRows.{all_same}

-- the number of the last transaction makes no difference to what lies where
sized_counted : (b : Bool) (n : ℕ) (w : Inv) (x : Volume) → is_sized b (record w { number = n }) x ≡ is_sized b w x
sized_counted true n w x = refl
sized_counted false n w x = refl

volumes_counted : (n : ℕ) (w : Inv) → volumes_are (record w { number = n }) ≡ true → volumes_are w ≡ true
volumes_counted n w h =
    sym (all_same (is_volume (record w { number = n })) (is_volume w)
    (λ f. ap (λ b. b
    && (may_have f.1.access (option_map_or (λ p. is_primary_kind p.kind) (pool f.1.pool w) false)
    && (are_disjoint (is_sequential f.1.pool w.stores) (segments_on f.0 w)
    && (list_all (λ e. is_placed (is_sequential f.1.pool w.stores) f.1 e.1) (segments_on f.0 w)
    && is_emptied_rightly (is_sequential f.1.pool w.stores) f.1 (segments_on f.0 w))))) (sized_counted (is_sequential f.1.pool w.stores) n w f.1)) w.stores.volumes) ∙ h

left_by : (n : ℕ) (w : Inv) → Facts (record w { number = n }) → IsLeft w
left_by n w f = record { cite = f.copies_cite; copied = f.versions_copied; volumes = volumes_counted n w f.volumes_are }

steady_by : (v : Inv) (scratch : List ScratchVolume) → Facts v → IsTied v → scratch_refused scratch v ≡ [] → scratch_fits v scratch ≡ true → IsSteady (v.number + 1) [] (each make_scratch scratch v)
steady_by v scratch f tied h fit = scratch_steady (v.number + 1) scratch v h fit (steady_begins (v.number + 1) v f tied (before_next v.number))

-- ---- new objects

backup_back : (j : Journal) (c : NewVersions) (v : Inv) → Facts v → IsTied v → IsOrdered v → causes j (change.Backup c) v ≡ [] → Facts (effect (change.Backup c) v) → parts_fit (change.Backup c) v ≡ true
unfolding effect parts_fit
backup_back j c v f tied o h e =
    let objects : List ℕ = map (λ (i : NewVersion). i.object) c.items in
    let one = both_none (new_refused c.filespace objects v) (scratch_refused c.scratch v ++ objects_refused objects v) h in
    let two = both_none (scratch_refused c.scratch v) (objects_refused objects v) one.1 in
    let t : IsTaken c.filespace objects v = taken c.filespace objects v one.0 two.1 in
    let u : Inv = each make_scratch c.scratch v in
    let w : Inv = each (back_up c.filespace) c.items u in
    let left : IsLeft w = left_by (v.number + 1) w e in
    let scratch : scratch_fits v c.scratch ≡ true = scratch_back c.scratch v w two.0 (back_shapes c.filespace c.items u) left.volumes in
    let s : IsSteady (v.number + 1) [] u = steady_by v c.scratch f tied two.0 scratch in
    let only = all_scratch_only c.scratch v in
    let there : is_some (filespace_at c.filespace u.clients.filespaces) ≡ true = ap (λ (r : Rows). is_some (filespace_at c.filespace r.filespaces)) only.clients ∙ t.there in
    and_from (scratch_fits v c.scratch) (items_fit new_version_fits (λ (i : NewVersion). i.segments) c.items u) scratch
    (versions_fit c.filespace c.items u s.cite (ordered_elsewhere v u only.clients o) there left)

hold_back : (j : Journal) (c : NewHeldObjects) (v : Inv) → Facts v → IsTied v → causes j (change.Hold c) v ≡ [] → Facts (effect (change.Hold c) v) → parts_fit (change.Hold c) v ≡ true
unfolding effect parts_fit
hold_back j c v f tied h e =
    let objects : List ℕ = map (λ (i : NewHeldObject). i.object) c.items in
    let one = both_none (new_refused c.filespace objects v) (scratch_refused c.scratch v ++ objects_refused objects v) h in
    let two = both_none (scratch_refused c.scratch v) (objects_refused objects v) one.1 in
    let t : IsTaken c.filespace objects v = taken c.filespace objects v one.0 two.1 in
    let u : Inv = each make_scratch c.scratch v in
    let w : Inv = each (hold c.filespace) c.items u in
    let left : IsLeft w = left_by (v.number + 1) w e in
    let scratch : scratch_fits v c.scratch ≡ true = scratch_back c.scratch v w two.0 (hold_shapes c.filespace c.items u) left.volumes in
    let s : IsSteady (v.number + 1) [] u = steady_by v c.scratch f tied two.0 scratch in
    let only = all_scratch_only c.scratch v in
    let there : is_some (filespace_at c.filespace u.clients.filespaces) ≡ true = ap (λ (r : Rows). is_some (filespace_at c.filespace r.filespaces)) only.clients ∙ t.there in
    let new : list_all (λ (i : NewHeldObject). is_new_object u i.object) c.items ≡ true =
    ap (λ (r : Rows). list_all (λ (i : NewHeldObject). nat_le 1 i.object && not (has_object i.object (kept_of r))) c.items) only.clients ∙ sym (list_all-map (is_new_object v) (λ (i : NewHeldObject). i.object) c.items) ∙ t.new in
    and_from (scratch_fits v c.scratch) (items_fit new_held_fits (λ (i : NewHeldObject). i.segments) c.items u) scratch
    (holds_fit (v.number + 1) c.filespace c.items u s.cite s.versions there new (named_once (λ (i : NewHeldObject). i.object) c.items t.once) left)

-- ---- new copies

copy_found : (j : Journal) (v : Inv) (i : NewCopy) → copied_refused j v i ≡ [] → IsFound v i.object
copy_found j v i h = go (version i.object v) refl h where
  go : (o : Option Version) → version i.object v ≡ o → of_version j i.object (λ w. unless (not (is_some (copy_in i.pool w))) (stale_copy (j.copy_changed i.object i.pool) (copy_in i.pool w))) o ≡ [] → IsFound v i.object
  go None found t = absurd cc
  go (Some x) found t = (x, found)

copies_found : (j : Journal) (v u : Inv) → u.clients ≡ v.clients → (items : List NewCopy) → flat_map (copied_refused j v) items ≡ [] → AllByRecursion (λ (i : NewCopy). IsFound u i.object) items
copies_found j v u same [] h = tt
copies_found j v u same (i ∷ items) h =
    let parts = both_none (copied_refused j v i) (flat_map (copied_refused j v) items) h in
    let found : IsFound v i.object = copy_found j v i parts.0 in
    ((found.0, ap (λ (r : Rows). version_of i.object (kept_of r)) same ∙ found.1), copies_found j v u same items parts.1)

copy_back : (j : Journal) (c : NewCopies) (v : Inv) → Facts v → IsTied v → causes j (change.Copy c) v ≡ [] → Facts (effect (change.Copy c) v) → parts_fit (change.Copy c) v ≡ true
unfolding effect parts_fit
copy_back j c v f tied h e =
    let one = both_none (copy_list_refused j c.items v) (scratch_refused c.scratch v) h in
    let asked = both_none (unless (name_once (map (λ (i : NewCopy). i.object) c.items)) bad_value) (flat_map (copied_refused j v) c.items) one.0 in
    let u : Inv = each make_scratch c.scratch v in
    let w : Inv = each add_copy c.items u in
    let left : IsLeft w = left_by (v.number + 1) w e in
    let scratch : scratch_fits v c.scratch ≡ true = scratch_back c.scratch v w one.1 (copies_shapes c.items u) left.volumes in
    let s : IsSteady (v.number + 1) [] u = steady_by v c.scratch f tied one.1 scratch in
    let only = all_scratch_only c.scratch v in
    and_from (scratch_fits v c.scratch) (items_fit new_copy_fits (λ (i : NewCopy). i.segments) c.items u) scratch
    (copies_fit c.items u s.cite s.versions.copied s.versions.objects_apart (named_once (λ (i : NewCopy). i.object) c.items (unless_holds (name_once (map (λ (i : NewCopy). i.object) c.items)) bad_value asked.0))
    (copies_found j v u only.clients c.items asked.1) left)

-- ---- copies that move

held_copy : (n : ℕ) (o : Option CopyRow) → placed_by n o ≡ true → (c : CopyRow) × (o ≡ Some c)
held_copy n None h = absurd cc
held_copy n (Some c) h = (c, refl)

move_found : (j : Journal) (v : Inv) (i : MovedCopy) → moved_refused j v i ≡ [] → IsMoved v i
move_found j v i h = go (version i.object v) refl h where
  go : (o : Option Version) → version i.object v ≡ o → of_version j i.object (copy_refused j i.object i.from i.placed) o ≡ [] → IsMoved v i
  go None found t = absurd cc
  go (Some x) found t =
      let c = held_copy i.placed (copy_in i.from x) (unless_holds (placed_by i.placed (copy_in i.from x)) (stale_copy (j.copy_changed i.object i.from) (copy_in i.from x)) t) in
      record { its = x; there = found; old = c.0; held = c.1 }

moves_found : (j : Journal) (v u : Inv) → u.clients ≡ v.clients → (items : List MovedCopy) → flat_map (moved_refused j v) items ≡ [] → AllByRecursion (IsMoved u) items
moves_found j v u same [] h = tt
moves_found j v u same (i ∷ items) h =
    let parts = both_none (moved_refused j v i) (flat_map (moved_refused j v) items) h in
    let found : IsMoved v i = move_found j v i parts.0 in
    (record { its = found.its; there = ap (λ (r : Rows). version_of i.object (kept_of r)) same ∙ found.there; old = found.old; held = found.held }, moves_found j v u same items parts.1)

move_back : (j : Journal) (c : MovedCopies) (v : Inv) → Facts v → IsTied v → causes j (change.Move c) v ≡ [] → Facts (effect (change.Move c) v) → parts_fit (change.Move c) v ≡ true
unfolding effect parts_fit
move_back j c v f tied h e =
    let one = both_none (move_refused j c.items v) (scratch_refused c.scratch v) h in
    let asked = both_none (unless (name_once (map (λ (i : MovedCopy). i.object) c.items)) bad_value) (flat_map (moved_refused j v) c.items) one.0 in
    let u : Inv = each make_scratch c.scratch v in
    let x : Inv = each put_moved c.items u in
    let w : Inv = each move_copy c.items x in
    let kept : OnlyVolumes u x = moved_kept c.items u in
    let left : IsLeft w = left_by (v.number + 1) w e in
    let scratch : scratch_fits v c.scratch ≡ true = scratch_back c.scratch v w one.1 (shapes_then u x w (shapes_of u x kept) (move_shapes c.items x)) left.volumes in
    let s : IsSteady (v.number + 1) [] u = steady_by v c.scratch f tied one.1 scratch in
    let only = all_scratch_only c.scratch v in
    and_from (scratch_fits v c.scratch) (items_fit (moved_copy_fits c.items) (λ (i : MovedCopy). i.segments) c.items u) scratch
    (moves_fit c.items u s.cite s.versions.copied s.versions.objects_apart (named_once (λ (i : MovedCopy). i.object) c.items (unless_holds (name_once (map (λ (i : MovedCopy). i.object) c.items)) bad_value asked.0))
    (moves_found j v x (ap (λ (z : Inv). z.clients) kept.only ∙ only.clients) c.items asked.1) left)

-- ---- every transaction

pub fitting : (j : Journal) (c : Change) (v : Inv) → is_valid v ≡ true → IsTied v → IsOrdered v → are_apart (keys_of v.stores.pools) ≡ true → causes j c v ≡ [] → is_valid (effect c v) ≡ true → parts_fit c v ≡ true
unfolding parts_fit
fitting j (change.Day day) v valid tied rows apart cause after = refl
fitting j (change.Policy c) v valid tied rows apart cause after = refl
fitting j (change.Object c) v valid tied rows apart cause after = refl
fitting j (change.Pool c) v valid tied rows apart cause after = stores_back c v apart cause (facts_of (effect (change.Pool c) v) after)
fitting j (change.Backup c) v valid tied rows apart cause after = backup_back j c v (facts_of v valid) tied rows cause (facts_of (effect (change.Backup c) v) after)
fitting j (change.Hold c) v valid tied rows apart cause after = hold_back j c v (facts_of v valid) tied cause (facts_of (effect (change.Hold c) v) after)
fitting j (change.Rebind c) v valid tied rows apart cause after = refl
fitting j (change.Gone c) v valid tied rows apart cause after = refl
fitting j (change.Move c) v valid tied rows apart cause after = move_back j c v (facts_of v valid) tied cause (facts_of (effect (change.Move c) v) after)
fitting j (change.Copy c) v valid tied rows apart cause after = copy_back j c v (facts_of v valid) tied cause (facts_of (effect (change.Copy c) v) after)
fitting j (change.DropCopies c) v valid tied rows apart cause after = refl
fitting j (change.Expire c) v valid tied rows apart cause after = refl
fitting j (change.Discard c) v valid tied rows apart cause after = refl
fitting j (change.Reuse file) v valid tied rows apart cause after = refl
fitting j (change.DbBegin file later) v valid tied rows apart cause after = refl
fitting j (change.DbEnd file) v valid tied rows apart cause after = refl
fitting j (change.DbDelete file) v valid tied rows apart cause after = refl
