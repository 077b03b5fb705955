-- Transactions on versions and copies.
use Rattle.std.proofs.Common.{◌≡◌, ℕ, ◌+◌, ◌^◌, ◌<◌, ◌≤◌, Bool, true, false, cond, not, List, [], ◌∷◌, ◌++◌, length, map, Option, Some, None, refl, sym, ap, subst, ◌∙◌, arith}
use Rattle.std.specs.Prelude.{is_some, max, nat_le, nat_lt, ◌&&◌, ◌||◌, ◌==◌}
use Rattle.std.specs.List.{find, flat_map, list_all, list_any}
use Rattle.std.specs.Option.{option_map_or}
use Rattle.std.proofs.lemmas.Bool.{leb-true, lt-ltb, ltb-true}
use Rattle.std.proofs.lemmas.List.{length-map}
use Rattle.std.proofs.lemmas.List.Folds.{list_all-map}
use Rattle.kinds.specs.declared.refusal.Refusal.{Refusal}
use Rattle.kinds.specs.declared.refusal.Refusal.TheVariants as refusal
use Rattle.inventory_rules.specs.entries.change_items.declared.items.MovedCopy.{MovedCopy}
use Rattle.inventory_rules.specs.entries.change_items.declared.items.NewCopy.{NewCopy}
use Rattle.inventory_rules.specs.entries.change_items.declared.items.ScratchVolume.{ScratchVolume}
use Rattle.inventory_rules.specs.entries.change_items.declared.lists.MovedCopies.{MovedCopies}
use Rattle.inventory_rules.specs.entries.change_items.declared.lists.NamedVersions.{NamedVersions}
use Rattle.inventory_rules.specs.entries.change_items.declared.lists.NewCopies.{NewCopies}
use Rattle.inventory_rules.specs.entries.change_items.declared.lists.NewHeldObjects.{NewHeldObjects}
use Rattle.inventory_rules.specs.entries.change_items.declared.lists.NewVersions.{NewVersions}
use Rattle.inventory_rules.specs.entries.declared.change.Change.TheVariants as change
use Rattle.inventory_rules.specs.inventory_rows.version_groups.declared.versions.Version.{Version}
use Rattle.inventory_rules.specs.inventory_rows.version_groups.Copies.{has_copy, without_copy}
use Rattle.inventory_rules.specs.inventory_rows.version_groups.Entries.{is_nil}
use Rattle.inventory_rules.specs.inventory_rows.version_groups.Versions.{has_object, is_active}
use Rattle.inventory_rules.specs.inventory_rows.object_rows.Filespaces.{filespace_at, versions_at}
use Rattle.inventory_rules.specs.inventory_rows.object_rows.Places.{AreAllOrderly}
use Rattle.inventory_rules.specs.inventory_rows.object_rows.Rows.{Rows, kept_of}
use Rattle.inventory_rules.specs.inventory_rows.Search.{copy_in, is_primary, version, versions}
use Rattle.inventory_rules.specs.inventory_rows.State.{Inv}
use Rattle.inventory_rules.specs.Transactions.{causes, CanChange, parts_fit}
use Rattle.inventory_rules.specs.Facts.{Facts}
use Rattle.inventory_rules.specs.Copies.{added_fits, moved_copy_fits, new_copy_fits, replaced_fits, put_moved, copied_refused, copy_list_refused, move_refused, moved_refused, stale_copy}
use Rattle.inventory_rules.specs.Segments.{are_all_clear, copy_fits, copy_fits_after, items_fit, scratch_fits, make_scratch, scratch_refused, CanScratch}
use Rattle.inventory_rules.specs.Versions.{is_new_object, new_held_fits, new_refused, new_version_fits, object_refused, objects_refused, filespace_there, gone_refused, name_once, named_gone_refused, of_version, stale_version}
use Rattle.inventory_laws.proofs.Facts.{first, rest}
use Rattle.inventory_rules.specs.Common.{each, CanEach}
use Rattle.inventory_rules.specs.Journal.{Journal}
use Rattle.kinds.specs.Refusals.{bad_value, unless}
use Rattle.inventory_rules.specs.Valid.{primary_copies}
use Rattle.inventory_laws.proofs.Arriving.{NewObject}
use Rattle.inventory_laws.proofs.Kept.{is_held_there}
use Rattle.inventory_laws.proofs.MadeArrivals.{AreNew, can_back_up_all, can_hold_all}
use Rattle.inventory_laws.proofs.Causes.{back_nil, front_nil, holds}
use Rattle.inventory_laws.proofs.MadeCopies.{all_versions, can_copy_all, can_move_all, can_put_moved_all, only_moved, takes_copy, takes_moved}
use Rattle.inventory_laws.proofs.Gone.{can_be_gone_all}
use Rattle.inventory_laws.proofs.MadeItems.{all_so, items_apart, none_refused}
use Rattle.inventory_laws.specs.Volumes.{OnlyVolumes}
use Rattle.inventory_laws.proofs.VersionVolumes.{all_scratch_only}
use Rattle.inventory_laws.proofs.PutSteps.{of_held, of_version as of_file}
use Rattle.inventory_laws.proofs.MadeVolumes.{all_roomy, can_scratch_all, roomy_copy, scratch_new}

-- there is room for the number behind the transaction's
pub next_number : (v : Inv) → Facts v → v.number + 1 < 2 ^ 64
next_number v f = let less : v.number < 2 ^ 62 = ltb-true v.number (2 ^ 62) f.number_bounded in omega (arith, less)

-- ---- new objects

next_object : (v : Inv) (object : ℕ) → object_refused v object ≡ [] → nat_lt (object + 1) (2 ^ 64) ≡ true
next_object v object h =
    let bound : Bool = nat_lt (max v.next_object (object + 1)) (2 ^ 62) in
    let less : max v.next_object (object + 1) < 2 ^ 62 = ltb-true (max v.next_object (object + 1)) (2 ^ 62) (holds bound refusal.InventoryFull (back_nil (unless (is_new_object v object) bad_value) (unless bound refusal.InventoryFull) h)) in
    lt-ltb (object + 1) (2 ^ 64) (omega (arith, less))

is_new : (v : Inv) (object : ℕ) → object_refused v object ≡ [] → not (has_object object (versions v)) ≡ true
is_new v object h =
    rest (nat_le 1 object) (not (has_object object (versions v)))
    (holds (is_new_object v object) bad_value (front_nil (unless (is_new_object v object) bad_value) (unless (nat_lt (max v.next_object (object + 1)) (2 ^ 62)) refusal.InventoryFull) h))

-- the scratch volumes of a transaction that brings objects can be made, and the objects are new once they are
all_new : {X : Type 0} (what : X → NewObject) (fits : Inv → X → Bool) → ((v : Inv) (i : X) → fits v i ≡ true → all_roomy (what i).object (what i).segments v ≡ true)
    → (filespace : ℕ) (scratch : List ScratchVolume) (items : List X) (v : Inv) → Facts v
    → new_refused filespace (map (λ i. (what i).object) items) v ++ (scratch_refused scratch v ++ objects_refused (map (λ i. (what i).object) items) v) ≡ []
    → (scratch_fits v scratch && items_fit fits (λ i. (what i).segments) items (each make_scratch scratch v)) ≡ true
    → CanEach CanScratch make_scratch scratch v × AreNew what filespace items (each make_scratch scratch v)
all_new {X} what fits roomy filespace scratch items v f h fit =
    let w : Inv = each make_scratch scratch v in
    let only : OnlyVolumes v w = all_scratch_only scratch v in
    let object : X → ℕ = λ i. (what i).object in
    let objects : List ℕ = map object items in
    let drawn : scratch_refused scratch v ++ objects_refused objects v ≡ [] = back_nil (new_refused filespace objects v) (scratch_refused scratch v ++ objects_refused objects v) h in
    let each_new : objects_refused objects v ≡ [] = back_nil (scratch_refused scratch v) (objects_refused objects v) drawn in
    let asked : new_refused filespace objects v ≡ [] = front_nil (new_refused filespace objects v) (scratch_refused scratch v ++ objects_refused objects v) h in
    let once : List Refusal = unless (name_once objects) bad_value in
    let full : List Refusal = unless (nat_le (length (versions v) + length objects) (2 ^ 20)) refusal.InventoryFull in
    let listed : once ++ full ≡ [] = back_nil (filespace_there filespace v) (once ++ full) asked in
    let few : length (versions v) + length objects ≤ 2 ^ 20 = leb-true (length (versions v) + length objects) (2 ^ 20) (holds (nat_le (length (versions v) + length objects) (2 ^ 20)) refusal.InventoryFull (back_nil once full listed)) in
    let scratch_fit : scratch_fits v scratch ≡ true = first (scratch_fits v scratch) (items_fit fits (λ i. (what i).segments) items w) fit in
    let all_fit : list_all (fits w) items ≡ true = first (list_all (fits w) items) (are_all_clear w (flat_map (λ i. (what i).segments) items)) (rest (scratch_fits v scratch) (items_fit fits (λ i. (what i).segments) items w) fit) in (
      can_scratch_all scratch v (scratch_new scratch v (front_nil (scratch_refused scratch v) (objects_refused objects v) drawn) scratch_fit),
      record {
        held = ap (λ (r : Rows). list_all (is_held_there r.filespaces) r.held) only.clients ∙ f.held_cite;
        new = ap (λ (r : Rows). list_all (λ (i : X). not (has_object (object i) (kept_of r))) items) only.clients
            ∙ sym (list_all-map (λ n. not (has_object n (versions v))) object items) ∙ none_refused (object_refused v) (λ n. not (has_object n (versions v))) (is_new v) objects each_new;
        apart = items_apart object items (holds (name_once objects) bad_value (front_nil once full listed));
        there = ap (λ (r : Rows). is_some (filespace_at filespace r.filespaces)) only.clients
            ∙ holds (is_some (filespace_at filespace v.clients.filespaces)) refusal.NotFound (front_nil (filespace_there filespace v) (once ++ full) asked);
        room = subst (λ (r : Rows). length (kept_of r) + length items ≤ 2 ^ 20) (sym only.clients) (subst (λ n. length (versions v) + n ≤ 2 ^ 20) (length-map items object) few);
        next = sym (list_all-map (λ n. nat_lt (n + 1) (2 ^ 64)) object items) ∙ none_refused (object_refused v) (λ n. nat_lt (n + 1) (2 ^ 64)) (next_object v) objects each_new;
        number = subst (λ (n : ℕ). n + 1 < 2 ^ 64) (sym only.number) (next_number v f);
        roomy = all_so (fits w) (λ i. all_roomy (what i).object (what i).segments w) (roomy w) items all_fit;
      },
    )

pub can_backup : (j : Journal) (c : NewVersions) (v : Inv) → Facts v → AreAllOrderly v.clients.filespaces → causes j (change.Backup c) v ≡ [] → parts_fit (change.Backup c) v ≡ true → CanChange (change.Backup c) v
unfolding parts_fit
can_backup j c v f orderly h fit =
    let n = all_new of_file new_version_fits (λ w i t. roomy_copy [] w i.pool i.size i.object i.segments t) c.filespace c.scratch c.items v f h fit in
    (n.0, can_back_up_all c.filespace c.items (each make_scratch c.scratch v) (subst (λ (r : Rows). AreAllOrderly r.filespaces) (sym (all_scratch_only c.scratch v).clients) orderly) n.1)

pub can_hold : (j : Journal) (c : NewHeldObjects) (v : Inv) → Facts v → causes j (change.Hold c) v ≡ [] → parts_fit (change.Hold c) v ≡ true → CanChange (change.Hold c) v
unfolding parts_fit
can_hold j c v f h fit =
    let n = all_new of_held new_held_fits (λ w i t. roomy_copy [] w i.pool i.size i.object i.segments t) c.filespace c.scratch c.items v f h fit in
    (n.0, can_hold_all c.filespace c.items (each make_scratch c.scratch v) n.1)

-- ---- files that are gone

pub can_gone : (j : Journal) (c : NamedVersions) (v : Inv) → gone_refused j c.filespace c.items v ≡ [] → CanChange (change.Gone c) v
can_gone j c v h =
    let once : List Refusal = unless (name_once (map (λ i. i.object) c.items)) bad_value in
    can_be_gone_all c.filespace c.items v (items_apart (λ i. i.object) c.items (holds (name_once (map (λ i. i.object) c.items)) bad_value (front_nil once (flat_map (named_gone_refused j c.filespace v) c.items) h)))
    (none_refused (named_gone_refused j c.filespace v) (λ i. is_active i.object (versions_at c.filespace i.path v.clients.filespaces))
    (λ i t. holds (is_active i.object (versions_at c.filespace i.path v.clients.filespaces)) (stale_version (j.removed i.object) (j.changed i.object)) t) c.items (back_nil once (flat_map (named_gone_refused j c.filespace v) c.items) h))

-- ---- copies that move

moved_free : (moved : List MovedCopy) (v : Inv) (i : MovedCopy) (o : Option Version) → option_map_or (λ w. replaced_fits moved v i w) o false ≡ true → takes_moved i o ≡ true
moved_free moved v i None h = absurd cc
moved_free moved v i (Some w) h =
    let free : Bool = not (has_copy i.pool (without_copy i.from w.copies)) in
    let one : Bool = not (is_primary i.pool v) || list_all (λ c. c.pool == i.from) (primary_copies v w) in
    first free one (rest (copy_fits_after moved v i.pool w.size i.segments) (free && one) h)

moved_roomy : (moved : List MovedCopy) (v : Inv) (i : MovedCopy) (o : Option Version) → option_map_or (λ w. replaced_fits moved v i w) o false ≡ true → all_roomy i.object i.segments v ≡ true
moved_roomy moved v i None h = absurd cc
moved_roomy moved v i (Some w) h =
    roomy_copy moved v i.pool w.size i.object i.segments
    (first (copy_fits_after moved v i.pool w.size i.segments) (not (has_copy i.pool (without_copy i.from w.copies)) && (not (is_primary i.pool v) || list_all (λ c. c.pool == i.from) (primary_copies v w))) h)

pub can_move : (j : Journal) (c : MovedCopies) (v : Inv) → Facts v → move_refused j c.items v ++ scratch_refused c.scratch v ≡ [] → parts_fit (change.Move c) v ≡ true → CanChange (change.Move c) v
unfolding parts_fit
can_move j c v f h fit =
    let w : Inv = each make_scratch c.scratch v in
    let only : OnlyVolumes v w = all_scratch_only c.scratch v in
    let once : List Refusal = unless (name_once (map (λ i. i.object) c.items)) bad_value in
    let asked : move_refused j c.items v ≡ [] = front_nil (move_refused j c.items v) (scratch_refused c.scratch v) h in
    let apart = items_apart (λ (i : MovedCopy). i.object) c.items (holds (name_once (map (λ i. i.object) c.items)) bad_value (front_nil once (flat_map (moved_refused j v) c.items) asked)) in
    let scratch_fit : scratch_fits v c.scratch ≡ true = first (scratch_fits v c.scratch) (items_fit (moved_copy_fits c.items) (λ i. i.segments) c.items w) fit in
    let fits : list_all (moved_copy_fits c.items w) c.items ≡ true =
    first (list_all (moved_copy_fits c.items w) c.items) (are_all_clear w (flat_map (λ i. i.segments) c.items)) (rest (scratch_fits v c.scratch) (items_fit (moved_copy_fits c.items) (λ i. i.segments) c.items w) fit) in (
      can_scratch_all c.scratch v (scratch_new c.scratch v (back_nil (move_refused j c.items v) (scratch_refused c.scratch v) h) scratch_fit),
      record {
        puts = can_put_moved_all c.items w (all_so (moved_copy_fits c.items w) (λ i. all_roomy i.object i.segments w) (λ i t. moved_roomy c.items w i (version i.object w) t) c.items fits);
        moves = can_move_all c.items (each put_moved c.items w) apart
            (ap (λ (r : Rows). all_versions (λ (i : MovedCopy). i.object) takes_moved c.items r) (only_moved c.items w).clients
            ∙ all_so (moved_copy_fits c.items w) (λ i. takes_moved i (version i.object w)) (λ i t. moved_free c.items w i (version i.object w) t) c.items fits);
        number = subst (λ (n : ℕ). n + 1 < 2 ^ 64) (sym only.number) (next_number v f);
      },
    )

-- ---- copies that are made

found_any : {X : Type 0} (p : X → Bool) (xs : List X) → is_some (find p xs) ≡ list_any p xs
found_any p [] = refl
found_any p (x ∷ xs) = elim (p x) as (λ b. is_some (cond b (Some x) (find p xs)) ≡ (b || list_any p xs)) [ true ↦ refl | false ↦ found_any p xs ]

copy_taken : (j : Journal) (i : NewCopy) (o : Option Version) → of_version j i.object (λ w. unless (not (is_some (copy_in i.pool w))) (stale_copy (j.copy_changed i.object i.pool) (copy_in i.pool w))) o ≡ [] → takes_copy i o ≡ true
copy_taken j i None h = absurd cc
copy_taken j i (Some w) h =
    ap not (sym (found_any (λ c. c.pool == i.pool) w.copies)) ∙ holds (not (is_some (copy_in i.pool w))) (stale_copy (j.copy_changed i.object i.pool) (copy_in i.pool w)) h

copy_roomy : (v : Inv) (i : NewCopy) (o : Option Version) → option_map_or (λ w. added_fits v i w) o false ≡ true → all_roomy i.object i.segments v ≡ true
copy_roomy v i None h = absurd cc
copy_roomy v i (Some w) h =
    roomy_copy [] v i.pool w.size i.object i.segments (first (copy_fits v i.pool w.size i.segments) (not (is_primary i.pool v) || is_nil (primary_copies v w)) h)

pub can_copy : (j : Journal) (c : NewCopies) (v : Inv) → Facts v → copy_list_refused j c.items v ++ scratch_refused c.scratch v ≡ [] → parts_fit (change.Copy c) v ≡ true → CanChange (change.Copy c) v
unfolding parts_fit
can_copy j c v f h fit =
    let w : Inv = each make_scratch c.scratch v in
    let only : OnlyVolumes v w = all_scratch_only c.scratch v in
    let once : List Refusal = unless (name_once (map (λ i. i.object) c.items)) bad_value in
    let asked : copy_list_refused j c.items v ≡ [] = front_nil (copy_list_refused j c.items v) (scratch_refused c.scratch v) h in
    let scratch_fit : scratch_fits v c.scratch ≡ true = first (scratch_fits v c.scratch) (items_fit new_copy_fits (λ i. i.segments) c.items w) fit in
    let fits : list_all (new_copy_fits w) c.items ≡ true =
    first (list_all (new_copy_fits w) c.items) (are_all_clear w (flat_map (λ i. i.segments) c.items)) (rest (scratch_fits v c.scratch) (items_fit new_copy_fits (λ i. i.segments) c.items w) fit) in (
      can_scratch_all c.scratch v (scratch_new c.scratch v (back_nil (copy_list_refused j c.items v) (scratch_refused c.scratch v) h) scratch_fit),
      can_copy_all c.items w (record {
        take = ap (λ (r : Rows). all_versions (λ (i : NewCopy). i.object) takes_copy c.items r) only.clients
            ∙ none_refused (copied_refused j v) (λ i. takes_copy i (version i.object v)) (λ i t. copy_taken j i (version i.object v) t) c.items (back_nil once (flat_map (copied_refused j v) c.items) asked);
        apart = items_apart (λ i. i.object) c.items (holds (name_once (map (λ i. i.object) c.items)) bad_value (front_nil once (flat_map (copied_refused j v) c.items) asked));
        number = subst (λ (n : ℕ). n + 1 < 2 ^ 64) (sym only.number) (next_number v f);
        roomy = all_so (new_copy_fits w) (λ i. all_roomy i.object i.segments w) (λ i t. copy_roomy w i (version i.object w) t) c.items fits;
      }),
    )
