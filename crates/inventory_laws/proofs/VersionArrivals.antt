-- A transaction that brings new objects: files that a client sent, or objects that it archived.
use Rattle.std.proofs.Common.{◌≡◌, ℕ, ◌+◌, ◌^◌, ◌<◌, max, Bool, true, false, eqb, not, ◌&&◌, List, [], ◌∷◌, ◌++◌, map, length, is_some, refl, sym, ap, subst, ◌∙◌, arith}
use Rattle.std.specs.Prelude.{⊤, nat_le, nat_lt}
use Rattle.std.specs.List.{list_all, flat_map, sum_by}
use Rattle.std.proofs.lemmas.Bool.{and_parts, and_from, lt-ltb, ltb-true, not-true}
use Rattle.std.proofs.lemmas.List.Folds.{list_all-map}
use Rattle.kinds.specs.declared.refusal.Refusal.TheVariants as refusal
use Rattle.kinds.specs.declared.segment.Segment.{Segment}
use Rattle.inventory_rules.specs.entries.change_items.declared.items.NewHeldObject.{NewHeldObject}
use Rattle.inventory_rules.specs.entries.change_items.declared.items.NewVersion.{NewVersion}
use Rattle.inventory_rules.specs.entries.change_items.declared.lists.NewHeldObjects.{NewHeldObjects}
use Rattle.inventory_rules.specs.entries.change_items.declared.lists.NewVersions.{NewVersions}
use Rattle.inventory_rules.specs.entries.declared.change.Change.TheVariants as change
use Rattle.inventory_rules.specs.inventory_rows.version_groups.declared.copies.CopyRow.{CopyRow}
use Rattle.inventory_rules.specs.inventory_rows.version_groups.Entries.{all_later}
use Rattle.inventory_rules.specs.inventory_rows.version_groups.Versions.{has_object}
use Rattle.inventory_rules.specs.inventory_rows.object_rows.Filespaces.{filespace_at}
use Rattle.inventory_rules.specs.inventory_rows.object_rows.Rows.{Rows, kept_of, most_kept}
use Rattle.inventory_rules.specs.inventory_rows.Search.{copies, pool, versions}
use Rattle.inventory_rules.specs.inventory_rows.State.{Inv}
use Rattle.inventory_rules.specs.Common.{each, this}
use Rattle.inventory_rules.specs.Segments.{make_scratch, put, scratch_refused, are_all_clear, copy_fits, items_fit, scratch_fits, segment_fits}
use Rattle.inventory_rules.specs.Transactions.{effect, causes, sizes_refused, parts_fit}
use Rattle.inventory_rules.specs.Versions.{after_object, arrivals_refused, back_up, filespace_there, held_too, hold, inserted, is_new_object, name_once, new_held_fits, new_refused, new_version_fits, object_refused, objects_refused}
use Rattle.inventory_rules.specs.Halfway.{VersionFacts}
use Rattle.inventory_rules.specs.Held.{IsTied}
use Rattle.inventory_rules.specs.Journal.{Journal}
use Rattle.kinds.specs.Refusals.{bad_value, unless}
use Rattle.inventory_rules.specs.Valid.{is_valid}
use Rattle.inventory_rules.specs.Facts.{Facts}
use Rattle.inventory_rules.specs.Ordered.{IsOrdered}
use Rattle.inventory_rules.specs.Reordered.{IsReordered}
use Rattle.inventory_laws.proofs.Facts.{facts_of}
use Rattle.inventory_laws.proofs.Arriving.{Comes, NewObject, arrived, copies_more, number_arrived, other_arrived, row_new, there_arrived}
use Rattle.inventory_laws.proofs.Kept.{is_held_there}
use Rattle.inventory_laws.proofs.Ordered.{ordered_inserted}
use Rattle.inventory_laws.proofs.PutSteps.{held_object_comes, of_held, of_version, version_comes}
use Rattle.inventory_laws.proofs.VersionVolumes.{all_scratch_only}
use Rattle.inventory_laws.proofs.VersionsWhole.{ordered_elsewhere}
use Rattle.inventory_laws.specs.Coming.{in_pool, in_pools, MayCome}
use Rattle.inventory_laws.specs.Kept.{OnlyVolumes}
use Rattle.inventory_laws.specs.Steady.{IsSteady}
use Rattle.inventory_laws.proofs.Assembled.{steady_begins}
use Rattle.inventory_laws.proofs.Coming.{new_held_come, new_versions_come}
use Rattle.inventory_laws.proofs.Keeping.{put_kept}
use Rattle.inventory_laws.proofs.VolumeRows.{all_both}
use Rattle.inventory_laws.proofs.Steady.{arrival_steady, scratch_steady}
use Rattle.inventory_laws.proofs.DataEnds.{data_ends}
use Rattle.inventory_laws.proofs.Tests.{all_taken, before_next, both_none, named_once, no_later, unless_holds}

-- ---- one object

-- the object is new, and its copy is whole and of a pool that is there
abbrev is_ready : Inv → NewObject → Bool
is_ready v i = is_new_object v i.object && (is_some (pool i.pool v) && eqb (sum_by (λ s. s.len) i.segments) i.size)

abbrev is_bounded : NewObject → Bool
is_bounded i = nat_lt (i.object + 1) (2 ^ 62)

first_comes : (n : ℕ) (i : NewObject) (v w : Inv) (rest : List (ℕ × Segment)) → nat_le (this v) n ≡ true → IsSteady n [] v → MayCome [] v (in_pool i.pool i.segments ++ rest) → Comes i v w → is_ready v i ≡ true → is_bounded i ≡ true
    → IsSteady n [] (put i.object i.segments w) × MayCome [] (put i.object i.segments w) rest
first_comes n i v w rest placed s m c ready bounded =
    let one = and_parts (is_new_object v i.object) (is_some (pool i.pool v) && eqb (sum_by (λ s. s.len) i.segments) i.size) ready in
    let two = and_parts (is_some (pool i.pool v)) (eqb (sum_by (λ s. s.len) i.segments) i.size) one.1 in
    let facts : VersionFacts n w = arrived n i v w s.versions c one.0 two.0 two.1 bounded placed in
    let order : IsReordered {A = ℕ × CopyRow} (row_new i v ∷ copies v) (copies w) = copies_more i v w c in
    let rows : Rows = record { nodes = v.clients.nodes; filespaces = c.filespaces; held = c.held } in
    let next : ℕ = after_object i.object v in
    subst (λ (x : Inv). IsSteady n [] (put i.object i.segments x) × MayCome [] (put i.object i.segments x) rest) (sym c.is)
    (arrival_steady n [] i.object i.pool i.segments rows next v rest m two.0 (subst (VersionFacts n) c.is facts) (subst (λ (x : Inv). IsReordered {A = ℕ × CopyRow} (row_new i v ∷ copies v) (copies x)) c.is order) s.volumes s.cite)

others_ready : (i other : NewObject) (v w : Inv) → Comes i v w → not (eqb i.object other.object) ≡ true → is_ready v other ≡ true → is_ready (put i.object i.segments w) other ≡ true
others_ready i other v w c ne h =
    let volumes : is_ready (put i.object i.segments w) other ≡ is_ready w other = ap (λ (x : Inv). is_ready x other) (put_kept i.object i.segments w).only in
    let pools : is_ready w other ≡ ((nat_le 1 other.object && not (has_object other.object (versions w))) && (is_some (pool other.pool v) && eqb (sum_by (λ s. s.len) other.segments) other.size)) =
    ap (λ (x : Inv). (nat_le 1 other.object && not (has_object other.object (versions w))) && (is_some (pool other.pool x) && eqb (sum_by (λ s. s.len) other.segments) other.size)) c.is in
    let clients : ((nat_le 1 other.object && not (has_object other.object (versions w))) && (is_some (pool other.pool v) && eqb (sum_by (λ s. s.len) other.segments) other.size)) ≡ is_ready v other =
    ap (λ b. (nat_le 1 other.object && not b) && (is_some (pool other.pool v) && eqb (sum_by (λ s. s.len) other.segments) other.size)) (other_arrived other.object i v w c (not-true (eqb i.object other.object) ne)) in
    volumes ∙ pools ∙ clients ∙ h

-- ---- all of them

-- objects that are yet to come
record AreToCome {X : Type 0} (what : X → NewObject) (Between : Inv → Type 0) (n filespace : ℕ) (v : Inv) (items : List X) : Type 0 where
  placed : nat_le (this v) n ≡ true
  steady : IsSteady n [] v
  come : MayCome [] v (in_pools (λ x. (what x).pool) (λ x. (what x).segments) items)
  between : Between v
  there : is_some (filespace_at filespace v.clients.filespaces) ≡ true
  ready : list_all (λ x. is_ready v (what x)) items ≡ true
  bounded : list_all (λ x. is_bounded (what x)) items ≡ true
  once : all_later (λ a b. not (eqb (what a).object (what b).object)) items ≡ true

-- how an object comes, where what holds between two items does, and that it does so then
abbrev pub Coming : {X : Type 0} → (X → NewObject) → (X → Inv → Inv) → ℕ → (Inv → Type 0) → Type 0
Coming {X} what rows filespace Between =
    (x : X) (v : Inv) → Between v → list_all (is_held_there v.clients.filespaces) v.clients.held ≡ true → is_some (filespace_at filespace v.clients.filespaces) ≡ true → has_object (what x).object (versions v) ≡ false → Comes (what x) v (rows x v)

abbrev pub GoesOn : {X : Type 0} → (X → Inv → Inv) → (Inv → Type 0) → Type 0
GoesOn {X} rows Between = (x : X) (v w : Inv) → w.clients ≡ (rows x v).clients → Between v → Between w

module _ {X : Type 0} (what : X → NewObject) (rows : X → Inv → Inv) (filespace : ℕ) (Between : Inv → Type 0) (comes : Coming what rows filespace Between) (goes_on : GoesOn rows Between) where
  abbrev step : X → Inv → Inv
  step x v = put (what x).object (what x).segments (rows x v)

  next_to_come : (n : ℕ) (x : X) (items : List X) (v : Inv) → AreToCome what Between n filespace v (x ∷ items) → AreToCome what Between n filespace (step x v) items
  next_to_come n x items v a =
      let i : NewObject = what x in
      let u : Inv = rows x v in
      let w : Inv = step x v in
      let ready = and_parts (is_ready v i) (list_all (λ y. is_ready v (what y)) items) a.ready in
      let bounded = and_parts (is_bounded i) (list_all (λ y. is_bounded (what y)) items) a.bounded in
      let once = and_parts (list_all (λ b. not (eqb i.object (what b).object)) items) (all_later (λ b d. not (eqb (what b).object (what d).object)) items) a.once in
      let new = and_parts (is_new_object v i.object) (is_some (pool i.pool v) && eqb (sum_by (λ s. s.len) i.segments) i.size) ready.0 in
      let fresh : has_object i.object (versions v) ≡ false = not-true (has_object i.object (versions v)) (and_parts (nat_le 1 i.object) (not (has_object i.object (versions v))) new.0).1 in
      let c : Comes i v u = comes x v a.between a.steady.versions.held a.there fresh in
      let k : OnlyVolumes u w = put_kept i.object i.segments u in
      let came : IsSteady n [] w × MayCome [] w (in_pools (λ y. (what y).pool) (λ y. (what y).segments) items) =
      first_comes n i v u (in_pools (λ y. (what y).pool) (λ y. (what y).segments) items) a.placed a.steady a.come c ready.0 bounded.0 in
      let number : w.number ≡ v.number = ap (λ (z : Inv). z.number) k.only ∙ number_arrived i v u c in
      record {
        placed = ap (λ (m : ℕ). nat_le (m + 1) n) number ∙ a.placed;
        steady = came.0;
        come = came.1;
        between = goes_on x v w (ap (λ (z : Inv). z.clients) k.only) a.between;
        there = ap (λ (z : Inv). is_some (filespace_at filespace z.clients.filespaces)) k.only ∙ there_arrived filespace i v u c ∙ a.there;
        ready = all_both (λ b. not (eqb i.object (what b).object)) (λ y. is_ready v (what y)) (λ y. is_ready w (what y)) (λ y ne h. others_ready i (what y) v u c ne h) items once.0 ready.1;
        bounded = bounded.1;
        once = once.1;
      }

  all_come : (n : ℕ) (items : List X) (v : Inv) → AreToCome what Between n filespace v items → IsSteady n [] (each step items v)
  all_come n [] v a = a.steady
  all_come n (x ∷ items) v a = all_come n items (step x v) (next_to_come n x items v a)

-- ---- what the transaction has to fit, and why it is refused

ready : (v : Inv) (i : NewObject) → is_new_object v i.object ≡ true → copy_fits v i.pool i.size i.segments ≡ true → is_ready v i ≡ true
ready v i new h =
    let two = and_parts (is_some (pool i.pool v)) (eqb (sum_by (λ s. s.len) i.segments) i.size && list_all (segment_fits v i.pool) i.segments) h in
    let three = and_parts (eqb (sum_by (λ s. s.len) i.segments) i.size) (list_all (segment_fits v i.pool) i.segments) two.1 in
    and_from (is_new_object v i.object) (is_some (pool i.pool v) && eqb (sum_by (λ s. s.len) i.segments) i.size) new
    (and_from (is_some (pool i.pool v)) (eqb (sum_by (λ s. s.len) i.segments) i.size) two.0 three.0)

below : (next object most : ℕ) → nat_lt (max next (object + 1)) most ≡ true → nat_lt (object + 1) most ≡ true
below next object most h =
    let p : max next (object + 1) < most = ltb-true (max next (object + 1)) most h in
    lt-ltb (object + 1) most (omega arith)

bounded_by : (v : Inv) (object : ℕ) → object_refused v object ≡ [] → nat_lt (object + 1) (2 ^ 62) ≡ true
bounded_by v object h =
    below v.next_object object (2 ^ 62)
    (unless_holds (nat_lt (max v.next_object (object + 1)) (2 ^ 62)) refusal.InventoryFull (both_none (unless (is_new_object v object) bad_value) (unless (nat_lt (max v.next_object (object + 1)) (2 ^ 62)) refusal.InventoryFull) h).1)

new_by : (v : Inv) (object : ℕ) → object_refused v object ≡ [] → is_new_object v object ≡ true
new_by v object h =
    unless_holds (is_new_object v object) bad_value (both_none (unless (is_new_object v object) bad_value) (unless (nat_lt (max v.next_object (object + 1)) (2 ^ 62)) refusal.InventoryFull) h).0

pub parts_of : (c : NewVersions) (v : Inv) → parts_fit (change.Backup c) v ≡ true → (scratch_fits v c.scratch ≡ true) × (items_fit new_version_fits (λ i. i.segments) c.items (each make_scratch c.scratch v) ≡ true)
unfolding parts_fit
parts_of c v h = and_parts (scratch_fits v c.scratch) (items_fit new_version_fits (λ i. i.segments) c.items (each make_scratch c.scratch v)) h

pub held_parts_of : (c : NewHeldObjects) (v : Inv) → parts_fit (change.Hold c) v ≡ true → (scratch_fits v c.scratch ≡ true) × (items_fit new_held_fits (λ i. i.segments) c.items (each make_scratch c.scratch v) ≡ true)
unfolding parts_fit
held_parts_of c v h = and_parts (scratch_fits v c.scratch) (items_fit new_held_fits (λ i. i.segments) c.items (each make_scratch c.scratch v)) h

-- the causes to refuse it that don't hold
pub record IsTaken (filespace : ℕ) (objects : List ℕ) (v : Inv) : Type 0 where
  pub there : is_some (filespace_at filespace v.clients.filespaces) ≡ true
  pub once : name_once objects ≡ true
  pub bounded : list_all (λ (k : ℕ). nat_lt (k + 1) (2 ^ 62)) objects ≡ true
  pub new : list_all (is_new_object v) objects ≡ true

pub taken : (filespace : ℕ) (objects : List ℕ) (v : Inv) → new_refused filespace objects v ≡ [] → objects_refused objects v ≡ [] → IsTaken filespace objects v
taken filespace objects v h bounds =
    let few : Bool = nat_le (length (versions v) + length objects) most_kept in
    let one = both_none (filespace_there filespace v) (arrivals_refused objects v) h in
    let two = both_none (unless (name_once objects) bad_value) (unless few refusal.InventoryFull) one.1 in
    record {
      there = unless_holds (is_some (filespace_at filespace v.clients.filespaces)) refusal.NotFound one.0;
      once = unless_holds (name_once objects) bad_value two.0;
      bounded = all_taken (object_refused v) (λ k. nat_lt (k + 1) (2 ^ 62)) (bounded_by v) objects bounds;
      new = all_taken (object_refused v) (is_new_object v) (new_by v) objects bounds;
    }

-- ---- the transaction

begin : {X : Type 0} (what : X → NewObject) (Between : Inv → Type 0) (filespace : ℕ) (items : List X) (v u : Inv) → u.clients ≡ v.clients → u.number ≡ v.number → Between u → IsSteady (v.number + 1) [] u
    → IsTaken filespace (map (λ x. (what x).object) items) v → list_all (λ x. copy_fits u (what x).pool (what x).size (what x).segments) items ≡ true → MayCome [] u (in_pools (λ x. (what x).pool) (λ x. (what x).segments) items)
    → AreToCome what Between (v.number + 1) filespace u items
begin {X} what Between filespace items v u clients number between s t fit come =
    let object : X → ℕ = λ x. (what x).object in
    let new : list_all (λ x. is_new_object u (object x)) items ≡ true =
    ap (λ (c : Rows). list_all (λ x. nat_le 1 (object x) && not (has_object (object x) (kept_of c))) items) clients ∙ sym (list_all-map (is_new_object v) object items) ∙ t.new in
    record {
      placed = ap (λ (m : ℕ). nat_le (m + 1) (v.number + 1)) number ∙ no_later (v.number + 1);
      steady = s;
      come = come;
      between = between;
      there = ap (λ (c : Rows). is_some (filespace_at filespace c.filespaces)) clients ∙ t.there;
      ready = all_both (λ x. is_new_object u (object x)) (λ x. copy_fits u (what x).pool (what x).size (what x).segments) (λ x. is_ready u (what x)) (λ x. ready u (what x)) items new fit;
      bounded = sym (list_all-map (λ k. nat_lt (k + 1) (2 ^ 62)) object items) ∙ t.bounded;
      once = named_once object items t.once;
    }

pub versions_come : (j : Journal) (c : NewVersions) (v : Inv) → is_valid v ≡ true → IsTied v → IsOrdered v → causes j (change.Backup c) v ≡ [] → sizes_refused (change.Backup c) v ≡ [] → parts_fit (change.Backup c) v ≡ true
    → (is_valid (effect (change.Backup c) v) ≡ true) × IsTied (effect (change.Backup c) v)
versions_come j c v valid tied o h sizes fit =
    let f : Facts v = facts_of v valid in
    let objects : List ℕ = map (λ (i : NewVersion). i.object) c.items in
    let one = both_none (new_refused c.filespace objects v) (scratch_refused c.scratch v ++ objects_refused objects v) h in
    let two = both_none (scratch_refused c.scratch v) (objects_refused objects v) one.1 in
    let t : IsTaken c.filespace objects v = taken c.filespace objects v one.0 two.1 in
    let parts = parts_of c v fit in
    let u : Inv = each make_scratch c.scratch v in
    let only = all_scratch_only c.scratch v in
    let s : IsSteady (v.number + 1) [] u = scratch_steady (v.number + 1) c.scratch v two.0 parts.0 (steady_begins (v.number + 1) v f tied (before_next v.number)) in
    let fits = and_parts (list_all (new_version_fits u) c.items) (are_all_clear u (flat_map (λ (i : NewVersion). i.segments) c.items)) parts.1 in
    let a : AreToCome of_version IsOrdered (v.number + 1) c.filespace u c.items =
    begin of_version IsOrdered c.filespace c.items v u only.clients only.number (ordered_elsewhere v u only.clients o) s t fits.0 (new_versions_come c.items u parts.1) in
    let done : IsSteady (v.number + 1) [] (each (back_up c.filespace) c.items u) =
    all_come of_version (inserted c.filespace) c.filespace IsOrdered (λ i x o _ there _. version_comes c.filespace i x o.by_path there) (λ i x w same o. ordered_elsewhere (inserted c.filespace i x) w same (ordered_inserted c.filespace i x o)) (v.number + 1) c.items u a in
    data_ends (change.Backup c) v refl f done sizes

pub held_come : (j : Journal) (c : NewHeldObjects) (v : Inv) → is_valid v ≡ true → IsTied v → causes j (change.Hold c) v ≡ [] → sizes_refused (change.Hold c) v ≡ [] → parts_fit (change.Hold c) v ≡ true
    → (is_valid (effect (change.Hold c) v) ≡ true) × IsTied (effect (change.Hold c) v)
held_come j c v valid tied h sizes fit =
    let f : Facts v = facts_of v valid in
    let objects : List ℕ = map (λ (i : NewHeldObject). i.object) c.items in
    let one = both_none (new_refused c.filespace objects v) (scratch_refused c.scratch v ++ objects_refused objects v) h in
    let two = both_none (scratch_refused c.scratch v) (objects_refused objects v) one.1 in
    let t : IsTaken c.filespace objects v = taken c.filespace objects v one.0 two.1 in
    let parts = held_parts_of c v fit in
    let u : Inv = each make_scratch c.scratch v in
    let only = all_scratch_only c.scratch v in
    let s : IsSteady (v.number + 1) [] u = scratch_steady (v.number + 1) c.scratch v two.0 parts.0 (steady_begins (v.number + 1) v f tied (before_next v.number)) in
    let fits = and_parts (list_all (new_held_fits u) c.items) (are_all_clear u (flat_map (λ (i : NewHeldObject). i.segments) c.items)) parts.1 in
    let a : AreToCome of_held (λ _. ⊤) (v.number + 1) c.filespace u c.items =
    begin of_held (λ _. ⊤) c.filespace c.items v u only.clients only.number tt s t fits.0 (new_held_come c.items u parts.1) in
    let done : IsSteady (v.number + 1) [] (each (hold c.filespace) c.items u) =
    all_come of_held (held_too c.filespace) c.filespace (λ _. ⊤) (λ i x _ held there fresh. held_object_comes c.filespace i x held there fresh) (λ i x w same _. tt) (v.number + 1) c.items u a in
    data_ends (change.Hold c) v refl f done sizes
