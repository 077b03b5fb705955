-- A transaction that makes copies beside others.
use Rattle.std.proofs.Common.{◌≡◌, ℕ, ◌+◌, Bool, true, false, eqb, not, ◌&&◌, ◌||◌, List, [], ◌∷◌, ◌++◌, map, Option, Some, None, is_some, refl, ap, ◌∙◌}
use Rattle.std.specs.Prelude.{nat_le}
use Rattle.std.specs.List.{list_all, flat_map, sum_by}
use Rattle.std.specs.Option.{option_map_or}
use Rattle.std.proofs.lemmas.Bool.{and_parts, and_from, not-true}
use Rattle.kinds.specs.declared.segment.Segment.{Segment}
use Rattle.inventory_rules.specs.entries.change_items.declared.items.NewCopy.{NewCopy}
use Rattle.inventory_rules.specs.entries.change_items.declared.lists.NewCopies.{NewCopies}
use Rattle.inventory_rules.specs.entries.declared.change.Change.TheVariants as change
use Rattle.inventory_rules.specs.inventory_rows.version_groups.declared.copies.CopyRow.{CopyRow}
use Rattle.inventory_rules.specs.inventory_rows.version_groups.declared.versions.Version.{Version}
use Rattle.inventory_rules.specs.inventory_rows.version_groups.Entries.{all_later, is_nil}
use Rattle.inventory_rules.specs.inventory_rows.version_groups.Versions.{version_of}
use Rattle.inventory_rules.specs.inventory_rows.object_rows.Rows.{Rows, kept_of}
use Rattle.inventory_rules.specs.inventory_rows.Search.{copy_in, is_primary, pool, version}
use Rattle.inventory_rules.specs.inventory_rows.State.{Inv}
use Rattle.inventory_rules.specs.Common.{each, this}
use Rattle.inventory_rules.specs.Copies.{add_copy, added, change_copy, placed_now, copied_refused, copy_list_refused, stale_copy, added_fits, new_copy_fits}
use Rattle.inventory_rules.specs.Segments.{make_scratch, scratch_refused, are_all_clear, copy_fits, items_fit, scratch_fits, segment_fits}
use Rattle.inventory_rules.specs.Transactions.{effect, causes, sizes_refused, parts_fit}
use Rattle.inventory_rules.specs.Held.{IsTied}
use Rattle.inventory_rules.specs.Journal.{Journal}
use Rattle.kinds.specs.Refusals.{bad_value, unless}
use Rattle.inventory_rules.specs.Versions.{name_once, of_version}
use Rattle.inventory_rules.specs.Valid.{is_valid, primary_copies}
use Rattle.inventory_rules.specs.Facts.{Facts}
use Rattle.inventory_laws.proofs.Facts.{facts_of}
use Rattle.inventory_laws.proofs.CopySteps as copy_steps
use Rattle.inventory_laws.proofs.Others.{other_copied}
use Rattle.inventory_laws.proofs.VersionVolumes.{all_scratch_only}
use Rattle.inventory_laws.specs.Coming.{in_pool, in_pools, MayCome}
use Rattle.inventory_laws.specs.Kept.{OnlyVolumes}
use Rattle.inventory_laws.specs.Steady.{IsSteady}
use Rattle.inventory_laws.proofs.Assembled.{steady_begins}
use Rattle.inventory_laws.proofs.Coming.{new_copies_come}
use Rattle.inventory_laws.proofs.Keeping.{put_kept}
use Rattle.inventory_laws.proofs.VolumeRows.{all_both}
use Rattle.inventory_laws.proofs.Steady.{add_steady, scratch_steady}
use Rattle.inventory_laws.proofs.DataEnds.{data_ends}
use Rattle.inventory_laws.proofs.Tests.{all_taken, before_next, both_none, named_once, no_later, other_number, unless_holds}

-- ---- one copy

-- the copy may come beside the others of this version
abbrev comes_beside : Inv → NewCopy → Version → Bool
comes_beside v i w = not (is_some (copy_in i.pool w)) && (is_some (pool i.pool v) && (eqb (sum_by (λ s. s.len) i.segments) w.size && (not (is_primary i.pool v) || is_nil (primary_copies v w))))

abbrev may_add : Inv → NewCopy → Bool
may_add v i = option_map_or (λ w. comes_beside v i w) (version i.object v) false

-- the segments of some copies, each with its pool
abbrev segments_to_come : List NewCopy → List (ℕ × Segment)
segments_to_come items = in_pools (λ (i : NewCopy). i.pool) (λ i. i.segments) items

-- copies that are yet to come
record AreToCome (n : ℕ) (v : Inv) (items : List NewCopy) : Type 0 where
  placed : nat_le (this v) n ≡ true
  steady : IsSteady n [] v
  come : MayCome [] v (segments_to_come items)
  fit : list_all (may_add v) items ≡ true
  once : all_later (λ (a b : NewCopy). not (eqb a.object b.object)) items ≡ true

first_comes : (n : ℕ) (item : NewCopy) (v : Inv) (rest : List (ℕ × Segment)) → nat_le (this v) n ≡ true → IsSteady n [] v → MayCome [] v (in_pool item.pool item.segments ++ rest) → may_add v item ≡ true → IsSteady n [] (add_copy item v) × MayCome [] (add_copy item v) rest
first_comes n item v rest placed s m h = go (version item.object v) refl h where
  go : (o : Option Version) → version item.object v ≡ o → option_map_or (λ w. comes_beside v item w) o false ≡ true → IsSteady n [] (add_copy item v) × MayCome [] (add_copy item v) rest
  go None found t = absurd cc
  go (Some w) found t =
      let one = and_parts (not (is_some (copy_in item.pool w))) (is_some (pool item.pool v) && (eqb (sum_by (λ s. s.len) item.segments) w.size && (not (is_primary item.pool v) || is_nil (primary_copies v w)))) t in
      let two = and_parts (is_some (pool item.pool v)) (eqb (sum_by (λ s. s.len) item.segments) w.size && (not (is_primary item.pool v) || is_nil (primary_copies v w))) one.1 in
      let three = and_parts (eqb (sum_by (λ s. s.len) item.segments) w.size) (not (is_primary item.pool v) || is_nil (primary_copies v w)) two.1 in
      let new : CopyRow = placed_now item.pool item.segments v in
      let row : copy_steps.Added n item.object new v (change_copy item.object (added item v) v) =
      copy_steps.added n item.object v w new s.versions found (not-true (is_some (copy_in item.pool w)) one.0) two.0 three.0 three.1 placed in
      add_steady n [] item v rest m two.0 row.0 row.1 s.volumes s.cite

-- but for the volumes, the copy's coming is the change of its version
kept_but : (item : NewCopy) (v : Inv) → OnlyVolumes (change_copy item.object (added item v) v) (add_copy item v)
kept_but item v = put_kept item.object item.segments (change_copy item.object (added item v) v)

others_may : (item i : NewCopy) (v : Inv) → not (eqb item.object i.object) ≡ true → may_add v i ≡ true → may_add (add_copy item v) i ≡ true
others_may item i v ne h =
    let u : Inv = change_copy item.object (added item v) v in
    let volumes : may_add (add_copy item v) i ≡ may_add u i = ap (λ (x : Inv). may_add x i) (kept_but item v).only in
    let clients : may_add u i ≡ may_add v i = ap (λ (o : Option Version). option_map_or (λ w. comes_beside v i w) o false) (other_copied item.object i.object (added item v) v (other_number item.object i.object ne)) in
    volumes ∙ clients ∙ h

next_to_come : (n : ℕ) (item : NewCopy) (items : List NewCopy) (v : Inv) → AreToCome n v (item ∷ items) → AreToCome n (add_copy item v) items
next_to_come n item items v a =
    let fit = and_parts (may_add v item) (list_all (may_add v) items) a.fit in
    let once = and_parts (list_all (λ (b : NewCopy). not (eqb item.object b.object)) items) (all_later (λ (x y : NewCopy). not (eqb x.object y.object)) items) a.once in
    let came : IsSteady n [] (add_copy item v) × MayCome [] (add_copy item v) (segments_to_come items) = first_comes n item v (segments_to_come items) a.placed a.steady a.come fit.0 in
    let number : (add_copy item v).number ≡ v.number = ap (λ (x : Inv). x.number) (kept_but item v).only in
    record {
      placed = ap (λ (m : ℕ). nat_le (m + 1) n) number ∙ a.placed;
      steady = came.0;
      come = came.1;
      fit = all_both (λ (b : NewCopy). not (eqb item.object b.object)) (may_add v) (may_add (add_copy item v)) (λ i ne h. others_may item i v ne h) items once.0 fit.1;
      once = once.1;
    }

all_come : (n : ℕ) (items : List NewCopy) (v : Inv) → AreToCome n v items → IsSteady n [] (each add_copy items v)
all_come n [] v a = a.steady
all_come n (i ∷ items) v a = all_come n items (add_copy i v) (next_to_come n i items v a)

-- ---- what the transaction has to fit, and why it is refused

abbrev is_free : Inv → NewCopy → Bool
is_free v i = option_map_or (λ w. not (is_some (copy_in i.pool w))) (version i.object v) false

free : (j : Journal) (v : Inv) (i : NewCopy) → copied_refused j v i ≡ [] → is_free v i ≡ true
free j v i h = go (version i.object v) h where
  go : (o : Option Version) → of_version j i.object (λ w. unless (not (is_some (copy_in i.pool w))) (stale_copy (j.copy_changed i.object i.pool) (copy_in i.pool w))) o ≡ [] → option_map_or (λ w. not (is_some (copy_in i.pool w))) o false ≡ true
  go None t = absurd cc
  go (Some w) t = unless_holds (not (is_some (copy_in i.pool w))) (stale_copy (j.copy_changed i.object i.pool) (copy_in i.pool w)) t

may : (v : Inv) (i : NewCopy) → is_free v i ≡ true → new_copy_fits v i ≡ true → may_add v i ≡ true
may v i h k = go (version i.object v) h k where
  go : (o : Option Version) → option_map_or (λ w. not (is_some (copy_in i.pool w))) o false ≡ true → option_map_or (λ w. added_fits v i w) o false ≡ true → option_map_or (λ w. comes_beside v i w) o false ≡ true
  go None s t = t
  go (Some w) s t =
      let alone : Bool = not (is_primary i.pool v) || is_nil (primary_copies v w) in
      let one = and_parts (copy_fits v i.pool w.size i.segments) alone t in
      let two = and_parts (is_some (pool i.pool v)) (eqb (sum_by (λ s. s.len) i.segments) w.size && list_all (segment_fits v i.pool) i.segments) one.0 in
      let three = and_parts (eqb (sum_by (λ s. s.len) i.segments) w.size) (list_all (segment_fits v i.pool) i.segments) two.1 in
      and_from (not (is_some (copy_in i.pool w))) (is_some (pool i.pool v) && (eqb (sum_by (λ s. s.len) i.segments) w.size && alone)) s
      (and_from (is_some (pool i.pool v)) (eqb (sum_by (λ s. s.len) i.segments) w.size && alone) two.0
      (and_from (eqb (sum_by (λ s. s.len) i.segments) w.size) alone three.0 one.1))

-- where the versions are the same
free_still : (v u : Inv) → u.clients ≡ v.clients → (i : NewCopy) → is_free v i ≡ true → is_free u i ≡ true
free_still v u same i h = ap (λ (c : Rows). option_map_or (λ w. not (is_some (copy_in i.pool w))) (version_of i.object (kept_of c)) false) same ∙ h

pub parts_of : (c : NewCopies) (v : Inv) → parts_fit (change.Copy c) v ≡ true → (scratch_fits v c.scratch ≡ true) × (items_fit new_copy_fits (λ i. i.segments) c.items (each make_scratch c.scratch v) ≡ true)
unfolding parts_fit
parts_of c v h = and_parts (scratch_fits v c.scratch) (items_fit new_copy_fits (λ i. i.segments) c.items (each make_scratch c.scratch v)) h

-- ---- the transaction

begin : (j : Journal) (items : List NewCopy) (v u : Inv) → u.clients ≡ v.clients → u.number ≡ v.number → IsSteady (v.number + 1) [] u → copy_list_refused j items v ≡ [] → items_fit new_copy_fits (λ i. i.segments) items u ≡ true → AreToCome (v.number + 1) u items
begin j items v u clients number s h fit =
    let causes = both_none (unless (name_once (map (λ (i : NewCopy). i.object) items)) bad_value) (flat_map (copied_refused j v) items) h in
    let parts = and_parts (list_all (new_copy_fits u) items) (are_all_clear u (flat_map (λ (i : NewCopy). i.segments) items)) fit in
    record {
      placed = ap (λ (m : ℕ). nat_le (m + 1) (v.number + 1)) number ∙ no_later (v.number + 1);
      steady = s;
      come = new_copies_come items u fit;
      fit = all_both (is_free v) (new_copy_fits u) (may_add u) (λ i a b. may u i (free_still v u clients i a) b) items (all_taken (copied_refused j v) (is_free v) (free j v) items causes.1) parts.0;
      once = named_once (λ (i : NewCopy). i.object) items (unless_holds (name_once (map (λ (i : NewCopy). i.object) items)) bad_value causes.0);
    }

pub copies_come : (j : Journal) (c : NewCopies) (v : Inv) → is_valid v ≡ true → IsTied v → causes j (change.Copy c) v ≡ [] → sizes_refused (change.Copy c) v ≡ [] → parts_fit (change.Copy c) v ≡ true
    → (is_valid (effect (change.Copy c) v) ≡ true) × IsTied (effect (change.Copy c) v)
copies_come j c v valid tied h sizes fit =
    let f : Facts v = facts_of v valid in
    let why = both_none (copy_list_refused j c.items v) (scratch_refused c.scratch v) h in
    let parts = parts_of c v fit in
    let u : Inv = each make_scratch c.scratch v in
    let only = all_scratch_only c.scratch v in
    let s : IsSteady (v.number + 1) [] u = scratch_steady (v.number + 1) c.scratch v why.1 parts.0 (steady_begins (v.number + 1) v f tied (before_next v.number)) in
    let done : IsSteady (v.number + 1) [] (each add_copy c.items u) = all_come (v.number + 1) c.items u (begin j c.items v u only.clients only.number s why.0 parts.1) in
    data_ends (change.Copy c) v refl f done sizes
