-- A transaction that moves copies to other volumes.
use Rattle.std.proofs.Common.{◌≡◌, ℕ, ◌+◌, ◌%◌, Bool, true, false, cond, eqb, not, ◌&&◌, ◌||◌, List, [], ◌∷◌, ◌++◌, map, length, Option, Some, None, is_some, refl, sym, ap, subst, ◌∙◌, append_assoc, append-nil}
use Rattle.std.specs.Prelude.{◌==◌, nat_le}
use Rattle.std.specs.List.{AllByRecursion, filter, list_all, flat_map, sum_by}
use Rattle.std.specs.Option.{option_map_or}
use Rattle.std.proofs.lemmas.Bool.{and_parts, and_from, eqb-true}
use Rattle.std.proofs.lemmas.List.Concat.{flat_map-append}
use Rattle.kinds.specs.declared.segment.Segment.{Segment}
use Rattle.inventory_rules.specs.entries.change_items.declared.items.MovedCopy.{MovedCopy}
use Rattle.inventory_rules.specs.entries.change_items.declared.lists.MovedCopies.{MovedCopies}
use Rattle.inventory_rules.specs.entries.declared.change.Change.TheVariants as change
use Rattle.inventory_rules.specs.inventory_rows.version_groups.declared.copies.CopyRow.{CopyRow}
use Rattle.inventory_rules.specs.inventory_rows.version_groups.declared.versions.Version.{Version}
use Rattle.inventory_rules.specs.inventory_rows.version_groups.Copies.{are_by_pool, has_copy, without_copy}
use Rattle.inventory_rules.specs.inventory_rows.version_groups.Entries.{all_later, is_nil}
use Rattle.inventory_rules.specs.inventory_rows.version_groups.Versions.{version_of}
use Rattle.inventory_rules.specs.inventory_rows.volume_rows.declared.volume.Volume.{Volume}
use Rattle.inventory_rules.specs.inventory_rows.object_rows.Rows.{Rows, kept_of, rows_altered}
use Rattle.inventory_rules.specs.inventory_rows.pool_tables.Rows.{row_at}
use Rattle.inventory_rules.proofs.of_inventory_rows.of_pool_tables.Counting.{each_there}
use Rattle.inventory_rules.specs.inventory_rows.pool_rows.PoolRows.{is_sequential, is_sequential_at}
use Rattle.inventory_rules.specs.inventory_rows.Search.{copies, copy_in, is_primary, pool, segments_on, version, versions}
use Rattle.inventory_rules.specs.inventory_rows.State.{Inv}
use Rattle.inventory_rules.specs.Common.{each, or_same, this, with_clients}
use Rattle.inventory_rules.specs.Copies.{change_copy, move_copy, moved, placed_as, placed_now, put_moved, segments_in, take_moved, copy_refused, move_refused, moved_refused, placed_by, stale_copy, moved_copy_fits, replaced_fits}
use Rattle.inventory_rules.specs.Segments.{make_scratch, scratch_refused, take_away, are_all_clear, are_clear, copy_fits_after, items_fit, leaves, lies_rightly, scratch_fits, segment_fits_after}
use Rattle.inventory_rules.specs.Transactions.{effect, causes, sizes_refused, parts_fit}
use Rattle.inventory_rules.specs.Halfway.{lying, pending_on, segments_of, VersionFacts, VolumeFacts}
use Rattle.inventory_rules.specs.Held.{holding, IsTied}
use Rattle.inventory_rules.specs.Reordered.{IsReordered}
use Rattle.inventory_rules.specs.Journal.{Journal}
use Rattle.kinds.specs.Refusals.{bad_value, unless}
use Rattle.inventory_rules.specs.Versions.{name_once, of_version}
use Rattle.inventory_rules.specs.Valid.{copies_cite, is_copied, is_of_pool, is_valid, primary_copies}
use Rattle.inventory_rules.specs.Facts.{Facts}
use Rattle.inventory_laws.proofs.Facts.{facts_of}
use Rattle.inventory_laws.proofs.CopySteps as copy_steps
use Rattle.inventory_laws.proofs.Others.{other_copied}
use Rattle.inventory_laws.proofs.VersionVolumes.{all_scratch_only}
use Rattle.inventory_laws.specs.Coming.{in_pools, is_clear_of, is_clear_there, MayCome, of_object}
use Rattle.inventory_laws.specs.Kept.{is_cited, nothing, OnlyVolumes}
use Rattle.inventory_laws.specs.Steady.{IsSteady}
use Rattle.inventory_laws.proofs.Assembled.{steady_begins}
use Rattle.inventory_laws.proofs.Changing.{facts_reordered, take_list}
use Rattle.inventory_laws.proofs.Cited.{cite_kept, cite_swapped, cited_kept}
use Rattle.inventory_laws.proofs.Coming.{fits_lies_after, lies_at_pool, may_come_by}
use Rattle.inventory_laws.proofs.Keeping.{clear_kept, kept_same, kept_then, lies_kept, sequential_kept, take_kept}
use Rattle.inventory_laws.proofs.MovedRows.{is_going, left_of, matches, one_matches, parted, staying}
use Rattle.inventory_laws.proofs.Orders.{reordered-flat_map, reordered_back, reordered_behind, reordered_cons, reordered_first, reordered_front, reordered_itself, reordered_then}
use Rattle.inventory_laws.proofs.Swapping.{facts_swapped, on_file, pending-segments_of}
use Rattle.inventory_laws.proofs.Turned.{Bears, bears_taken, list_turns}
use Rattle.inventory_laws.proofs.VolumeItems.{moved_come, moved_kept, moves_kept, put-with_clients, take-with_clients, versions_kept}
use Rattle.inventory_laws.proofs.VolumeRows.{all_both, all_later-same, all_same, all_so, list_all-append, list_all-parts}
use Rattle.inventory_laws.proofs.Steady.{move_cited, scratch_steady}
use Rattle.inventory_laws.proofs.DataEnds.{data_ends}
use Rattle.inventory_laws.proofs.Tests.{all_taken, before_next, both_none, named_once, no_later, other_number, unless_holds}

-- ---- one copy

-- the copy may take the place of the one that the version has in the pool that it leaves
abbrev fits_in_place : Inv → MovedCopy → Version → Bool
fits_in_place v i w =
    is_some (pool i.pool v)
    && (eqb (sum_by (λ s. s.len) i.segments) w.size
    && (not (has_copy i.pool (without_copy i.from w.copies)) && (not (is_primary i.pool v) || list_all (λ (c : CopyRow). eqb c.pool i.from) (primary_copies v w))))

abbrev takes_place : Inv → MovedCopy → Version → Bool
takes_place v i w = is_some (copy_in i.from w) && fits_in_place v i w

abbrev may_move : Inv → MovedCopy → Bool
may_move v i = option_map_or (λ w. takes_place v i w) (version i.object v) false

-- the copy with its new segments
abbrev pub row_of : Inv → MovedCopy → ℕ × CopyRow
row_of v i = (i.object, placed_now i.pool i.segments v)

-- it lies in a pool that is there, and on volumes of that pool
abbrev pub lies : Inv → MovedCopy → Bool
lies v i = is_cited v (row_of v i)

-- the new segments of some copies, each with its object
abbrev pub new_segments : List MovedCopy → List (ℕ × Segment)
new_segments items = flat_map (λ (i : MovedCopy). of_object i.object i.segments) items

abbrev segments_to_come : List MovedCopy → List (ℕ × Segment)
segments_to_come items = in_pools (λ (i : MovedCopy). i.pool) (λ i. i.segments) items

-- the copies as they are placed by the transaction behind the one with this number
abbrev new_rows : ℕ → List MovedCopy → List (ℕ × CopyRow)
new_rows number items = map (λ (i : MovedCopy). (i.object, placed_as number i)) items

-- the copies that move
abbrev old_rows : Inv → List MovedCopy → List (ℕ × CopyRow)
old_rows v items = flat_map (λ (i : MovedCopy). left_of i (version i.object v)) items

-- copies that are yet to move
record AreToMove (n : ℕ) (v : Inv) (items : List MovedCopy) : Type 0 where
  placed : nat_le (this v) n ≡ true
  versions : VersionFacts n v
  cite : copies_cite v ≡ true
  fit : list_all (may_move v) items ≡ true
  lie : list_all (lies v) items ≡ true
  once : all_later (λ (a b : MovedCopy). not (eqb a.object b.object)) items ≡ true

-- copies that moved: what is said of versions, and which copies there are
record HaveMoved (n : ℕ) (items : List MovedCopy) (v w : Inv) : Type 0 where
  versions : VersionFacts n w
  cite : copies_cite w ≡ true
  order : IsReordered (new_rows v.number items ++ copies v) (old_rows v items ++ copies w)

-- one copy that moved
record HasMoved (n : ℕ) (item : MovedCopy) (v w : Inv) : Type 0 where
  old : CopyRow
  left : left_of item (version item.object v) ≡ (item.object, old) ∷ []
  versions : VersionFacts n w
  cite : copies_cite w ≡ true
  order : IsReordered {A = ℕ × CopyRow} ((item.object, placed_as v.number item) ∷ copies v) ((item.object, old) ∷ copies w)

held_moves : (n : ℕ) (item : MovedCopy) (v : Inv) (w : Version) (old : CopyRow) → nat_le (this v) n ≡ true → VersionFacts n v → copies_cite v ≡ true → version item.object v ≡ Some w → copy_in item.from w ≡ Some old
    → fits_in_place v item w ≡ true → lies v item ≡ true → HasMoved n item v (move_copy item v)
held_moves n item v w old placed versions cite found held h cited =
    let last : Bool = not (is_primary item.pool v) || list_all (λ (c : CopyRow). eqb c.pool item.from) (primary_copies v w) in
    let free : Bool = not (has_copy item.pool (without_copy item.from w.copies)) in
    let one = and_parts (is_some (pool item.pool v)) (eqb (sum_by (λ s. s.len) item.segments) w.size && (free && last)) h in
    let two = and_parts (eqb (sum_by (λ s. s.len) item.segments) w.size) (free && last) one.1 in
    let three = and_parts free last two.1 in
    let new : CopyRow = placed_now item.pool item.segments v in
    let u : Inv = change_copy item.object (moved item v) v in
    let k : OnlyVolumes u (move_copy item v) = moves_kept item v in
    let row : copy_steps.Replaced n item.object old new v u =
    copy_steps.replaced n item.object item.from v w old new versions found held one.0 two.0 three.0 three.1 placed in
    record {
      old = old;
      left = ap (λ (o : Option Version). left_of item o) found ∙ ap (λ (o : Option CopyRow). option_map_or (λ (c : CopyRow). (item.object, c) ∷ []) o []) held;
      versions = versions_kept n u (move_copy item v) k row.0;
      cite = cite_kept u (move_copy item v) k ∙ (cite_swapped ((item.object, new) ∷ []) ((item.object, old) ∷ []) v u refl row.1 (and_from (is_cited v (item.object, new)) true cited refl) cite).1;
      order = subst (λ (l : List (ℕ × CopyRow)). IsReordered {A = ℕ × CopyRow} ((item.object, new) ∷ copies v) ((item.object, old) ∷ l)) (sym (ap (λ (x : Inv). copies x) k.only)) row.1;
    }

first_moves : (n : ℕ) (item : MovedCopy) (v : Inv) → nat_le (this v) n ≡ true → VersionFacts n v → copies_cite v ≡ true → may_move v item ≡ true → lies v item ≡ true → HasMoved n item v (move_copy item v)
first_moves n item v placed versions cite h cited = go (version item.object v) refl h where
  there : (w : Version) (o : Option CopyRow) → version item.object v ≡ Some w → copy_in item.from w ≡ o → (is_some o && fits_in_place v item w) ≡ true → HasMoved n item v (move_copy item v)
  there w None found held t = absurd cc
  there w (Some old) found held t = held_moves n item v w old placed versions cite found held t cited

  go : (o : Option Version) → version item.object v ≡ o → option_map_or (λ w. takes_place v item w) o false ≡ true → HasMoved n item v (move_copy item v)
  go None found t = absurd cc
  go (Some w) found t = there w (copy_in item.from w) found refl t

-- a copy of another object is where it was
version_still : (item i : MovedCopy) (v : Inv) → not (eqb item.object i.object) ≡ true → version i.object (move_copy item v) ≡ version i.object v
version_still item i v ne = ap (λ (x : Inv). version i.object x) (moves_kept item v).only ∙ other_copied item.object i.object (moved item v) v (other_number item.object i.object ne)

others_may : (item i : MovedCopy) (v : Inv) → not (eqb item.object i.object) ≡ true → may_move v i ≡ true → may_move (move_copy item v) i ≡ true
others_may item i v ne h =
    let u : Inv = change_copy item.object (moved item v) v in
    let volumes : may_move (move_copy item v) i ≡ may_move u i = ap (λ (x : Inv). may_move x i) (moves_kept item v).only in
    let clients : may_move u i ≡ may_move v i = ap (λ (o : Option Version). option_map_or (λ w. takes_place v i w) o false) (other_copied item.object i.object (moved item v) v (other_number item.object i.object ne)) in
    volumes ∙ clients ∙ h

number_still : (item : MovedCopy) (v : Inv) → (move_copy item v).number ≡ v.number
number_still item v = ap (λ (x : Inv). x.number) (moves_kept item v).only

next_to_move : (n : ℕ) (item : MovedCopy) (items : List MovedCopy) (v : Inv) → AreToMove n v (item ∷ items) → HasMoved n item v (move_copy item v) → AreToMove n (move_copy item v) items
next_to_move n item items v a m =
    let fit = and_parts (may_move v item) (list_all (may_move v) items) a.fit in
    let lie = and_parts (lies v item) (list_all (lies v) items) a.lie in
    let once = and_parts (list_all (λ (b : MovedCopy). not (eqb item.object b.object)) items) (all_later (λ (x y : MovedCopy). not (eqb x.object y.object)) items) a.once in
    record {
      placed = ap (λ (m : ℕ). nat_le (m + 1) n) (number_still item v) ∙ a.placed;
      versions = m.versions;
      cite = m.cite;
      fit = all_both (λ (b : MovedCopy). not (eqb item.object b.object)) (may_move v) (may_move (move_copy item v)) (λ i ne h. others_may item i v ne h) items once.0 fit.1;
      lie = all_so (lies v) (lies (move_copy item v)) (λ i h. move_cited item v (row_of v i) ∙ h) items lie.1;
      once = once.1;
    }

old_rows-still : (item : MovedCopy) (items : List MovedCopy) (v : Inv) → list_all (λ (b : MovedCopy). not (eqb item.object b.object)) items ≡ true → old_rows (move_copy item v) items ≡ old_rows v items
old_rows-still item [] v ne = refl
old_rows-still item (i ∷ items) v ne =
    let parts = and_parts (not (eqb item.object i.object)) (list_all (λ (b : MovedCopy). not (eqb item.object b.object)) items) ne in
    ap (λ (o : Option Version). left_of i o ++ old_rows (move_copy item v) items) (version_still item i v parts.0) ∙ ap (λ (l : List (ℕ × CopyRow)). left_of i (version i.object v) ++ l) (old_rows-still item items v parts.1)

-- one copy more in each list
one_more : {A : Type 0} (new old : A) (news olds before between after : List A) → IsReordered (new ∷ before) (old ∷ between) → IsReordered (news ++ between) (olds ++ after) → IsReordered (new ∷ (news ++ before)) (old ∷ (olds ++ after))
one_more {A} new old news olds before between after one more =
    reordered_then (new ∷ (news ++ before)) (news ++ new ∷ before) (old ∷ (olds ++ after)) (reordered_back (news ++ new ∷ before) (new ∷ (news ++ before)) (reordered_front news new before))
    (reordered_then (news ++ new ∷ before) (news ++ old ∷ between) (old ∷ (olds ++ after)) (reordered_behind news (new ∷ before) (old ∷ between) one)
    (reordered_then (news ++ old ∷ between) (old ∷ (news ++ between)) (old ∷ (olds ++ after)) (reordered_front news old between) (reordered_cons old (news ++ between) (olds ++ after) more)))

all_move : (n : ℕ) (items : List MovedCopy) (v : Inv) → AreToMove n v items → HaveMoved n items v (each move_copy items v)
all_move n [] v a = record { versions = a.versions; cite = a.cite; order = reordered_itself (copies v) }
all_move n (i ∷ items) v a =
    let fit = and_parts (may_move v i) (list_all (may_move v) items) a.fit in
    let lie = and_parts (lies v i) (list_all (lies v) items) a.lie in
    let once = and_parts (list_all (λ (b : MovedCopy). not (eqb i.object b.object)) items) (all_later (λ (x y : MovedCopy). not (eqb x.object y.object)) items) a.once in
    let m : HasMoved n i v (move_copy i v) = first_moves n i v a.placed a.versions a.cite fit.0 lie.0 in
    let w : Inv = each move_copy items (move_copy i v) in
    let r : HaveMoved n items (move_copy i v) w = all_move n items (move_copy i v) (next_to_move n i items v a m) in
    let order : IsReordered (new_rows v.number items ++ copies (move_copy i v)) (old_rows v items ++ copies w) =
    subst (λ (k : ℕ). IsReordered (new_rows k items ++ copies (move_copy i v)) (old_rows v items ++ copies w)) (number_still i v)
    (subst (λ (l : List (ℕ × CopyRow)). IsReordered (new_rows (move_copy i v).number items ++ copies (move_copy i v)) (l ++ copies w)) (old_rows-still i items v once.0) r.order) in
    record {
      versions = r.versions;
      cite = r.cite;
      order = subst (λ (l : List (ℕ × CopyRow)). IsReordered (new_rows v.number (i ∷ items) ++ copies v) ((l ++ old_rows v items) ++ copies w)) (sym m.left)
          (one_more (i.object, placed_as v.number i) (i.object, m.old) (new_rows v.number items) (old_rows v items) (copies v) (copies (move_copy i v)) (copies w) m.order order);
    }

-- ---- what the transaction has to fit, and why it is refused

of_pool : (b : Bool) (n : ℕ) (s : Segment) (o : Option Volume) → lies_rightly b n s o ≡ true → is_of_pool n o ≡ true
of_pool b n s None h = h
of_pool b n s (Some w) h = (and_parts (w.pool == n) (nat_le (s.offset + 32 + s.len) w.capacity && (b || s.offset % 4096 == 0)) h).0

on_pool : (moved : List MovedCopy) (v : Inv) (n : ℕ) (s : Segment) → segment_fits_after moved v n s ≡ true → is_of_pool n (row_at s.file v.stores.volumes) ≡ true
on_pool moved v n s h =
    of_pool (is_sequential n v.stores) n s (row_at s.file v.stores.volumes)
    (and_parts (lies_rightly (is_sequential n v.stores) n s (row_at s.file v.stores.volumes)) (list_all (λ e. leaves moved n e.0 || are_clear (is_sequential n v.stores) s e.1) (segments_on s.file v)) h).0

copy_lies : (moved : List MovedCopy) (v : Inv) (i : MovedCopy) (size : ℕ) → copy_fits_after moved v i.pool size i.segments ≡ true → lies v i ≡ true
copy_lies moved v i size h =
    let one = and_parts (is_some (pool i.pool v)) (eqb (sum_by (λ s. s.len) i.segments) size && list_all (segment_fits_after moved v i.pool) i.segments) h in
    let two = and_parts (eqb (sum_by (λ s. s.len) i.segments) size) (list_all (segment_fits_after moved v i.pool) i.segments) one.1 in
    and_from (is_some (pool i.pool v)) (list_all (λ s. is_of_pool i.pool (row_at s.file v.stores.volumes)) i.segments) one.0
    (all_so (segment_fits_after moved v i.pool) (λ s. is_of_pool i.pool (row_at s.file v.stores.volumes)) (on_pool moved v i.pool) i.segments two.1)

copy_segments : (moved : List MovedCopy) (v : Inv) (i : MovedCopy) (size : ℕ) → copy_fits_after moved v i.pool size i.segments ≡ true → list_all (segment_fits_after moved v i.pool) i.segments ≡ true
copy_segments moved v i size h =
    let one = and_parts (is_some (pool i.pool v)) (eqb (sum_by (λ s. s.len) i.segments) size && list_all (segment_fits_after moved v i.pool) i.segments) h in
    (and_parts (eqb (sum_by (λ s. s.len) i.segments) size) (list_all (segment_fits_after moved v i.pool) i.segments) one.1).1

new_segments_fit : (moved : List MovedCopy) (v : Inv) (i : MovedCopy) → moved_copy_fits moved v i ≡ true → list_all (segment_fits_after moved v i.pool) i.segments ≡ true
new_segments_fit moved v i h = go (version i.object v) h where
  go : (o : Option Version) → option_map_or (λ w. replaced_fits moved v i w) o false ≡ true → list_all (segment_fits_after moved v i.pool) i.segments ≡ true
  go None t = absurd cc
  go (Some w) t =
      copy_segments moved v i w.size
      (and_parts (copy_fits_after moved v i.pool w.size i.segments) (not (has_copy i.pool (without_copy i.from w.copies)) && (not (is_primary i.pool v) || list_all (λ (c : CopyRow). eqb c.pool i.from) (primary_copies v w))) t).0

pub new_lies : (moved : List MovedCopy) (v : Inv) (i : MovedCopy) → moved_copy_fits moved v i ≡ true → lies v i ≡ true
new_lies moved v i h = go (version i.object v) h where
  go : (o : Option Version) → option_map_or (λ w. replaced_fits moved v i w) o false ≡ true → lies v i ≡ true
  go None t = absurd cc
  go (Some w) t =
      copy_lies moved v i w.size
      (and_parts (copy_fits_after moved v i.pool w.size i.segments) (not (has_copy i.pool (without_copy i.from w.copies)) && (not (is_primary i.pool v) || list_all (λ (c : CopyRow). eqb c.pool i.from) (primary_copies v w))) t).0

-- the copy that moves is there
abbrev is_held : Inv → MovedCopy → Bool
is_held v i = option_map_or (λ w. is_some (copy_in i.from w)) (version i.object v) false

placed_there : (n : ℕ) (o : Option CopyRow) → placed_by n o ≡ true → is_some o ≡ true
placed_there n None h = h
placed_there n (Some c) h = refl

held : (j : Journal) (v : Inv) (i : MovedCopy) → moved_refused j v i ≡ [] → is_held v i ≡ true
held j v i h = go (version i.object v) h where
  go : (o : Option Version) → of_version j i.object (copy_refused j i.object i.from i.placed) o ≡ [] → option_map_or (λ w. is_some (copy_in i.from w)) o false ≡ true
  go None t = absurd cc
  go (Some w) t = placed_there i.placed (copy_in i.from w) (unless_holds (placed_by i.placed (copy_in i.from w)) (stale_copy (j.copy_changed i.object i.from) (copy_in i.from w)) t)

may : (moved : List MovedCopy) (v : Inv) (i : MovedCopy) → is_held v i ≡ true → moved_copy_fits moved v i ≡ true → may_move v i ≡ true
may moved v i h k = go (version i.object v) h k where
  go : (o : Option Version) → option_map_or (λ w. is_some (copy_in i.from w)) o false ≡ true → option_map_or (λ w. replaced_fits moved v i w) o false ≡ true → option_map_or (λ w. takes_place v i w) o false ≡ true
  go None s t = t
  go (Some w) s t =
      let last : Bool = not (has_copy i.pool (without_copy i.from w.copies)) && (not (is_primary i.pool v) || list_all (λ (c : CopyRow). eqb c.pool i.from) (primary_copies v w)) in
      let one = and_parts (copy_fits_after moved v i.pool w.size i.segments) last t in
      let two = and_parts (is_some (pool i.pool v)) (eqb (sum_by (λ s. s.len) i.segments) w.size && list_all (segment_fits_after moved v i.pool) i.segments) one.0 in
      let three = and_parts (eqb (sum_by (λ s. s.len) i.segments) w.size) (list_all (segment_fits_after moved v i.pool) i.segments) two.1 in
      and_from (is_some (copy_in i.from w)) (fits_in_place v i w) s
      (and_from (is_some (pool i.pool v)) (eqb (sum_by (λ s. s.len) i.segments) w.size && last) two.0
      (and_from (eqb (sum_by (λ s. s.len) i.segments) w.size) last three.0 one.1))

-- where the versions are the same
held_still : (v u : Inv) → u.clients ≡ v.clients → (i : MovedCopy) → is_held v i ≡ true → is_held u i ≡ true
held_still v u same i h = ap (λ (c : Rows). option_map_or (λ w. is_some (copy_in i.from w)) (version_of i.object (kept_of c)) false) same ∙ h

parts_of : (c : MovedCopies) (v : Inv) → parts_fit (change.Move c) v ≡ true → (scratch_fits v c.scratch ≡ true) × (items_fit (moved_copy_fits c.items) (λ i. i.segments) c.items (each make_scratch c.scratch v) ≡ true)
unfolding parts_fit
parts_of c v h = and_parts (scratch_fits v c.scratch) (items_fit (moved_copy_fits c.items) (λ i. i.segments) c.items (each make_scratch c.scratch v)) h

effect_of : (c : MovedCopies) (v : Inv) → effect (change.Move c) v ≡ record (each move_copy c.items (each put_moved c.items (each make_scratch c.scratch v))) { number = v.number + 1 }
unfolding effect
effect_of c v = refl

-- ---- the segments of copies that move go from their volumes

abbrev gone_from : Inv → MovedCopy → Inv → Inv
gone_from base i v = take_away i.object (segments_in i.from (version i.object base)) v

abbrev going : Inv → List MovedCopy → List (ℕ × Segment)
going base items = flat_map (λ (i : MovedCopy). of_object i.object (segments_in i.from (version i.object base))) items

abbrev all_gone : Inv → List MovedCopy → Inv → Inv
all_gone base items v = each (gone_from base) items v

gone-with_clients : (base : Inv) (items : List MovedCopy) (rows : Rows) (v : Inv) → all_gone base items (with_clients rows v) ≡ with_clients rows (all_gone base items v)
gone-with_clients base [] rows v = refl
gone-with_clients base (i ∷ items) rows v =
    ap (all_gone base items) (take-with_clients i.object (segments_in i.from (version i.object base)) rows v) ∙ gone-with_clients base items rows (gone_from base i v)

puts-with_clients : (items : List MovedCopy) (rows : Rows) (v : Inv) → each put_moved items (with_clients rows v) ≡ with_clients rows (each put_moved items v)
puts-with_clients [] rows v = refl
puts-with_clients (i ∷ items) rows v = ap (each put_moved items) (put-with_clients i.object i.segments rows v) ∙ puts-with_clients items rows (put_moved i v)

gone_kept : (base : Inv) (items : List MovedCopy) (v : Inv) → OnlyVolumes v (all_gone base items v)
gone_kept base [] v = kept_same v
gone_kept base (i ∷ items) v =
    kept_then v (gone_from base i v) (all_gone base (i ∷ items) v) (take_kept i.object (segments_in i.from (version i.object base)) v) (gone_kept base items (gone_from base i v))

gone_facts : (base : Inv) (items : List MovedCopy) (p : List (ℕ × Segment)) (v : Inv) → VolumeFacts (going base items ++ p) v → VolumeFacts p (all_gone base items v)
gone_facts base [] p v f = f
gone_facts base (i ∷ items) p v f =
    let segments : List Segment = segments_in i.from (version i.object base) in
    gone_facts base items p (gone_from base i v)
    (take_list (going base items ++ p) i.object segments v (subst (λ (l : List (ℕ × Segment)). VolumeFacts l v) (append_assoc (of_object i.object segments) (going base items) p) f))

-- they may go before the new ones come
gone_turns : (base : Inv) (gone items : List MovedCopy) (p : List (ℕ × Segment)) (v : Inv) → Bears (going base gone ++ p) v → all_gone base gone (each put_moved items v) ≡ each put_moved items (all_gone base gone v)
gone_turns base [] items p v h = refl
gone_turns base (i ∷ gone) items p v h =
    let segments : List Segment = segments_in i.from (version i.object base) in
    let first : Bears (of_object i.object segments ++ (going base gone ++ p)) v = subst (λ (l : List (ℕ × Segment)). Bears l v) (append_assoc (of_object i.object segments) (going base gone) p) h in
    ap (all_gone base gone) (list_turns i.object segments items (going base gone ++ p) v first)
    ∙ gone_turns base gone items p (gone_from base i v) (bears_taken i.object segments (going base gone ++ p) v first)

-- but for the clients' rows, that is all that becomes of the database
rows_aside : (w x : Inv) (rows : Rows) → w ≡ with_clients rows x → w ≡ with_clients w.clients x
rows_aside w x rows h = h ∙ ap (λ (r : Rows). with_clients r x) (sym (ap (λ (y : Inv). y.clients) h))

one_aside : (base : Inv) (i : MovedCopy) (v x : Inv) → version i.object v ≡ version i.object base → v ≡ with_clients v.clients x → move_copy i v ≡ with_clients (move_copy i v).clients (gone_from base i x)
one_aside base i v x same aside =
    let taken : take_moved i v ≡ with_clients v.clients (gone_from base i x) =
    ap (λ (o : Option Version). take_away i.object (segments_in i.from o) v) same
    ∙ ap (take_away i.object (segments_in i.from (version i.object base))) aside
    ∙ take-with_clients i.object (segments_in i.from (version i.object base)) v.clients x in
    let rows : Rows = or_same (take_moved i v).clients (rows_altered i.object (moved i v) (take_moved i v).clients) in
    rows_aside (move_copy i v) (gone_from base i x) rows (ap (with_clients rows) taken)

-- the copies of these objects are those of the base
AreOfBase : Inv → Inv → List MovedCopy → Type 0
AreOfBase base v items = AllByRecursion (λ (i : MovedCopy). version i.object v ≡ version i.object base) items

still_of_base : (base : Inv) (item : MovedCopy) (items : List MovedCopy) (v : Inv) → list_all (λ (b : MovedCopy). not (eqb item.object b.object)) items ≡ true → AreOfBase base v items → AreOfBase base (move_copy item v) items
unfolding AreOfBase
still_of_base base item [] v ne h = tt
still_of_base base item (i ∷ items) v ne h =
    let parts = and_parts (not (eqb item.object i.object)) (list_all (λ (b : MovedCopy). not (eqb item.object b.object)) items) ne in
    (version_still item i v parts.0 ∙ h.0, still_of_base base item items v parts.1 h.1)

all_aside : (base : Inv) (items : List MovedCopy) (v x : Inv) → all_later (λ (a b : MovedCopy). not (eqb a.object b.object)) items ≡ true → AreOfBase base v items → v ≡ with_clients v.clients x
    → each move_copy items v ≡ with_clients (each move_copy items v).clients (all_gone base items x)
unfolding AreOfBase
all_aside base [] v x once h aside = aside
all_aside base (i ∷ items) v x once h aside =
    let parts = and_parts (list_all (λ (b : MovedCopy). not (eqb i.object b.object)) items) (all_later (λ (x y : MovedCopy). not (eqb x.object y.object)) items) once in
    all_aside base items (move_copy i v) (gone_from base i x) parts.1 (still_of_base base i items v parts.0 h.1) (one_aside base i v x h.0 aside)

of_base : (base v : Inv) (items : List MovedCopy) → v.clients ≡ base.clients → AreOfBase base v items
unfolding AreOfBase
of_base base v [] same = tt
of_base base v (i ∷ items) same = (ap (λ (c : Rows). version_of i.object (kept_of c)) same, of_base base v items same)

-- ---- the segments of the copies, and of those that stay

segments_both : (a b : List (ℕ × CopyRow)) → segments_of (a ++ b) ≡ segments_of a ++ segments_of b
segments_both a b = flat_map-append (λ (e : ℕ × CopyRow). map (λ s. (e.0, s)) e.1.segments) a b

going_left : (i : MovedCopy) (o : Option Version) → segments_of (left_of i o) ≡ of_object i.object (segments_in i.from o)
going_left i None = refl
going_left i (Some w) = go (copy_in i.from w) where
  go : (c : Option CopyRow) → segments_of (option_map_or (λ c. (i.object, c) ∷ []) c []) ≡ of_object i.object (option_map_or (λ (c : CopyRow). c.segments) c [])
  go None = refl
  go (Some c) = append-nil (of_object i.object c.segments)

going_rows : (base : Inv) (items : List MovedCopy) → segments_of (old_rows base items) ≡ going base items
going_rows base [] = refl
going_rows base (i ∷ items) =
    segments_both (left_of i (version i.object base)) (old_rows base items)
    ∙ ap (λ (l : List (ℕ × Segment)). l ++ segments_of (old_rows base items)) (going_left i (version i.object base))
    ∙ ap (λ (l : List (ℕ × Segment)). of_object i.object (segments_in i.from (version i.object base)) ++ l) (going_rows base items)

coming_rows : (number : ℕ) (items : List MovedCopy) → segments_of (new_rows number items) ≡ new_segments items
coming_rows number [] = refl
coming_rows number (i ∷ items) = ap (λ (l : List (ℕ × Segment)). of_object i.object i.segments ++ l) (coming_rows number items)

each_by_pool : (v : Inv) (ws : List Version) → list_all (is_copied v) ws ≡ true → list_all (λ (w : Version). are_by_pool w.copies) ws ≡ true
each_by_pool v ws h = all_so (is_copied v) (λ (w : Version). are_by_pool w.copies) (λ w t. by_pool w t) ws h where
  by_pool : (w : Version) → is_copied v w ≡ true → are_by_pool w.copies ≡ true
  by_pool w t =
      let few : Bool = nat_le (length (primary_copies v w)) 1 in
      let sizes : Bool = list_all (λ c. sum_by (λ s. s.len) c.segments == w.size) w.copies in
      let one = and_parts (not (is_nil w.copies)) (few && (are_by_pool w.copies && sizes)) t in
      let two = and_parts few (are_by_pool w.copies && sizes) one.1 in
      (and_parts (are_by_pool w.copies) sizes two.1).0

-- all copies are those that leave and those that stay
pub copies_parted : (n : ℕ) (v : Inv) (items : List MovedCopy) → VersionFacts n v → all_later (λ (a b : MovedCopy). not (eqb a.object b.object)) items ≡ true → IsReordered (copies v) (old_rows v items ++ staying items (copies v))
copies_parted n v items f once = parted (λ (i : MovedCopy). left_of i (version i.object v)) items (copies v) once (each_matches items) where
  each_matches : (is : List MovedCopy) → AllByRecursion (λ (i : MovedCopy). filter (matches i) (copies v) ≡ left_of i (version i.object v)) is
  each_matches [] = tt
  each_matches (i ∷ is) = (one_matches i (versions v) f.objects_apart (each_by_pool v (versions v) f.copied), each_matches is)

-- the same elements in front of both lists
less_one : {A : Type 0} (x : A) (xs ys : List A) → IsReordered (x ∷ xs) (x ∷ ys) → IsReordered xs ys
less_one {A} x xs ys r = go r.1.before r.1.after r.1.was r.1.becomes where
  go : (before after : List A) → x ∷ ys ≡ before ++ x ∷ after → r.0 ≡ before ++ after → IsReordered xs ys
  go [] after was becomes =
      let same : ys ≡ after = cc in
      subst (IsReordered xs) (becomes ∙ sym same) r.2
  go (b ∷ before) after was becomes =
      let first : x ≡ b = cc in
      let rest : ys ≡ before ++ x ∷ after = cc in
      let left : IsReordered xs (x ∷ (before ++ after)) = subst (IsReordered xs) (becomes ∙ ap (λ (y : A). y ∷ (before ++ after)) (sym first)) r.2 in
      subst (IsReordered xs) (sym rest) (reordered_then xs (x ∷ (before ++ after)) (before ++ x ∷ after) left (reordered_back (before ++ x ∷ after) (x ∷ (before ++ after)) (reordered_front before x after)))

less_all : {A : Type 0} (zs xs ys : List A) → IsReordered (zs ++ xs) (zs ++ ys) → IsReordered xs ys
less_all [] xs ys r = r
less_all (z ∷ zs) xs ys r = less_all zs xs ys (less_one z (zs ++ xs) (zs ++ ys) r)

-- so the copies that move come in the place of those that left
pub replaced_rows : {A : Type 0} (news olds stay before after : List A) → IsReordered before (olds ++ stay) → IsReordered (news ++ before) (olds ++ after) → IsReordered (news ++ stay) after
replaced_rows {A} news olds stay before after left all =
    less_all olds (news ++ stay) after
    (reordered_then (olds ++ (news ++ stay)) (news ++ (olds ++ stay)) (olds ++ after) (reordered_first olds news stay)
    (reordered_then (news ++ (olds ++ stay)) (news ++ before) (olds ++ after) (reordered_behind news (olds ++ stay) before (reordered_back before (olds ++ stay) left)) all))

-- ---- the new segments may come once those have gone

come_kept : (p : List (ℕ × Segment)) (v w : Inv) (k : OnlyVolumes v w) (rest : List (ℕ × Segment)) → MayCome p v rest → MayCome p w rest
come_kept p v w k rest m = record {
  lie = all_same (λ e. lies_rightly (is_sequential_at e.1.file w.stores) e.0 e.1 (row_at e.1.file w.stores.volumes)) (λ e. lies_rightly (is_sequential_at e.1.file v.stores) e.0 e.1 (row_at e.1.file v.stores.volumes)) (λ e. lies_kept v w k e.0 e.1) rest ∙ m.lie;
  clear = all_same (λ e. is_clear_there p w e.1) (λ e. is_clear_there p v e.1) (λ e. clear_kept v w k p e.1) rest ∙ m.clear;
  apart = all_later-same (λ a b. is_clear_of w a.1 b.1) (λ a b. is_clear_of v a.1 b.1) (λ a b. ap (λ c. not (a.1.file == b.1.file) || are_clear c a.1 b.1) (sequential_kept v w k a.1.file)) rest ∙ m.apart;
}

-- those of a copy that stays are not let off
clear_one : (moved : List MovedCopy) (file n object : ℕ) (p : ℕ × Segment → Bool) (volumes : List (ℕ × Volume)) (w : Volume) → row_at file volumes ≡ Some w → w.pool ≡ n → (number : ℕ) (segments : List Segment)
    → leaves moved number object ≡ false → list_all (λ s. is_of_pool number (row_at s.file volumes)) segments ≡ true
    → list_all (λ e. leaves moved n e.0 || p e) (map (λ s. (object, s)) (filter (λ s. s.file == file) segments)) ≡ true → list_all p (map (λ s. (object, s)) (filter (λ s. s.file == file) segments)) ≡ true
clear_one moved file n object p volumes w found of number [] stays cite h = refl
clear_one moved file n object p volumes w found of number (s ∷ segments) stays cite h =
    let here = and_parts (is_of_pool number (row_at s.file volumes)) (list_all (λ s. is_of_pool number (row_at s.file volumes)) segments) cite in
    go (eqb s.file file) refl here.0 (λ t. clear_one moved file n object p volumes w found of number segments stays here.1 t) h
  where
    go : (b : Bool) → eqb s.file file ≡ b → is_of_pool number (row_at s.file volumes) ≡ true
        → (list_all (λ e. leaves moved n e.0 || p e) (map (λ s. (object, s)) (filter (λ s. s.file == file) segments)) ≡ true → list_all p (map (λ s. (object, s)) (filter (λ s. s.file == file) segments)) ≡ true)
        → list_all (λ e. leaves moved n e.0 || p e) (map (λ s. (object, s)) (cond {A = List Segment} b (s ∷ filter (λ s. s.file == file) segments) (filter (λ s. s.file == file) segments))) ≡ true
        → list_all p (map (λ s. (object, s)) (cond {A = List Segment} b (s ∷ filter (λ s. s.file == file) segments) (filter (λ s. s.file == file) segments))) ≡ true
    go false off its more t = more t
    go true on its more t =
        let rest : List (ℕ × Segment) = map (λ (s : Segment). (object, s)) (filter (λ s. s.file == file) segments) in
        let parts = and_parts (leaves moved n object || p (object, s)) (list_all (λ e. leaves moved n e.0 || p e) rest) t in
        let there : row_at s.file volumes ≡ Some w = ap (λ k. row_at k volumes) (eqb-true s.file file on) ∙ found in
        let here : eqb w.pool number ≡ true = sym (ap (is_of_pool number) there) ∙ its in
        let same : n ≡ number = sym of ∙ eqb-true w.pool number here in
        let clear : p (object, s) ≡ true = sym (ap (λ b. b || p (object, s)) (ap (λ k. leaves moved k object) same ∙ stays)) ∙ parts.0 in
        and_from (p (object, s)) (list_all p rest) clear (more parts.1)

clear_rows : (moved : List MovedCopy) (file n : ℕ) (p : ℕ × Segment → Bool) (v : Inv) (w : Volume) → row_at file v.stores.volumes ≡ Some w → w.pool ≡ n → (rows : List (ℕ × CopyRow)) → list_all (is_cited v) rows ≡ true
    → list_all (λ e. leaves moved n e.0 || p e) (on_file file rows) ≡ true → list_all p (on_file file (staying moved rows)) ≡ true
clear_rows moved file n p v w found of [] cite h = refl
clear_rows moved file n p v w found of (e ∷ rows) cite h =
    let here : List (ℕ × Segment) = map (λ (s : Segment). (e.0, s)) (filter (λ s. s.file == file) e.1.segments) in
    let cited = and_parts (is_cited v e) (list_all (is_cited v) rows) cite in
    let parts = list_all-parts (λ e. leaves moved n e.0 || p e) here (on_file file rows) h in
    let more : list_all p (on_file file (staying moved rows)) ≡ true = clear_rows moved file n p v w found of rows cited.1 parts.1 in
    let its = and_parts (is_some (pool e.1.pool v)) (list_all (λ s. is_of_pool e.1.pool (row_at s.file v.stores.volumes)) e.1.segments) cited.0 in
    elim (is_going moved e) as (λ b. is_going moved e ≡ b → list_all p (on_file file (cond {A = List (ℕ × CopyRow)} (not b) (e ∷ staying moved rows) (staying moved rows))) ≡ true) [
      | true ↦ λ leaving. more
      | false ↦ λ stays.
          list_all-append p here (on_file file (staying moved rows)) (clear_one moved file n e.0 p v.stores.volumes w found of e.1.pool e.1.segments stays its.1 parts.0) more
    ] refl

-- a new segment is clear of what stays
clear_after : (moved : List MovedCopy) (v : Inv) (n : ℕ) (s : Segment) → copies_cite v ≡ true → segment_fits_after moved v n s ≡ true → is_clear_there (segments_of (staying moved (copies v))) (with_clients nothing v) s ≡ true
clear_after moved v n s cite h =
    let parts = and_parts (lies_rightly (is_sequential n v.stores) n s (row_at s.file v.stores.volumes)) (list_all (λ e. leaves moved n e.0 || are_clear (is_sequential n v.stores) s e.1) (segments_on s.file v)) h in
    go (row_at s.file v.stores.volumes) refl parts.0 (lies_at_pool n s v.stores parts.0) parts.1
  where
    go : (o : Option Volume) → row_at s.file v.stores.volumes ≡ o → lies_rightly (is_sequential n v.stores) n s o ≡ true → is_sequential_at s.file v.stores ≡ is_sequential n v.stores
        → list_all (λ e. leaves moved n e.0 || are_clear (is_sequential n v.stores) s e.1) (segments_on s.file v) ≡ true → is_clear_there (segments_of (staying moved (copies v))) (with_clients nothing v) s ≡ true
    go None found t same clear = absurd cc
    go (Some w) found t same clear =
        let of : w.pool ≡ n = eqb-true w.pool n (and_parts (w.pool == n) (nat_le (s.offset + 32 + s.len) w.capacity && (is_sequential n v.stores || s.offset % 4096 == 0)) t).0 in
        ap (λ b. list_all (λ e. are_clear b s e.1) (pending_on s.file (segments_of (staying moved (copies v))))) same
        ∙ ap (list_all (λ e. are_clear (is_sequential n v.stores) s e.1)) (pending-segments_of s.file (staying moved (copies v)))
        ∙ clear_rows moved s.file n (λ e. are_clear (is_sequential n v.stores) s e.1) v w found of (copies v) cite clear

moved_may_come : (items : List MovedCopy) (v : Inv) → copies_cite v ≡ true → items_fit (moved_copy_fits items) (λ i. i.segments) items v ≡ true → MayCome (segments_of (staying items (copies v))) (with_clients nothing v) (segments_to_come items)
moved_may_come items v cite h =
    let parts = and_parts (list_all (moved_copy_fits items v) items) (are_all_clear v (flat_map (λ (i : MovedCopy). i.segments) items)) h in
    may_come_by (λ (i : MovedCopy). i.pool) (λ i. i.segments) items (segments_of (staying items (copies v))) (with_clients nothing v) (segment_fits_after items v)
    (λ n s t. fits_lies_after items v n s t) (λ n s t. clear_after items v n s cite t)
    (all_so (moved_copy_fits items v) (λ i. list_all (segment_fits_after items v i.pool) i.segments) (new_segments_fit items v) items parts.0) parts.1

-- ---- the volumes afterwards

bears_facts : (p : List (ℕ × Segment)) (v : Inv) → VolumeFacts p (with_clients nothing v) → Bears p v
bears_facts p v f file w found = each_there (λ (e : ℕ × Volume). e.1.segments ≡ holding (lying p e.0 (with_clients nothing v))) file w v.stores.volumes found f.tied

no_copies : (v w : Inv) → OnlyVolumes (with_clients nothing v) w → copies w ≡ []
no_copies v w k = ap (λ (x : Inv). copies x) k.only

record AreHeld (n : ℕ) (items : List MovedCopy) (u : Inv) : Type 0 where
  steady : IsSteady n [] u
  fit : items_fit (moved_copy_fits items) (λ i. i.segments) items u ≡ true
  once : all_later (λ (a b : MovedCopy). not (eqb a.object b.object)) items ≡ true

volumes_after : (n : ℕ) (items : List MovedCopy) (u : Inv) → AreHeld n items u → HaveMoved n items (each put_moved items u) (each move_copy items (each put_moved items u)) → VolumeFacts [] (each move_copy items (each put_moved items u))
volumes_after n items u a m =
    let bare : Inv = with_clients nothing u in
    let x : Inv = each put_moved items u in
    let w : Inv = each move_copy items x in
    let stay : List (ℕ × CopyRow) = staying items (copies u) in
    let kept : OnlyVolumes u x = moved_kept items u in
    let whole : VolumeFacts (segments_of (copies u) ++ []) bare =
    facts_swapped [] (copies u) [] u bare refl refl refl refl (subst (IsReordered (copies u)) (sym (append-nil (copies u))) (reordered_itself (copies u))) a.steady.volumes in
    let part : IsReordered (copies u) (old_rows u items ++ stay) = copies_parted n u items a.steady.versions a.once in
    let apart : segments_of (old_rows u items ++ stay) ≡ going u items ++ segments_of stay = segments_both (old_rows u items) stay ∙ ap (λ (l : List (ℕ × Segment)). l ++ segments_of stay) (going_rows u items) in
    let order : IsReordered (segments_of (copies u) ++ []) (going u items ++ segments_of stay) =
    subst (λ (l : List (ℕ × Segment)). IsReordered l (going u items ++ segments_of stay)) (sym (append-nil (segments_of (copies u))))
    (subst (IsReordered (segments_of (copies u))) apart (reordered-flat_map (λ (e : ℕ × CopyRow). map (λ s. (e.0, s)) e.1.segments) (copies u) (old_rows u items ++ stay) part)) in
    let begun : VolumeFacts (going u items ++ segments_of stay) bare = facts_reordered (segments_of (copies u) ++ []) (going u items ++ segments_of stay) bare whole order in
    let gone : VolumeFacts (segments_of stay) (all_gone u items bare) = gone_facts u items (segments_of stay) bare begun in
    let may : MayCome (segments_of stay) (all_gone u items bare) (segments_to_come items) =
    come_kept (segments_of stay) bare (all_gone u items bare) (gone_kept u items bare) (segments_to_come items) (moved_may_come items u a.steady.cite a.fit) in
    let y : Inv = each put_moved items (all_gone u items bare) in
    let came : VolumeFacts (new_segments items ++ segments_of stay) y =
    (moved_come (segments_of stay) items (all_gone u items bare) [] gone (subst (MayCome (segments_of stay) (all_gone u items bare)) (sym (append-nil (segments_to_come items))) may)).facts in
    let number : x.number ≡ u.number = ap (λ (z : Inv). z.number) kept.only in
    let its : new_segments items ++ segments_of stay ≡ segments_of (new_rows x.number items ++ stay) ++ [] =
    ap (λ (l : List (ℕ × Segment)). l ++ segments_of stay) (sym (coming_rows x.number items)) ∙ sym (segments_both (new_rows x.number items) stay) ∙ sym (append-nil (segments_of (new_rows x.number items ++ stay))) in
    let same : copies x ≡ copies u = ap (λ (z : Inv). copies z) kept.only in
    let olds : old_rows x items ≡ old_rows u items = ap (λ (z : Inv). old_rows z items) kept.only in
    let rows : IsReordered (new_rows x.number items ++ stay) (copies w) =
    replaced_rows (new_rows x.number items) (old_rows u items) stay (copies u) (copies w) part
    (subst (λ (l : List (ℕ × CopyRow)). IsReordered (new_rows x.number items ++ l) (old_rows u items ++ copies w)) same (subst (λ (l : List (ℕ × CopyRow)). IsReordered (new_rows x.number items ++ copies x) (l ++ copies w)) olds m.order)) in
    let clients : Rows = w.clients in
    let turned : all_gone u items x ≡ each put_moved items (all_gone u items u) = gone_turns u items items (segments_of stay) u (bears_facts (going u items ++ segments_of stay) u begun) in
    let aside : w ≡ with_clients clients (all_gone u items x) = all_aside u items x x a.once (of_base u x items (ap (λ (z : Inv). z.clients) kept.only)) refl in
    let bared : y ≡ with_clients nothing (each put_moved items (all_gone u items u)) =
    ap (each put_moved items) (gone-with_clients u items nothing u) ∙ puts-with_clients items nothing (all_gone u items u) in
    let is : w ≡ with_clients clients y = aside ∙ ap (with_clients clients) turned ∙ ap (with_clients clients) (sym bared) in
    let none : copies y ≡ [] = no_copies u y (kept_then bare (all_gone u items bare) y (gone_kept u items bare) (moved_kept items (all_gone u items bare))) in
    let left : IsReordered ((new_rows x.number items ++ stay) ++ copies y) (copies (with_clients clients y)) =
    subst (λ (l : List (ℕ × CopyRow)). IsReordered ((new_rows x.number items ++ stay) ++ l) (copies (with_clients clients y))) (sym none)
    (subst (λ (l : List (ℕ × CopyRow)). IsReordered l (copies (with_clients clients y))) (sym (append-nil (new_rows x.number items ++ stay)))
    (subst (λ (z : Inv). IsReordered (new_rows x.number items ++ stay) (copies z)) is rows)) in
    subst (VolumeFacts []) (sym is)
    (facts_swapped (new_rows x.number items ++ stay) [] [] y (with_clients clients y) refl refl refl refl left (subst (λ (l : List (ℕ × Segment)). VolumeFacts l y) its came))

-- ---- the transaction

begin : (j : Journal) (items : List MovedCopy) (v u : Inv) → u.clients ≡ v.clients → u.number ≡ v.number → IsSteady (v.number + 1) [] u → move_refused j items v ≡ [] → items_fit (moved_copy_fits items) (λ i. i.segments) items u ≡ true
    → AreToMove (v.number + 1) (each put_moved items u) items
begin j items v u clients number s h fit =
    let why = both_none (unless (name_once (map (λ (i : MovedCopy). i.object) items)) bad_value) (flat_map (moved_refused j v) items) h in
    let parts = and_parts (list_all (moved_copy_fits items u) items) (are_all_clear u (flat_map (λ (i : MovedCopy). i.segments) items)) fit in
    let k : OnlyVolumes u (each put_moved items u) = moved_kept items u in
    let numbers : (each put_moved items u).number ≡ v.number = ap (λ (x : Inv). x.number) k.only ∙ number in
    let there : list_all (is_held v) items ≡ true = all_taken (moved_refused j v) (is_held v) (held j v) items why.1 in
    record {
      placed = ap (λ (m : ℕ). nat_le (m + 1) (v.number + 1)) numbers ∙ no_later (v.number + 1);
      versions = versions_kept (v.number + 1) u (each put_moved items u) k s.versions;
      cite = cite_kept u (each put_moved items u) k ∙ s.cite;
      fit =
          all_both (is_held v) (moved_copy_fits items u) (may_move (each put_moved items u)) (λ i a b. ap (λ (x : Inv). may_move x i) k.only ∙ may items u i (held_still v u clients i a) b) items there parts.0;
      lie = all_so (moved_copy_fits items u) (lies (each put_moved items u)) (λ i b. cited_kept u (each put_moved items u) k (row_of u i) ∙ new_lies items u i b) items parts.0;
      once = named_once (λ (i : MovedCopy). i.object) items (unless_holds (name_once (map (λ (i : MovedCopy). i.object) items)) bad_value why.0);
    }

pub copies_move : (j : Journal) (c : MovedCopies) (v : Inv) → is_valid v ≡ true → IsTied v → causes j (change.Move c) v ≡ [] → sizes_refused (change.Move c) v ≡ [] → parts_fit (change.Move c) v ≡ true
    → (is_valid (effect (change.Move c) v) ≡ true) × IsTied (effect (change.Move c) v)
copies_move j c v valid tied h sizes fit =
    let f : Facts v = facts_of v valid in
    let why = both_none (move_refused j c.items v) (scratch_refused c.scratch v) h in
    let parts = parts_of c v fit in
    let u : Inv = each make_scratch c.scratch v in
    let x : Inv = each put_moved c.items u in
    let only = all_scratch_only c.scratch v in
    let s : IsSteady (v.number + 1) [] u = scratch_steady (v.number + 1) c.scratch v why.1 parts.0 (steady_begins (v.number + 1) v f tied (before_next v.number)) in
    let to : AreToMove (v.number + 1) x c.items = begin j c.items v u only.clients only.number s why.0 parts.1 in
    let moved : HaveMoved (v.number + 1) c.items x (each move_copy c.items x) = all_move (v.number + 1) c.items x to in
    let done : IsSteady (v.number + 1) [] (each move_copy c.items x) = record {
      versions = moved.versions;
      volumes = volumes_after (v.number + 1) c.items u (record { steady = s; fit = parts.1; once = to.once }) moved;
      cite = moved.cite;
    } in
    data_ends (change.Move c) v refl f done sizes
