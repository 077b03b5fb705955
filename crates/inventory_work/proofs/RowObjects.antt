-- The copies of the objects of which a volume's row holds segments are those that lie on the volume.
use Rattle.std.proofs.Common.{◌≡◌, ℕ, ◌≤◌, Bool, true, false, cond, eqb, not, ◌&&◌, ◌||◌, ◌==◌, List, [], ◌∷◌, ◌++◌, map, filter, find, Some, None, Result, refl, sym, ap, subst, ◌∙◌, arith}
use Rattle.std.proofs.lemmas.Bool.{and_from, and_parts, eq-eqb, eqb-true, false≢true}
use Rattle.std.proofs.lemmas.Bool.Decides.{nat_tests}
use Rattle.std.proofs.lemmas.Grind.{flat_map-append}
use Rattle.std.proofs.lemmas.List.{append-nil}
use Rattle.std.proofs.lemmas.List.Folds.{list_all-append}
use Rattle.std.proofs.lemmas.Map.Lookups.{exact_unsigned}
use Rattle.std.specs.BTreeSet.{insert_key}
use Rattle.std.specs.List.{AllByRecursion, flat_map, list_all, list_any}
use Rattle.std.specs.List.Sorted.{IsStrictlySortedBy}
use Rattle.std.specs.Map.{keys_of}
use Rattle.std.specs.Option.{option_map_or}
use Rattle.std.specs.Ordering.{match_ordering, nat_cmp}
use Rattle.std.specs.declared.cmp.Ordering.TheVariants.{Less, Equal, Greater}
use Rattle.kinds.specs.Answers.{AnswersBy}
use Rattle.kinds.specs.declared.refusal.Refusal.{Refusal}
use Rattle.kinds.specs.declared.segment.Segment.{Segment}
use Rattle.inventory_rows.proofs.of_pool_tables.Counting.{each_there}
use Rattle.inventory_rows.proofs.of_version_groups.Lists.{version_of-object}
use Rattle.inventory_rows.specs.Search.{lies_on}
use Rattle.inventory_rows.specs.State.{Inv}
use Rattle.inventory_rows.specs.object_rows.Rows.{IsSound, Rows, kept_of}
use Rattle.inventory_rows.specs.pool_tables.Rows.{row_at}
use Rattle.inventory_rows.specs.version_groups.Entries.{all_later}
use Rattle.inventory_rows.specs.version_groups.Versions.{version_of}
use Rattle.inventory_rows.specs.version_groups.declared.copies.CopyRow.{CopyRow}
use Rattle.inventory_rows.specs.version_groups.declared.versions.Version.{Version}
use Rattle.inventory_rows.specs.volume_rows.declared.held.HeldSegment.{HeldSegment}
use Rattle.inventory_rows.specs.volume_rows.declared.volume.Volume.{Volume as VolumeRow}
use Rattle.inventory_work.proofs.OneObject.{AreOf, filter-once, found_one, of_object, of_object-flat, of_version, one_object}
use Rattle.inventory_work.proofs.Sorting.{AreAtLeast, Rises, by_object-from_objects}
use Rattle.inventory_work.specs.Copies.{copies_found, copies_of_version, copies_where, copy_line, copy_lines}
use Rattle.inventory_work.specs.Lists.{only}
use Rattle.inventory_work.specs.OnVolume.{RowsHoldObjects, copies_of_object, has_none, holds_none, node_of_object, objects_of}
use Rattle.inventory_work.specs.declared.copies.Where.{Where}
use Rattle.inventory_work.specs.declared.copies.Where.TheVariants.{Volume}
use Rattle.inventory_work.specs.declared.lines.CopyLine.{CopyLine}

-- ---- the objects of the segments

-- none of the numbers is this one
abbrev lacks : ℕ → List ℕ → Bool
lacks n ks = list_all (λ k. not (eqb k n)) ks

twice : (a b : Bool) → (a && b) ≡ (a && (a && b))
twice true b = refl
twice false b = refl

turned : (a b c : Bool) → (a && (b && c)) ≡ (b && (a && c))
turned true b c = refl
turned false true c = refl
turned false false c = refl

lacks-inserted : (n k : ℕ) (ks : List ℕ) → lacks n (insert_key nat_cmp ks k) ≡ (not (eqb k n) && lacks n ks)
lacks-inserted n k [] = refl
lacks-inserted n k (x ∷ xs) =
    elim (nat_cmp k x) as (λ o. nat_cmp k x ≡ o → lacks n (match_ordering o (k ∷ x ∷ xs) (x ∷ xs) (x ∷ insert_key nat_cmp xs k)) ≡ (not (eqb k n) && lacks n (x ∷ xs))) [
      | Less ↦ λ _. refl
      | Equal ↦ λ same. twice (not (eqb x n)) (lacks n xs) ∙ ap (λ m. not (eqb m n) && lacks n (x ∷ xs)) (sym (exact_unsigned k x same))
      | Greater ↦ λ _. ap (λ b. not (eqb x n) && b) (lacks-inserted n k xs) ∙ turned (not (eqb x n)) (not (eqb k n)) (lacks n xs)
    ] refl

lacks-objects : (n : ℕ) (ks : List ℕ) (held : List (HeldSegment × ℕ)) → lacks n (objects_of ks held) ≡ true → holds_none n held ≡ true
lacks-objects n ks held h = (parts ks held h).1 where
  parts : (ks : List ℕ) (held : List (HeldSegment × ℕ)) → lacks n (objects_of ks held) ≡ true → (lacks n ks ≡ true) × (holds_none n held ≡ true)
  parts ks [] h = (h, refl)
  parts ks (e ∷ held) h =
      let t = parts (insert_key nat_cmp ks e.0.object) held h in
      let first = and_parts (not (eqb e.0.object n)) (lacks n ks) (sym (lacks-inserted n e.0.object ks) ∙ t.0) in
      (first.1, and_from (not (eqb e.0.object n)) (holds_none n held) first.0 t.1)

less_not : (x y : ℕ) → nat_cmp x y ≡ Less → not (eqb y x) ≡ true
less_not x y h = grind (arith, nat_tests)

less_le : (x y : ℕ) → nat_cmp x y ≡ Less → x ≤ y
less_le x y h = grind (arith, nat_tests)

-- numbers that ascend are each there once
below : (k : ℕ) (ks : List ℕ) → AllByRecursion (λ j. nat_cmp k j ≡ Less) ks → list_all (λ j. not (eqb j k)) ks ≡ true
below k [] h = refl
below k (j ∷ ks) h = and_from (not (eqb j k)) (lacks k ks) (less_not k j h.0) (below k ks h.1)

once : (ks : List ℕ) → IsStrictlySortedBy nat_cmp ks → all_later (λ v w. not (eqb w v)) ks ≡ true
unfolding IsStrictlySortedBy
once [] h = refl
once (k ∷ ks) h = and_from (lacks k ks) (all_later (λ v w. not (eqb w v)) ks) (below k ks h.0) (once ks h.1)

-- ---- lines of numbers that ascend

module _ (lines : ℕ → List CopyLine) (one : (k : ℕ) → AreOf k (lines k)) where
  -- the lines of a number; where it isn't among these, it has none
  lines-of : (n : ℕ) (ks : List ℕ) → IsStrictlySortedBy nat_cmp ks → (lacks n ks ≡ true → lines n ≡ []) → of_object n (flat_map lines ks) ≡ lines n
  lines-of n ks sorted none =
      of_object-flat (λ k. k) lines n one ks ∙ ap (flat_map lines) (filter-once (λ k. k) n ks (once ks sorted)) ∙ found ks none
    where
      found : (js : List ℕ) → (lacks n js ≡ true → lines n ≡ []) → flat_map lines (found_one (find (λ k. eqb k n) js)) ≡ lines n
      found [] none = sym (none refl)
      found (j ∷ js) none =
          elim (eqb j n) as (λ b. eqb j n ≡ b → ((not b && lacks n js) ≡ true → lines n ≡ []) → flat_map lines (found_one (cond b (Some j) (find (λ k. eqb k n) js))) ≡ lines n) [
            | true ↦ λ same _. append-nil (lines j) ∙ ap lines (eqb-true j n same)
            | false ↦ λ _ up. found js up
          ] refl none

  -- they ascend
  least-one : (k n : ℕ) (ls rest : List CopyLine) → k ≤ n → AreOf n ls → AreAtLeast (λ line. line.object) k rest → AreAtLeast (λ line. line.object) k (ls ++ rest)
  least-one k n [] rest le of least = least
  least-one k n (l ∷ ls) rest le of least = (subst (λ m. k ≤ m) (sym of.0) le, least-one k n ls rest le of.1 least)

  least-all : (k : ℕ) (ks : List ℕ) → AllByRecursion (λ j. nat_cmp k j ≡ Less) ks → AreAtLeast (λ line. line.object) k (flat_map lines ks)
  least-all k [] h = tt
  least-all k (j ∷ ks) h = least-one k j (lines j) (flat_map lines ks) (less_le k j h.0) (one j) (least-all k ks h.1)

  rises-one : (k : ℕ) (ls rest : List CopyLine) → AreOf k ls → AreAtLeast (λ line. line.object) k rest → Rises (λ line. line.object) rest → Rises (λ line. line.object) (ls ++ rest)
  rises-one k [] rest of least rises = rises
  rises-one k (l ∷ ls) rest of least rises =
      (subst (λ m. AreAtLeast (λ (line : CopyLine). line.object) m (ls ++ rest)) (sym of.0) (least-one k k ls rest (omega arith) of.1 least), rises-one k ls rest of.1 least rises)

  rises-all : (ks : List ℕ) → IsStrictlySortedBy nat_cmp ks → Rises (λ line. line.object) (flat_map lines ks)
  unfolding IsStrictlySortedBy
  rises-all [] h = tt
  rises-all (k ∷ ks) h = rises-one k (lines k) (flat_map lines ks) (one k) (least-all k ks h.0) (rises-all ks h.1)

-- ---- an object that has no segment on the volume

-- the segments of a copy that lie on the volume, with its object
abbrev segments_of : ℕ → ℕ × CopyRow → List (ℕ × Segment)
segments_of file e = map (λ s. (e.0, s)) (filter (λ s. s.file == file) e.1.segments)

-- the copies of a version, each with its object
abbrev with_object : Version → List (ℕ × CopyRow)
with_object w = map (λ c. (w.object, c)) w.copies

-- none of the segments is of the object
abbrev lack : ℕ → List (ℕ × Segment) → Bool
lack n segments = list_all (λ s. not (eqb s.0 n)) segments

not_itself : (m n : ℕ) → m ≡ n → not (eqb m n) ≡ false
not_itself m n is = ap not (eq-eqb m n is)

bare-copy : (n file m : ℕ) (c : CopyRow) → m ≡ n → lack n (segments_of file (m, c)) ≡ true → lies_on file c ≡ false
bare-copy n file m c is h = go c.segments h where
  go : (ss : List Segment) → lack n (map (λ s. (m, s)) (filter (λ s. s.file == file) ss)) ≡ true → list_any (λ s. s.file == file) ss ≡ false
  go [] h = refl
  go (s ∷ ss) h =
      elim (s.file == file) as (λ b. lack n (map (λ s. (m, s)) (cond b (s ∷ filter (λ s. s.file == file) ss) (filter (λ s. s.file == file) ss))) ≡ true → (b || list_any (λ s. s.file == file) ss) ≡ false) [
        | true ↦ λ t. absurd (false≢true (sym (not_itself m n is) ∙ (and_parts (not (eqb m n)) (lack n (map (λ s. (m, s)) (filter (λ s. s.file == file) ss))) t).0))
        | false ↦ λ t. go ss t
      ] h

bare-version : (n file node : ℕ) (w : Version) → w.object ≡ n → lack n (flat_map (segments_of file) (with_object w)) ≡ true → copies_of_version (Volume file) node w ≡ []
bare-version n file node w is h = go w.copies h where
  go : (cs : List CopyRow) → lack n (flat_map (segments_of file) (map (λ c. (w.object, c)) cs)) ≡ true → flat_map (copy_lines (Volume file) node w) cs ≡ []
  go [] h = refl
  go (c ∷ cs) h =
      let rest = flat_map (segments_of file) (map (λ c. (w.object, c)) cs) in
      let t = and_parts (lack n (segments_of file (w.object, c))) (lack n rest) (sym (list_all-append (λ (s : ℕ × Segment). not (eqb s.0 n)) (segments_of file (w.object, c)) rest) ∙ h) in
      ap (λ b. only b (copy_line node w c) ++ flat_map (copy_lines (Volume file) node w) cs) (bare-copy n file w.object c is t.0) ∙ go cs t.1

bare-kept : (n file node : ℕ) (ws : List Version) → lack n (flat_map (segments_of file) (flat_map with_object ws)) ≡ true → option_map_or (copies_of_version (Volume file) node) (version_of n ws) [] ≡ []
bare-kept n file node [] h = refl
bare-kept n file node (w ∷ ws) h =
    let one = flat_map (segments_of file) (with_object w) in
    let rest = flat_map (segments_of file) (flat_map with_object ws) in
    let t = and_parts (lack n one) (lack n rest) (sym (ap (lack n) (flat_map-append (segments_of file) (with_object w) (flat_map with_object ws)) ∙ list_all-append (λ (s : ℕ × Segment). not (eqb s.0 n)) one rest) ∙ h) in
    elim (eqb w.object n) as (λ b. eqb w.object n ≡ b → option_map_or (copies_of_version (Volume file) node) (cond b (Some w) (version_of n ws)) [] ≡ []) [
      | true ↦ λ same. bare-version n file node w (eqb-true w.object n same) t.0
      | false ↦ λ _. bare-kept n file node ws t.1
    ] refl

-- ---- the copies on the volume

each-copy : (here : Where) (rows : Rows) (k : ℕ) → AreOf k (copies_of_object here rows k)
each-copy here rows k =
    elim (version_of k (kept_of rows)) as (λ o. version_of k (kept_of rows) ≡ o → AreOf k (option_map_or (copies_of_version here (node_of_object k rows)) o [])) [
      | None ↦ λ _. tt
      | Some w ↦ λ found. subst (λ m. AreOf m (copies_of_version here (node_of_object k rows) w)) (version_of-object k (kept_of rows) w found) (of_version here (node_of_object k rows) w)
    ] refl

pub on_row : (v : Inv) (file : ℕ) (volume : VolumeRow) → IsStrictlySortedBy nat_cmp (keys_of v.clients.filespaces) → IsSound v.clients → RowsHoldObjects v → row_at file v.stores.volumes ≡ Some volume
    → IsStrictlySortedBy nat_cmp (objects_of [] volume.segments) → flat_map (copies_of_object (Volume file) v.clients) (objects_of [] volume.segments) ≡ copies_where (Volume file) v
on_row v file volume sorted sound held row ascend =
    let lines = copies_of_object (Volume file) v.clients in
    let numbers = objects_of [] volume.segments in
    let tied : (n : ℕ) → holds_none n volume.segments ≡ has_none n file v = each_there (λ (f : ℕ × VolumeRow). (n : ℕ) → holds_none n f.1.segments ≡ has_none n f.0 v) file volume v.stores.volumes row held in
    by_object-from_objects (λ line. line.object) (flat_map lines numbers) (copies_found (Volume file) v)
    (rises-all lines (each-copy (Volume file) v.clients) numbers ascend)
    (λ n. lines-of lines (each-copy (Volume file) v.clients) n numbers ascend
    (λ none. bare-kept n file (node_of_object n v.clients) (kept_of v.clients) (sym (tied n) ∙ lacks-objects n [] volume.segments none))
    ∙ sym (one_object (Volume file) n v sorted sound))

-- the same, as an answer
pub answered_on_row : (result : Result (List CopyLine) Refusal) (v : Inv) (file : ℕ) (volume : VolumeRow) (numbers : List ℕ) → IsStrictlySortedBy nat_cmp (keys_of v.clients.filespaces) → IsSound v.clients → RowsHoldObjects v
    → row_at file v.stores.volumes ≡ Some volume → numbers ≡ objects_of [] volume.segments → IsStrictlySortedBy nat_cmp numbers
    → AnswersBy (λ lines. lines) result (flat_map (copies_of_object (Volume file) v.clients) numbers) → AnswersBy (λ lines. lines) result (copies_where (Volume file) v)
answered_on_row result v file volume numbers sorted sound held row are ascend answered =
    subst (λ (lines : List CopyLine). AnswersBy {A = List CopyLine} (λ l. l) result lines)
    (ap (flat_map (copies_of_object (Volume file) v.clients)) are ∙ on_row v file volume sorted sound held row (subst (IsStrictlySortedBy nat_cmp) are ascend)) answered
