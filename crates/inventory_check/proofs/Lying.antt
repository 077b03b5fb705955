-- The segments that a volume's row holds, in the order of their offsets, say whether those of the copies overlap and fit.
use Rattle.std.proofs.Common.{◌≡◌, ℕ, suc, ◌+◌, ◌<◌, ◌≤◌, Bool, true, false, nat_le, ◌&&◌, List, [], ◌∷◌, length, Some, None, refl, sym, ap, subst, ◌∙◌, arith}
use Rattle.std.specs.Prelude.{◌==◌, ◌||◌, ◌/◌}
use Rattle.std.specs.BTreeMap.{is_at}
use Rattle.std.specs.List.{list_all, AllByRecursion}
use Rattle.std.specs.List.Sorted.{IsStrictlySortedBy}
use Rattle.std.specs.Map.{keys_of}
use Rattle.std.specs.Ordering.{nat_cmp, ordering_then}
use Rattle.std.specs.declared.cmp.Ordering.TheVariants.{Less, Equal, Greater}
use Rattle.std.proofs.Math.Nat.{div-mul-le_self}
use Rattle.std.proofs.lemmas.Bool.{and_left, and_right, leb-true, le-leb, lt-leb, or_from, or_left}
use Rattle.std.proofs.lemmas.Bool.Decides.{nat_tests}
use Rattle.std.proofs.lemmas.Map.Keys.{sorted_head, sorted_tail}
use Rattle.std.proofs.lemmas.Nat.{le-div}
use Rattle.kinds.specs.declared.segment.Segment.{Segment}
use Rattle.inventory_rows.specs.version_groups.Entries.{all_later, is_nil}
use Rattle.inventory_rows.specs.volume_rows.declared.held.HeldSegment.{HeldSegment}
use Rattle.inventory_rows.specs.volume_rows.declared.volume.Volume.{Volume}
use Rattle.inventory_rows.specs.volume_rows.Held.{held_cmp, held_of}
use Rattle.inventory_rows.specs.volume_rows.Holdings.{is_bare, raised, repeats_of, with_segment}
use Rattle.inventory_rows.proofs.of_volume_rows.Segments.{held_same}
use Rattle.inventory_rows.specs.pool_rows.PoolRows.{is_sequential}
use Rattle.inventory_rows.specs.Search.{is_primary, segments_on}
use Rattle.inventory_rows.specs.State.{Inv}
use Rattle.inventory_rules.specs.Held.{holding}
use Rattle.inventory_rules.specs.Valid.{are_disjoint, is_placed, is_sized, is_volume, may_have}
use Rattle.inventory_check.specs.Laid.{are_laid, emptied_by, fits_below, high_held, limit_of, low_held, row_agrees}
use Rattle.inventory_check.proofs.Pairs.{all_later-inserted, assoc, fails_there, list_all-inserted, list_all-set_value, there}

-- ---- places
rounded_up : (a : ℕ) (b : ℕ) → a ≤ b → a / 4096 ≤ b / 4096
rounded_up a b h = le-div (a / 4096) b 4096 (omega arith) (omega (arith, div-mul-le_self a 4096))

low_rises : (sequential : Bool) (a b : HeldSegment) → a.offset ≤ b.offset → low_held sequential a ≤ low_held sequential b
low_rises true a b h = h
low_rises false a b h = rounded_up a.offset b.offset h

block_behind : (a n : ℕ) → 32 ≤ n → a / 4096 < (a + n + 4095) / 4096
block_behind a n h =
    let up : a / 4096 + 1 ≤ (a + n + 4095) / 4096 = le-div (a / 4096 + 1) (a + n + 4095) 4096 (omega arith) (omega (arith, div-mul-le_self a 4096)) in
    omega arith

low_below_high : (sequential : Bool) (s : HeldSegment) → low_held sequential s < high_held sequential s
low_below_high true s = omega arith
low_below_high false s =
    let same : s.offset + 32 + s.len + 4095 ≡ s.offset + (32 + s.len) + 4095 = omega arith in
    subst (λ n. s.offset / 4096 < n / 4096) (sym same) (block_behind s.offset (32 + s.len) (omega arith))

less_le : (x y : ℕ) → nat_cmp x y ≡ Less → x ≤ y
less_le x y h = grind (arith, nat_tests)

equal_le : (x y : ℕ) → nat_cmp x y ≡ Equal → x ≤ y
equal_le x y h = grind (arith, nat_tests)

offset_rises : (a b : HeldSegment) → held_cmp a b ≡ Less → a.offset ≤ b.offset
offset_rises a b h =
    elim (nat_cmp a.offset b.offset) as (λ o. nat_cmp a.offset b.offset ≡ o → ordering_then o (ordering_then (nat_cmp a.object b.object) (nat_cmp a.len b.len)) ≡ Less → a.offset ≤ b.offset) [
      | Less ↦ λ e _. less_le a.offset b.offset e
      | Equal ↦ λ e _. equal_le a.offset b.offset e
      | Greater ↦ λ e t. absurd cc
    ] refl h

-- ---- frames that don't overlap
abbrev apart : Bool → HeldSegment → HeldSegment → Bool
apart sequential a b = nat_le (high_held sequential a) (low_held sequential b) || nat_le (high_held sequential b) (low_held sequential a)

either_way : (a b : Bool) → (a || b) ≡ (b || a)
either_way true true = refl
either_way true false = refl
either_way false true = refl
either_way false false = refl

apart_flips : (sequential : Bool) (a b : HeldSegment) → apart sequential a b ≡ apart sequential b a
apart_flips sequential a b = either_way (nat_le (high_held sequential a) (low_held sequential b)) (nat_le (high_held sequential b) (low_held sequential a))

apart_itself : (sequential : Bool) (s : HeldSegment) → apart sequential s s ≡ false
apart_itself sequential s =
    let over : nat_le (high_held sequential s) (low_held sequential s) ≡ false = lt-leb (high_held sequential s) (low_held sequential s) (low_below_high sequential s) in
    or_from (nat_le (high_held sequential s) (low_held sequential s)) (nat_le (high_held sequential s) (low_held sequential s)) over over

-- ---- the segments of a row
abbrev entries_apart : Bool → HeldSegment × ℕ → HeldSegment × ℕ → Bool
entries_apart sequential a b = apart sequential a.0 b.0

abbrev once : List (HeldSegment × ℕ) → Bool
once held = list_all (λ e. e.1 == 0) held

abbrev are_well : Bool → List (HeldSegment × ℕ) → Bool
are_well sequential held = all_later (entries_apart sequential) held && once held

with_all : (p : HeldSegment → Bool) (s : HeldSegment) (held : List (HeldSegment × ℕ)) → list_all (λ e. p e.0) (with_segment s held) ≡ (p s && list_all (λ e. p e.0) held)
with_all p s held =
    elim (repeats_of s held) as (λ o. repeats_of s held ≡ o → list_all (λ (e : HeldSegment × ℕ). p e.0) (raised s o held) ≡ (p s && list_all (λ (e : HeldSegment × ℕ). p e.0) held)) [
      | None ↦ λ h. list_all-inserted (λ (e : HeldSegment × ℕ). p e.0) held_cmp held s 0 h
      | Some n ↦ λ h. list_all-set_value p (is_at (held_cmp s)) held (n + 1) ∙ there p (is_at (held_cmp s)) s (held_same s) held n h
    ] refl

-- a test of the segments that a row holds is one of those that it is made of
pub holding_all : (p : HeldSegment → Bool) (segments : List (ℕ × Segment)) → list_all (λ e. p e.0) (holding segments) ≡ list_all (λ (x : ℕ × Segment). p (held_of x.0 x.1)) segments
holding_all p [] = refl
holding_all p (x ∷ segments) = with_all p (held_of x.0 x.1) (holding segments) ∙ ap (λ b. p (held_of x.0 x.1) && b) (holding_all p segments)

more_than_once : (n : ℕ) → (n + 1 == 0) ≡ false
more_than_once n = grind (arith, nat_tests)

with_well : (sequential : Bool) (s : HeldSegment) (held : List (HeldSegment × ℕ)) → are_well sequential (with_segment s held) ≡ (list_all (λ e. apart sequential s e.0) held && are_well sequential held)
with_well sequential s held =
    elim (repeats_of s held) as (λ o. repeats_of s held ≡ o → are_well sequential (raised s o held) ≡ (list_all (λ (e : HeldSegment × ℕ). apart sequential s e.0) held && are_well sequential held)) [
      | None ↦ λ h. free h
      | Some n ↦ λ h. taken n h
    ] refl where
      free : repeats_of s held ≡ None → are_well sequential (raised s None held) ≡ (list_all (λ (e : HeldSegment × ℕ). apart sequential s e.0) held && are_well sequential held)
      free h =
          ap (λ b. b && once (raised s None held)) (all_later-inserted (entries_apart sequential) (λ a b. apart_flips sequential a.0 b.0) held_cmp held s 0 h)
          ∙ ap (λ b. (list_all (λ (e : HeldSegment × ℕ). apart sequential s e.0) held && all_later (entries_apart sequential) held) && b) (list_all-inserted (λ (e : HeldSegment × ℕ). e.1 == 0) held_cmp held s 0 h)
          ∙ assoc (list_all (λ (e : HeldSegment × ℕ). apart sequential s e.0) held) (all_later (entries_apart sequential) held) (once held)

      taken : (n : ℕ) → repeats_of s held ≡ Some n → are_well sequential (raised s (Some n) held) ≡ (list_all (λ (e : HeldSegment × ℕ). apart sequential s e.0) held && are_well sequential held)
      taken n h =
          let overlap : list_all (λ (e : HeldSegment × ℕ). apart sequential s e.0) held ≡ false =
          there (apart sequential s) (is_at (held_cmp s)) s (held_same s) held n h ∙ and_left (apart sequential s s) (list_all (λ (e : HeldSegment × ℕ). apart sequential s e.0) held) (apart_itself sequential s) in
          and_right (all_later (entries_apart sequential) (raised s (Some n) held)) (once (raised s (Some n) held)) (fails_there (λ m. m == 0) (is_at (held_cmp s)) held n (n + 1) h (more_than_once n))
          ∙ sym (and_left (list_all (λ (e : HeldSegment × ℕ). apart sequential s e.0) held) (are_well sequential held) overlap)

holding_well : (sequential : Bool) (segments : List (ℕ × Segment)) → are_well sequential (holding segments) ≡ are_disjoint sequential segments
holding_well sequential [] = refl
holding_well sequential (x ∷ segments) =
    with_well sequential (held_of x.0 x.1) (holding segments)
    ∙ ap (λ b. b && are_well sequential (holding segments)) (holding_all (apart sequential (held_of x.0 x.1)) segments)
    ∙ ap (λ b. list_all (λ (y : ℕ × Segment). apart sequential (held_of x.0 x.1) (held_of y.0 y.1)) segments && b) (holding_well sequential segments)

-- ---- neighbours
abbrev first_behind : Bool → ℕ → List (HeldSegment × ℕ) → Bool
first_behind sequential low [] = true
first_behind sequential low (e ∷ held) = nat_le low (low_held sequential e.0)

-- what a segment is behind, all behind that segment are
all_behind : (sequential : Bool) (s f : HeldSegment) (held : List (HeldSegment × ℕ)) → high_held sequential s ≤ low_held sequential f → AllByRecursion (λ k. held_cmp f k ≡ Less) (keys_of held) → list_all (λ d. apart sequential s d.0) held ≡ true
all_behind sequential s f [] h sorted = refl
all_behind sequential s f (d ∷ held) h sorted =
    let low : low_held sequential f ≤ low_held sequential d.0 = low_rises sequential f d.0 (offset_rises f d.0 sorted.0) in
    let behind : nat_le (high_held sequential s) (low_held sequential d.0) ≡ true = le-leb (high_held sequential s) (low_held sequential d.0) (omega arith) in
    ap (λ b. b && list_all (λ (x : HeldSegment × ℕ). apart sequential s x.0) held) (or_left (nat_le (high_held sequential s) (low_held sequential d.0)) (nat_le (high_held sequential d.0) (low_held sequential s)) behind)
    ∙ all_behind sequential s f held h sorted.1

in_order : (sequential : Bool) (s f : HeldSegment) → low_held sequential s ≤ low_held sequential f → nat_le (high_held sequential s) (low_held sequential f) ≡ false → apart sequential s f ≡ false
in_order sequential s f rises over =
    let high : low_held sequential f < high_held sequential f = low_below_high sequential f in
    or_from (nat_le (high_held sequential s) (low_held sequential f)) (nat_le (high_held sequential f) (low_held sequential s)) over (lt-leb (high_held sequential f) (low_held sequential s) (omega arith))

neighbours : (sequential : Bool) (e : HeldSegment × ℕ) (held : List (HeldSegment × ℕ)) → IsStrictlySortedBy held_cmp (keys_of (e ∷ held)) → list_all (λ d. apart sequential e.0 d.0) held ≡ first_behind sequential (high_held sequential e.0) held
neighbours sequential e [] sorted = refl
neighbours sequential e (f ∷ held) sorted =
    elim (nat_le (high_held sequential e.0) (low_held sequential f.0)) as (λ b. nat_le (high_held sequential e.0) (low_held sequential f.0) ≡ b → list_all (λ (d : HeldSegment × ℕ). apart sequential e.0 d.0) (f ∷ held) ≡ b) [
      | true ↦ λ h.
          ap (λ b. b && list_all (λ (d : HeldSegment × ℕ). apart sequential e.0 d.0) held) (or_left (nat_le (high_held sequential e.0) (low_held sequential f.0)) (nat_le (high_held sequential f.0) (low_held sequential e.0)) h)
          ∙ all_behind sequential e.0 f.0 held (leb-true (high_held sequential e.0) (low_held sequential f.0) h) (sorted_head held_cmp f.0 (keys_of held) (sorted_tail held_cmp e.0 (keys_of (f ∷ held)) sorted))
      | false ↦ λ h.
          and_left (apart sequential e.0 f.0) (list_all (λ (d : HeldSegment × ℕ). apart sequential e.0 d.0) held)
          (in_order sequential e.0 f.0 (low_rises sequential e.0 f.0 (offset_rises e.0 f.0 (sorted_head held_cmp e.0 (keys_of (f ∷ held)) sorted).0)) h)
    ] refl

sorted_out : (p z l f a o q : Bool) → ((p && (z && l)) && (f && ((a && o) && q))) ≡ (l && (((f && a) && (z && o)) && (p && q)))
sorted_out true true true true a o q = refl
sorted_out true true true false a o q = refl
sorted_out true true false f a o q = refl
sorted_out true false l f a o q = sym (and_right l (((f && a) && false) && q) (and_left ((f && a) && false) q (and_right (f && a) false refl)))
sorted_out false z l f a o q = sym (and_right l (((f && a) && (z && o)) && false) (and_right ((f && a) && (z && o)) false refl))

laid_by_neighbours : (sequential : Bool) (most low : ℕ) (held : List (HeldSegment × ℕ)) → IsStrictlySortedBy held_cmp (keys_of held)
    → are_laid sequential most low held ≡ (first_behind sequential low held && (are_well sequential held && list_all (λ e. fits_below sequential most e.0) held))
laid_by_neighbours sequential most low [] sorted = refl
laid_by_neighbours sequential most low (e ∷ held) sorted =
    ap (λ b. (fits_below sequential most e.0 && (e.1 == 0 && nat_le low (low_held sequential e.0))) && b) (laid_by_neighbours sequential most (high_held sequential e.0) held (sorted_tail held_cmp e.0 (keys_of held) sorted))
    ∙ sorted_out (fits_below sequential most e.0) (e.1 == 0) (nat_le low (low_held sequential e.0)) (first_behind sequential (high_held sequential e.0) held) (all_later (entries_apart sequential) held) (once held)
    (list_all (λ (d : HeldSegment × ℕ). fits_below sequential most d.0) held)
    ∙ ap (λ b. nat_le low (low_held sequential e.0) && (((b && all_later (entries_apart sequential) held) && (e.1 == 0 && once held)) && (fits_below sequential most e.0 && list_all (λ (d : HeldSegment × ℕ). fits_below sequential most d.0) held)))
    (sym (neighbours sequential e held sorted))

all_behind_none : (sequential : Bool) (held : List (HeldSegment × ℕ)) → first_behind sequential 0 held ≡ true
all_behind_none sequential [] = refl
all_behind_none sequential (e ∷ held) = le-leb 0 (low_held sequential e.0) (omega arith)

pub laid_by_order : (sequential : Bool) (volume : Volume) (segments : List (ℕ × Segment)) → IsStrictlySortedBy held_cmp (keys_of (holding segments))
    → are_laid sequential (limit_of sequential volume) 0 (holding segments) ≡ (are_disjoint sequential segments && list_all (λ e. is_placed sequential volume e.1) segments)
laid_by_order sequential volume segments sorted =
    laid_by_neighbours sequential (limit_of sequential volume) 0 (holding segments) sorted
    ∙ ap (λ b. b && (are_well sequential (holding segments) && list_all (λ (e : HeldSegment × ℕ). fits_below sequential (limit_of sequential volume) e.0) (holding segments))) (all_behind_none sequential (holding segments))
    ∙ ap (λ b. b && list_all (λ (e : HeldSegment × ℕ). fits_below sequential (limit_of sequential volume) e.0) (holding segments)) (holding_well sequential segments)
    ∙ ap (λ b. are_disjoint sequential segments && b) (holding_all (fits_below sequential (limit_of sequential volume)) segments)

-- ---- a row without segments
none_held : {X : Type 0} (xs : List X) → list_all (λ x. false) xs ≡ is_nil xs
none_held [] = refl
none_held (x ∷ xs) = refl

some_held : (n : ℕ) → (suc n == 0) ≡ false
some_held n = grind (arith, nat_tests)

bare : (held : List (HeldSegment × ℕ)) → is_bare held ≡ is_nil held
bare [] = refl
bare (e ∷ held) = some_held (length held)

bare_holding : (segments : List (ℕ × Segment)) → is_bare (holding segments) ≡ is_nil segments
bare_holding segments = bare (holding segments) ∙ sym (none_held (holding segments)) ∙ holding_all (λ _. false) segments ∙ none_held segments

-- ---- the whole row
pub volume_of_row : (v : Inv) (file : ℕ) (volume : Volume) → volume.segments ≡ holding (segments_on file v) → IsStrictlySortedBy held_cmp (keys_of volume.segments)
    → row_agrees v (is_sequential volume.pool v.stores) volume ≡ is_volume v (file, volume)
volume_of_row v file volume tied sorted =
    let sequential : Bool = is_sequential volume.pool v.stores in
    let segments : List (ℕ × Segment) = segments_on file v in
    let order : IsStrictlySortedBy held_cmp (keys_of (holding segments)) = subst (λ (held : List (HeldSegment × ℕ)). IsStrictlySortedBy held_cmp (keys_of held)) tied sorted in
    ap (λ (held : List (HeldSegment × ℕ)). is_sized sequential v volume && (may_have volume.access (is_primary volume.pool v) && (are_laid sequential (limit_of sequential volume) 0 held && emptied_by sequential volume (is_bare held)))) tied
    ∙ ap (λ b. is_sized sequential v volume && (may_have volume.access (is_primary volume.pool v) && (b && emptied_by sequential volume (is_bare (holding segments))))) (laid_by_order sequential volume segments order)
    ∙ ap (λ b. is_sized sequential v volume && (may_have volume.access (is_primary volume.pool v) && ((are_disjoint sequential segments && list_all (λ (e : ℕ × Segment). is_placed sequential volume e.1) segments) && emptied_by sequential volume b))) (bare_holding segments)
    ∙ ap (λ b. is_sized sequential v volume && (may_have volume.access (is_primary volume.pool v) && b)) (assoc (are_disjoint sequential segments) (list_all (λ (e : ℕ × Segment). is_placed sequential volume e.1) segments) (emptied_by sequential volume (is_nil segments)))
