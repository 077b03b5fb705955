-- Of the segments that a volume's row holds, in their order, each ends before the next begins; so a new one is clear of all where it is clear
-- of its neighbours.
use Rattle.std.proofs.Common.{◌≡◌, ℕ, ◌≤◌, Bool, true, false, not, ◌&&◌, ◌||◌, nat_le, List, [], ◌∷◌, ◌++◌, refl, sym, ap, ◌∙◌, arith}
use Rattle.std.proofs.lemmas.Bool.{leb-true, le-leb}
use Rattle.std.proofs.lemmas.List.Folds.{list_all-append}
use Rattle.std.proofs.lemmas.Map.Keys.{sorted_head, sorted_tail}
use Rattle.std.specs.BTreeMap.Range.{entries_between}
use Rattle.std.specs.List.{AllByRecursion, list_all}
use Rattle.std.specs.List.Sorted.{IsStrictlySortedBy}
use Rattle.std.specs.Map.{keys_of}
use Rattle.std.specs.Ordering.{nat_cmp, ordering_then, is_le}
use Rattle.std.specs.declared.cmp.Ordering.TheVariants.{Less, Equal, Greater}
use Rattle.std.specs.declared.ops.Bound.TheVariants.{Included, Excluded, Unbounded}
use Rattle.kinds.specs.declared.segment.Segment.{Segment}
use Rattle.entries.specs.change_items.declared.items.MovedCopy.{MovedCopy}
use Rattle.inventory_rows.specs.version_groups.Entries.{all_later}
use Rattle.inventory_rows.specs.volume_rows.declared.held.HeldSegment.{HeldSegment}
use Rattle.inventory_rows.specs.volume_rows.Held.{held_cmp}
use Rattle.inventory_rules.specs.Valid.{high_of, low_of}
use Rattle.inventory_rules.specs.Segments.{are_clear, leaves}
use Rattle.inventory_laws.proofs.Facts.{first, rest, both}
use Rattle.inventory_fits.specs.Frames.{frame_of, is_clear, is_clear_after, are_held_apart, start_of}
use Rattle.inventory_fits.proofs.Clear.{either_second, first_ends, clear_before, clear_behind}
use Rattle.inventory_fits.proofs.Lists.{all_weaker, later_kept, kept_pass, in_two_parts, related_to_last}

less_below : (a b : ℕ) → nat_cmp a b ≡ Less → a ≤ b
less_below a b h = grind arith

equal_below : (a b : ℕ) → nat_cmp a b ≡ Equal → a ≤ b
equal_below a b h = grind arith

greater_above : (a b : ℕ) → nat_cmp a b ≡ Greater → b ≤ a
greater_above a b h = grind arith

equal_above : (a b : ℕ) → nat_cmp a b ≡ Equal → b ≤ a
equal_above a b h = grind arith

-- the order is by offset first
pub ordered_below : (a b : HeldSegment) → is_le (held_cmp a b) ≡ true → a.offset ≤ b.offset
ordered_below a b h =
    elim (nat_cmp a.offset b.offset) as (λ o. nat_cmp a.offset b.offset ≡ o → is_le (ordering_then o (ordering_then (nat_cmp a.object b.object) (nat_cmp a.len b.len))) ≡ true → a.offset ≤ b.offset) [
      | Less ↦ λ e k. less_below a.offset b.offset e
      | Equal ↦ λ e k. equal_below a.offset b.offset e
      | Greater ↦ λ e k. absurd cc
    ] refl h

pub ordered_above : (a b : HeldSegment) → is_le (held_cmp a b) ≡ false → b.offset ≤ a.offset
ordered_above a b h =
    elim (nat_cmp a.offset b.offset) as (λ o. nat_cmp a.offset b.offset ≡ o → is_le (ordering_then o (ordering_then (nat_cmp a.object b.object) (nat_cmp a.len b.len))) ≡ false → b.offset ≤ a.offset) [
      | Less ↦ λ e k. absurd cc
      | Equal ↦ λ e k. equal_above a.offset b.offset e
      | Greater ↦ λ e k. greater_above a.offset b.offset e
    ] refl h

-- one ends before another begins
abbrev is_ahead : Bool → HeldSegment × ℕ → HeldSegment × ℕ → Bool
is_ahead q a b = nat_le (high_of q (frame_of a.0)) (low_of q (frame_of b.0))

ahead_of_all : (q : Bool) (a : HeldSegment × ℕ) (held : List (HeldSegment × ℕ)) → AllByRecursion (λ k. held_cmp a.0 k ≡ Less) (keys_of held) → is_clear q (frame_of a.0) held ≡ true → list_all (is_ahead q a) held ≡ true
ahead_of_all q a [] less clear = refl
ahead_of_all q a (b ∷ held) less clear =
    let here : are_clear q (frame_of a.0) (frame_of b.0) ≡ true = first (are_clear q (frame_of a.0) (frame_of b.0)) (is_clear q (frame_of a.0) held) clear in
    both (is_ahead q a b) (list_all (is_ahead q a) held) (first_ends q (frame_of a.0) (frame_of b.0) here (ordered_below a.0 b.0 (ap is_le less.0)))
    (ahead_of_all q a held less.1 (rest (are_clear q (frame_of a.0) (frame_of b.0)) (is_clear q (frame_of a.0) held) clear))

all_ahead : (q : Bool) (held : List (HeldSegment × ℕ)) → IsStrictlySortedBy held_cmp (keys_of held) → are_held_apart q held ≡ true → all_later (is_ahead q) held ≡ true
all_ahead q [] sorted apart = refl
all_ahead q (a ∷ held) sorted apart =
    both (list_all (is_ahead q a) held) (all_later (is_ahead q) held)
    (ahead_of_all q a held (sorted_head held_cmp a.0 (keys_of held) sorted) (first (is_clear q (frame_of a.0) held) (are_held_apart q held) apart))
    (all_ahead q held (sorted_tail held_cmp a.0 (keys_of held) sorted) (rest (is_clear q (frame_of a.0) held) (are_held_apart q held) apart))

abbrev starts_by : ℕ → HeldSegment × ℕ → Bool
starts_by n e = nat_le e.0.offset n

abbrev starts_from : ℕ → HeldSegment × ℕ → Bool
starts_from n e = nat_le n e.0.offset

not_true : (b : Bool) → not b ≡ true → b ≡ false
not_true true h = absurd cc
not_true false h = refl

and_true : (b : Bool) → (b && true) ≡ b
and_true true = refl
and_true false = refl

below_pass : (k : HeldSegment) (held : List (HeldSegment × ℕ)) → list_all (starts_by k.offset) (entries_between held_cmp Unbounded (Excluded k) held) ≡ true
below_pass k held =
    kept_pass (starts_by k.offset) (λ e. not (is_le (held_cmp k e.0))) (λ e h. le-leb e.0.offset k.offset (ordered_above k e.0 (not_true (is_le (held_cmp k e.0)) h))) held

above_pass : (k : HeldSegment) (held : List (HeldSegment × ℕ)) → list_all (starts_from k.offset) (entries_between held_cmp (Included k) Unbounded held) ≡ true
above_pass k held =
    kept_pass (starts_from k.offset) (λ e. is_le (held_cmp k e.0) && true)
    (λ e h. le-leb k.offset e.0.offset (ordered_below k e.0 (sym (and_true (is_le (held_cmp k e.0))) ∙ h))) held

-- whether one that is held stays clear or leaves
abbrev let_off : List MovedCopy → ℕ → Bool → Segment → HeldSegment × ℕ → Bool
let_off moved number q s e = leaves moved number e.0.object || are_clear q s (frame_of e.0)

clear_let_off : (moved : List MovedCopy) (number : ℕ) (q : Bool) (s : Segment) (e : HeldSegment × ℕ) → are_clear q s (frame_of e.0) ≡ true → let_off moved number q s e ≡ true
clear_let_off moved number q s e h = either_second (leaves moved number e.0.object) (are_clear q s (frame_of e.0)) h

-- of those that begin before a segment, only the last matters to it
pub last_decides : (moved : List MovedCopy) (number : ℕ) (q : Bool) (s : Segment) (k : HeldSegment) (held before : List (HeldSegment × ℕ)) (e : HeldSegment × ℕ) → k ≡ start_of s → IsStrictlySortedBy held_cmp (keys_of held) → are_held_apart q held ≡ true
    → entries_between held_cmp Unbounded (Excluded k) held ≡ before ++ e ∷ [] → let_off moved number q s e ≡ is_clear_after moved number q s (entries_between held_cmp Unbounded (Excluded k) held)
last_decides moved number q s k held before e start sorted apart is =
    let ahead : all_later (is_ahead q) (before ++ e ∷ []) ≡ true = sym (ap (all_later (is_ahead q)) is) ∙ later_kept (is_ahead q) (λ e. not (is_le (held_cmp k e.0))) held (all_ahead q held sorted apart) in
    let by : list_all (starts_by k.offset) (before ++ e ∷ []) ≡ true = sym (ap (list_all (starts_by k.offset)) is) ∙ below_pass k held in
    let last : list_all (starts_by k.offset) (e ∷ []) ≡ true = rest (list_all (starts_by k.offset) before) (list_all (starts_by k.offset) (e ∷ [])) (sym (list_all-append (starts_by k.offset) before (e ∷ [])) ∙ by) in
    let same : k.offset ≡ s.offset = ap (λ (h : HeldSegment). h.offset) start in
    let until : e.0.offset ≤ k.offset = leb-true e.0.offset k.offset (first (starts_by k.offset e) true last) in
    let low : e.0.offset ≤ s.offset = omega (arith, until, same) in
    let clear : is_clear_after moved number q s before ≡ true = all_weaker (λ x. is_ahead q x e) (let_off moved number q s) (λ x h. clear_let_off moved number q s x (clear_before q s (frame_of x.0) (frame_of e.0) h low)) before (related_to_last (is_ahead q) before e ahead) in
    sym (ap (is_clear_after moved number q s) is ∙ list_all-append (let_off moved number q s) before (e ∷ []) ∙ ap (λ b. b && (let_off moved number q s e && true)) clear ∙ and_true (let_off moved number q s e))

-- those that begin where a segment does or behind, of which some have been passed: those that are left decide, each ends before the next begins,
-- and none begins before the segment
pub record AreLeft (moved : List MovedCopy) (number : ℕ) (q : Bool) (s : Segment) (whole left : List (HeldSegment × ℕ)) : Type 0 where
  pub same : is_clear_after moved number q s whole ≡ is_clear_after moved number q s left
  pub ahead : all_later (is_ahead q) left ≡ true
  pub from : list_all (starts_from s.offset) left ≡ true

pub all_left : (moved : List MovedCopy) (number : ℕ) (q : Bool) (s : Segment) (k : HeldSegment) (held left : List (HeldSegment × ℕ)) → k ≡ start_of s → IsStrictlySortedBy held_cmp (keys_of held) → are_held_apart q held ≡ true
    → left ≡ entries_between held_cmp (Included k) Unbounded held → AreLeft moved number q s (entries_between held_cmp (Included k) Unbounded held) left
all_left moved number q s k held left start sorted apart is = record {
  same = ap (is_clear_after moved number q s) (sym is);
  ahead = ap (all_later (is_ahead q)) is ∙ later_kept (is_ahead q) (λ e. is_le (held_cmp k e.0) && true) held (all_ahead q held sorted apart);
  from = ap (list_all (starts_from s.offset)) is ∙ ap (λ (h : HeldSegment). list_all (starts_from h.offset) (entries_between held_cmp (Included k) Unbounded held)) (sym start) ∙ above_pass k held;
}

-- one that leaves is passed
pub one_passed : (moved : List MovedCopy) (number : ℕ) (q : Bool) (s : Segment) (whole behind : List (HeldSegment × ℕ)) (e : HeldSegment × ℕ) → AreLeft moved number q s whole (e ∷ behind) → leaves moved number e.0.object ≡ true → AreLeft moved number q s whole behind
one_passed moved number q s whole behind e a leaving = record {
  same = a.same ∙ ap (λ b. (b || are_clear q s (frame_of e.0)) && is_clear_after moved number q s behind) leaving;
  ahead = rest (list_all (is_ahead q e) behind) (all_later (is_ahead q) behind) a.ahead;
  from = rest (starts_from s.offset e) (list_all (starts_from s.offset) behind) a.from;
}

-- the first that stays decides
pub first_decides : (moved : List MovedCopy) (number : ℕ) (q : Bool) (s : Segment) (whole behind : List (HeldSegment × ℕ)) (e : HeldSegment × ℕ) → AreLeft moved number q s whole (e ∷ behind) → leaves moved number e.0.object ≡ false
    → are_clear q s (frame_of e.0) ≡ is_clear_after moved number q s whole
first_decides moved number q s whole behind e a stays =
    let high : s.offset ≤ e.0.offset = leb-true s.offset e.0.offset (first (starts_from s.offset e) (list_all (starts_from s.offset) behind) a.from) in
    let others : list_all (is_ahead q e) behind ≡ true = first (list_all (is_ahead q e) behind) (all_later (is_ahead q) behind) a.ahead in
    sym (a.same ∙ ap (λ b. (b || are_clear q s (frame_of e.0)) && is_clear_after moved number q s behind) stays
    ∙ only (are_clear q s (frame_of e.0)) (is_clear_after moved number q s behind)
    (λ h. all_weaker (is_ahead q e) (let_off moved number q s) (λ x l. clear_let_off moved number q s x (clear_behind q s (frame_of e.0) (frame_of x.0) h high l)) behind others))
  where
    only : (a b : Bool) → (a ≡ true → b ≡ true) → (a && b) ≡ a
    only true b h = h refl
    only false b h = refl

-- those before and those from a segment on are all
pub all_sides : (moved : List MovedCopy) (number : ℕ) (q : Bool) (s : Segment) (k : HeldSegment) (held : List (HeldSegment × ℕ)) → (is_clear_after moved number q s (entries_between held_cmp Unbounded (Excluded k) held) && is_clear_after moved number q s (entries_between held_cmp (Included k) Unbounded held)) ≡ is_clear_after moved number q s held
all_sides moved number q s k held =
    in_two_parts (let_off moved number q s) (λ e. not (is_le (held_cmp k e.0))) (λ e. is_le (held_cmp k e.0) && true) (λ e. sym (ap not (and_true (is_le (held_cmp k e.0))))) held

-- where those before are clear, those from a segment on decide; and where they aren't, not all are
pub then_above : (moved : List MovedCopy) (number : ℕ) (q : Bool) (s : Segment) (k : HeldSegment) (held : List (HeldSegment × ℕ)) (a b : Bool) → a ≡ is_clear_after moved number q s (entries_between held_cmp Unbounded (Excluded k) held) → a ≡ true → b ≡ is_clear_after moved number q s (entries_between held_cmp (Included k) Unbounded held)
    → b ≡ is_clear_after moved number q s held
then_above moved number q s k held a b below clear above = above ∙ ap (λ t. t && is_clear_after moved number q s (entries_between held_cmp (Included k) Unbounded held)) (sym (sym below ∙ clear)) ∙ all_sides moved number q s k held

pub not_below : (moved : List MovedCopy) (number : ℕ) (q : Bool) (s : Segment) (k : HeldSegment) (held : List (HeldSegment × ℕ)) (a : Bool) → a ≡ is_clear_after moved number q s (entries_between held_cmp Unbounded (Excluded k) held) → a ≡ false → a ≡ is_clear_after moved number q s held
not_below moved number q s k held a below over = over ∙ ap (λ t. t && is_clear_after moved number q s (entries_between held_cmp (Included k) Unbounded held)) (sym (sym below ∙ over)) ∙ all_sides moved number q s k held
