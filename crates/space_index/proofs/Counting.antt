-- How many segments use each block, after one came or went.
use Rattle.std.proofs.Common.{◌≡◌, ℕ, ◌+◌, ◌*◌, ◌<◌, ◌≤◌, Bool, true, false, List, length, get_or, refl, sym, ap, ◌∙◌, subst, arith, inl, inr, Some}
use Rattle.std.specs.Prelude.{◌==◌, if◌then◌else◌}
use Rattle.std.proofs.lemmas.Bool.{cases_lt, cases_eq, eq-eqb, ne_eqb, eqb-true}
use Rattle.std.proofs.lemmas.Option.{slice_get-get_or}
use Rattle.extent_map.specs.Bits.{is_between}
use Rattle.extent_map.specs.Blocks.{run, marked, AllAre}
use Rattle.extent_map.proofs.Words.{between_inside, between_outside}
use Rattle.extent_map.proofs.Members.{get_or-marked_from, length-marked_from}
use Rattle.kinds.specs.declared.segment.Segment.{Segment}
use Rattle.space.specs.Pieces.{covers}
use Rattle.space_index.specs.declared.blocks.Blocks.{Blocks}
use Rattle.space_index.specs.Counts.{one_if, reach, more_at, IsUsedBy, AreCounted}

-- what is said of each block is said of equal numbers
pub counted_same : (b : Blocks) (count : ℕ) (times others : ℕ → ℕ) → ((k : ℕ) → k < count → times k ≡ others k) → AreCounted b count times → AreCounted b count others
counted_same b count times others same are = record {
  all = are.all;
  each = λ k lt. subst (λ (n : ℕ). IsUsedBy (get_or b.used k false) (more_at k b.more.entries) n) (same k lt) (are.each k lt);
}

one_same : (k block : ℕ) → k ≡ block → one_if (k == block) ≡ 1
one_same k block e = ap one_if (eq-eqb k block e)

one_other : (k block : ℕ) → (k ≡ block → ⊥) → one_if (k == block) ≡ 0
one_other k block ne = ap one_if (ne_eqb k block ne)

one_between : (block k : ℕ) → is_between block (block + 1) k ≡ (k == block)
one_between block k =
    elim (cases_eq k block) [
      | inl same ↦ between_inside block (block + 1) k (omega (arith, same)) (omega (arith, same)) ∙ sym (eq-eqb k block same)
      | inr other ↦ sides (k < block) other ∙ sym (ne_eqb k block other)
    ] where
      sides : (P : Type 0) → (k ≡ block → ⊥) → is_between block (block + 1) k ≡ false
      sides P other = between_outside block (block + 1) k (grind (arith, other))

-- a block that the volume doesn't have
pub outside_counts : (b : Blocks) (block : ℕ) → length b.used ≤ block → (count : ℕ) (times : ℕ → ℕ) → AreCounted b count times → AreCounted b count (λ k. times k + one_if (k == block))
outside_counts b block past count times are =
    counted_same b count times (λ k. times k + one_if (k == block)) (λ k lt.
    let none : one_if (k == block) ≡ 0 = one_other k block (λ same. omega (arith, same, lt, past, are.all)) in
    omega (arith, none)) are

used_marked : (u same : Bool) (more times : ℕ) → (same ≡ true → u ≡ false) → IsUsedBy u more times → IsUsedBy (if same then true else u) more (times + one_if same)
used_marked true true more times free is = absurd (cc (free refl))
used_marked true false more times free is = omega (arith, is)
used_marked false true more times free is = omega (arith, is.0, is.1)
used_marked false false more times free is = (is.0, omega (arith, is.1))

-- a block that was free comes into use
pub marked_counts : (b : Blocks) (used : List Bool) (block : ℕ) → used ≡ marked true (run block 1) b.used → block < length b.used → (AllAre true (run block 1) b.used → ⊥) → (count : ℕ) (times : ℕ → ℕ)
    → AreCounted b count times → AreCounted (record { used = used; more = b.more }) count (λ k. times k + one_if (k == block))
marked_counts b used block marked-is there free count times are =
    let fits : block + 1 ≤ length b.used = omega (arith, there) in
    let was : (v : Bool) → get_or b.used block false ≡ v → v ≡ false = λ v. elim v as (λ v. get_or b.used block false ≡ v → v ≡ false) [
      | true ↦ λ is. absurd (free (λ k low high.
          let same : k ≡ block = omega (arith, low, high) in
          slice_get-get_or b.used k false (omega (arith, same, there)) ∙ ap (λ (n : ℕ). Some (get_or b.used n false)) same ∙ ap (λ (v : Bool). Some v) is))
      | false ↦ λ is. refl
    ] in
    record {
      all = ap length marked-is ∙ length-marked_from true block 1 b.used fits ∙ are.all;
      each = λ k lt.
          let now : get_or used k false ≡ (if k == block then true else get_or b.used k false) =
          ap (λ (l : List Bool). get_or l k false) marked-is ∙ get_or-marked_from true block 1 b.used k false fits ∙ ap (λ (t : Bool). if t then true else get_or b.used k false) (one_between block k) in
          subst (λ (v : Bool). IsUsedBy v (more_at k b.more.entries) (times k + one_if (k == block))) (sym now)
          (used_marked (get_or b.used k false) (k == block) (more_at k b.more.entries) (times k) (λ same. ap (λ (n : ℕ). get_or b.used n false) (eqb-true k block same) ∙ was (get_or b.used block false) refl) (are.each k lt));
    }

-- ---- the blocks of a segment one after the other

between_more : (first i k : ℕ) → first ≤ i → one_if (is_between first (i + 1) k) ≡ one_if (is_between first i k) + one_if (k == i)
between_more first i k le =
    elim (cases_lt k first) [
      | inl before ↦ sums 0 0 0 (ap one_if (between_outside first (i + 1) k (inl before))) (ap one_if (between_outside first i k (inl before))) (one_other k i (λ same. omega (arith, same, before, le))) (omega arith)
      | inr from ↦ elim (cases_lt k i) [
        | inl under ↦ sums 1 1 0 (ap one_if (between_inside first (i + 1) k from (omega (arith, under)))) (ap one_if (between_inside first i k from under)) (one_other k i (λ same. omega (arith, same, under))) (omega arith)
        | inr over ↦ elim (cases_eq k i) [
          | inl same ↦ sums 1 0 1 (ap one_if (between_inside first (i + 1) k from (omega (arith, same)))) (ap one_if (between_outside first i k (inr over))) (one_same k i same) (omega arith)
          | inr other ↦ sums 0 0 0 (ap one_if (between_outside first (i + 1) k (inr (past other over)))) (ap one_if (between_outside first i k (inr over))) (one_other k i other) (omega arith)
        ]
      ]
    ] where
      sums : (a b c : ℕ) → one_if (is_between first (i + 1) k) ≡ a → one_if (is_between first i k) ≡ b → one_if (k == i) ≡ c → a ≡ b + c → one_if (is_between first (i + 1) k) ≡ one_if (is_between first i k) + one_if (k == i)
      sums a b c x y z sum = omega (arith, x, y, z, sum)

      past : (k ≡ i → ⊥) → i ≤ k → i + 1 ≤ k
      past other over = grind (arith, other, over)

between_less : (i end k : ℕ) → i < end → one_if (is_between i end k) ≡ one_if (is_between (i + 1) end k) + one_if (k == i)
between_less i end k lt =
    elim (cases_lt k i) [
      | inl before ↦ sums 0 0 0 (ap one_if (between_outside i end k (inl before))) (ap one_if (between_outside (i + 1) end k (inl (omega (arith, before))))) (one_other k i (λ same. omega (arith, same, before))) (omega arith)
      | inr from ↦ elim (cases_eq k i) [
        | inl same ↦ sums 1 0 1 (ap one_if (between_inside i end k from (omega (arith, same, lt)))) (ap one_if (between_outside (i + 1) end k (inl (omega (arith, same))))) (one_same k i same) (omega arith)
        | inr other ↦ elim (cases_lt k end) [
          | inl under ↦ sums 1 1 0 (ap one_if (between_inside i end k from under)) (ap one_if (between_inside (i + 1) end k (past other from) under)) (one_other k i other) (omega arith)
          | inr over ↦ sums 0 0 0 (ap one_if (between_outside i end k (inr over))) (ap one_if (between_outside (i + 1) end k (inr over))) (one_other k i other) (omega arith)
        ]
      ]
    ] where
      sums : (a b c : ℕ) → one_if (is_between i end k) ≡ a → one_if (is_between (i + 1) end k) ≡ b → one_if (k == i) ≡ c → a ≡ b + c → one_if (is_between i end k) ≡ one_if (is_between (i + 1) end k) + one_if (k == i)
      sums a b c x y z sum = omega (arith, x, y, z, sum)

      past : (k ≡ i → ⊥) → i ≤ k → i + 1 ≤ k
      past other over = grind (arith, other, over)

between_none : (first k : ℕ) → one_if (is_between first first k) ≡ 0
between_none first k =
    elim (cases_lt k first) [
      | inl before ↦ ap one_if (between_outside first first k (inl before))
      | inr from ↦ ap one_if (between_outside first first k (inr from))
    ]

-- so many of its blocks are counted already, from `first` to before `i`
abbrev pub so_far : (ℕ → ℕ) → ℕ → ℕ → ℕ → ℕ
so_far times first i k = times k + one_if (is_between first i k)

pub none_so_far : (b : Blocks) (first count : ℕ) (times : ℕ → ℕ) → AreCounted b count times → AreCounted b count (so_far times first first)
none_so_far b first count times are = counted_same b count times (so_far times first first) (λ k lt. omega (arith, between_none first k)) are

pub one_further : (b : Blocks) (first i count : ℕ) (times : ℕ → ℕ) → first ≤ i → AreCounted b count (λ k. so_far times first i k + one_if (k == i)) → AreCounted b count (so_far times first (i + 1))
one_further b first i count times le are =
    counted_same b count (λ k. so_far times first i k + one_if (k == i)) (so_far times first (i + 1)) (λ k lt. omega (arith, between_more first i k le)) are

pub one_left : (b : Blocks) (i end count : ℕ) (times : ℕ → ℕ) → i < end → AreCounted b count (so_far times i end) → AreCounted b count (λ k. so_far times (i + 1) end k + one_if (k == i))
one_left b i end count times lt are =
    counted_same b count (so_far times i end) (λ k. so_far times (i + 1) end k + one_if (k == i)) (λ k _. omega (arith, between_less i end k lt)) are

pub none_left : (b : Blocks) (i end count : ℕ) (times : ℕ → ℕ) → i ≡ end → AreCounted b count (so_far times i end) → AreCounted b count times
none_left b i end count times same are =
    counted_same b count (so_far times i end) times (λ k lt.
    let none : one_if (is_between i end k) ≡ 0 = ap (λ (n : ℕ). one_if (is_between n end k)) same ∙ between_none end k in
    omega (arith, none)) are

-- those of the segment are all
pub whole_segment : (b : Blocks) (s : Segment) (first end count known : ℕ) (times : ℕ → ℕ) → known ≡ count → ((k : ℕ) → k < known → is_between first end k ≡ covers k s) → AreCounted b count (so_far times first end) → AreCounted b count (λ k. times k + reach s k)
whole_segment b s first end count known times all same are =
    counted_same b count (so_far times first end) (λ k. times k + reach s k) (λ k lt.
    let one : one_if (is_between first end k) ≡ reach s k = ap one_if (same k (omega (arith, lt, all))) in
    omega (arith, one)) are

pub segment_whole : (b : Blocks) (s : Segment) (first end count known : ℕ) (times : ℕ → ℕ) → known ≡ count → ((k : ℕ) → k < known → is_between first end k ≡ covers k s) → AreCounted b count (λ k. times k + reach s k) → AreCounted b count (so_far times first end)
segment_whole b s first end count known times all same are =
    counted_same b count (λ k. times k + reach s k) (so_far times first end) (λ k lt.
    let one : one_if (is_between first end k) ≡ reach s k = ap one_if (same k (omega (arith, lt, all))) in
    omega (arith, one)) are

-- ---- a segment that stands there more than once

times_more : (r n : ℕ) → r * n + r ≡ r * (n + 1)
times_more r n = grind arith

times_none : (r : ℕ) → r * 0 ≡ 0
times_none r = grind arith

abbrev pub so_often : (ℕ → ℕ) → Segment → ℕ → ℕ → ℕ
so_often times s n k = times k + reach s k * n

pub often_none : (b : Blocks) (s : Segment) (count : ℕ) (times : ℕ → ℕ) → AreCounted b count times → AreCounted b count (so_often times s 0)
often_none b s count times are = counted_same b count times (so_often times s 0) (λ k lt. omega (arith, times_none (reach s k))) are

pub often_more : (b : Blocks) (s : Segment) (n count : ℕ) (times : ℕ → ℕ) → AreCounted b count (λ k. so_often times s n k + reach s k) → AreCounted b count (so_often times s (n + 1))
often_more b s n count times are = counted_same b count (λ k. so_often times s n k + reach s k) (so_often times s (n + 1)) (λ k lt. omega (arith, times_more (reach s k) n)) are
