-- Which blocks of a volume some segments use, and what one segment more makes of that.
use Rattle.std.proofs.Common.{◌≡◌, ℕ, ◌+◌, ◌<◌, ◌≤◌, Bool, true, false, List, [], ◌∷◌, ◌++◌, length, get_or, replicate, refl, sym, ap, ◌∙◌, arith, inl, inr}
use Rattle.std.specs.Prelude.{if◌then◌else◌, ◌||◌, min}
use Rattle.std.specs.List.{list_any}
use Rattle.std.proofs.lemmas.List.{ext_get_or, length-replicate, get_or-replicate}
use Rattle.std.proofs.lemmas.List.Folds.{list_any-append}
use Rattle.std.proofs.lemmas.List.FromFn.{length-map-range_with_len, get_or-map-range_with_len}
use Rattle.std.proofs.lemmas.Bool.{cases_lt}
use Rattle.kinds.specs.declared.segment.Segment.{Segment}
use Rattle.extent_map.specs.Bits.{is_between}
use Rattle.extent_map.specs.Blocks.{run, marked}
use Rattle.extent_map.proofs.Words.{between_inside, between_outside}
use Rattle.extent_map.proofs.Members.{get_or-marked_from}
use Rattle.extent_map.proofs.Marking.{length-marked}
use Rattle.space.specs.Pieces.{covers, blocks_used}

pub length-blocks_used : (count : ℕ) (segments : List Segment) → length (blocks_used count segments) ≡ count
length-blocks_used count segments = length-map-range_with_len (λ block. list_any (covers block) segments) 0 count

pub block_at : (count : ℕ) (segments : List Segment) (k : ℕ) (d : Bool) → k < count → get_or (blocks_used count segments) k d ≡ list_any (covers k) segments
block_at count segments k d lt = get_or-map-range_with_len (λ block. list_any (covers block) segments) 0 count k k d lt (omega arith)

-- no segment uses a block
pub none_used : (count : ℕ) → replicate count false ≡ blocks_used count []
none_used count =
    ext_get_or false (replicate count false) (blocks_used count []) (length-replicate count false ∙ sym (length-blocks_used count [])) (λ k lt.
    let lt' : k < count = omega (arith, lt, length-replicate count false) in
    get_or-replicate count k false false lt' ∙ sym (block_at count [] k false lt'))

or_false : (b : Bool) → (b || (false || false)) ≡ b
or_false true = refl
or_false false = refl

or_true : (b : Bool) → (b || (true || false)) ≡ true
or_true true = refl
or_true false = refl

between_clipped : (low high count first end k : ℕ) → first ≡ min low count → end ≡ min high count → k < count → is_between first end k ≡ is_between low high k
between_clipped low high count first end k first-is end-is lt =
    elim (cases_lt k low) [
      | inl before ↦ between_outside first end k (inl (omega arith)) ∙ sym (between_outside low high k (inl before))
      | inr from ↦ elim (cases_lt k high) [
        | inl under ↦ between_inside first end k (omega arith) (omega arith) ∙ sym (between_inside low high k from under)
        | inr over ↦ between_outside first end k (inr (omega arith)) ∙ sym (between_outside low high k (inr over))
      ]
    ]

-- the blocks of one segment more, as far as the volume has them, are those that are marked
pub used_more : (count low high first blocks : ℕ) (segments : List Segment) (s : Segment) → ((k : ℕ) → covers k s ≡ is_between low high k) → first ≡ min low count → first + blocks ≡ min high count → marked true (run first blocks) (blocks_used count segments) ≡ blocks_used count (segments ++ s ∷ [])
used_more count low high first blocks segments s covers-is first-is end-is =
    let len : length (blocks_used count segments) ≡ count = length-blocks_used count segments in
    let fits : first + blocks ≤ length (blocks_used count segments) = omega arith in
    ext_get_or false (marked true (run first blocks) (blocks_used count segments)) (blocks_used count (segments ++ s ∷ []))
    (length-marked true (run first blocks) (blocks_used count segments) fits ∙ len ∙ sym (length-blocks_used count (segments ++ s ∷ []))) (λ k lt.
    let lt' : k < count = omega (arith, lt, length-marked true (run first blocks) (blocks_used count segments) fits, len) in
    get_or-marked_from true first blocks (blocks_used count segments) k false fits
    ∙ ap (λ (b : Bool). if b then true else get_or (blocks_used count segments) k false) (between_clipped low high count first (first + blocks) k first-is end-is lt' ∙ sym (covers-is k))
    ∙ ap (λ (b : Bool). if covers k s then true else b) (block_at count segments k false lt')
    ∙ elim (covers k s) as (λ b. (if b then true else list_any (covers k) segments) ≡ (list_any (covers k) segments || (b || false))) [ true ↦ sym (or_true (list_any (covers k) segments)) | false ↦ sym (or_false (list_any (covers k) segments)) ]
    ∙ sym (list_any-append (covers k) segments (s ∷ []))
    ∙ sym (block_at count (segments ++ s ∷ []) k false lt'))
