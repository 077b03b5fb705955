-- Marking blocks as in use, part by part.
use Rattle.std.proofs.Common.{◌≡◌, ℕ, ◌+◌, ◌<◌, ◌≤◌, Bool, true, false, List, length, get_or, refl, sym, ap, ◌∙◌, arith, inl, inr, ◌⊎◌, Some}
use Rattle.std.specs.Prelude.{if◌then◌else◌, slice_get}
use Rattle.std.proofs.lemmas.List.{ext_get_or}
use Rattle.std.proofs.lemmas.Option.{slice_get-get_or}
use Rattle.std.proofs.lemmas.Bool.{cases_lt}
use Rattle.extent_map.specs.declared.extents.Run.{Run}
use Rattle.extent_map.specs.Bits.{is_between}
use Rattle.extent_map.specs.Blocks.{end_of, marked, AllAre}
use Rattle.extent_map.proofs.Words.{between_inside, between_outside}
use Rattle.extent_map.proofs.Members.{length-marked_from, get_or-marked_from}

pub length-marked : (v : Bool) (r : Run) (used : List Bool) → end_of r ≤ length used → length (marked v r used) ≡ length used
length-marked v r used fits = length-marked_from v r.first r.blocks used fits

pub marked_outside : (v : Bool) (r : Run) (used : List Bool) (k : ℕ) → end_of r ≤ length used → (k < r.first) ⊎ (end_of r ≤ k) → get_or (marked v r used) k v ≡ get_or used k v
marked_outside v r used k fits out =
    get_or-marked_from v r.first r.blocks used k v fits ∙ ap (λ (b : Bool). if b then v else get_or used k v) (between_outside r.first (end_of r) k out)

pub marked_inside : (v : Bool) (r : Run) (used : List Bool) (k : ℕ) → end_of r ≤ length used → r.first ≤ k → k < end_of r → get_or (marked v r used) k v ≡ v
marked_inside v r used k fits low high =
    get_or-marked_from v r.first r.blocks used k v fits ∙ ap (λ (b : Bool). if b then v else get_or used k v) (between_inside r.first (end_of r) k low high)

pub marked_still : (r : Run) (used : List Bool) (k : ℕ) → end_of r ≤ length used → get_or used k true ≡ true → get_or (marked true r used) k true ≡ true
marked_still r used k fits e =
    get_or-marked_from true r.first r.blocks used k true fits
    ∙ elim (is_between r.first (end_of r) k) as (λ b. (if b then true else get_or used k true) ≡ true) [ true ↦ refl | false ↦ e ]

-- two lists that a run's mark makes the same inside are the same where they are outside
marked_by_parts : (v : Bool) (r : Run) (a b : List Bool) → length a ≡ length b → end_of r ≤ length b → ((k : ℕ) → (k < r.first) ⊎ (end_of r ≤ k) → get_or a k v ≡ get_or b k v) → marked v r a ≡ marked v r b
marked_by_parts v r a b len fits same =
    let fits' : end_of r ≤ length a = omega arith in
    let out : (k : ℕ) → (k < r.first) ⊎ (end_of r ≤ k) → get_or (marked v r a) k v ≡ get_or (marked v r b) k v =
    λ k o. marked_outside v r a k fits' o ∙ same k o ∙ sym (marked_outside v r b k fits o) in
    ext_get_or v (marked v r a) (marked v r b) (length-marked v r a fits' ∙ len ∙ sym (length-marked v r b fits)) (λ k lt.
    elim (cases_lt k r.first) [
      | inl before ↦ out k (inl before)
      | inr from ↦ elim (cases_lt k (end_of r)) [
        | inl under ↦ marked_inside v r a k fits' from under ∙ sym (marked_inside v r b k fits from under)
        | inr over ↦ out k (inr over)
      ]
    ])

-- what is marked inside a run is lost once the run is marked
pub marked_over : (v : Bool) (part r : Run) (used : List Bool) → r.first ≤ part.first → end_of part ≤ end_of r → end_of r ≤ length used → marked v r (marked v part used) ≡ marked v r used
marked_over v part r used low high fits =
    let part-fits : end_of part ≤ length used = omega (arith, high, fits) in
    marked_by_parts v r (marked v part used) used (length-marked v part used part-fits) fits (λ k o.
    marked_outside v part used k part-fits (elim o [ inl before ↦ inl (omega (arith, before, low)) | inr over ↦ inr (omega (arith, over, high)) ]))

-- a run all of whose blocks are in use is marked already
pub marked_done : (r : Run) (used : List Bool) → end_of r ≤ length used → ((k : ℕ) → r.first ≤ k → k < end_of r → get_or used k true ≡ true) → marked true r used ≡ used
marked_done r used fits are =
    ext_get_or true (marked true r used) used (length-marked true r used fits) (λ k lt.
    elim (cases_lt k r.first) [
      | inl before ↦ marked_outside true r used k fits (inl before)
      | inr from ↦ elim (cases_lt k (end_of r)) [
        | inl under ↦ marked_inside true r used k fits from under ∙ sym (are k from under)
        | inr over ↦ marked_outside true r used k fits (inr over)
      ]
    ])

pub all_free : (r : Run) (used now : List Bool) → used ≡ now → end_of r ≤ length used → ((k : ℕ) → r.first ≤ k → k < end_of r → get_or used k false ≡ false) → AllAre false r now
all_free r used now e fits are =
    λ k low high. ap (λ (u : List Bool). slice_get u k) (sym e) ∙ slice_get-get_or used k false (omega (arith, high, fits)) ∙ ap (λ (b : Bool). Some b) (are k low high)

-- how far a run is in use, when a further part of it was marked
pub marked_further : (part : Run) (first at : ℕ) (used : List Bool) → end_of part ≤ length used → ((k : ℕ) → first ≤ k → k < at → get_or used k true ≡ true) → ((k : ℕ) → at ≤ k → k < part.first → get_or used k true ≡ true) → (k : ℕ) → first ≤ k → k < end_of part → get_or (marked true part used) k true ≡ true
marked_further part first at used fits so_far before k low high =
    elim (cases_lt k at) [
      | inl lt ↦ marked_still part used k fits (so_far k low lt)
      | inr from ↦ elim (cases_lt k part.first) [
        | inl lt ↦ marked_still part used k fits (before k from lt)
        | inr on ↦ marked_inside true part used k fits on high
      ]
    ]
