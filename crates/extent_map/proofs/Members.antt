-- The members of a set as a list, and what a change of its words makes of that list.
use Rattle.std.proofs.Common.{◌≡◌, ℕ, ◌+◌, ◌-◌, ◌/◌, ◌%◌, ◌^◌, ◌<◌, ◌≤◌, Bool, true, false, List, ◌++◌, length, get_or, take, drop, replicate, refl, sym, ap, ◌∙◌, arith, inl, inr, eqb}
use Rattle.std.specs.Prelude.{if◌then◌else◌}
use lib.Bits.{bit_and}
use Rattle.std.proofs.lemmas.List.{ext_get_or, length-append, length-take-le, length-drop, length-replicate, get_or-replicate, get_or_append_left, get_or-append_right, get_or-take, get_or-drop, get_or_past}
use Rattle.std.proofs.lemmas.List.FromFn.{length-map-range_with_len, get_or-map-range_with_len}
use Rattle.std.proofs.lemmas.Bool.{cases_lt}
use Rattle.std.proofs.lemmas.Nat.Bits.{shr_and_one, bit_at-zero}
use Rattle.extent_map.specs.Bits.{is_set, is_between, NoneSet}
use Rattle.extent_map.specs.Levels.{bit_of, members, is_filled, AllTell}
use Rattle.extent_map.specs.Blocks.{marked_from}
use Rattle.extent_map.proofs.Words.{between_inside, between_outside, clear_from_zero}

-- ---- a list with some of its places changed

pub length-marked_from : (value : Bool) (first count : ℕ) (list : List Bool) → first + count ≤ length list → length (marked_from value first count list) ≡ length list
length-marked_from value first count list fits =
    let front : length (take first list) ≡ first = length-take-le first list (omega arith) in
    let mid : length (replicate count value) ≡ count = length-replicate count value in
    let back : length (drop (first + count) list) ≡ length list - (first + count) = length-drop (first + count) list in
    let two : length (take first list ++ replicate count value) ≡ length (take first list) + length (replicate count value) = length-append (take first list) (replicate count value) in
    length-append (take first list ++ replicate count value) (drop (first + count) list) ∙ omega arith

pub get_or-marked_from : (value : Bool) (first count : ℕ) (list : List Bool) (k : ℕ) (d : Bool) → first + count ≤ length list → get_or (marked_from value first count list) k d ≡ (if is_between first (first + count) k then value else get_or list k d)
get_or-marked_from value first count list k d fits =
    let front : length (take first list) ≡ first = length-take-le first list (omega arith) in
    let mid : length (replicate count value) ≡ count = length-replicate count value in
    let two : length (take first list ++ replicate count value) ≡ first + count = length-append (take first list) (replicate count value) ∙ omega arith in
    elim (cases_lt k (first + count)) [
      | inl under ↦
          let in-two : k < length (take first list ++ replicate count value) = omega arith in
          get_or_append_left (take first list ++ replicate count value) (drop (first + count) list) d k in-two
          ∙ elim (cases_lt k first) [
            | inl before ↦
                let in-front : k < length (take first list) = omega arith in
                get_or_append_left (take first list) (replicate count value) d k in-front ∙ get_or-take first list k d before ∙ sym (ap (λ (b : Bool). if b then value else get_or list k d) (between_outside first (first + count) k (inl before)))
            | inr from ↦
                get_or-append_right (take first list) (replicate count value) first k d front from ∙ get_or-replicate count (k - first) value d (omega arith) ∙ sym (ap (λ (b : Bool). if b then value else get_or list k d) (between_inside first (first + count) k from under))
          ]
      | inr over ↦
          let back : first + count + (k - (first + count)) ≡ k = omega arith in
          get_or-append_right (take first list ++ replicate count value) (drop (first + count) list) (first + count) k d two over ∙ get_or-drop (first + count) list (k - (first + count)) d ∙ ap (λ (j : ℕ). get_or list j d) back ∙ sym (ap (λ (b : Bool). if b then value else get_or list k d) (between_outside first (first + count) k (inr over)))
    ]

-- ---- the members

pub length_members : (words : List ℕ) (base count : ℕ) (list : List Bool) → members words base count ≡ list → length list ≡ count
length_members words base count list e = sym (ap length e) ∙ length-map-range_with_len (bit_of words) base count

pub member_at : (words : List ℕ) (base count : ℕ) (list : List Bool) (k : ℕ) (d : Bool) → members words base count ≡ list → k < count → get_or list k d ≡ bit_of words (base + k)
member_at words base count list k d e lt =
    sym (ap (λ (l : List Bool). get_or l k d) e) ∙ get_or-map-range_with_len (bit_of words) base count k (base + k) d lt refl

pub tested : (words : List ℕ) (base count : ℕ) (list : List Bool) (k : ℕ) → members words base count ≡ list → k < count → eqb (bit_and (get_or words ((base + k) / 64) 0 / 2 ^ ((base + k) % 64)) 1) 1 ≡ get_or list k false
tested words base count list k e lt =
    ap (λ (b : ℕ). eqb b 1) (shr_and_one (get_or words ((base + k) / 64) 0) ((base + k) % 64)) ∙ sym (member_at words base count list k false e lt)

shift_between : (base first count k : ℕ) → is_between (base + first) (base + first + count) (base + k) ≡ is_between first (first + count) k
shift_between base first count k =
    elim (cases_lt k first) [
      | inl before ↦ between_outside (base + first) (base + first + count) (base + k) (inl (omega arith)) ∙ sym (between_outside first (first + count) k (inl before))
      | inr from ↦ elim (cases_lt k (first + count)) [
        | inl under ↦ between_inside (base + first) (base + first + count) (base + k) (omega arith) (omega arith) ∙ sym (between_inside first (first + count) k from under)
        | inr over ↦ between_outside (base + first) (base + first + count) (base + k) (inr (omega arith)) ∙ sym (between_outside first (first + count) k (inr over))
      ]
    ]

pub members_filled : (words new : List ℕ) (base count first blocks : ℕ) (value : Bool) (list : List Bool) → members words base count ≡ list → first + blocks ≤ length list → ((i : ℕ) → base ≤ i → bit_of new i ≡ (if is_between (base + first) (base + first + blocks) i then value else bit_of words i)) → members new base count ≡ marked_from value first blocks list
members_filled words new base count first blocks value list e fits bits =
    let len : length list ≡ count = length_members words base count list e in
    let left : length (members new base count) ≡ count = length-map-range_with_len (bit_of new) base count in
    ext_get_or false (members new base count) (marked_from value first blocks list) (left ∙ sym len ∙ sym (length-marked_from value first blocks list fits)) (λ k lt.
    let lt' : k < count = omega arith in
    let from : base ≤ base + k = omega arith in
    get_or-map-range_with_len (bit_of new) base count k (base + k) false lt' refl
    ∙ bits (base + k) from
    ∙ ap (λ (b : Bool). if b then value else bit_of words (base + k)) (shift_between base first blocks k)
    ∙ ap (λ (b : Bool). if is_between first (first + blocks) k then value else b) (sym (member_at words base count list k false e lt'))
    ∙ sym (get_or-marked_from value first blocks list k false fits))

-- ---- the next member

pub none_before : (words : List ℕ) (base count from end : ℕ) (list : List Bool) → members words base count ≡ list → NoneSet (bit_of words) (base + from) end → (k : ℕ) → from ≤ k → k < count → base + k < end → get_or list k false ≡ false
none_before words base count from end list e none k low high under =
    member_at words base count list k false e high ∙ none (base + k) (omega arith) under

pub found_at : (words : List ℕ) (base count bit : ℕ) (list : List Bool) → members words base count ≡ list → base ≤ bit → bit - base < count → bit_of words bit ≡ true → get_or list (bit - base) false ≡ true
found_at words base count bit list e le lt set =
    let back : base + (bit - base) ≡ bit = omega arith in
    member_at words base count list (bit - base) false e lt ∙ ap (bit_of words) back ∙ set

-- ---- the empty set

abbrev zeros : ℕ → List ℕ
zeros n = replicate n 0

word_zero : (n i : ℕ) → (get_or (zeros n) i 0) ≡ 0
word_zero n i =
    elim (cases_lt i n) [ inl lt ↦ get_or-replicate n i 0 0 lt | inr le ↦ get_or_past (zeros n) i 0 (omega (arith, length-replicate {A = ℕ} n 0)) ]

bit_zero : (n i : ℕ) → bit_of (zeros n) i ≡ false
bit_zero n i = ap (λ (w : ℕ). is_set w (i % 64)) (word_zero n (i / 64)) ∙ clear_from_zero 0 (i % 64) (bit_at-zero (i % 64))

pub zeros_tell : (n base : ℕ) → AllTell (zeros n) base
zeros_tell n base i lt = bit_zero n i ∙ sym (ap is_filled (word_zero n (i + 1)))

pub zeros_empty : (words : List ℕ) (n base count : ℕ) → words ≡ zeros n → members words base count ≡ replicate count false
zeros_empty words n base count e =
    let left : length (members words base count) ≡ count = length-map-range_with_len (bit_of words) base count in
    ext_get_or false (members words base count) (replicate count false) (left ∙ sym (length-replicate count false)) (λ k lt.
    let lt' : k < count = omega arith in
    get_or-map-range_with_len (bit_of words) base count k (base + k) false lt' refl ∙ ap (λ (w : List ℕ). bit_of w (base + k)) e ∙ bit_zero n (base + k) ∙ sym (get_or-replicate count k false false lt'))
