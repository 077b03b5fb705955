-- Bits of a list of words, and the levels of bits that tell of words.
use Rattle.std.proofs.Common.{◌≡◌, ℕ, ◌+◌, ◌-◌, ◌*◌, ◌/◌, ◌%◌, ◌<◌, ◌≤◌, zero, suc, Bool, true, false, not, eqb, List, length, get_or, set, sym, ap, ◌∙◌, arith, inl, inr}
use Rattle.std.specs.Prelude.{if◌then◌else◌, ◌≢◌, ◌⊎◌}
use lib.ListN
use Rattle.std.proofs.lemmas.List.{get_or-set_same, get_or-set_other, get_or_past}
use Rattle.std.proofs.lemmas.Bool.{cases_lt, cases_eq, ltb-true, ltb-false, lt-ltb, le-ltb, eq-eqb, ne_eqb}
use Rattle.std.proofs.lemmas.Nat.Bits.{bit_at-zero}
use Rattle.extent_map.specs.Bits.{is_set, is_between, NoneSet, IsLowest}
use Rattle.extent_map.specs.Levels.{bit_of, level_start, is_filled, Tells, AllTell, OthersTell}
use Rattle.extent_map.proofs.Words.{clear_from_zero, between_inside, between_outside}

-- ---- a bit and its word

pub bit_in_word : (words : List ℕ) (i at : ℕ) → i / 64 ≡ at → bit_of words i ≡ is_set (get_or words at 0) (i % 64)
bit_in_word words i at e = ap (λ (k : ℕ). is_set (get_or words k 0) (i % 64)) e

pub bit_of-set_same : (words : List ℕ) (at word i : ℕ) → at < length words → i / 64 ≡ at → bit_of (set words at word) i ≡ is_set word (i % 64)
bit_of-set_same words at word i lt e = bit_in_word (set words at word) i at e ∙ ap (λ (w : ℕ). is_set w (i % 64)) (get_or-set_same words at word 0 lt)

pub bit_of-set_other : (words : List ℕ) (at word i : ℕ) → (i / 64) ≢ at → bit_of (set words at word) i ≡ bit_of words i
bit_of-set_other words at word i ne = ap (λ (w : ℕ). is_set w (i % 64)) (get_or-set_other words at (i / 64) word 0 ne)

-- ---- a word was written, and the bit that tells of it

abbrev TellsOnly : List ℕ → ℕ → ℕ → Bool → Type 0
TellsOnly words above telling filled = (i : ℕ) → i < 64 → is_set telling i ≡ (if is_between (above % 64) (above % 64 + 1) i then filled else is_set (get_or words (above / 64) 0) i)

pub others_kept : (words : List ℕ) (above telling : ℕ) (filled : Bool) → above / 64 < length words → TellsOnly words above telling filled → (i : ℕ) → i ≢ above → bit_of (set words (above / 64) telling) i ≡ bit_of words i
others_kept words above telling filled within bits i ne =
    elim (cases_eq (i / 64) (above / 64)) [
      | inl e ↦
          let small : i % 64 < 64 = omega arith in
          let apart : (i % 64 < above % 64) ⊎ (above % 64 + 1 ≤ i % 64) = elim (cases_lt (i % 64) (above % 64)) [ inl lt ↦ inl lt | inr le ↦ inr (omega arith) ] in
          bit_of-set_same words (above / 64) telling i within e ∙ bits (i % 64) small ∙ ap (λ (b : Bool). if b then filled else is_set (get_or words (above / 64) 0) (i % 64)) (between_outside (above % 64) (above % 64 + 1) (i % 64) apart) ∙ sym (bit_in_word words i (above / 64) e)
      | inr n ↦ bit_of-set_other words (above / 64) telling i n
    ]

pub told_above : (words : List ℕ) (base at above telling : ℕ) (filled : Bool) → above + 1 ≡ at → above / 64 < length words → TellsOnly words above telling filled → filled ≡ is_filled (get_or words at 0) → OthersTell words base at → OthersTell (set words (above / 64) telling) base (above / 64)
told_above words base at above telling filled next within bits says others i lt ne =
    let word : is_filled (get_or words (i + 1) 0) ≡ is_filled (get_or (set words (above / 64) telling) (i + 1) 0) = ap is_filled (sym (get_or-set_other words (above / 64) (i + 1) telling 0 ne)) in
    elim (cases_eq i above) [
      | inl e ↦
          let small : i % 64 < 64 = omega arith in
          let from : above % 64 ≤ i % 64 = omega (arith, e) in
          let before : i % 64 < above % 64 + 1 = omega (arith, e) in
          let here : i / 64 ≡ above / 64 = ap (λ (k : ℕ). k / 64) e in
          let behind : at ≡ i + 1 = sym next ∙ ap (λ (k : ℕ). k + 1) (sym e) in
          bit_of-set_same words (above / 64) telling i within here ∙ bits (i % 64) small ∙ ap (λ (b : Bool). if b then filled else is_set (get_or words (above / 64) 0) (i % 64)) (between_inside (above % 64) (above % 64 + 1) (i % 64) from before) ∙ says ∙ ap (λ (k : ℕ). is_filled (get_or words k 0)) behind ∙ word
      | inr n ↦
          let apart : (i + 1) ≢ at = λ h. n (omega (arith, h, next)) in
          others_kept words above telling filled within bits i n ∙ others i lt apart ∙ word
    ]

-- ---- the next bit of a level

pub level_above : (depth start at : ℕ) → start ≡ level_start depth → at < start → (start ≡ 64 * (start / 64 - 1 + 1)) × (start / 64 - 1 ≡ level_start (depth - 1))
level_above zero start at e lt = let none : start ≡ 0 = e in absurd (omega (arith, none))
level_above (suc d) start at e lt =
    let whole : start ≡ 64 * (level_start d + 1) = e in
    let up : start / 64 - 1 ≡ level_start d = omega (arith, whole) in
    let below : d ≡ suc d - 1 = omega arith in
    (omega (arith, whole), up ∙ ap level_start below)

pub deep : (depth start at : ℕ) → start ≡ level_start depth → at < start → 0 < depth
deep zero start at e lt = let none : start ≡ 0 = e in absurd (omega (arith, none))
deep (suc d) start at e lt = omega arith

pub filled_below : (words : List ℕ) (i : ℕ) → Tells words i → bit_of words i ≡ true → 0 < get_or words (i + 1) 0
filled_below words i tells set = ltb-true 0 (get_or words (i + 1) 0) (sym tells ∙ set)

pub is_there : (words : List ℕ) (k : ℕ) → 0 < get_or words k 0 → k < length words
is_there words k some =
    elim (cases_lt k (length words)) [ inl lt ↦ lt | inr le ↦ absurd (omega (arith, some, get_or_past words k 0 le)) ]

none_below_clear : (words : List ℕ) (i k : ℕ) → i / 64 ≡ k + 1 → Tells words k → bit_of words k ≡ false → bit_of words i ≡ false
none_below_clear words i k e tells clear =
    let none : get_or words (k + 1) 0 ≤ 0 = ltb-false 0 (get_or words (k + 1) 0) (sym tells ∙ clear) in
    let empty : get_or words (k + 1) 0 ≡ 0 = omega arith in
    bit_in_word words i (k + 1) e ∙ ap (λ (w : ℕ). is_set w (i % 64)) empty ∙ clear_from_zero 0 (i % 64) (bit_at-zero (i % 64))

-- no bit is set in the words of which no bit tells
none_between : (words : List ℕ) (start from above : ℕ) → AllTell words start → above ≤ start → NoneSet (is_set (get_or words (from / 64) 0)) (from % 64) 64 → NoneSet (bit_of words) (from / 64) above → (i : ℕ) → from ≤ i → i < 64 * (above + 1) → bit_of words i ≡ false
none_between words start from above telling within here none i le lt =
    elim (cases_eq (i / 64) (from / 64)) [
      | inl e ↦
          let low : from % 64 ≤ i % 64 = omega arith in
          let high : i % 64 < 64 = omega arith in
          bit_in_word words i (from / 64) e ∙ here (i % 64) low high
      | inr n ↦
          let low : from / 64 ≤ i / 64 - 1 = omega arith in
          let high : i / 64 - 1 < above = omega arith in
          let known : i / 64 - 1 < start = omega arith in
          let next : i / 64 ≡ i / 64 - 1 + 1 = omega arith in
          none_below_clear words i (i / 64 - 1) next (telling (i / 64 - 1) known) (none (i / 64 - 1) low high)
    ]

pub none_below : (words : List ℕ) (start from end : ℕ) → AllTell words start → start ≡ end → NoneSet (is_set (get_or words (from / 64) 0)) (from % 64) 64 → NoneSet (bit_of words) (from / 64) end → NoneSet (bit_of words) from (64 * (start + 1))
none_below words start from end telling e here none i le lt =
    none_between words start from start telling (omega arith) here (λ k low high. none k low (omega (arith, e))) i le lt

pub lowest_below : (words : List ℕ) (start from end above low : ℕ) → AllTell words start → start ≡ end → NoneSet (is_set (get_or words (from / 64) 0)) (from % 64) 64 → IsLowest (bit_of words) (from / 64) end above → IsLowest (is_set (get_or words (above + 1) 0)) 0 64 low → IsLowest (bit_of words) from (64 * (start + 1)) (64 * (above + 1) + low)
lowest_below words start from end above low telling e here up down =
    let at : (64 * (above + 1) + low) / 64 ≡ above + 1 = omega (arith, down.before) in
    let rest : (64 * (above + 1) + low) % 64 ≡ low = omega (arith, down.before) in
    let less : above < start = omega (arith, up.before, e) in
    record {
      from = omega (arith, up.from);
      before = omega (arith, down.before);
      here = bit_in_word words (64 * (above + 1) + low) (above + 1) at ∙ ap (λ (k : ℕ). is_set (get_or words (above + 1) 0) k) rest ∙ down.here;
      none_below = λ i le lt.
          elim (cases_lt i (64 * (above + 1))) [
            | inl under ↦ none_between words start from above telling (omega arith) here up.none_below i le under
            | inr over ↦
                let word : i / 64 ≡ above + 1 = omega (arith, down.before) in
                let left : i % 64 < low = omega (arith, down.before) in
                let zero-or-more : 0 ≤ i % 64 = omega arith in
                bit_in_word words i (above + 1) word ∙ down.none_below (i % 64) zero-or-more left
          ];
    }

-- ---- bits from `low` to before `high`, one word after another

abbrev chosen : Bool → Bool → Bool → Bool
chosen b set rest = if b then set else rest

both_outside : (a b c : Bool) (set rest : Bool) → a ≡ false → b ≡ false → c ≡ false → chosen a set (chosen b set rest) ≡ chosen c set rest
both_outside a b c set rest e f g = ap (λ (x : Bool). chosen x set (chosen b set rest)) e ∙ ap (λ (x : Bool). chosen x set rest) f ∙ ap (λ (x : Bool). chosen x set rest) (sym g)

same_word : (low done stop i : ℕ) (set rest : Bool) → low ≤ done → done < stop → stop ≤ 64 * (done / 64 + 1) → i / 64 ≡ done / 64 → chosen (is_between (done % 64) (stop - 64 * (done / 64)) (i % 64)) set (chosen (is_between low done i) set rest) ≡ chosen (is_between low stop i) set rest
same_word low done stop i set rest order more whole e =
    elim (cases_lt i done) [
      | inl before ↦
          let before' : i % 64 < done % 64 = omega (arith, e) in
          elim (cases_lt i low) [
            | inl under ↦ both_outside _ _ _ set rest (between_outside _ _ (i % 64) (inl before')) (between_outside low done i (inl under)) (between_outside low stop i (inl under))
            | inr from ↦
                ap (λ (x : Bool). chosen x set (chosen (is_between low done i) set rest)) (between_outside _ _ (i % 64) (inl before')) ∙ ap (λ (x : Bool). chosen x set rest) (between_inside low done i from before ∙ sym (between_inside low stop i from (omega arith)))
          ]
      | inr after ↦
          elim (cases_lt i stop) [
            | inl before ↦
                let from : done % 64 ≤ i % 64 = omega (arith, e) in
                let less : i % 64 < stop - 64 * (done / 64) = omega (arith, e) in
                let low' : low ≤ i = omega arith in
                ap (λ (x : Bool). chosen x set (chosen (is_between low done i) set rest)) (between_inside _ _ (i % 64) from less) ∙ ap (λ (x : Bool). chosen x set rest) (sym (between_inside low stop i low' before))
            | inr over ↦
                let over' : stop - 64 * (done / 64) ≤ i % 64 = omega (arith, e) in
                both_outside _ _ _ set rest (between_outside _ _ (i % 64) (inr over')) (between_outside low done i (inr after)) (between_outside low stop i (inr over))
          ]
    ]

other_word : (low done stop i : ℕ) (set rest : Bool) → low ≤ done → done < stop → stop ≤ 64 * (done / 64 + 1) → (i / 64) ≢ (done / 64) → chosen (is_between low done i) set rest ≡ chosen (is_between low stop i) set rest
other_word low done stop i set rest order more whole ne =
    elim (cases_lt i done) [
      | inl before ↦
          elim (cases_lt i low) [
            | inl under ↦ ap (λ (x : Bool). chosen x set rest) (between_outside low done i (inl under) ∙ sym (between_outside low stop i (inl under)))
            | inr from ↦ ap (λ (x : Bool). chosen x set rest) (between_inside low done i from before ∙ sym (between_inside low stop i from (omega arith)))
          ]
      | inr after ↦
          let over : stop ≤ i = elim (cases_lt i stop) [ inl lt ↦ absurd (ne (omega arith)) | inr le ↦ le ] in
          ap (λ (x : Bool). chosen x set rest) (between_outside low done i (inr after) ∙ sym (between_outside low stop i (inr over)))
    ]

-- a step of the loop that writes word after word
pub filled_more : (words : List ℕ) (low done stop word : ℕ) (set rest : Bool) (i : ℕ) → low ≤ done → done < stop → stop ≤ 64 * (done / 64 + 1) → done / 64 < length words → ((k : ℕ) → k < 64 → is_set word k ≡ (if is_between (done % 64) (stop - 64 * (done / 64)) k then set else is_set (get_or words (done / 64) 0) k)) → bit_of words i ≡ (if is_between low done i then set else rest) → bit_of (lib.ListN.set words (done / 64) word) i ≡ (if is_between low stop i then set else rest)
filled_more words low done stop word set rest i order more whole within bits was =
    elim (cases_eq (i / 64) (done / 64)) [
      | inl e ↦
          let small : i % 64 < 64 = omega arith in
          bit_of-set_same words (done / 64) word i within e ∙ bits (i % 64) small ∙ ap (λ (b : Bool). chosen (is_between (done % 64) (stop - 64 * (done / 64)) (i % 64)) set b) (sym (bit_in_word words i (done / 64) e) ∙ was) ∙ same_word low done stop i set rest order more whole e
      | inr n ↦ bit_of-set_other words (done / 64) word i n ∙ was ∙ other_word low done stop i set rest order more whole n
    ]

-- a word that isn't 0 is filled
pub filled_is : (word : ℕ) → not (eqb word 0) ≡ is_filled word
filled_is word =
    elim (cases_lt 0 word) [
      | inl lt ↦ ap not (ne_eqb word 0 (λ e. absurd (omega (arith, e, lt)))) ∙ sym (lt-ltb 0 word lt)
      | inr le ↦ ap not (eq-eqb word 0 (omega arith)) ∙ sym (le-ltb 0 word le)
    ]
