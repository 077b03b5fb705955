use Rattle.std.proofs.Common.{◌≡◌, ℕ, ◌+◌, ◌-◌, ◌*◌, ◌/◌, ◌%◌, ◌^◌, ◌<◌, ◌≤◌, Bool, true, false, refl, sym, ap, ◌∙◌, arith, inl, inr, lit<}
use Rattle.std.specs.Prelude.{◌==◌, if◌then◌else◌, ◌&&◌, ◌⊎◌, nat_lt, nat_le}
use Prim.Native.Nat.{max, min}
use Rattle.std.specs.Int.{bit_at, bit_not, w64, trailing_zeros}
use Rattle.std.specs.Int.RustNames.{bit_or}
use lib.Bits.{bit_and}
use Rattle.std.proofs.lemmas.Nat.Bits.{bit_at-trailing_zeros, bit_at_or, bit_at_and, bit_at_not, bit_at-lt, bit_at_mask_inside, bit_at_mask_below, bit_at_mask_above, ones_shr, bit_at_above, bit_at-zero}
use Rattle.std.proofs.lemmas.Nat.{pow-add, pow_pos}
use Rattle.std.proofs.Math.Nat.{div-div-eq-div-mul, mul-sub, mul_comm, mul-one, mod-eq_of_lt, pow-le-pow_right}
use Rattle.std.proofs.lemmas.Bool.{eq-eqb, ne_eqb, eqb-true, cases_lt, lt-ltb, le-ltb, le-leb, lt-leb}
use Rattle.extent_map.specs.Bits.{is_set, is_between, NoneSet, IsLowest}

-- ---- one word

pub set_from_one : (word i : ℕ) → bit_at word i ≡ 1 → is_set word i ≡ true
set_from_one word i e = eq-eqb (bit_at word i) 1 e

pub clear_from_zero : (word i : ℕ) → bit_at word i ≡ 0 → is_set word i ≡ false
clear_from_zero word i e = ne_eqb (bit_at word i) 1 (λ h. absurd (omega (arith, e, h)))

pub lowest_is : (word : ℕ) → 0 < word → word < 2 ^ 64 → IsLowest (is_set word) 0 64 (trailing_zeros w64 word)
lowest_is word some fits =
    let t = bit_at-trailing_zeros w64 word some fits in
    record {
      from = omega arith;
      before = t.0;
      here = set_from_one word (trailing_zeros w64 word) t.1;
      none_below = λ i low high. clear_from_zero word i (t.2 i high);
    }

-- a bit of a word that was shifted is one of the word
pub shifted : (word low i : ℕ) → is_set (word / 2 ^ low) i ≡ is_set word (low + i)
shifted word low i = ap (λ (q : ℕ). q % 2 == 1) (div-div-eq-div-mul word (2 ^ low) (2 ^ i) ∙ ap (λ (p : ℕ). word / p) (sym (pow-add 2 low i)))

shifted_to : (word low i j : ℕ) → low + i ≡ j → is_set (word / 2 ^ low) i ≡ is_set word j
shifted_to word low i j e = shifted word low i ∙ ap (λ (k : ℕ). is_set word k) e

none_in_zero : (word low i : ℕ) → word / 2 ^ low ≡ 0 → low ≤ i → is_set word i ≡ false
none_in_zero word low i e le =
    let split : low + (i - low) ≡ i = omega arith in
    sym (shifted_to word low (i - low) i split) ∙ ap (λ (q : ℕ). is_set q (i - low)) e ∙ clear_from_zero 0 (i - low) (bit_at-zero (i - low))

pub none_from : (word low : ℕ) → word / 2 ^ low ≡ 0 → NoneSet (is_set word) low 64
none_from word low e i le lt = none_in_zero word low i e le

set_below : (word i : ℕ) → word < 2 ^ 64 → is_set word i ≡ true → i < 64
set_below word i fits set =
    elim (cases_lt i 64) [
      | inl lt ↦ lt
      | inr le ↦ let high : bit_at word i ≡ 0 = bit_at_above word 64 i fits le in
          let one : bit_at word i ≡ 1 = eqb-true (bit_at word i) 1 set in
          absurd (omega (arith, high, one))
    ]

pub lowest_after : (word low r : ℕ) → word < 2 ^ 64 → IsLowest (is_set (word / 2 ^ low)) 0 64 r → IsLowest (is_set word) low 64 (low + r)
lowest_after word low r fits is =
    let set : is_set word (low + r) ≡ true = sym (shifted word low r) ∙ is.here in
    record {
      from = omega arith;
      before = set_below word (low + r) fits set;
      here = set;
      none_below = λ i from before.
          let split : low + (i - low) ≡ i = omega arith in
          let less : i - low < r = omega arith in
          let zero-or-more : 0 ≤ i - low = omega arith in
          sym (shifted_to word low (i - low) i split) ∙ is.none_below (i - low) zero-or-more less;
    }

-- ---- the bits from `low` to before `high`

mask_of : (high low : ℕ) → low < high → high ≤ 64 → (2 ^ 64 - 1) / 2 ^ (64 - (high - low)) * 2 ^ low % 2 ^ 64 ≡ 2 ^ high - 2 ^ low
mask_of high low order within =
    let width : 64 - (high - low) ≤ 64 = omega arith in
    let left : 64 - (64 - (high - low)) ≡ high - low = omega arith in
    let sum : low + (high - low) ≡ high = omega arith in
    let ones : (2 ^ 64 - 1) / 2 ^ (64 - (high - low)) ≡ 2 ^ (high - low) - 1 = ones_shr 64 (64 - (high - low)) width ∙ ap (λ (k : ℕ). 2 ^ k - 1) left in
    let whole : (2 ^ (high - low) - 1) * 2 ^ low ≡ 2 ^ high - 2 ^ low =
    mul_comm (2 ^ (high - low) - 1) (2 ^ low) ∙ mul-sub (2 ^ low) (2 ^ (high - low)) 1 ∙ ap (λ (p : ℕ). p - 2 ^ low * 1) (sym (pow-add 2 low (high - low)) ∙ ap (λ (k : ℕ). 2 ^ k) sum) ∙ ap (λ (q : ℕ). 2 ^ high - q) (mul-one (2 ^ low)) in
    let some : 0 < 2 ^ low = pow_pos low in
    let two : 0 < 2 = lit< tt in
    let under : 2 ^ high ≤ 2 ^ 64 = pow-le-pow_right two within in
    let under' : 2 ^ high - 2 ^ low < 2 ^ 64 = omega (arith, pow_pos high) in
    ap (λ (q : ℕ). q * 2 ^ low % 2 ^ 64) ones ∙ ap (λ (q : ℕ). q % 2 ^ 64) whole ∙ mod-eq_of_lt under'

set_is : (word i : ℕ) (b : Bool) → (b ≡ true → bit_at word i ≡ 1) → (b ≡ false → bit_at word i ≡ 0) → is_set word i ≡ b
set_is word i true one none = set_from_one word i (one refl)
set_is word i false one none = clear_from_zero word i (none refl)

bit_is : (word i : ℕ) → (bit_at word i ≡ 0) → is_set word i ≡ false
bit_is word i e = clear_from_zero word i e

between_below : (low high i : ℕ) → i < low → is_between low high i ≡ false
between_below low high i lt = ap (λ b. b && nat_lt i high) (lt-leb low i lt)

pub between_inside : (low high i : ℕ) → low ≤ i → i < high → is_between low high i ≡ true
between_inside low high i le lt = ap (λ b. b && nat_lt i high) (le-leb low i le) ∙ lt-ltb i high lt

between_above : (low high i : ℕ) → high ≤ i → is_between low high i ≡ false
between_above low high i le =
    elim (nat_le low i) as (λ b. (b && nat_lt i high) ≡ false) [ true ↦ le-ltb i high le | false ↦ refl ]

pub between_outside : (low high i : ℕ) → (i < low) ⊎ (high ≤ i) → is_between low high i ≡ false
between_outside low high i (inl lt) = between_below low high i lt
between_outside low high i (inr le) = between_above low high i le

-- whether a bit is set in the mask
mask_is : (low high i : ℕ) → bit_at (2 ^ high - 2 ^ low) i ≡ (if is_between low high i then 1 else 0)
mask_is low high i =
    elim (cases_lt i low) [
      | inl lt ↦ bit_at_mask_below low high i lt ∙ sym (ap (λ b. if b then 1 else 0) (between_below low high i lt))
      | inr le ↦ elim (cases_lt i high) [
        | inl lt ↦ bit_at_mask_inside low high i le lt ∙ sym (ap (λ b. if b then 1 else 0) (between_inside low high i le lt))
        | inr over ↦ bit_at_mask_above low high i over ∙ sym (ap (λ b. if b then 1 else 0) (between_above low high i over))
      ]
    ]

one_or : (word mask i : ℕ) (b : Bool) → bit_at mask i ≡ (if b then 1 else 0) → is_set (bit_or word mask) i ≡ (if b then true else is_set word i)
one_or word mask i true e =
    set_from_one (bit_or word mask) i (bit_at_or word mask i ∙ ap (λ (m : ℕ). max (bit_at word i) m) e ∙ omega (arith, bit_at-lt word i))
one_or word mask i false e =
    ap (λ (m : ℕ). m == 1) (bit_at_or word mask i ∙ ap (λ (m : ℕ). max (bit_at word i) m) e ∙ omega arith)

none_and : (word mask i : ℕ) (b : Bool) → mask < 2 ^ 64 → i < 64 → bit_at mask i ≡ (if b then 1 else 0) → is_set (bit_and word (bit_not w64 mask)) i ≡ (if b then false else is_set word i)
none_and word mask i true fits lt e =
    clear_from_zero (bit_and word (bit_not w64 mask)) i (bit_at_and word (bit_not w64 mask) i ∙ ap (λ (m : ℕ). min (bit_at word i) m) (bit_at_not w64 mask i fits lt ∙ ap (λ (m : ℕ). 1 - m) e) ∙ omega arith)
none_and word mask i false fits lt e =
    ap (λ (m : ℕ). m == 1) (bit_at_and word (bit_not w64 mask) i ∙ ap (λ (m : ℕ). min (bit_at word i) m) (bit_at_not w64 mask i fits lt ∙ ap (λ (m : ℕ). 1 - m) e) ∙ omega (arith, bit_at-lt word i))

pub bits_set : (word low high i : ℕ) → low < high → high ≤ 64 → is_set (bit_or word ((2 ^ 64 - 1) / 2 ^ (64 - (high - low)) * 2 ^ low % 2 ^ 64)) i ≡ (if is_between low high i then true else is_set word i)
bits_set word low high i order within =
    ap (λ (m : ℕ). is_set (bit_or word m) i) (mask_of high low order within) ∙ one_or word (2 ^ high - 2 ^ low) i (is_between low high i) (mask_is low high i)

pub bits_cleared : (word low high i : ℕ) → low < high → high ≤ 64 → i < 64 → is_set (bit_and word (bit_not w64 ((2 ^ 64 - 1) / 2 ^ (64 - (high - low)) * 2 ^ low % 2 ^ 64))) i ≡ (if is_between low high i then false else is_set word i)
bits_cleared word low high i order within lt =
    let two : 0 < 2 = lit< tt in
    let under : 2 ^ high ≤ 2 ^ 64 = pow-le-pow_right two within in
    let fits : 2 ^ high - 2 ^ low < 2 ^ 64 = omega (arith, pow_pos high, pow_pos low) in
    ap (λ (m : ℕ). is_set (bit_and word (bit_not w64 m)) i) (mask_of high low order within) ∙ none_and word (2 ^ high - 2 ^ low) i (is_between low high i) fits lt (mask_is low high i)
