-- The pools' answer says exactly whether a percentage is reached or not exceeded.
use Rattle.std.proofs.Common.{◌≡◌, ◌⊎◌, inl, inr, ℕ, ◌+◌, ◌*◌, ◌/◌, ◌≤◌, ◌<◌, ◌==◌, ◌&&◌, zero, suc, Bool, true, false, nat_le, nat_lt, Option, Some, None, refl, sym, ap, subst, ◌∙◌, arith, if◌then◌else◌}
use Rattle.std.proofs.Math.Nat.{add-mul, div-mul-le_self, le_of_mul-le-mul_right, lt-div-mul-add, mul-le-mul_right, mul-zero}
use Rattle.std.proofs.lemmas.Bool.{false≢true, le-leb, leb-false, leb-true, ltb-false, ltb-true, ne_eqb}
use Rattle.std.specs.Option.{option_map_or}
use Rattle.inventory_answers.specs.Stores.{pool_line}
use Rattle.inventory_rows.specs.pool_tables.declared.pool.Pool.{Pool}
use Rattle.inventory_rows.specs.pool_rows.PoolRows.{PoolRows, pool_capacity}
use Rattle.inventory_rows.specs.pool_rows.Shares.{percent_at_least, percent_at_most, reaches, rounded, stays_within, used_of, whole_of}
use Rattle.migration.specs.Marks.{has_reached, is_within}

same-tests : (a b c d : ℕ) → (a ≤ b → c ≤ d) → (c ≤ d → a ≤ b) → nat_le a b ≡ nat_le c d
same-tests a b c d f g = elim (nat_le a b) as (λ t. nat_le a b ≡ t → t ≡ nat_le c d) [
  | true ↦ λ e. sym (le-leb c d (f (leb-true a b e)))
  | false ↦ λ e. elim (nat_le c d) as (λ t. nat_le c d ≡ t → false ≡ t) [
    | true ↦ λ h. absurd (false≢true (sym e ∙ le-leb a b (g (leb-true c d h))))
    | false ↦ λ h. refl
  ] refl
] refl

-- the first of this percentage and the next one that isn't exceeded
abbrev first_of : (used whole percent : ℕ) → Option ℕ
first_of used whole percent = if nat_le (used * 100) (percent * whole) then Some percent else (if nat_le (used * 100) ((percent + 1) * whole) then Some (percent + 1) else None)

abbrev least_by : (used whole percent : ℕ) → Option ℕ
least_by used whole percent = if nat_lt percent 255 then first_of used whole percent else None

-- what rounding down leaves
record IsRounded (used whole percent : ℕ) : Type 0 where
  some : 0 < whole
  below : percent * whole ≤ used * 100
  above : used * 100 < percent * whole + whole

next-times : (percent whole : ℕ) → (percent + 1) * whole ≡ percent * whole + whole
next-times percent whole = (let h : (percent + 1) * whole ≡ percent * whole + 1 * whole = add-mul percent 1 whole in omega arith)

no-less : (m n whole used : ℕ) → 0 < whole → m * whole ≤ used → used < n * whole → m < n
no-less m n whole used some low high = elim (nat_lt m n) as (λ t. nat_lt m n ≡ t → m < n) [
  | true ↦ λ e. ltb-true m n e
  | false ↦ λ e. (let l : n ≤ m = ltb-false m n e in let k : n * whole ≤ m * whole = mul-le-mul_right whole l in absurd (omega arith))
] refl

within-rounded : (used whole percent low : ℕ) → IsRounded used whole percent → low < 255 → option_map_or (λ p. nat_le p low) (least_by used whole percent) false ≡ nat_le (used * 100) (low * whole)
within-rounded used whole percent low r few =
    let some : 0 < whole = r.some in
    let below : percent * whole ≤ used * 100 = r.below in
    let above : used * 100 < percent * whole + whole = r.above in
    let next : (percent + 1) * whole ≡ percent * whole + whole = next-times percent whole in
    elim (nat_lt percent 255) as (λ b. nat_lt percent 255 ≡ b → option_map_or (λ p. nat_le p low) (if b then first_of used whole percent else None) false ≡ nat_le (used * 100) (low * whole)) [
      | true ↦ λ e. elim (nat_le (used * 100) (percent * whole)) as (λ t. nat_le (used * 100) (percent * whole) ≡ t
          → option_map_or (λ p. nat_le p low) (if t then Some percent else (if nat_le (used * 100) ((percent + 1) * whole) then Some (percent + 1) else None)) false ≡ nat_le (used * 100) (low * whole)) [
            | true ↦ λ is. (let full : used * 100 ≤ percent * whole = leb-true (used * 100) (percent * whole) is in
                same-tests percent low (used * 100) (low * whole)
                (λ l. (let k : percent * whole ≤ low * whole = mul-le-mul_right whole l in omega arith))
                (λ l. le_of_mul-le-mul_right (omega (arith, below, l)) some))
            | false ↦ λ is. (let over : percent * whole < used * 100 = leb-false (used * 100) (percent * whole) is in
                ap (λ t. option_map_or (λ p. nat_le p low) (if t then Some (percent + 1) else None) false) (le-leb (used * 100) ((percent + 1) * whole) (omega arith))
                ∙ same-tests (percent + 1) low (used * 100) (low * whole)
                (λ l. (let k : (percent + 1) * whole ≤ low * whole = mul-le-mul_right whole l in omega arith))
                (λ l. (let k : percent < low = no-less percent low whole (percent * whole) some (omega arith) (omega (arith, l, over)) in omega arith)))
          ] refl
      | false ↦ λ e. (let many : 255 ≤ percent = ltb-false percent 255 e in
          elim (nat_le (used * 100) (low * whole)) as (λ t. nat_le (used * 100) (low * whole) ≡ t → false ≡ t) [
            | true ↦ λ h. (let l : used * 100 ≤ low * whole = leb-true (used * 100) (low * whole) h in
                let k : percent ≤ low = le_of_mul-le-mul_right (omega (arith, below, l)) some in
                absurd (omega arith))
            | false ↦ λ h. refl
          ] refl)
    ] refl

reached-rounded : (used whole percent high : ℕ) → IsRounded used whole percent → high < 255 → option_map_or (λ p. nat_le high percent) (least_by used whole percent) true ≡ nat_le (high * whole) (used * 100)
reached-rounded used whole percent high r few =
    let some : 0 < whole = r.some in
    let below : percent * whole ≤ used * 100 = r.below in
    let above : used * 100 < percent * whole + whole = r.above in
    let next : (percent + 1) * whole ≡ percent * whole + whole = next-times percent whole in
    let same : nat_le high percent ≡ nat_le (high * whole) (used * 100) =
    same-tests high percent (high * whole) (used * 100)
    (λ l. (let k : high * whole ≤ percent * whole = mul-le-mul_right whole l in omega arith))
    (λ l. (let k : high < percent + 1 = no-less high (percent + 1) whole (used * 100) some l (omega arith) in omega arith)) in
    elim (nat_lt percent 255) as (λ b. nat_lt percent 255 ≡ b → option_map_or (λ p. nat_le high percent) (if b then first_of used whole percent else None) true ≡ nat_le (high * whole) (used * 100)) [
      | true ↦ λ e. elim (nat_le (used * 100) (percent * whole)) as (λ t.
          option_map_or (λ p. nat_le high percent) (if t then Some percent else (if nat_le (used * 100) ((percent + 1) * whole) then Some (percent + 1) else None)) true ≡ nat_le (high * whole) (used * 100)) [
            | true ↦ same
            | false ↦ ap (λ t. option_map_or (λ p. nat_le high percent) (if t then Some (percent + 1) else None) true) (le-leb (used * 100) ((percent + 1) * whole) (omega arith)) ∙ same
          ]
      | false ↦ λ e. (let many : 255 ≤ percent = ltb-false percent 255 e in sym (le-leb high percent (omega arith)) ∙ same)
    ] refl

rounded-is : (used whole : ℕ) → 0 < whole → IsRounded used whole (used * 100 / whole)
rounded-is used whole some = record { some = some; below = div-mul-le_self (used * 100) whole; above = lt-div-mul-add some }

-- ---- with nothing to use

none-times : (n : ℕ) → n * 0 ≡ 0
none-times n = mul-zero n

within-none : (used low : ℕ) → option_map_or (λ p. nat_le p low) (least_by used 0 0) false ≡ nat_le (used * 100) (low * 0)
within-none used low = elim (nat_le (used * 100) 0) as (λ t. nat_le (used * 100) 0 ≡ t
    → option_map_or (λ p. nat_le p low) (if t then Some 0 else (if nat_le (used * 100) 0 then Some 1 else None)) false ≡ nat_le (used * 100) (low * 0)) [
      | true ↦ λ e. le-leb 0 low (omega arith) ∙ sym (ap (nat_le (used * 100)) (none-times low) ∙ e)
      | false ↦ λ e. ap (λ t. option_map_or (λ p. nat_le p low) (if t then Some 1 else None) false) e ∙ sym (ap (nat_le (used * 100)) (none-times low) ∙ e)
    ] refl

no-le : (n : ℕ) → 0 < n → nat_le n 0 ≡ false
no-le n l = elim (nat_le n 0) as (λ t. nat_le n 0 ≡ t → t ≡ false) [
  | true ↦ λ e. (let m : n ≤ 0 = leb-true n 0 e in absurd (omega arith))
  | false ↦ λ e. refl
] refl

not-none : (n : ℕ) → (suc n == 0) ≡ false
not-none n = ne_eqb (suc n) 0 (λ e. absurd (omega (arith, e)))

reached-none : (used high : ℕ) → option_map_or (λ p. nat_le high 0) (least_by used 0 0) true ≡ reaches high used 0
reached-none zero zero = refl
reached-none zero (suc high) = no-le (suc high) (omega arith) ∙ sym (not-none high)
reached-none (suc used) high =
    ap (λ t. option_map_or {T = ℕ} (λ p. nat_le high 0) (if t then Some 0 else (if t then Some 1 else None)) true) (no-le (suc used * 100) (omega arith))
    ∙ sym (ap (λ b. if b && true then high == 0 else nat_le (high * 0) (suc used * 100)) (not-none used) ∙ le-leb (high * 0) (suc used * 100) (let none : high * 0 ≡ 0 = none-times high in omega arith))

-- ---- a pool

rounded-at : (used whole : ℕ) → rounded used (suc whole) ≡ used * 100 / suc whole
rounded-at used whole = ap (λ b. if b then 0 else used * 100 / suc whole) (not-none whole)

within-by : (used whole low : ℕ) → low < 255 → option_map_or (λ p. nat_le p low) (least_by used whole (rounded used whole)) false ≡ stays_within low used whole
within-by used zero low few = within-none used low
within-by used (suc whole) low few =
    ap (λ (percent : ℕ). option_map_or (λ p. nat_le p low) (least_by used (suc whole) percent) false) (rounded-at used whole)
    ∙ within-rounded used (suc whole) (used * 100 / suc whole) low (rounded-is used (suc whole) (omega arith)) few

reached-by : (used whole high : ℕ) → high < 255 → option_map_or (λ p. nat_le high (rounded used whole)) (least_by used whole (rounded used whole)) true ≡ reaches high used whole
reached-by used zero high few = reached-none used high
reached-by used (suc whole) high few =
    ap (λ (percent : ℕ). option_map_or (λ p. nat_le high percent) (least_by used (suc whole) percent) true) (rounded-at used whole)
    ∙ reached-rounded used (suc whole) (used * 100 / suc whole) high (rounded-is used (suc whole) (omega arith)) few
    ∙ sym (ap (λ b. if (used == 0) && b then high == 0 else nat_le (high * suc whole) (used * 100)) (not-none whole) ∙ none-empty (used == 0))
  where
    none-empty : (b : Bool) → (if b && false then high == 0 else nat_le (high * suc whole) (used * 100)) ≡ nat_le (high * suc whole) (used * 100)
    none-empty true = refl
    none-empty false = refl

pub within-exact : (low : ℕ) (p : ℕ × Pool) (s : PoolRows) → low < 255 → is_within low (pool_line s p) ≡ percent_at_most p.0 low s
within-exact low p s few = within-by (used_of p.0 s (pool_capacity p.0 s)) (whole_of p.0 s (pool_capacity p.0 s)) low few

pub reached-exact : (high : ℕ) (p : ℕ × Pool) (s : PoolRows) → high < 255 → has_reached high (pool_line s p) ≡ percent_at_least p.0 high s
reached-exact high p s few = reached-by (used_of p.0 s (pool_capacity p.0 s)) (whole_of p.0 s (pool_capacity p.0 s)) high few
