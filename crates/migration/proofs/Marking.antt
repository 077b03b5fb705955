-- How full a pool is: what the pools' answer says of it.
use Rattle.std.proofs.Common.{◌≡◌, ◌⊎◌, inl, inr, ℕ, ◌+◌, ◌*◌, ◌≤◌, ◌<◌, ◌==◌, Bool, true, false, cond, nat_le, nat_lt, List, [], ◌∷◌, map, Option, Some, None, Result, Ok, Err, refl, sym, ap, subst, ◌∙◌, arith, if◌then◌else◌}
use Rattle.std.proofs.Math.Nat.{mul-le-mul_right}
use Rattle.std.proofs.lemmas.Bool.{eqb-true, false≢true, leb-true, le-leb}
use Rattle.std.specs.List.{find}
use Rattle.std.specs.Option.{option_map_or}
use Rattle.kinds.specs.declared.refusal.Refusal.{Refusal}
use Rattle.inventory_answers.specs.declared.lines.PoolLine.{PoolLine}
use Rattle.inventory_answers.specs.Stores.{first_within, least_of, pool_line, pool_lines}
use Rattle.inventory_rows.specs.pool_tables.declared.pool.Pool.{Pool}
use Rattle.inventory_rows.specs.pool_rows.PoolRows.{PoolRows, pool_capacity}
use Rattle.inventory_rows.specs.pool_rows.Shares.{percent_at_most, percent_of, stays_within, used_of, whole_of}
use Rattle.migration.specs.Marks.{is_within, line_of, onward, target, target_of}

-- ---- the line

-- a line that is found is that of a pool
record IsLine (pool : ℕ) (s : PoolRows) (l : PoolLine) : Type 0 where
  p : ℕ × Pool
  is : l ≡ pool_line s p
  number : p.0 ≡ pool

line-found : (pool : ℕ) (s : PoolRows) (pools : List (ℕ × Pool)) (l : PoolLine) → find (λ (k : PoolLine). k.number == pool) (map (pool_line s) pools) ≡ Some l → IsLine pool s l
line-found pool s [] l h = absurd cc
line-found pool s (p ∷ pools) l h =
    elim (p.0 == pool) as (λ b. (p.0 == pool) ≡ b → (if b then Some (pool_line s p) else find (λ (k : PoolLine). k.number == pool) (map (pool_line s) pools)) ≡ Some l → IsLine pool s l) [
      | true ↦ λ e t. (let same : pool_line s p ≡ l = cc in record { p = p; is = sym same; number = eqb-true p.0 pool e })
      | false ↦ λ e t. line-found pool s pools l t
    ] refl h

-- ---- percentages

within-more : (k low used whole : ℕ) → k ≤ low → stays_within k used whole ≡ true → stays_within low used whole ≡ true
within-more k low used whole l h =
    let a : used * 100 ≤ k * whole = leb-true (used * 100) (k * whole) h in
    let b : k * whole ≤ low * whole = mul-le-mul_right whole l in
    le-leb (used * 100) (low * whole) (omega arith)

pub least-within : (pool low percent : ℕ) (s : PoolRows) → option_map_or (λ p. nat_le p low) (least_of pool percent s) false ≡ true → percent_at_most pool low s ≡ true
least-within pool low percent s h =
    elim (nat_lt percent 255) as (λ b. option_map_or (λ p. nat_le p low) (if b then first_within pool percent s else None) false ≡ true → percent_at_most pool low s ≡ true) [
      | true ↦ λ t. first-one t
      | false ↦ λ t. absurd (false≢true t)
    ] h
  where
    more : (k : ℕ) → percent_at_most pool k s ≡ true → nat_le k low ≡ true → percent_at_most pool low s ≡ true
    more k at l = within-more k low (used_of pool s (pool_capacity pool s)) (whole_of pool s (pool_capacity pool s)) (leb-true k low l) at

    first-one : option_map_or (λ p. nat_le p low) (first_within pool percent s) false ≡ true → percent_at_most pool low s ≡ true
    first-one t =
        elim (percent_at_most pool percent s) as (λ b. percent_at_most pool percent s ≡ b
        → option_map_or (λ p. nat_le p low) (if b then Some percent else (if percent_at_most pool (percent + 1) s then Some (percent + 1) else None)) false ≡ true → percent_at_most pool low s ≡ true) [
          | true ↦ λ e u. more percent e u
          | false ↦ λ e u. elim (percent_at_most pool (percent + 1) s) as (λ b. percent_at_most pool (percent + 1) s ≡ b
              → option_map_or (λ p. nat_le p low) (if b then Some (percent + 1) else None) false ≡ true → percent_at_most pool low s ≡ true) [
                | true ↦ λ f v. more (percent + 1) f v
                | false ↦ λ f v. absurd (false≢true v)
              ] refl u
        ] refl t

-- where no copies are to go any more, at most the mark is used
within-by : (within : Bool) (next : Option ℕ) → onward within next ≡ Ok None → within ≡ true
within-by true next h = refl
within-by false None h = absurd cc
within-by false (Some to) h = absurd cc

pub low-by : (pool low : ℕ) (s : PoolRows) (lines : List PoolLine) → lines ≡ pool_lines None s → target pool low lines ≡ Ok None → percent_at_most pool low s ≡ true
low-by pool low s lines is h = go (line_of pool (pool_lines None s)) refl (ap (target pool low) (sym is) ∙ h) where
  go : (o : Option PoolLine) → line_of pool (pool_lines None s) ≡ o → target_of low o ≡ Ok None → percent_at_most pool low s ≡ true
  go None e t = absurd cc
  go (Some l) e t =
      let f : IsLine pool s l = line-found pool s s.pools l e in
      let within : is_within low l ≡ true = within-by (is_within low l) l.settings.next t in
      let here : is_within low (pool_line s f.p) ≡ true = ap (is_within low) (sym f.is) ∙ within in
      subst (λ (n : ℕ). percent_at_most n low s ≡ true) f.number (least-within f.p.0 low (percent_of f.p.0 s) s here)
