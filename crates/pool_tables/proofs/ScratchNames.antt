-- The names of scratch volumes: each is its file number's alone.
use Rattle.std.proofs.Common.{◌≡◌, ℕ, suc, zero, ◌+◌, ◌-◌, ◌≤◌, ◌<◌, ◌^◌, Bool, true, false, cond, not, ◌&&◌, nat_le, List, [], ◌∷◌, ◌++◌, length, drop, replicate, Some, None, refl, sym, ap, ◌∙◌, arith, length-append}
use Rattle.std.specs.Prelude.{decimal}
use Rattle.std.specs.BTreeMap.{is_at}
use Rattle.std.specs.Char.{is_ascii_digit}
use Rattle.std.specs.List.{list_all, AllByRecursion}
use Rattle.std.specs.Ordering.{nat_cmp, is_eq}
use Rattle.std.specs.Str.{all_ascii_digits}
use Rattle.std.specs.Str.Parse.{digits_value, AllDigits}
use Rattle.std.specs.declared.cmp.Ordering.TheVariants.{Equal}
use Rattle.std.proofs.lemmas.Bool.{le-leb}
use Rattle.std.proofs.lemmas.Fmt.{digits_decimal, digits_value-decimal}
use Rattle.std.proofs.lemmas.List.{length-replicate}
use Rattle.std.proofs.lemmas.Str.Parse.{numerals_by_value, tells_digits, tells_all_ascii_digits}
use Rattle.volume_rows.specs.declared.volume.Volume.{Volume}
use Rattle.volume_rows.specs.kinds.Names.{is_same_name}
use Rattle.pool_tables.specs.Rows.{row_at}
use Rattle.pool_tables.specs.Names.{row_named}
use Rattle.pool_tables.specs.Scratch.{eight_digits, scratch_name, is_scratch_name, volume_name}
use Rattle.pool_tables.specs.Counted.{IsSound}
use Rattle.pool_tables.proofs.Names.{same_is}

-- ---- digits

all_digits-same : (ds : List ℕ) → list_all is_ascii_digit ds ≡ all_ascii_digits ds
all_digits-same [] = refl
all_digits-same (c ∷ ds) = ap (λ b. is_ascii_digit c && b) (all_digits-same ds)

decimal_digits : (n : ℕ) → n < 2 ^ 64 → list_all is_ascii_digit (decimal n) ≡ true
decimal_digits n small = all_digits-same (decimal n) ∙ digits_decimal (numerals_by_value (λ ds. all_ascii_digits ds ≡ true) tells_all_ascii_digits) n small

decimal_value : (n : ℕ) → n < 2 ^ 64 → digits_value 10 (decimal n) ≡ n
decimal_value n small = digits_value-decimal (numerals_by_value (AllDigits 10) tells_digits) n small

-- zeros in front change neither that there are digits alone nor their value
digits_behind : (k : ℕ) (ds : List ℕ) → list_all is_ascii_digit (replicate k 48 ++ ds) ≡ list_all is_ascii_digit ds
digits_behind zero ds = refl
digits_behind (suc k) ds = digits_behind k ds

value_behind : (k : ℕ) (ds : List ℕ) → digits_value 10 (replicate k 48 ++ ds) ≡ digits_value 10 ds
value_behind zero ds = refl
value_behind (suc k) ds = value_behind k ds

length_behind : (k : ℕ) (ds : List ℕ) → length (replicate k 48 ++ ds) ≡ k + length ds
length_behind k ds = length-append (replicate k 48) ds ∙ ap (λ n. n + length ds) (length-replicate k 48)

both : (a b : Bool) → a ≡ true → b ≡ true → (a && b) ≡ true
both a b x y = ap (λ t. t && b) x ∙ y

pub scratch_is_scratch : (file : ℕ) → file < 2 ^ 64 → is_scratch_name (scratch_name file) ≡ true
scratch_is_scratch file small =
    let whole : length (eight_digits file) ≡ (8 - length (decimal file)) + length (decimal file) = length_behind (8 - length (decimal file)) (decimal file) in
    let long : 8 ≤ length (eight_digits file) = omega arith in
    both (nat_le 8 (length (eight_digits file))) (list_all is_ascii_digit (eight_digits file)) (le-leb 8 (length (eight_digits file)) long) (digits_behind (8 - length (decimal file)) (decimal file) ∙ decimal_digits file small)

scratch_value : (file : ℕ) → file < 2 ^ 64 → digits_value 10 (drop 3 (scratch_name file)) ≡ file
scratch_value file small = value_behind (8 - length (decimal file)) (decimal file) ∙ decimal_value file small

pub scratch_apart : (m n : ℕ) → m < 2 ^ 64 → n < 2 ^ 64 → scratch_name m ≡ scratch_name n → m ≡ n
scratch_apart m n x y h = sym (scratch_value m x) ∙ ap (λ ds. digits_value 10 (drop 3 ds)) h ∙ scratch_value n y

at_itself : (k : ℕ) → is_at (nat_cmp k) k ≡ true
at_itself k = let e : nat_cmp k k ≡ Equal = grind arith in ap is_eq e

-- a volume that is there has the name of a scratch volume only if it is that one
not_scratch : (file : ℕ) (e : ℕ × Volume) → file < 2 ^ 32 → IsSound e.0 e.1 → is_same_name e.1.name (scratch_name file) ≡ true → file ≡ e.0
not_scratch file e small sound same =
    elim e.1.scratch as (λ b. cond b (is_same_name e.1.name (scratch_name e.0)) (not (is_scratch_name e.1.name)) ≡ true → file ≡ e.0) [
      | true ↦ λ named.
          let first : file < 2 ^ 64 = omega arith in
          let there : e.0 < 2 ^ 32 = sound.small in
          let second : e.0 < 2 ^ 64 = omega arith in
          scratch_apart file e.0 first second (sym (same_is e.1.name (scratch_name file) same) ∙ same_is e.1.name (scratch_name e.0) named)
      | false ↦ λ named.
          let first : file < 2 ^ 64 = omega arith in
          let is : is_scratch_name e.1.name ≡ true = ap is_scratch_name (same_is e.1.name (scratch_name file) same) ∙ scratch_is_scratch file first in
          absurd (let clash : false ≡ true = sym (ap not is) ∙ named in cc)
    ] sound.named

pub scratch_free : (file : ℕ) (rows : List (ℕ × Volume)) → file < 2 ^ 32 → row_at file rows ≡ None → AllByRecursion (λ (e : ℕ × Volume). IsSound e.0 e.1) rows → row_named volume_name (scratch_name file) rows ≡ None
scratch_free file [] small absent all = refl
scratch_free file (e ∷ rows) small absent all =
    elim (is_same_name e.1.name (scratch_name file)) as (λ b. is_same_name e.1.name (scratch_name file) ≡ b → cond b (Some e.0) (row_named volume_name (scratch_name file) rows) ≡ None) [
      | true ↦ λ same.
          let here : file ≡ e.0 = not_scratch file e small all.0 same in
          let at : is_at (nat_cmp file) e.0 ≡ true = ap (λ n. is_at (nat_cmp file) n) (sym here) ∙ at_itself file in
          absurd (let clash : Some e.1 ≡ None = sym (ap (λ b. cond b (Some e.1) (row_at file rows)) at) ∙ absent in cc)
      | false ↦ λ _.
          scratch_free file rows small
          (elim (is_at (nat_cmp file) e.0) as (λ b. cond b (Some e.1) (row_at file rows) ≡ None → row_at file rows ≡ None) [
            | true ↦ λ t. absurd (cc)
            | false ↦ λ t. t
          ] absent) all.1
    ] refl
