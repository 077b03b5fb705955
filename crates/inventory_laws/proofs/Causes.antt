-- What follows where nothing is refused.
use Rattle.std.proofs.Common.{◌≡◌, ℕ, ◌+◌, ◌-◌, ◌^◌, ◌<◌, ◌≤◌, Bool, true, false, not, cond, List, [], ◌∷◌, ◌++◌, Option, Some, None, Result, Ok, Err, refl, arith}
use Rattle.std.specs.Prelude.{IsOk, is_some, max, nat_le, nat_lt, ◌&&◌}
use Rattle.std.specs.Map.{keys_of, lookup}
use Rattle.std.specs.BTreeMap.{is_at}
use Rattle.std.specs.Ordering.{is_eq, nat_cmp}
use Rattle.std.proofs.lemmas.Bool.{ltb-true}
use Rattle.kinds.specs.declared.refusal.Refusal.{Refusal}
use Rattle.inventory_rules.proofs.of_inventory_rows.of_object_rows.Stands.{same_number}
use Rattle.inventory_laws.proofs.Facts.{first, rest}
use Rattle.kinds.specs.Refusals.{unless, refusal_of}
use Rattle.kinds.specs.declared.refusal.Refusal.TheVariants as refusal
use Rattle.inventory_rules.specs.inventory_rows.State.{Inv}
use Rattle.inventory_rules.specs.Common.{file_bound, full_at}
use Rattle.inventory_rules.specs.Valid.{lie_in}

-- of two lists that together have no element neither has one
pub front_nil : {A : Type 0} (xs ys : List A) → xs ++ ys ≡ [] → xs ≡ []
front_nil [] ys h = refl
front_nil (x ∷ xs) ys h = absurd cc

pub back_nil : {A : Type 0} (xs ys : List A) → xs ++ ys ≡ [] → ys ≡ []
back_nil [] ys h = h
back_nil (x ∷ xs) ys h = absurd cc

-- a test without a refusal holds
pub holds : (b : Bool) (e : Refusal) → unless b e ≡ [] → b ≡ true
holds true e h = refl
holds false e h = absurd cc

pub not_false : (b : Bool) → not b ≡ true → b ≡ false
not_false true h = absurd cc
not_false false h = refl

-- a change without a refusal is made
pub is_made : {S : Type 0} (r : Result S Refusal) → refusal_of r ≡ [] → IsOk r
is_made (Ok s) h = refl
is_made (Err e) h = absurd cc

-- an answer without a refusal says nothing more
pub is_said : (r : Result (Unit {0}) Refusal) → refusal_of r ≡ [] → r ≡ Ok tt
is_said (Ok u) h = refl
is_said (Err e) h = absurd cc

-- the number behind the next one lies below its bound
pub below : (next bound : ℕ) → full_at next bound ≡ [] → next + 1 < bound
below next bound h = ltb-true (next + 1) bound (holds (nat_lt (next + 1) bound) _ h)

-- the number behind a file's lies below its bound
pub file_below : (file : ℕ) (v : Inv) → file_bound file v ≡ [] → file + 1 < 2 ^ 32
file_below file v h =
    let less : max v.next_file (file + 1) < 2 ^ 32 - 1 = ltb-true (max v.next_file (file + 1)) (2 ^ 32 - 1) (holds (nat_lt (max v.next_file (file + 1)) (2 ^ 32 - 1)) refusal.InventoryFull h) in
    omega (arith, less)

module _ {X : Type 0} where
  -- no row has a number from the next one on
  pub beyond : (low bound n : ℕ) (es : List (ℕ × X)) → lie_in low bound (keys_of es) ≡ true → bound ≤ n → lookup (is_at (nat_cmp n)) es ≡ None
  beyond low bound n [] h b = refl
  beyond low bound n (e ∷ es) h b =
      let here : (nat_le low e.0 && nat_lt e.0 bound) ≡ true = first (nat_le low e.0 && nat_lt e.0 bound) (lie_in low bound (keys_of es)) h in
      let less : e.0 < bound = ltb-true e.0 bound (rest (nat_le low e.0) (nat_lt e.0 bound) here) in
      let others : lookup (is_at (nat_cmp n)) es ≡ None = beyond low bound n es (rest (nat_le low e.0 && nat_lt e.0 bound) (lie_in low bound (keys_of es)) h) b in
      elim (is_eq (nat_cmp n e.0)) as (λ t. is_eq (nat_cmp n e.0) ≡ t → cond t (Some e.1) (lookup (is_at (nat_cmp n)) es) ≡ None) [
        | true ↦ λ same. absurd (let is : n ≡ e.0 = same_number n e.0 same in omega (arith, is, less, b))
        | false ↦ λ apart. others
      ] refl

  pub not_some : (o : Option X) → o ≡ None → is_some o ≡ false
  not_some None h = refl
  not_some (Some x) h = absurd cc
