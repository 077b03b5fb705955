-- What follows where a transaction isn't refused.
use Rattle.std.proofs.Common.{◌≡◌, Bool, true, false, List, [], ◌∷◌, ◌++◌, Option, Some, None, refl}
use Rattle.kinds.specs.declared.refusal.Refusal.{Refusal}
use Rattle.kinds.specs.Refusals.{foremost, sooner_of}
use Rattle.entries.specs.declared.change.Change.{Change}
use Rattle.inventory_rows.specs.State.{Inv}
use Rattle.inventory_rules.specs.Transactions.{effect, causes, refused, sizes_refused, then_valid}
use Rattle.inventory_rules.specs.Journal.{Journal}
use Rattle.inventory_rules.specs.Valid.{is_valid}

-- where none is foremost there is none
pub none_of : (es : List Refusal) → foremost es ≡ None → es ≡ []
none_of [] h = refl
none_of (e ∷ es) h = go (foremost es) h where
  go : (o : Option Refusal) → sooner_of (Some e) o ≡ None → e ∷ es ≡ []
  go None h = absurd cc
  go (Some f) h = absurd cc

parts : (o : Option Refusal) (b : Bool) → then_valid o b ≡ None → (o ≡ None) × (b ≡ true)
parts (Some e) b h = absurd cc
parts None true h = (refl, refl)
parts None false h = absurd cc

-- a transaction that isn't refused: there is no cause, no size, and the database after it is valid
pub record IsFree (j : Journal) (c : Change) (v : Inv) : Type 0 where
  pub causes : causes j c v ≡ []
  pub sizes : sizes_refused c v ≡ []
  pub valid : is_valid (effect c v) ≡ true

front_nil : {A : Type 0} (xs ys : List A) → xs ++ ys ≡ [] → xs ≡ []
front_nil [] ys h = refl
front_nil (x ∷ xs) ys h = absurd cc

back_nil : {A : Type 0} (xs ys : List A) → xs ++ ys ≡ [] → ys ≡ []
back_nil [] ys h = h
back_nil (x ∷ xs) ys h = absurd cc

pub is_free : (j : Journal) (c : Change) (v : Inv) → refused j c v ≡ None → IsFree j c v
unfolding refused
is_free j c v h =
    let p = parts (foremost (causes j c v ++ sizes_refused c v)) (is_valid (effect c v)) h in
    let none : causes j c v ++ sizes_refused c v ≡ [] = none_of (causes j c v ++ sizes_refused c v) p.0 in
    record {
      causes = front_nil (causes j c v) (sizes_refused c v) none;
      sizes = back_nil (causes j c v) (sizes_refused c v) none;
      valid = p.1;
    }
