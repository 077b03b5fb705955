-- What it says that no refusal holds.
use Rattle.std.proofs.Common.{◌≡◌, ℕ, ◌+◌, ◌^◌, Bool, true, false, ltb, leb, List, [], ◌∷◌, ◌++◌, Option, Some, None, Result, Ok, Err, refl}
use Rattle.kinds.specs.declared.refusal.Refusal.{Refusal}
use Rattle.kinds.specs.declared.refusal.Refusal.TheVariants as refusal
use Rattle.inventory_rules.specs.entries.declared.change.Change.{Change}
use Rattle.inventory_rules.specs.inventory_rows.Items.{count_items, most_items}
use Rattle.inventory_rules.specs.inventory_rows.State.{Inv}
use Rattle.inventory_rules.specs.Common.{or_same, full_at}
use Rattle.inventory_rules.specs.Transactions.{effect, sizes_refused}
use Rattle.kinds.specs.Refusals.{refusal_of, used_by, unless}

pub front_nil : {A : Type 0} (xs ys : List A) → xs ++ ys ≡ [] → xs ≡ []
front_nil [] ys h = refl
front_nil (x ∷ xs) ys h = absurd (cc)

pub behind_nil : {A : Type 0} (xs ys : List A) → xs ++ ys ≡ [] → ys ≡ []
behind_nil [] ys h = h
behind_nil (x ∷ xs) ys h = absurd (cc)

-- the test holds where its refusal doesn't
pub met : (b : Bool) (e : Refusal) → unless b e ≡ [] → b ≡ true
met true e h = refl
met false e h = absurd (cc)

pub unused : {X : Type 0} (name : X → Refusal) (o : Option X) → used_by name o ≡ [] → o ≡ None
unused name None h = refl
unused name (Some x) h = absurd (cc)

-- where a change isn't refused, what it gives is there
pub given : {S : Type 0} (P : S → Type 0) (old : S) (r : Result S Refusal) → refusal_of r ≡ [] → ((new : S) → r ≡ Ok new → P new) → P (or_same old r)
given P old (Ok new) h f = f new refl
given P old (Err e) h f = absurd (cc)

-- the next number is below its bound
pub below_bound : (next bound : ℕ) → full_at next bound ≡ [] → ltb (next + 1) bound ≡ true
below_bound next bound h = met (ltb (next + 1) bound) refusal.InventoryFull h

pub few_items : (c : Change) (v : Inv) → sizes_refused c v ≡ [] → leb (count_items (effect c v)) most_items ≡ true
few_items c v h = met (leb (count_items (effect c v)) most_items) refusal.InventoryFull (front_nil (unless (leb (count_items (effect c v)) most_items) refusal.InventoryFull) (full_at v.number (2 ^ 62)) h)

pub number_bounded : (c : Change) (v : Inv) → sizes_refused c v ≡ [] → ltb (v.number + 1) (2 ^ 62) ≡ true
number_bounded c v h = below_bound v.number (2 ^ 62) (behind_nil (unless (leb (count_items (effect c v)) most_items) refusal.InventoryFull) (full_at v.number (2 ^ 62)) h)
