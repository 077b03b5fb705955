-- A transaction on data item by item: what holds of the database so far, and of the items that are left.
use Rattle.std.proofs.Common.{◌≡◌, ℕ, true, false, eqb, not, List, [], ◌∷◌, map, sym}
use Rattle.std.specs.List.{list_all, AllByRecursion}
use Rattle.std.proofs.lemmas.Bool.{and_parts, eqb-false, ne_eqb, not-true}
use Rattle.inventory_rules.specs.inventory_rows.State.{Inv}
use Rattle.inventory_rules.specs.Common.{each}
use Rattle.inventory_rules.specs.Versions.{name_once}
use Rattle.inventory_rules.specs.Ordered.{IsOrdered}
use Rattle.inventory_laws.specs.Steady.{IsSteady}

-- what holds of the database between two items
pub record Holds (n : ℕ) (v : Inv) : Type 0 where
  pub steady : IsSteady n [] v

-- the same, and the rows stand in order
pub record HoldsInOrder (n : ℕ) (v : Inv) : Type 0 where
  pub holds : Holds n v
  pub ordered : IsOrdered v

-- what holds between two items; each item that is left finds what it needs, and names an object of its own
pub record Underway {X : Type 0} (Between : Inv → Type 0) (Finds : X → Inv → Type 0) (object : X → ℕ) (items : List X) (v : Inv) : Type 0 where
  pub holds : Between v
  pub finds : AllByRecursion (λ i. Finds i v) items
  pub once : name_once (map object items) ≡ true

turned : (a b : ℕ) → not (eqb a b) ≡ true → eqb b a ≡ false
turned a b h = ne_eqb b a (λ t. eqb-false a b (not-true (eqb a b) h) (sym t))

module _ {X : Type 0} (Between : Inv → Type 0) (Finds : X → Inv → Type 0) (object : X → ℕ) (step : X → Inv → Inv) where
  -- the items that are left are of other objects, and find what they need still
  others : (i : X) (v : Inv) → ((k : X) → eqb (object k) (object i) ≡ false → Finds k v → Finds k (step i v)) → (items : List X) → list_all (λ b. not (eqb (object i) b)) (map object items) ≡ true
      → AllByRecursion (λ k. Finds k v) items → AllByRecursion (λ k. Finds k (step i v)) items
  others i v stay [] apart h = tt
  others i v stay (k ∷ items) apart h =
      let parts = and_parts (not (eqb (object i) (object k))) (list_all (λ b. not (eqb (object i) b)) (map object items)) apart in
      (stay k (turned (object i) (object k) parts.0) h.0, others i v stay items parts.1 h.1)

  pub all_hold : ((i : X) (v : Inv) → Between v → Finds i v → Between (step i v)) → ((i k : X) (v : Inv) → eqb (object k) (object i) ≡ false → Between v → Finds i v → Finds k v → Finds k (step i v))
      → (items : List X) (v : Inv) → Underway Between Finds object items v → Between (each step items v)
  all_hold goes stay [] v u = u.holds
  all_hold goes stay (i ∷ items) v u =
      let parts = and_parts (list_all (λ b. not (eqb (object i) b)) (map object items)) (name_once (map object items)) u.once in
      all_hold goes stay items (step i v)
      (record {
        holds = goes i v u.holds u.finds.0;
        finds = others i v (λ k ne. stay i k v ne u.holds u.finds.0) items parts.0 u.finds.1;
        once = parts.1;
      })

-- where an item needs nothing
pub each_holds : {X : Type 0} (n : ℕ) (step : X → Inv → Inv) → ((i : X) (v : Inv) → Holds n v → Holds n (step i v)) → (items : List X) (v : Inv) → Holds n v → Holds n (each step items v)
each_holds n step goes [] v h = h
each_holds n step goes (i ∷ items) v h = each_holds n step goes items (step i v) (goes i v h)
