-- Tests of lists and numbers, and causes of refusals that don't hold.
use Rattle.std.proofs.Common.{◌≡◌, ℕ, ◌+◌, Bool, true, false, eqb, not, List, [], ◌∷◌, ◌++◌, map, refl, sym, ◌∙◌, arith}
use Rattle.std.specs.Prelude.{nat_le}
use Rattle.std.specs.List.{list_all, flat_map}
use Rattle.std.proofs.lemmas.Bool.{and_from, eqb-false, le-leb, ne_eqb, not-true}
use Rattle.kinds.specs.declared.refusal.Refusal.{Refusal}
use Rattle.inventory_rules.specs.inventory_rows.version_groups.Entries.{all_later}
use Rattle.kinds.specs.Refusals.{unless}
use Rattle.inventory_rules.specs.Versions.{name_once}
use Rattle.inventory_laws.proofs.Spliced.{all_later-map}

pub unless_holds : (b : Bool) (e : Refusal) → unless b e ≡ [] → b ≡ true
unless_holds true e h = refl
unless_holds false e h = absurd cc

pub both_none : {A : Type 0} (xs ys : List A) → xs ++ ys ≡ [] → (xs ≡ []) × (ys ≡ [])
both_none [] ys h = (refl, h)
both_none (x ∷ xs) ys h = absurd cc

-- where no item is refused, each passes the test
pub all_taken : {X : Type 0} (rule : X → List Refusal) (p : X → Bool) → ((x : X) → rule x ≡ [] → p x ≡ true) → (xs : List X) → flat_map rule xs ≡ [] → list_all p xs ≡ true
all_taken rule p f [] h = refl
all_taken rule p f (x ∷ xs) h =
    let parts = both_none (rule x) (flat_map rule xs) h in
    and_from (p x) (list_all p xs) (f x parts.0) (all_taken rule p f xs parts.1)

pub named_once : {X : Type 0} (object : X → ℕ) (xs : List X) → name_once (map object xs) ≡ true → all_later (λ a b. not (eqb (object a) (object b))) xs ≡ true
named_once object xs h = sym (all_later-map (λ a b. not (eqb a b)) object xs) ∙ h

pub other_number : (a b : ℕ) → not (eqb a b) ≡ true → eqb b a ≡ false
other_number a b h = ne_eqb b a (λ e. eqb-false a b (not-true (eqb a b) h) (sym e))

pub no_later : (n : ℕ) → nat_le n n ≡ true
no_later n = le-leb n n (omega arith)

pub before_next : (n : ℕ) → nat_le n (n + 1) ≡ true
before_next n = le-leb n (n + 1) (omega arith)
