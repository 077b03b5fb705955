-- Elements of lists.
use Rattle.std.proofs.Common.{◌≡◌, inl, inr, ℕ, Bool, true, false, List, [], ◌∷◌, ◌++◌, Some, refl, sym, ap, subst, if◌then◌else◌}
use Rattle.std.proofs.lemmas.Bool.{false≢true}
use Rattle.std.specs.List.{flat_map}
use Rattle.std.specs.Map.{lookup}
use Rattle.inventory_work.specs.Lists.{only}
use Rattle.steps.specs.Events.{Event}
use Rattle.copy_runs.proofs.Outcomes.{in-before, in-behind}
use Rattle.copy_runs.specs.Ends.{last_of}
use Rattle.copy_runs.specs.Wanting.{IsIn}

pub flat-member : {A B : Type 0} (f : A → List B) (x : B) (y : A) (ys : List A) → IsIn y ys → IsIn x (f y) → IsIn x (flat_map f ys)
flat-member f x y [] h m = absurd h
flat-member f x y (z ∷ zs) (inl h) m = in-before x (f z) (flat_map f zs) (subst (λ a. IsIn x (f a)) (sym h) m)
flat-member f x y (z ∷ zs) (inr h) m = in-behind x (f z) (flat_map f zs) (flat-member f x y zs h m)

-- what is looked up is an entry
pub found-member : {K V : Type 0} (test : K → Bool) (es : List (K × V)) (v : V) → lookup test es ≡ Some v → (k : K) × IsIn (k, v) es × (test k ≡ true)
found-member test [] v h = absurd cc
found-member {K} {V} test (e ∷ es) v h =
    elim (test e.0) as (λ b. test e.0 ≡ b → (if b then Some e.1 else lookup test es) ≡ Some v → (k : K) × IsIn (k, v) (e ∷ es) × (test k ≡ true)) [
      | true ↦ λ t s. (let same : e.1 ≡ v = cc in (e.0, inl (ap (λ (x : V). (e.0, x)) same), t))
      | false ↦ λ t s. (let r = found-member test es v s in (r.0, inr r.1, r.2))
    ] refl h

pub only-member : {A : Type 0} (b : Bool) (line x : A) → b ≡ true → line ≡ x → IsIn x (only b line)
only-member true line x h e = inl e
only-member false line x h e = absurd (false≢true h)

pub last-behind : (xs : List Event) (y : Event) (ys : List Event) → last_of (xs ++ (y ∷ ys)) ≡ last_of (y ∷ ys)
last-behind [] y ys = refl
last-behind (x ∷ []) y ys = refl
last-behind (x ∷ k ∷ xs) y ys = last-behind (k ∷ xs) y ys
