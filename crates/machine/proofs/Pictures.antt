-- The image of one actor, where one is in progress.
use Rattle.std.proofs.Common.{◌≡◌, ℕ, ◌==◌, Bool, true, false, [], Option, Some, None, refl, sym, ap, ◌∙◌, if◌then◌else◌}
use Rattle.std.proofs.lemmas.Bool.{eq-eqb, eqb-true, ne_eqb}
use Rattle.machine.specs.Machine.{in_progress}
use Rattle.machine.specs.State.{Image, own_image}

pub own-begun : (actor : ℕ) (i : Image) → i.actor ≡ actor → own_image actor (Some i) ≡ Some i
own-begun actor i h = ap (λ (b : Bool). if b then Some i else None) (eq-eqb i.actor actor h)

pub others-begun : (other : ℕ) (i : Image) → (i.actor ≡ other → ⊥) → own_image other (Some i) ≡ None
others-begun other i n = ap (λ (b : Bool). if b then Some i else None) (ne_eqb i.actor other n)

-- none is in progress
pub none-begun : (found : Option Image) → in_progress found ≡ [] → found ≡ None
none-begun None h = refl
none-begun (Some i) h = absurd cc

own-actor : (actor : ℕ) (x i : Image) → own_image actor (Some x) ≡ Some i → (x ≡ i) × (i.actor ≡ actor)
own-actor actor x i h =
    elim (x.actor == actor) as (λ b. (x.actor == actor) ≡ b → (if b then Some x else None) ≡ Some i → (x ≡ i) × (i.actor ≡ actor)) [
      | true ↦ λ e s. (let same : x ≡ i = cc in (same, ap (λ (j : Image). j.actor) (sym same) ∙ eqb-true x.actor actor e))
      | false ↦ λ e s. absurd cc
    ] refl h

-- the actor's image is the one in progress
pub own-is : (actor : ℕ) (found : Option Image) (i : Image) → own_image actor found ≡ Some i → (found ≡ Some i) × (i.actor ≡ actor)
own-is actor None i h = absurd cc
own-is actor (Some x) i h = let r = own-actor actor x i h in (ap Some r.0, r.1)

-- where it is this actor's, no other has one
pub others-none : (actor other : ℕ) (found : Option Image) (i : Image) → (other ≡ actor → ⊥) → own_image actor found ≡ Some i → own_image other found ≡ None
others-none actor other found i n h =
    let r = own-is actor found i h in
    ap (own_image other) r.0 ∙ others-begun other i (λ (s : i.actor ≡ other). n (sym s ∙ r.1))
