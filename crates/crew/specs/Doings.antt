-- What passes did, one after the other.
use Rattle.std.proofs.Common.{◌≡◌, ℕ, List, [], ◌∷◌, ◌++◌, refl, sym, ap, ◌∙◌, append_assoc}
use Rattle.std.proofs.lemmas.List.{append-nil}
use Rattle.steps.specs.Calls.{risen, risen_by}
use Rattle.steps.specs.Events.{Event}
use Rattle.crew.specs.Passes.{Diary, Did}

risen_on : (n : ℕ) (xs ys : List Event) → risen n (xs ++ ys) ≡ risen (risen n xs) ys
risen_on n [] ys = refl
risen_on n (x ∷ xs) ys = risen_on (risen_by n x.deed) xs ys

pub nothing : (own : Diary) (refused : ℕ) → Did own refused [] own refused
nothing own refused = (refl, sym (append-nil own.1), refl)

pub joined : (p q r : Diary) (i j k : ℕ) (xs ys : List Event) → Did p i xs q j → Did q j ys r k → Did p i (xs ++ ys) r k
joined p q r i j k xs ys first next = (
  next.0 ∙ first.0,
  next.1 ∙ ap (λ (l : List Event). l ++ ys) first.1 ∙ append_assoc p.1 xs ys,
  next.2 ∙ ap (λ (n : ℕ). risen n ys) first.2 ∙ sym (risen_on i xs ys),
)
