-- The laws of what an actor did who has a hall alone.
use Rattle.std.proofs.Common.{◌≡◌, ℕ, List, [], ◌∷◌, ◌++◌, Option, refl, sym, ap, subst, ◌∙◌}
use Rattle.store_api.specs.Disk.{History}
use Rattle.steps.specs.Calls.{risen, risen_by}
use Rattle.steps.specs.Events.{Event}
use Rattle.hall.specs.Alone.{Did, Ran}
use Rattle.hall.specs.Held.{Hall}

risen_on : (n : ℕ) (xs ys : List Event) → risen n (xs ++ ys) ≡ risen (risen n xs) ys
risen_on n [] ys = refl
risen_on n (x ∷ xs) ys = risen_on (risen_by n x.deed) xs ys

module _ {S : Type 0} (told : S → Option History) (moment : S → ℕ) (faults : S → ℕ → ℕ) where
  ran_on : (actor : ℕ) (xs ys : List Event) (p q r : Hall S) → Ran told moment faults actor xs p q → Ran told moment faults actor ys q r → Ran told moment faults actor (xs ++ ys) p r
  ran_on actor [] ys p q r a b = subst (λ (h : Hall S). Ran told moment faults actor ys h r) a b
  ran_on actor (e ∷ xs) ys p q r a b = (a.0, a.1, a.2, a.3, ran_on actor xs ys a.0 q r a.4 b)

  pub nothing : {N : Type 0} (name : N) (actor refused : ℕ) (hall : Hall S) → Did told moment faults name actor refused hall [] name actor refused hall
  nothing name actor refused hall = (refl, refl, refl, refl)

  pub joined : {N : Type 0} (a b c : N) (i j k m n o : ℕ) (p q r : Hall S) (xs ys : List Event) → Did told moment faults a i m p xs b j n q → Did told moment faults b j n q ys c k o r
      → Did told moment faults a i m p (xs ++ ys) c k o r
  joined a b c i j k m n o p q r xs ys first next = (
    next.0 ∙ first.0,
    next.1 ∙ first.1,
    next.2 ∙ ap (λ (l : ℕ). risen l ys) first.2 ∙ sym (risen_on m xs ys),
    ran_on i xs ys p q r first.3 (subst (λ (l : ℕ). Ran told moment faults l ys q r) first.1 next.3),
  )
