-- Lists with the same elements.
use Rattle.std.specs.Prelude.{◌≡◌, List, [], ◌∷◌, ◌++◌}

-- an element is taken out of a list
pub record Picks {A : Type 0} (x : A) (old new : List A) : Type 0 where
  pub before : List A
  pub after : List A
  pub was : old ≡ before ++ (x ∷ after)
  pub becomes : new ≡ before ++ after

-- the two lists have the same elements, each as often, in any order
abbrev pub IsReordered : {A : Type 0} → List A → List A → Type 0
IsReordered [] ys = ys ≡ []
IsReordered {A} (x ∷ xs) ys = (left : List A) × Picks x ys left × IsReordered xs left
