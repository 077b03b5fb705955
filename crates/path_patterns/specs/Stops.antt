-- How far a pattern was held against elements, piece by piece.
use Rattle.std.specs.Prelude.{◌≡◌, Bool, true, IsTrue, ℕ, List, [], ◌∷◌}
use Rattle.path_patterns.specs.Pieces.{any_rest, is_matched}

-- Pieces match elements exactly where what is left of them matches what is left of these; and where they match some rest of
-- the elements, what is left of them matches some rest of what is left.
pub record Goes (is_run : List ℕ → Bool) (fits : List ℕ → List ℕ → Bool) (pieces elements pieces_left elements_left : List (List ℕ)) : Type 0 where
  pub same : is_matched is_run fits pieces elements ≡ is_matched is_run fits pieces_left elements_left
  pub further : any_rest (λ rest. is_matched is_run fits pieces rest) elements ≡ true → any_rest (λ rest. is_matched is_run fits pieces_left rest) elements_left ≡ true

-- what is left of the pieces begins with a run, or nothing is left of both
abbrev pub IsStopped : (List ℕ → Bool) → List (List ℕ) → List (List ℕ) → Type 0
IsStopped is_run [] elements = elements ≡ []
IsStopped is_run (piece ∷ pieces) elements = IsTrue (is_run piece)
