-- Pieces of a pattern held against the elements of what it is to match, in order.
use Rattle.std.specs.Prelude.{◌≡◌, ◌⊎◌, Bool, true, false, IsTrue, not, ◌&&◌, ◌||◌, ℕ, List, [], ◌∷◌, ◌++◌, if◌then◌else◌}

-- Pieces match elements: a run matches zero or more of them, and any other piece one that it fits.
abbrev pub Matches : (List ℕ → Bool) → (List ℕ → List ℕ → Type 0) → List (List ℕ) → List (List ℕ) → Type 0
Matches is_run Fits [] elements = elements ≡ []
Matches is_run Fits (piece ∷ pieces) elements =
    (IsTrue (is_run piece) × ((front : List (List ℕ)) × (rest : List (List ℕ)) × (elements ≡ front ++ rest) × Matches is_run Fits pieces rest))
    ⊎ (IsTrue (not (is_run piece)) × ((element : List ℕ) × (rest : List (List ℕ)) × (elements ≡ element ∷ rest) × Fits piece element × Matches is_run Fits pieces rest))

-- some rest of the elements passes: all of them, or what is left behind some of them
abbrev pub any_rest : (List (List ℕ) → Bool) → List (List ℕ) → Bool
any_rest passes [] = passes []
any_rest passes (element ∷ elements) = passes (element ∷ elements) || any_rest passes elements

-- there is a first element, it fits, and the rest passes
abbrev pub first_then : (List ℕ → Bool) → (List (List ℕ) → Bool) → List (List ℕ) → Bool
first_then fits passes [] = false
first_then fits passes (element ∷ elements) = fits element && passes elements

-- there are none
abbrev pub is_none_left : List (List ℕ) → Bool
is_none_left [] = true
is_none_left (element ∷ elements) = false

-- the same as a test: whether pieces match elements
unfoldable pub is_matched : (List ℕ → Bool) → (List ℕ → List ℕ → Bool) → List (List ℕ) → List (List ℕ) → Bool
is_matched is_run fits [] elements = is_none_left elements
is_matched is_run fits (piece ∷ pieces) elements =
    if is_run piece then any_rest (λ rest. is_matched is_run fits pieces rest) elements else first_then (fits piece) (λ rest. is_matched is_run fits pieces rest) elements
