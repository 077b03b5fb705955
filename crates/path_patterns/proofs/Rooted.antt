-- A pattern begins with a slash, so the path does too, or is empty; and the test says what the relation says.
use Rattle.std.proofs.Common.{◌≡◌, ℕ, Bool, true, false, IsTrue, not, ◌&&◌, List, [], ◌∷◌, length, refl, ap}
use Rattle.std.specs.Prelude.{◌==◌, nat_le, if◌then◌else◌}
use Rattle.path_patterns.proofs.Held.{matched_means, means_matched}
use Rattle.path_patterns.specs.Pieces.{is_none_left, is_matched}
use Rattle.path_patterns.specs.Patterns.{is_pattern, glued, parts, parts_left, continues, characters, is_star, fits_character, is_dots, MatchesPart, MatchesPath, fits_part, is_match, begins_inside_part}

first_of : (a b : Bool) → (a && b) ≡ true → a ≡ true
first_of true b e = refl
first_of false b e = absurd cc

is_not : (b : Bool) → not b ≡ true → b ≡ false
is_not true e = absurd cc
is_not false e = refl

is_so : (b : Bool) → not b ≡ false → b ≡ true
is_so true e = refl
is_so false e = absurd cc

-- the parts of what begins with a slash, or is empty
parts_rooted : (bytes : List ℕ) → begins_inside_part bytes ≡ false → parts bytes ≡ [] ∷ parts_left bytes
unfolding parts
parts_rooted [] inside = refl
parts_rooted (b ∷ bytes) inside = rw (is_so (b == 47) inside) refl

-- the first part of what begins otherwise isn't empty
parts_inside : (bytes : List ℕ) → begins_inside_part bytes ≡ true → (b : ℕ) × (first : List ℕ) × (rest : List (List ℕ)) × (parts bytes ≡ (b ∷ first) ∷ rest)
unfolding parts
parts_inside [] inside = absurd cc
parts_inside (b ∷ bytes) inside = glued_first b (parts bytes) (rw (is_not (b == 47) inside) refl) where
  glued_first : (b : ℕ) (pieces : List (List ℕ)) → {whole : List (List ℕ)} → whole ≡ glued b pieces → (b : ℕ) × (first : List ℕ) × (rest : List (List ℕ)) × (whole ≡ (b ∷ first) ∷ rest)
  glued_first b [] e = (b, [], [], e)
  glued_first b (first ∷ rest) e = (b, first, rest, e)

-- there are characters in what isn't empty
characters_some : (b : ℕ) (bytes : List ℕ) → (first : List ℕ) × (rest : List (List ℕ)) × (characters (b ∷ bytes) ≡ first ∷ rest)
unfolding characters
characters_some b bytes = by_next (continues bytes) (characters bytes) where
  by_next : (go : Bool) (others : List (List ℕ)) → (first : List ℕ) × (rest : List (List ℕ)) × ((if go then glued b others else (b ∷ []) ∷ others) ≡ first ∷ rest)
  by_next true [] = (b ∷ [], [], refl)
  by_next true (first ∷ rest) = (b ∷ first, rest, refl)
  by_next false others = (b ∷ [], others, refl)

-- an empty part of a pattern matches an empty part alone
fits_empty : fits_part [] [] ≡ true
unfolding is_matched characters
fits_empty = refl

unfits_other : (b : ℕ) (bytes : List ℕ) → fits_part [] (b ∷ bytes) ≡ false
unfolding is_matched characters
unfits_other b bytes = let some = characters_some b bytes in ap (λ (cs : List (List ℕ)). is_none_left cs) some.2

-- a pattern begins with a slash
pattern_rooted : (pattern : List ℕ) → is_pattern pattern ≡ true → begins_inside_part pattern ≡ false
pattern_rooted [] h = refl
pattern_rooted (b ∷ bytes) h = ap not (first_of (b == 47) (nat_le (length (b ∷ bytes)) 1024) h)

no_dots_first : is_dots [] ≡ false
no_dots_first = refl

pub matched_rooted : (pattern path : List ℕ) → is_pattern pattern ≡ true → begins_inside_part path ≡ false → is_matched is_dots fits_part (parts_left pattern) (parts_left path) ≡ is_match pattern path
unfolding is_matched
matched_rooted pattern path h inside =
    rw (parts_rooted pattern (pattern_rooted pattern h), parts_rooted path inside) (rw fits_empty refl)

pub unmatched_inside : (pattern path : List ℕ) → is_pattern pattern ≡ true → begins_inside_part path ≡ true → is_match pattern path ≡ false
unfolding is_matched
unmatched_inside pattern path h inside =
    let some = parts_inside path inside in
    rw (parts_rooted pattern (pattern_rooted pattern h), some.3) (rw (unfits_other some.0 some.1) refl)

-- ---- the test says what the relation says

pub match_means : (pattern path : List ℕ) → is_match pattern path ≡ true → MatchesPath pattern path
match_means pattern path h =
    matched_means is_dots fits_part MatchesPart
    (λ part of_path t. matched_means is_star fits_character (λ piece character. IsTrue (fits_character piece character)) (λ piece character t. t) (characters part) (characters of_path) t)
    (parts pattern) (parts path) h

pub means_match : (pattern path : List ℕ) → MatchesPath pattern path → is_match pattern path ≡ true
means_match pattern path m =
    means_matched is_dots fits_part MatchesPart
    (λ part of_path t. means_matched is_star fits_character (λ piece character. IsTrue (fits_character piece character)) (λ piece character t. t) (characters part) (characters of_path) t)
    (parts pattern) (parts path) m
