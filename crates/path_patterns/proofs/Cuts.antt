-- How parts and characters are cut off the front of bytes.
use Rattle.std.proofs.Common.{◌≡◌, ◌≢◌, ℕ, zero, suc, ◌+◌, ◌<◌, ◌≤◌, true, false, List, [], ◌∷◌, length, take, drop, get_or, refl, ap, arith}
use Rattle.std.proofs.lemmas.Bool.{eq-eqb, ne_eqb}
use Rattle.path_patterns.specs.Patterns.{glued, parts, parts_left, is_continuation, characters}

pub characters_cut : (n : ℕ) (b : ℕ) (bytes : List ℕ) → n ≤ length bytes → ((k : ℕ) → k < n → is_continuation (get_or bytes k 0) ≡ true) → (n < length bytes → is_continuation (get_or bytes n 0) ≡ false) →
    characters (b ∷ bytes) ≡ (b ∷ take n bytes) ∷ characters (drop n bytes)
unfolding characters
characters_cut zero b [] within before end = refl
characters_cut zero b (c ∷ bytes) within before end =
    let stops : is_continuation c ≡ false = end (omega arith) in
    rw stops refl
characters_cut (suc n) b [] within before end = absurd (omega arith)
characters_cut (suc n) b (c ∷ bytes) within before end =
    let goes : is_continuation c ≡ true = before 0 (omega arith) in
    rw goes (ap (glued b) (characters_cut n c bytes (omega arith) (λ k lt. before (suc k) (omega arith)) (λ lt. end (omega arith))))

pub parts_cut : (n : ℕ) (bytes : List ℕ) → n ≤ length bytes → ((k : ℕ) → k < n → get_or bytes k 0 ≢ 47) → (n < length bytes → get_or bytes n 0 ≡ 47) →
    parts bytes ≡ take n bytes ∷ parts_left (drop n bytes)
unfolding parts
parts_cut zero [] within before end = refl
parts_cut zero (c ∷ bytes) within before end =
    let slash : c ≡ 47 = end (omega arith) in
    rw (eq-eqb c 47 slash) refl
parts_cut (suc n) [] within before end = absurd (omega arith)
parts_cut (suc n) (c ∷ bytes) within before end =
    let other : c ≢ 47 = before 0 (omega arith) in
    rw (ne_eqb c 47 other) (ap (glued c) (parts_cut n bytes (omega arith) (λ k lt. before (suc k) (omega arith)) (λ lt. end (omega arith))))

pub no_characters : (bytes : List ℕ) → length bytes ≡ 0 → characters bytes ≡ []
unfolding characters
no_characters [] none = refl
no_characters (b ∷ bytes) none = absurd (omega arith)

-- the same of bytes whose first byte is split off
pub next_character : (b : ℕ) (bytes rest : List ℕ) (n : ℕ) → bytes ≡ b ∷ rest → n ≤ length rest → ((k : ℕ) → k < n → is_continuation (get_or rest k 0) ≡ true) → (n < length rest → is_continuation (get_or rest n 0) ≡ false) →
    characters bytes ≡ take (1 + n) bytes ∷ characters (drop (1 + n) bytes)
next_character b bytes rest n e within before end =
    let one : 1 + n ≡ suc n = omega arith in
    rw (e, one) (characters_cut n b rest within before end)

pub next_part : (b : ℕ) (bytes rest : List ℕ) (n : ℕ) → bytes ≡ b ∷ rest → n ≤ length rest → ((k : ℕ) → k < n → get_or rest k 0 ≢ 47) → (n < length rest → get_or rest n 0 ≡ 47) →
    parts_left bytes ≡ take n rest ∷ parts_left (drop n rest)
next_part b bytes rest n e within before end = rw e (parts_cut n rest within before end)
