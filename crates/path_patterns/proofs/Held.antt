-- Pieces held against elements: steps along both, and runs.
use Rattle.std.proofs.Common.{◌≡◌, ◌⊎◌, inl, inr, ℕ, Bool, true, false, ◌&&◌, ◌||◌, not, List, [], ◌∷◌, ◌++◌, refl, sym, ap, ◌∙◌}
use Rattle.std.specs.Prelude.{if◌then◌else◌}
use Rattle.path_patterns.specs.Pieces.{Matches, any_rest, first_then, is_none_left, is_matched}
use Rattle.path_patterns.specs.Stops.{Goes, IsStopped}

-- ---- tests

either : (a b : Bool) → (a || b) ≡ true → (a ≡ true) ⊎ (b ≡ true)
either true b e = inl refl
either false b e = inr e

or_right : (a b : Bool) → b ≡ true → (a || b) ≡ true
or_right true b e = refl
or_right false b e = e

both : (a b : Bool) → (a && b) ≡ true → (a ≡ true) × (b ≡ true)
both true b e = (refl, e)
both false b e = absurd cc

same_test : (a b : Bool) → (a ≡ true → b ≡ true) → (b ≡ true → a ≡ true) → a ≡ b
same_test true b f g = sym (f refl)
same_test false true f g = g refl
same_test false false f g = refl

-- ---- rests

any_here : (passes : List (List ℕ) → Bool) (xs : List (List ℕ)) → passes xs ≡ true → any_rest passes xs ≡ true
any_here passes [] h = h
any_here passes (x ∷ xs) h = rw h refl

any_behind : (fits : List ℕ → Bool) (passes : List (List ℕ) → Bool) (x : List ℕ) (xs : List (List ℕ)) → any_rest (λ rest. first_then fits passes rest) (x ∷ xs) ≡ true → any_rest passes xs ≡ true
any_behind fits passes x [] h = elim (either (fits x && passes []) false h) [ inl here ↦ (both (fits x) (passes []) here).1 | inr later ↦ absurd cc ]
any_behind fits passes x (y ∷ ys) h = elim (either (fits x && passes (y ∷ ys)) (any_rest (λ rest. first_then fits passes rest) (y ∷ ys)) h) [
  | inl here ↦ any_here passes (y ∷ ys) (both (fits x) (passes (y ∷ ys)) here).1
  | inr later ↦ or_right (passes (y ∷ ys)) (any_rest passes ys) (any_behind fits passes y ys later)
]

any_twice : (passes : List (List ℕ) → Bool) (xs : List (List ℕ)) → any_rest (λ rest. any_rest passes rest) xs ≡ true → any_rest passes xs ≡ true
any_twice passes [] h = h
any_twice passes (x ∷ xs) h = elim (either (any_rest passes (x ∷ xs)) (any_rest (λ rest. any_rest passes rest) xs) h) [
  | inl here ↦ here
  | inr later ↦ or_right (passes (x ∷ xs)) (any_rest passes xs) (any_twice passes xs later)
]

-- ---- steps along pieces and elements

any_fixed : (is_run : List ℕ → Bool) (fits : List ℕ → List ℕ → Bool) (piece : List ℕ) (behind xs : List (List ℕ)) → is_run piece ≡ false →
    any_rest (λ r. is_matched is_run fits (piece ∷ behind) r) xs ≡ any_rest (λ r. first_then (fits piece) (λ t. is_matched is_run fits behind t) r) xs
unfolding is_matched
any_fixed is_run fits piece behind xs fixed =
    ap (λ (b : Bool). any_rest (λ r. if b then any_rest (λ t. is_matched is_run fits behind t) r else first_then (fits piece) (λ t. is_matched is_run fits behind t) r) xs) fixed

any_run : (is_run : List ℕ → Bool) (fits : List ℕ → List ℕ → Bool) (piece : List ℕ) (behind xs : List (List ℕ)) → is_run piece ≡ true →
    any_rest (λ r. is_matched is_run fits (piece ∷ behind) r) xs ≡ any_rest (λ r. any_rest (λ t. is_matched is_run fits behind t) r) xs
unfolding is_matched
any_run is_run fits piece behind xs run =
    ap (λ (b : Bool). any_rest (λ r. if b then any_rest (λ t. is_matched is_run fits behind t) r else first_then (fits piece) (λ t. is_matched is_run fits behind t) r) xs) run

pub goes_on : (is_run : List ℕ → Bool) (fits : List ℕ → List ℕ → Bool) (ps xs pieces_left elements_left : List (List ℕ)) (piece : List ℕ) (behind : List (List ℕ)) (element : List ℕ) (rest : List (List ℕ)) →
    Goes is_run fits ps xs pieces_left elements_left → pieces_left ≡ piece ∷ behind → elements_left ≡ element ∷ rest → is_run piece ≡ false → fits piece element ≡ true → Goes is_run fits ps xs behind rest
unfolding is_matched
goes_on is_run fits ps xs pieces_left elements_left piece behind element rest goes p e fixed fit =
    let same : is_matched is_run fits pieces_left elements_left ≡ is_matched is_run fits (piece ∷ behind) (element ∷ rest) =
    ap (λ (q : List (List ℕ)). is_matched is_run fits q elements_left) p ∙ ap (λ (q : List (List ℕ)). is_matched is_run fits (piece ∷ behind) q) e in
    let any_same : any_rest (λ r. is_matched is_run fits pieces_left r) elements_left ≡ any_rest (λ r. first_then (fits piece) (λ t. is_matched is_run fits behind t) r) (element ∷ rest) =
    ap (λ (q : List (List ℕ)). any_rest (λ r. is_matched is_run fits q r) elements_left) p ∙ ap (λ (q : List (List ℕ)). any_rest (λ r. is_matched is_run fits (piece ∷ behind) r) q) e
    ∙ any_fixed is_run fits piece behind (element ∷ rest) fixed in
    record {
      same = goes.same ∙ same ∙ rw (fixed, fit) refl;
      further = λ h. any_behind (fits piece) (λ r. is_matched is_run fits behind r) element rest (sym any_same ∙ goes.further h);
    }

pub apart_ended : (is_run : List ℕ → Bool) (fits : List ℕ → List ℕ → Bool) (ps xs pieces_left elements_left : List (List ℕ)) (piece : List ℕ) (behind : List (List ℕ)) →
    Goes is_run fits ps xs pieces_left elements_left → pieces_left ≡ piece ∷ behind → elements_left ≡ [] → is_run piece ≡ false → is_matched is_run fits ps xs ≡ false
unfolding is_matched
apart_ended is_run fits ps xs pieces_left elements_left piece behind goes p e fixed = goes.same ∙ rw (p, e) (rw fixed refl)

pub apart_here : (is_run : List ℕ → Bool) (fits : List ℕ → List ℕ → Bool) (ps xs pieces_left elements_left : List (List ℕ)) (piece : List ℕ) (behind : List (List ℕ)) (element : List ℕ) (rest : List (List ℕ)) →
    Goes is_run fits ps xs pieces_left elements_left → pieces_left ≡ piece ∷ behind → elements_left ≡ element ∷ rest → is_run piece ≡ false → fits piece element ≡ false → is_matched is_run fits ps xs ≡ false
unfolding is_matched
apart_here is_run fits ps xs pieces_left elements_left piece behind element rest goes p e fixed unfit = goes.same ∙ rw (p, e) (rw (fixed, unfit) refl)

pub apart_over : (is_run : List ℕ → Bool) (fits : List ℕ → List ℕ → Bool) (ps xs pieces_left elements_left : List (List ℕ)) (element : List ℕ) (rest : List (List ℕ)) →
    Goes is_run fits ps xs pieces_left elements_left → pieces_left ≡ [] → elements_left ≡ element ∷ rest → is_matched is_run fits ps xs ≡ false
unfolding is_matched
apart_over is_run fits ps xs pieces_left elements_left element rest goes p e = goes.same ∙ rw (p, e) refl

-- ---- runs

pub ends_both : (is_run : List ℕ → Bool) (fits : List ℕ → List ℕ → Bool) (ps xs pieces_left elements_left : List (List ℕ)) →
    Goes is_run fits ps xs pieces_left elements_left → IsStopped is_run pieces_left elements_left → pieces_left ≡ [] → is_matched is_run fits ps xs ≡ true
unfolding is_matched
ends_both is_run fits ps xs pieces_left elements_left goes stopped p =
    let none : elements_left ≡ [] = rw p at stopped in
    goes.same ∙ rw (p, none) refl

pub matched_at_run : (is_run : List ℕ → Bool) (fits : List ℕ → List ℕ → Bool) (ps xs pieces_left elements_left : List (List ℕ)) (piece : List ℕ) (behind : List (List ℕ)) →
    Goes is_run fits ps xs pieces_left elements_left → IsStopped is_run pieces_left elements_left → pieces_left ≡ piece ∷ behind →
    is_matched is_run fits ps xs ≡ any_rest (λ rest. is_matched is_run fits behind rest) elements_left
unfolding is_matched
matched_at_run is_run fits ps xs pieces_left elements_left piece behind goes stopped p =
    let run : is_run piece ≡ true = rw p at stopped in
    goes.same ∙ rw p (rw run refl)

pub any_at_run : (is_run : List ℕ → Bool) (fits : List ℕ → List ℕ → Bool) (ps xs pieces_left elements_left : List (List ℕ)) (piece : List ℕ) (behind : List (List ℕ)) →
    Goes is_run fits ps xs pieces_left elements_left → IsStopped is_run pieces_left elements_left → pieces_left ≡ piece ∷ behind →
    any_rest (λ rest. is_matched is_run fits ps rest) xs ≡ any_rest (λ rest. is_matched is_run fits behind rest) elements_left
unfolding is_matched
any_at_run is_run fits ps xs pieces_left elements_left piece behind goes stopped p =
    let run : is_run piece ≡ true = rw p at stopped in
    let any_same : any_rest (λ r. is_matched is_run fits pieces_left r) elements_left ≡ any_rest (λ r. any_rest (λ t. is_matched is_run fits behind t) r) elements_left =
    ap (λ (q : List (List ℕ)). any_rest (λ r. is_matched is_run fits q r) elements_left) p ∙ any_run is_run fits piece behind elements_left run in
    same_test _ _
    (λ h. any_twice (λ r. is_matched is_run fits behind r) elements_left (sym any_same ∙ goes.further h))
    (λ h. any_here (λ r. is_matched is_run fits ps r) xs (matched_at_run is_run fits ps xs pieces_left elements_left piece behind goes stopped p ∙ h))

pub any_none : (passes : List (List ℕ) → Bool) (xs : List (List ℕ)) → xs ≡ [] → passes xs ≡ false → any_rest passes xs ≡ false
any_none passes [] e h = h
any_none passes (x ∷ xs) e h = absurd cc

pub any_next : (passes : List (List ℕ) → Bool) (xs : List (List ℕ)) (x : List ℕ) (rest : List (List ℕ)) → xs ≡ x ∷ rest → passes xs ≡ false → any_rest passes xs ≡ any_rest passes rest
any_next passes xs x rest e h =
    let here : passes (x ∷ rest) ≡ false = rw (← e) h in
    rw e (rw here refl)

pub any_matched : (passes : List (List ℕ) → Bool) (xs : List (List ℕ)) → passes xs ≡ true → any_rest passes xs ≡ true
any_matched passes xs h = any_here passes xs h

-- ---- the test says what the relation says

any_front : (passes : List (List ℕ) → Bool) (xs : List (List ℕ)) → any_rest passes xs ≡ true → (front : List (List ℕ)) × (rest : List (List ℕ)) × (xs ≡ front ++ rest) × (passes rest ≡ true)
any_front passes [] h = ([], [], refl, h)
any_front passes (x ∷ xs) h = elim (either (passes (x ∷ xs)) (any_rest passes xs) h) [
  | inl here ↦ ([], x ∷ xs, refl, here)
  | inr later ↦ let f = any_front passes xs later in (x ∷ f.0, f.1, ap (λ (r : List (List ℕ)). x ∷ r) f.2, f.3)
]

front_any : (passes : List (List ℕ) → Bool) (front rest : List (List ℕ)) → passes rest ≡ true → any_rest passes (front ++ rest) ≡ true
front_any passes [] rest h = any_here passes rest h
front_any passes (x ∷ front) rest h = or_right (passes (x ∷ (front ++ rest))) (any_rest passes (front ++ rest)) (front_any passes front rest h)

none_left : (xs : List (List ℕ)) → is_none_left xs ≡ true → xs ≡ []
none_left [] h = refl
none_left (x ∷ xs) h = absurd cc

first_that : (fits : List ℕ → Bool) (passes : List (List ℕ) → Bool) (xs : List (List ℕ)) → first_then fits passes xs ≡ true → (x : List ℕ) × (rest : List (List ℕ)) × (xs ≡ x ∷ rest) × (fits x ≡ true) × (passes rest ≡ true)
first_that fits passes [] h = absurd cc
first_that fits passes (x ∷ xs) h = let t = both (fits x) (passes xs) h in (x, xs, refl, t.0, t.1)

that_first : (fits : List ℕ → Bool) (passes : List (List ℕ) → Bool) (x : List ℕ) (rest : List (List ℕ)) → fits x ≡ true → passes rest ≡ true → first_then fits passes (x ∷ rest) ≡ true
that_first fits passes x rest f h = rw (f, h) refl

is_not : (b : Bool) → not b ≡ true → b ≡ false
is_not true e = absurd cc
is_not false e = refl

pub matched_means : (is_run : List ℕ → Bool) (fits : List ℕ → List ℕ → Bool) (Fits : List ℕ → List ℕ → Type 0) → ((piece element : List ℕ) → fits piece element ≡ true → Fits piece element) →
    (ps xs : List (List ℕ)) → is_matched is_run fits ps xs ≡ true → Matches is_run Fits ps xs
unfolding is_matched
matched_means is_run fits Fits each [] xs h = none_left xs h
matched_means is_run fits Fits each (p ∷ ps) xs h = at_run (λ rest t. matched_means is_run fits Fits each ps rest t) (is_run p) refl where
  at_run : ((rest : List (List ℕ)) → is_matched is_run fits ps rest ≡ true → Matches is_run Fits ps rest) → (b : Bool) → is_run p ≡ b → Matches is_run Fits (p ∷ ps) xs
  at_run others true run =
      let f = any_front (λ rest. is_matched is_run fits ps rest) xs (rw run at h) in
      inl (run, (f.0, f.1, f.2, others f.1 f.3))
  at_run others false fixed =
      let f = first_that (fits p) (λ rest. is_matched is_run fits ps rest) xs (rw fixed at h) in
      inr (ap not fixed, (f.0, f.1, f.2, each p f.0 f.3, others f.1 f.4))

pub means_matched : (is_run : List ℕ → Bool) (fits : List ℕ → List ℕ → Bool) (Fits : List ℕ → List ℕ → Type 0) → ((piece element : List ℕ) → Fits piece element → fits piece element ≡ true) →
    (ps xs : List (List ℕ)) → Matches is_run Fits ps xs → is_matched is_run fits ps xs ≡ true
unfolding is_matched
means_matched is_run fits Fits each [] xs none = rw none refl
means_matched is_run fits Fits each (p ∷ ps) xs (inl run) =
    rw (run.0, run.1.2) (front_any (λ rest. is_matched is_run fits ps rest) run.1.0 run.1.1 (means_matched is_run fits Fits each ps run.1.1 run.1.3))
means_matched is_run fits Fits each (p ∷ ps) xs (inr one) =
    rw (is_not (is_run p) one.0, one.1.2) (that_first (fits p) (λ rest. is_matched is_run fits ps rest) one.1.0 one.1.1 (each p one.1.0 one.1.3) (means_matched is_run fits Fits each ps one.1.1 one.1.4))
