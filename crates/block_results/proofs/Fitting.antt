-- Steps of one actor that fit a history: their numbers, and those that were refused.
use Rattle.std.proofs.Common.{◌≡◌, inl, inr, ℕ, ◌≤◌, List, [], ◌∷◌, ◌++◌, Contains, Some, subst, arith}
use Rattle.std.proofs.lemmas.List.Elements.{Contains-append_left, Contains-append_right, Contains-push}
use Rattle.kinds.specs.declared.refusal.Refusal.{Refusal}
use Rattle.line_results.specs.copy_attempts.Outcomes.{Met, MetBy}
use Rattle.machine.proofs.Runs.{fits-cut, fits-first, fits-one, fits-rises}
use Rattle.machine.specs.Fits.{Fits, History, Own, Step}
use Rattle.line_results.proofs.of_sessions.Got.{step-between}
use Rattle.steps.specs.Events.{Deed, Event, event, refusal}
use Rattle.block_results.specs.Standing.{At, IsRefusedAt}

-- ---- parts

pub fits-parts : (w : History) (actor : ℕ) (a b : Own) (events xs ys : List Event) → events ≡ xs ++ ys → Fits w actor a events b → (mid : Own) × Fits w actor a xs mid × Fits w actor mid ys b
fits-parts w actor a b events xs ys cut f = fits-cut w actor a b xs ys (subst (λ (es : List Event). Fits w actor a es b) cut f)

-- the one step
pub fits-step-of : (w : History) (actor : ℕ) (a b : Own) (n : ℕ) (d : Deed) (events : List Event) → events ≡ event n d ∷ [] → Fits w actor a events b → Step w actor a (event n d) b
fits-step-of w actor a b n d events is f = fits-one w actor a b (event n d) (subst (λ (es : List Event). Fits w actor a es b) is f)

-- ---- numbers

pub at-from : (less since until : ℕ) (Q : ℕ → Type 0) → less ≤ since → At since until Q → At less until Q
at-from less since until Q low (n, since_n, n_until, q) = (n, omega arith, n_until, q)

pub at-to : (since until more : ℕ) (Q : ℕ → Type 0) → until ≤ more → At since until Q → At since more Q
at-to since until more Q high (n, since_n, n_until, q) = (n, since_n, omega arith, q)

pub at-so : (since until : ℕ) (P Q : ℕ → Type 0) → ((n : ℕ) → P n → Q n) → At since until P → At since until Q
at-so since until P Q so (n, low, high, p) = (n, low, high, so n p)

-- ---- steps that were refused

pub refused-at : (w : History) (actor : ℕ) (a b : Own) (events : List Event) (e : Refusal) → Fits w actor a events b → Met e events → IsRefusedAt w actor a.reached b.reached events e
refused-at w actor a b [] e f met = absurd met
refused-at w actor a b (x ∷ events) e f (inl is) =
    let r = fits-first w actor a b x events f in
    let between = step-between w actor a r.0 x r.1 in
    let rises : r.0.reached ≤ b.reached = fits-rises w actor r.0 b events r.2 in
    let high : x.n ≤ r.0.reached = between.1 in
    record {
      step = x;
      made = Contains-append_left (x ∷ []) events x (Contains-push [] x);
      refused = is;
      after = between.0;
      before = omega arith;
      own = a;
      next_file = r.1.next_file;
      says = r.1.says;
    }
refused-at w actor a b (x ∷ events) e f (inr met) =
    let r = fits-first w actor a b x events f in
    let between = step-between w actor a r.0 x r.1 in
    let later = refused-at w actor r.0 b events e r.2 met in
    let low : a.reached ≤ x.n = between.0 in
    let high : x.n ≤ r.0.reached = between.1 in
    let next : r.0.reached ≤ later.step.n = later.after in
    record {
      step = later.step;
      made = Contains-append_right (x ∷ []) events later.step later.made;
      refused = later.refused;
      after = omega arith;
      before = later.before;
      own = later.own;
      next_file = later.next_file;
      says = later.says;
    }

-- of wider numbers, and among more steps
pub refused-wider : (w : History) (actor less since until more : ℕ) (events : List Event) (e : Refusal) → less ≤ since → until ≤ more → IsRefusedAt w actor since until events e → IsRefusedAt w actor less more events e
refused-wider w actor less since until more events e low high r =
    let after : since ≤ r.step.n = r.after in
    let before : r.step.n ≤ until = r.before in
    record { step = r.step; made = r.made; refused = r.refused; after = omega arith; before = omega arith; own = r.own; next_file = r.next_file; says = r.says }

pub met-first : (xs ys : List Event) (Is : Deed → Type 0) → MetBy Is xs → MetBy Is (xs ++ ys)
met-first [] ys Is met = absurd met
met-first (x ∷ xs) ys Is (inl h) = inl h
met-first (x ∷ xs) ys Is (inr met) = inr (met-first xs ys Is met)

pub met-next : (xs ys : List Event) (Is : Deed → Type 0) → MetBy Is ys → MetBy Is (xs ++ ys)
met-next [] ys Is met = met
met-next (x ∷ xs) ys Is met = inr (met-next xs ys Is met)

pub met-behind : (xs ys : List Event) (e : Refusal) → Met e ys → Met e (xs ++ ys)
met-behind xs ys e met = met-next xs ys (λ d. refusal d ≡ Some e) met
