-- Events of one actor that fit a history, one after the other.
use Rattle.std.proofs.Common.{◌≡◌, ℕ, ◌-◌, ◌<◌, ◌≤◌, List, [], ◌∷◌, ◌++◌, length, Option, Some, None, refl, sym, ap, subst, arith}
use Rattle.std.proofs.lemmas.Option.{slice_get_within}
use Rattle.steps.specs.entries.declared.change.Change.{Change}
use Rattle.steps.specs.Events.{Event}
use Rattle.machine.specs.Fits.{Fits, History, JoinsAt, Own, Step, last, number_after}

pub fits-none : (w : History) (actor : ℕ) (a : Own) → Fits w actor a [] a
unfolding Fits
fits-none w actor a = refl

pub fits-step : (w : History) (actor : ℕ) (a b c : Own) (e : Event) (events : List Event) → Step w actor a e b → Fits w actor b events c → Fits w actor a (e ∷ events) c
unfolding Fits
fits-step w actor a b c e events s f = (b, s, f)

pub fits-first : (w : History) (actor : ℕ) (a c : Own) (e : Event) (events : List Event) → Fits w actor a (e ∷ events) c → (b : Own) × Step w actor a e b × Fits w actor b events c
unfolding Fits
fits-first w actor a c e events f = f

-- one event alone
pub fits-one : (w : History) (actor : ℕ) (a c : Own) (e : Event) → Fits w actor a (e ∷ []) c → Step w actor a e c
unfolding Fits
fits-one w actor a c e f = subst (λ o. Step w actor a e o) (sym f.2) f.1

pub fits-append : (w : History) (actor : ℕ) (a b c : Own) (xs ys : List Event) → Fits w actor a xs b → Fits w actor b ys c → Fits w actor a (xs ++ ys) c
unfolding Fits
fits-append w actor a b c [] ys f g = subst (λ o. Fits w actor o ys c) f g
fits-append w actor a b c (x ∷ xs) ys f g = (f.0, f.1, fits-append w actor f.0 b c xs ys f.2 g)

pub fits-cut : (w : History) (actor : ℕ) (a c : Own) (xs ys : List Event) → Fits w actor a (xs ++ ys) c → (b : Own) × Fits w actor a xs b × Fits w actor b ys c
unfolding Fits
fits-cut w actor a c [] ys f = (a, refl, f)
fits-cut w actor a c (x ∷ xs) ys f = let r = fits-cut w actor f.0 c xs ys f.2 in (r.0, (f.0, f.1, r.1), r.2)

-- ---- numbers rise

after_number : (n : ℕ) (joined : Option Change) → n ≤ number_after n joined
after_number n None = omega arith
after_number n (Some c) = omega arith

pub step-rises : (w : History) (actor : ℕ) (a b : Own) (e : Event) → Step w actor a e b → a.reached ≤ b.reached
step-rises w actor a b e s =
    let l : e.n ≤ number_after e.n s.joined = after_number e.n s.joined in
    let r : b.reached ≡ number_after e.n s.joined = s.has.reached in
    let h : a.reached ≤ e.n = s.since in
    omega arith

pub fits-rises : (w : History) (actor : ℕ) (a c : Own) (events : List Event) → Fits w actor a events c → a.reached ≤ c.reached
unfolding Fits
fits-rises w actor a c [] f = let e : c.reached ≡ a.reached = ap (λ (o : Own). o.reached) f in omega arith
fits-rises w actor a c (x ∷ events) f =
    let l : a.reached ≤ f.0.reached = step-rises w actor a f.0 x f.1 in
    let r : f.0.reached ≤ c.reached = fits-rises w actor f.0 c events f.2 in
    omega arith

joined_within : (w : History) (actor n : ℕ) (joined : Option Change) → n ≤ last w → JoinsAt w actor n joined → number_after n joined ≤ last w
joined_within w actor n None l j = l
joined_within w actor n (Some c) l j =
    let k : n - w.base.number < length w.journal = slice_get_within w.journal (n - w.base.number) (record { actor = actor; change = c }) j in
    omega arith

-- no step goes beyond the history's end
pub step-within : (w : History) (actor : ℕ) (a b : Own) (e : Event) → Step w actor a e b → b.reached ≤ last w
step-within w actor a b e s =
    let l : number_after e.n s.joined ≤ last w = joined_within w actor e.n s.joined s.within s.joins_at in
    let r : b.reached ≡ number_after e.n s.joined = s.has.reached in
    omega arith

pub fits-within : (w : History) (actor : ℕ) (a c : Own) (events : List Event) → a.reached ≤ last w → Fits w actor a events c → c.reached ≤ last w
unfolding Fits
fits-within w actor a c [] l f = let e : c.reached ≡ a.reached = ap (λ (o : Own). o.reached) f in omega arith
fits-within w actor a c (x ∷ events) l f = fits-within w actor f.0 c events (step-within w actor a f.0 x f.1) f.2
