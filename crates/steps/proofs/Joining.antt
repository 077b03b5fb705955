-- Calls one after the other.
use Rattle.std.proofs.Common.{◌≡◌, inl, inr, ℕ, List, [], ◌∷◌, ◌++◌, Some, true, refl, subst}
use Rattle.std.proofs.lemmas.List.{append-nil}
use Rattle.kinds.specs.declared.refusal.Refusal.TheVariants.{Memory}
use Rattle.steps.specs.Calls.{Call, Does, IsStep, Made, MakesStep, Then}
use Rattle.steps.specs.Events.{Deed, Event, event, is_listed, refusal}

-- what was done after one another was done
abbrev pub GoesOn : {S : Type 0} → (S → List Event → S → Type 0) → Type 0
GoesOn {S} did = (p q r : S) (xs ys : List Event) → did p xs q → did q ys r → did p (xs ++ ys) r

-- a call that made no step
pub call_of_none : {S : Type 0} (did : S → List Event → S → Type 0) (Q : List Event → Type 0) (p q : S) → did p [] q → Q [] → Call did p q Q
call_of_none did Q p q d h = ([], d, h)

-- a call behind another
pub call_then : {S : Type 0} (did : S → List Event → S → Type 0) → GoesOn did → (Q R T : List Event → Type 0) (p q r : S)
    → Call did p q Q → Call did q r R → ((xs ys : List Event) → Q xs → R ys → T (xs ++ ys)) → Call did p r T
call_then did goes_on Q R T p q r a b t = (a.0 ++ b.0, goes_on p q r a.0 b.0 a.1 b.1, t a.0 b.0 a.2 b.2)

-- what holds of no step more holds as before
same_events : {S : Type 0} (did : S → List Event → S → Type 0) → GoesOn did → (T : List Event → Type 0) (p q r : S) (xs : List Event) → did p xs q → did q [] r → T xs → Call did p r T
same_events did goes_on T p q r xs a b h = (xs, subst (λ zs. did p zs r) (append-nil xs) (goes_on p q r xs [] a b), h)

-- a step that was made behind a call is one event more
pub then_makes : {S : Type 0} (did : S → List Event → S → Type 0) → GoesOn did → (Q T : List Event → Type 0) (p q r : S) (deed : Deed)
    → Call did p q Q → MakesStep did q r deed
    → ((xs : List Event) → Q xs → (n : ℕ) → is_listed deed ≡ true → T (xs ++ event n deed ∷ []))
    → Call did p r T
then_makes did goes_on Q T p q r deed a d made = (a.0 ++ event d.0 deed ∷ [], goes_on p q r a.0 (event d.0 deed ∷ []) a.1 d.1, made a.0 a.2 d.0 d.2)

-- a step behind a call: it is one event more, or memory was wanted and there is none
pub then_does : {S : Type 0} (did : S → List Event → S → Type 0) → GoesOn did → (Q T : List Event → Type 0) (p q r : S) (deed : Deed)
    → Call did p q Q → Does did q r deed
    → ((xs : List Event) → Q xs → (n : ℕ) → is_listed deed ≡ true → T (xs ++ event n deed ∷ []))
    → ((xs : List Event) → Q xs → refusal deed ≡ Some Memory → T xs)
    → Call did p r T
then_does did goes_on Q T p q r deed a (inl d) made none = then_makes did goes_on Q T p q r deed a d made
then_does did goes_on Q T p q r deed a (inr d) made none = same_events did goes_on T p q r a.0 a.1 d.1 (none a.0 a.2 d.0)

-- a step alone, which was made
pub makes_alone : {S : Type 0} (did : S → List Event → S → Type 0) (T : List Event → Type 0) (p q : S) (deed : Deed)
    → MakesStep did p q deed → ((n : ℕ) → is_listed deed ≡ true → T (event n deed ∷ [])) → Call did p q T
makes_alone did T p q deed d made = (event d.0 deed ∷ [], d.1, made d.0 d.2)

-- a step alone
pub does_alone : {S : Type 0} (did : S → List Event → S → Type 0) (T : List Event → Type 0) (p q : S) (deed : Deed)
    → Does did p q deed
    → ((n : ℕ) → is_listed deed ≡ true → T (event n deed ∷ []))
    → (refusal deed ≡ Some Memory → T [])
    → Call did p q T
does_alone did T p q deed (inl d) made none = makes_alone did T p q deed d made
does_alone did T p q deed (inr d) made none = ([], d.1, none d.0)

-- one step, which was made
pub makes_step : {S : Type 0} (did : S → List Event → S → Type 0) (p q : S) (deed : Deed) → MakesStep did p q deed → Call did p q (λ events. IsStep deed events)
makes_step did p q deed d = makes_alone did (λ events. IsStep deed events) p q deed d (λ n listed. (n, refl, listed))

-- one step
pub does_made : {S : Type 0} (did : S → List Event → S → Type 0) (p q : S) (deed : Deed) → Does did p q deed → Call did p q (λ events. Made deed events)
does_made did p q deed d = does_alone did (λ events. Made deed events) p q deed d (λ n listed. inl (n, refl, listed)) (λ m. inr (m, refl))

-- one call behind another
pub then_call : {S : Type 0} (did : S → List Event → S → Type 0) → GoesOn did → (Q R : List Event → Type 0) (p q r : S) → Call did p q Q → Call did q r R → Call did p r (λ events. Then Q R events)
then_call did goes Q R p q r a b = call_then did goes Q R (λ events. Then Q R events) p q r a b (λ xs ys f g. (xs, ys, refl, f, g))

-- what follows from what holds of the steps
pub so_call : {S : Type 0} (did : S → List Event → S → Type 0) (Q R : List Event → Type 0) (p q : S) → Call did p q Q → ((xs : List Event) → Q xs → R xs) → Call did p q R
so_call did Q R p q a f = (a.0, a.1, f a.0 a.2)
