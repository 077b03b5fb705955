-- Questions: which steps they are, and why they are refused.
use Rattle.std.proofs.Common.{◌≡◌, ◌⊎◌, inl, inr, ℕ, ◌==◌, ◌||◌, Bool, true, false, List, [], ◌∷◌, Result, Ok, Err, refl, sym, subst}
use Rattle.std.proofs.lemmas.Bool.{eqb-true}
use Rattle.std.specs.List.{AllByRecursion, list_any}
use Rattle.kinds.specs.Refusals.{number_of}
use Rattle.kinds.specs.declared.refusal.Refusal.{Refusal}
use Rattle.inventory_answers.specs.declared.query.Query.{Query}
use Rattle.inventory_answers.specs.declared.reply.Answer.{Answer}
use Rattle.inventory_answers.specs.declared.reply.Rows.{Rows}
use Rattle.steps.specs.Events.{Event, event, has_number}
use Rattle.steps.specs.Events.Deed.{Ask}
use Rattle.sessions.proofs.Causes.{limited-caused, made-all}
use Rattle.sessions.specs.Asking.{Asks}
use Rattle.sessions.specs.Outcomes.{HasCause, IsCaused}

-- what holds of each answer to the question holds of its steps
pub asks-all : {A : Type 0} (P : Event → Type 0) (asked : Query) (kind : A → Rows) → ((n : ℕ) (answer : Result Answer Refusal) → P (event n (Ask asked answer))) → (events : List Event) (result : Result A Refusal)
    → Asks asked kind events result → AllByRecursion P events
asks-all P asked kind each events (Ok x) (answer, is, made) = made-all P (Ask asked (Ok answer)) events made (λ n. each n (Ok answer))
asks-all P asked kind each events (Err e) (inl (why, same, made)) = made-all P (Ask asked (Err why)) events made (λ n. each n (Err why))
asks-all P asked kind each events (Err e) (inr (answer, same, made)) = made-all P (Ask asked (Ok answer)) events made (λ n. each n (Ok answer))

-- the refusals of a question are on the list
abbrev pub HasAsked : List ℕ → Type 0
HasAsked list = (e : Refusal) → has_number (10 ∷ 40 ∷ 41 ∷ []) e ≡ true → has_number list e ≡ true

pub one-of : (k a b c : ℕ) (x y z : Bool) → (a == k) ≡ x → (b == k) ≡ y → (c == k) ≡ z → (x || (y || (z || false))) ≡ true → (a ≡ k) ⊎ (b ≡ k) ⊎ (c ≡ k)
one-of k a b c true y z p q r h = inl (eqb-true a k p)
one-of k a b c false true z p q r h = inr (inl (eqb-true b k q))
one-of k a b c false false true p q r h = inr (inr (eqb-true c k r))
one-of k a b c false false false p q r h = absurd cc

pub has-asked : (list : List ℕ) → list_any (λ n. n == 10) list ≡ true → list_any (λ n. n == 40) list ≡ true → list_any (λ n. n == 41) list ≡ true → HasAsked list
has-asked list ten forty more e h = elim (one-of (number_of e) 10 40 41 (10 == number_of e) (40 == number_of e) (41 == number_of e) refl refl refl h) as (λ _. has_number list e ≡ true) [
  | inl is ↦ subst (λ (m : ℕ). list_any (λ n. n == m) list ≡ true) is ten
  | inr (inl is) ↦ subst (λ (m : ℕ). list_any (λ n. n == m) list ≡ true) is forty
  | inr (inr is) ↦ subst (λ (m : ℕ). list_any (λ n. n == m) list ≡ true) is more
]

-- a question that is refused has its cause
pub asks-caused : {A : Type 0} (list : List ℕ) → HasAsked list → (asked : Query) (kind : A → Rows) (events : List Event) (result : Result A Refusal) → Asks asked kind events result → HasCause list events result
asks-caused list among asked kind events (Ok x) h = tt
asks-caused list among asked kind events (Err e) (inl (why, same, made)) =
    subst (λ (x : Refusal). IsCaused list events x) (sym same) (limited-caused list why (Ask asked (Err why)) events (has_number (10 ∷ 40 ∷ 41 ∷ []) why) made refl (among why))
asks-caused list among asked kind events (Err e) (inr (answer, same, made)) = inl same
