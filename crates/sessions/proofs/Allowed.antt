-- Whether a set may be activated, step by step, and what the answer means.
use Rattle.std.proofs.Common.{◌≡◌, ◌⊎◌, inl, inr, ℕ, ◌==◌, ◌||◌, ◌≤◌, Bool, true, false, List, [], ◌∷◌, Option, None, Some, Result, Ok, Err, if◌then◌else◌, refl, sym, ap, subst, ◌∙◌}
use Rattle.std.specs.List.{list_any}
use Rattle.kinds.specs.Refusals.{number_of}
use Rattle.kinds.specs.declared.refusal.Refusal.{Refusal}
use Rattle.kinds.specs.declared.refusal.Refusal.TheVariants as refused
use Rattle.copy_attempts.proofs.Facts.{some-memory}
use Rattle.copy_attempts.specs.Outcomes.{MetBy}
use Rattle.inventory_answers.specs.Policy.{activation_refusal}
use Rattle.inventory_answers.specs.declared.query.Query.TheVariants as query
use Rattle.inventory_answers.specs.declared.reply.Answer.{Answer}
use Rattle.inventory_answers.specs.declared.reply.Rows.{Rows}
use Rattle.inventory_answers.specs.declared.reply.Rows.TheVariants as rows
use Rattle.inventory_rows.specs.State.{Inv}
use Rattle.machine.proofs.Runs.{fits-one}
use Rattle.machine.specs.Fits.{Fits, History, Own, Step, inv}
use Rattle.machine.specs.Machine.{IsAnswer}
use Rattle.machine.specs.Says.{Says, is_elsewhere}
use Rattle.steps.proofs.Joining.{so_call}
use Rattle.steps.specs.Calls.{Call, Made}
use Rattle.steps.specs.Events.{Event, event, has_number}
use Rattle.steps.specs.Events.Deed.{Ask}
use Rattle.sessions.proofs.Asked.{asks-all, asks-caused, has-asked, one-of}
use Rattle.sessions.proofs.Got.{rows_in, step-between}
use Rattle.sessions.specs.Asking.{unasked}
use Rattle.sessions.specs.Validating.{AsksValidity, IsOf, IsTold, IsValidAt, IsValidated, Tells, Validates, Validating, numbers, unfit, validity}

pub validates : {S : Type 0} (did : S → List Event → S → Type 0) (p q : S) (domain set : List ℕ) (answer : Result (Option Refusal) Refusal) (result : Result (Unit {0}) Refusal)
    → Call did p q (λ events. AsksValidity domain set events answer) → result ≡ validity answer → Call did p q (λ events. Validates domain set events result)
validates did p q domain set answer result a is =
    so_call did (λ events. AsksValidity domain set events answer) (λ events. Validates domain set events result) p q a (λ xs f. (answer, f, is))

-- ---- the one question, and why it is refused

module _ (domain set : List ℕ) (events : List Event) where
  tells : (e : Refusal) (answer : Answer) → answer.rows ≡ rows.Validated (Some e) → Made (Ask (query.Validated domain set) (Ok answer)) events → MetBy (Tells domain set e) events
  tells e answer is (inl h) = subst (λ (es : List Event). MetBy (Tells domain set e) es) (sym h.1) (inl (answer, refl, is))
  tells e answer is (inr h) = absurd cc

  told-unfit : (e : Refusal) (fit : Bool) → has_number (10 ∷ 13 ∷ []) e ≡ fit → MetBy (Tells domain set e) events → IsTold domain set events (Err (if fit then e else refused.Memory))
  told-unfit e true is met = inl (is, met)
  told-unfit e false is met = inr (inl refl)

  told-of : (answer : Result (Option Refusal) Refusal) → AsksValidity domain set events answer → IsTold domain set events (validity answer)
  told-of (Ok None) h = tt
  told-of (Ok (Some e)) (answer, is, made) = told-unfit e (has_number (10 ∷ 13 ∷ []) e) refl (tells e answer is made)
  told-of (Err e) h = inr (asks-caused numbers (has-asked numbers refl refl refl) (query.Validated domain set) rows.Validated events (Err e) h)

  pub validating-of : (result : Result (Unit {0}) Refusal) → Validates domain set events result → Validating domain set events result
  validating-of result (answer, asked, is) = record {
    order = (answer, asked, is);
    only = asks-all (λ e. IsOf domain set e.deed) (query.Validated domain set) rows.Validated (λ n told. refl) events answer asked;
    cause = subst (λ r. IsTold domain set events r) (sym is) (told-of answer asked);
  }

-- ---- in a history

abbrev ends : List ℕ
ends = 40 ∷ 41 ∷ 50 ∷ []

abbrev elsewhere : List ℕ
elsewhere = 20 ∷ 21 ∷ 24 ∷ 25 ∷ 31 ∷ 40 ∷ 41 ∷ 50 ∷ []

-- a question that is refused for a cause elsewhere is refused by a halted hall, a full run or want of memory
ended-by : (why : Refusal) (test : Bool) → has_number (10 ∷ 40 ∷ 41 ∷ []) why ≡ test → is_elsewhere why ≡ true → has_number ends (if test then why else refused.Memory) ≡ true
ended-by why false is h = refl
ended-by why true is h =
    elim (one-of (number_of why) 10 40 41 (10 == number_of why) (40 == number_of why) (41 == number_of why) refl refl refl is) as (λ _. has_number ends why ≡ true) [
      | inl ten ↦ (let never : list_any (λ n. n == 10) elsewhere ≡ true = subst (λ (m : ℕ). list_any (λ n. n == m) elsewhere ≡ true) (sym ten) h in absurd cc)
      | inr (inl forty) ↦ subst (λ (m : ℕ). list_any (λ n. n == m) ends ≡ true) forty refl
      | inr (inr more) ↦ subst (λ (m : ℕ). list_any (λ n. n == m) ends ≡ true) more refl
    ]

-- what was answered is what the database answers
told-valid : (log_length : ℕ) (domain set : List ℕ) (v : Inv) (answer : Answer) (refusal : Option Refusal) → IsAnswer log_length (query.Validated domain set) v answer → answer.rows ≡ rows.Validated refusal
    → activation_refusal domain set v.domains ≡ refusal
told-valid log_length domain set v answer refusal (told, h, same) is =
    let first : rows.Validated (activation_refusal domain set v.domains) ≡ rows.Validated refusal = ap rows_in h ∙ ap (λ (a : Answer). a.rows) (sym same) ∙ is in cc

module _ (w : History) (actor : ℕ) (old new : Own) (domain set : List ℕ) (events : List Event) (f : Fits w actor old events new) where
  valid-at : (answer : Answer) (refusal : Option Refusal) → answer.rows ≡ rows.Validated refusal → Made (Ask (query.Validated domain set) (Ok answer)) events
      → IsValidAt w old.reached new.reached domain set refusal
  unfolding Says
  valid-at answer refusal is (inl h) =
      let s : Step w actor old (event h.0 (Ask (query.Validated domain set) (Ok answer))) new =
      fits-one w actor old new (event h.0 (Ask (query.Validated domain set) (Ok answer))) (subst (λ (es : List Event). Fits w actor old es new) h.1 f) in
      let between = step-between w actor old new (event h.0 (Ask (query.Validated domain set) (Ok answer))) s in
      (h.0, between.0, between.1, told-valid s.says.1.0 domain set (inv w h.0) answer refusal s.says.1.1 is)
  valid-at answer refusal is (inr h) = absurd cc

  -- nothing that a question names keeps it from being answered
  refused-by : (why : Refusal) → Made (Ask (query.Validated domain set) (Err why)) events → is_elsewhere why ≡ true
  unfolding Says
  refused-by why (inl h) =
      let s : Step w actor old (event h.0 (Ask (query.Validated domain set) (Err why))) new =
      fits-one w actor old new (event h.0 (Ask (query.Validated domain set) (Err why))) (subst (λ (es : List Event). Fits w actor old es new) h.1 f) in
      elim s.says as (λ _. is_elsewhere why ≡ true) [
        | inl held ↦ absurd cc
        | inr is ↦ is
      ]
  refused-by why (inr h) = subst (λ (e : Refusal). is_elsewhere e ≡ true) (sym (some-memory why (Ask (query.Validated domain set) (Err why)) refl h.0)) refl

  unfit-at : (e : Refusal) (test : Bool) → IsValidAt w old.reached new.reached domain set (Some e) → IsValidated w old.reached new.reached domain set (Err (if test then e else refused.Memory))
  unfit-at e true h = inl h
  unfit-at e false h = inr refl

  asked-valid : (answer : Result (Option Refusal) Refusal) → AsksValidity domain set events answer → IsValidated w old.reached new.reached domain set (validity answer)
  asked-valid (Ok None) (answer, is, made) = valid-at answer None is made
  asked-valid (Ok (Some e)) (answer, is, made) = unfit-at e (has_number (10 ∷ 13 ∷ []) e) (valid-at answer (Some e) is made)
  asked-valid (Err e) (inl (why, same, made)) =
      inr (subst (λ (x : Refusal). has_number ends x ≡ true) (sym same) (ended-by why (has_number (10 ∷ 40 ∷ 41 ∷ []) why) refl (refused-by why made)))
  asked-valid (Err e) (inr (answer, same, made)) = inr (subst (λ (x : Refusal). has_number ends x ≡ true) (sym same) refl)

  pub validated-in : (result : Result (Unit {0}) Refusal) → Validates domain set events result → IsValidated w old.reached new.reached domain set result
  validated-in result (answer, asked, is) = subst (λ r. IsValidated w old.reached new.reached domain set r) (sym is) (asked-valid answer asked)
