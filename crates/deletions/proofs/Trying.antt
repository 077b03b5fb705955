-- Transactions that are tried once.
use Rattle.std.proofs.Common.{◌≡◌, ◌⊎◌, inl, inr, ℕ, true, ◌||◌, List, [], ◌∷◌, Some, Result, Ok, Err, refl, sym, ap, ◌∙◌}
use Rattle.kinds.specs.declared.refusal.Refusal.{Refusal}
use Rattle.kinds.specs.declared.refusal.Refusal.TheVariants as refused
use Rattle.steps.proofs.Joining.{does_alone}
use Rattle.steps.specs.declared.asked.Asked.{Asked}
use Rattle.steps.specs.Calls.{Call, Does}
use Rattle.steps.specs.Events.{Event, event, refusal_in}
use Rattle.steps.specs.Events.Deed.{Commit}
use Rattle.copy_attempts.specs.Attempts.{is_passed, stopping}
use Rattle.deletions.specs.declared.objects.Tried.{Tried}
use Rattle.deletions.specs.declared.objects.Tried.TheVariants as came
use Rattle.deletions.specs.Discarding.{TriesAsked, TriesBy, is_long}
use Rattle.deletions.proofs.Working.{answered, ended-by, long-by, passed-by}

memory-is : {A : Type 0} (of : Result ℕ Refusal → Result A Refusal) → of (Err refused.Memory) ≡ Err refused.Memory → (answer : Result ℕ Refusal) → refusal_in answer ≡ Some refused.Memory
    → of answer ≡ Err refused.Memory
memory-is of h (Ok number) m = absurd cc
memory-is {A} of h (Err e) m = let same : e ≡ refused.Memory = cc in ap (λ (x : Refusal). of (Err x)) same ∙ h

pub tries-nothing : {S A : Type 0} (did : S → List Event → S → Type 0) (p : S) (of : Result ℕ Refusal → Result A Refusal) (asked : Asked) (e : Refusal) → did p [] p → e ≡ refused.Memory
    → Call did p p (λ events. TriesBy of asked events (Err e))
tries-nothing did p of asked e stays h = ([], stays, inl (refl, ap Err h))

pub tries-one : {S A : Type 0} (did : S → List Event → S → Type 0) (p q : S) (of : Result ℕ Refusal → Result A Refusal) (asked : Asked) (answer : Result ℕ Refusal) (result : Result A Refusal)
    → of (Err refused.Memory) ≡ Err refused.Memory → Does did p q (Commit asked [] answer) → result ≡ of answer → Call did p q (λ events. TriesBy of asked events result)
tries-one did p q of asked answer result memory d h =
    does_alone did (λ events. TriesBy of asked events result) p q (Commit asked [] answer) d
    (λ n listed. inr (n, answer, refl, h))
    (λ m. inl (refl, h ∙ memory-is of memory answer m))

-- the event of a transaction that was answered so
abbrev pub tried : ℕ → Asked → Result ℕ Refusal → List Event
tried n asked answer = event n (Commit asked [] answer) ∷ []

not-ok : (t : Tried) (e : Refusal) → Ok t ≡ Err e → ⊥
not-ok t e h = cc

-- one that was made
pub was-made : (asked : Asked) (events : List Event) (t : Tried) → t ≡ came.Made → TriesAsked asked events (Ok t) → (n : ℕ) × (number : ℕ) × (events ≡ tried n asked (Ok number))
was-made asked events t is (inl h) = absurd (not-ok t refused.Memory h.1)
was-made asked events t is (inr h) =
    let r = answered h.1 (sym h.3 ∙ ap Ok is) in
    (h.0, r.0, h.2 ∙ ap (λ (a : Result ℕ Refusal). tried h.0 asked a) r.1)

-- one that was refused for one of its items
pub was-refused : (asked : Asked) (events : List Event) (t : Tried) → t ≡ came.Refused → TriesAsked asked events (Ok t)
    → (n : ℕ) × (why : Refusal) × (is_passed why ≡ true) × (events ≡ tried n asked (Err why))
was-refused asked events t is (inl h) = absurd (not-ok t refused.Memory h.1)
was-refused asked events t is (inr h) =
    let r = passed-by h.1 (sym h.3 ∙ ap Ok is) in
    (h.0, r.0, r.2, h.2 ∙ ap (λ (a : Result ℕ Refusal). tried h.0 asked a) r.1)

-- or for its length
pub was-long : (asked : Asked) (events : List Event) (t : Tried) → t ≡ came.TooLong → TriesAsked asked events (Ok t)
    → (n : ℕ) × (why : Refusal) × ((is_passed why || is_long why) ≡ true) × (events ≡ tried n asked (Err why))
was-long asked events t is (inl h) = absurd (not-ok t refused.Memory h.1)
was-long asked events t is (inr h) =
    let r = long-by h.1 (sym h.3 ∙ ap Ok is) in
    (h.0, r.0, r.2, h.2 ∙ ap (λ (a : Result ℕ Refusal). tried h.0 asked a) r.1)

-- one that ended the process, where memory wasn't wanted before it
abbrev pub EndedBy : Asked → List Event → Refusal → Type 0
EndedBy asked events f = (n : ℕ) × (e : Refusal) × (f ≡ stopping e) × (events ≡ tried n asked (Err e))

pub was-ended : (asked : Asked) (events : List Event) (f : Refusal) → TriesAsked asked events (Err f) → ((f ≡ refused.Memory) × (events ≡ [])) ⊎ EndedBy asked events f
was-ended asked events f (inl h) = let same : f ≡ refused.Memory = cc in inl (same, h.0)
was-ended asked events f (inr h) =
    let r = ended-by h.1 f (sym h.3) in
    inr (h.0, r.0, r.2, h.2 ∙ ap (λ (a : Result ℕ Refusal). tried h.0 asked a) r.1)
