-- How a process begins and ends.
use Rattle.std.proofs.Common.{◌≡◌, ◌⊎◌, inl, inr, ℕ, ◌==◌, true, false, List, [], ◌∷◌, ◌++◌, None, Some, Result, Ok, Err, refl, sym, ap, subst, ◌∙◌, if◌then◌else◌}
use Rattle.kinds.specs.Refusals.{number_of}
use Rattle.kinds.specs.declared.refusal.Refusal.{Refusal}
use Rattle.kinds.specs.declared.refusal.Refusal.TheVariants as refused
use Rattle.inventory_answers.specs.declared.lines.PoolLine.{PoolLine}
use Rattle.inventory_answers.specs.declared.query.Query.{Query}
use Rattle.inventory_answers.specs.declared.query.Query.TheVariants as query
use Rattle.inventory_answers.specs.declared.reply.Answer.{Answer}
use Rattle.inventory_answers.specs.declared.reply.Rows.TheVariants as rows
use Rattle.steps.proofs.Joining.{GoesOn, call_then, does_alone}
use Rattle.steps.specs.Calls.{Call, Does}
use Rattle.steps.specs.Events.{Event, event, refusal}
use Rattle.steps.specs.Events.Deed.{Ask, Force}
use Rattle.copy_attempts.proofs.Facts.{all-append, met-behind, some-memory}
use Rattle.copy_attempts.specs.Attempts.{is_stopping, stopping}
use Rattle.copy_attempts.specs.Outcomes.{Met}
use Rattle.copy_runs.specs.declared.wanted.Moved.{Moved}
use Rattle.copy_runs.specs.declared.wanted.Wanted.{Wanted}
use Rattle.copy_runs.specs.Ends.{AreAsking, AreEnding, AsksPools, AsksToday, Finishes, IsEnding, IsStopped, IsUnlisted, Unanswered, unlisted}
use Rattle.copy_runs.specs.Processes.{Completes}
use Rattle.copy_runs.specs.Runs.{Run}

-- ---- refusals

stopped-by : (events : List Event) (e : Refusal) → (e ≡ refused.Memory) ⊎ Met e events → IsStopped events (stopping e)
stopped-by events e (inl h) = inl (ap stopping h)
stopped-by events e (inr h) = elim (is_stopping e) as (λ b. is_stopping e ≡ b → IsStopped events (if b then e else refused.Memory)) [
  | true ↦ λ t. inr (t, h)
  | false ↦ λ t. inl refl
] refl

pub stopped-behind : (xs ys : List Event) (e : Refusal) → IsStopped ys e → IsStopped (xs ++ ys) e
stopped-behind xs ys e (inl h) = inl h
stopped-behind xs ys e (inr h) = inr (h.0, met-behind (λ d. refusal d ≡ Some e) xs ys h.1)

-- ---- questions

asking-one : (n : ℕ) (q : Query) (answer : Result Answer Refusal) → AreAsking (event n (Ask q answer) ∷ [])
asking-one n q answer = ((q, answer, refl), tt)

pub ask-refused : {S : Type 0} (did : S → List Event → S → Type 0) (p q : S) (asked : Query) (e : Refusal) → Does did p q (Ask asked (Err e)) → Call did p q (λ events. Unanswered events (stopping e))
ask-refused did p q asked e d =
    does_alone did (λ events. Unanswered events (stopping e)) p q (Ask asked (Err e)) d
    (λ n listed. (stopped-by (event n (Ask asked (Err e)) ∷ []) e (inr (inl refl)), asking-one n asked (Err e)))
    (λ h. (stopped-by [] e (inl (some-memory e (Ask asked (Err e)) refl h)), tt))

-- an answer without the rows that were asked for
pub ask-nothing : {S : Type 0} (did : S → List Event → S → Type 0) (p q : S) (asked : Query) (answer : Answer) (e : Refusal) → e ≡ refused.Memory → Does did p q (Ask asked (Ok answer))
    → Call did p q (λ events. Unanswered events e)
ask-nothing did p q asked answer e is d =
    does_alone did (λ events. Unanswered events e) p q (Ask asked (Ok answer)) d (λ n listed. (inl is, asking-one n asked (Ok answer))) (λ m. absurd cc)

pub asked-pools : {S : Type 0} (did : S → List Event → S → Type 0) (p q : S) (answer : Answer) (lines : List PoolLine) → answer.rows ≡ rows.Pools lines
    → Does did p q (Ask (query.Pools None) (Ok answer))
    → Call did p q (λ events. AsksPools events (Ok lines))
asked-pools did p q answer lines h d =
    does_alone did (λ events. AsksPools events (Ok lines)) p q (Ask (query.Pools None) (Ok answer)) d (λ n listed. (n, answer, refl, h)) (λ m. absurd cc)

-- by what the rows were taken to be
pub pools-answered : {S : Type 0} (did : S → List Event → S → Type 0) (p q : S) (answer : Answer) (result : Result (List PoolLine) Refusal)
    → ((lines : List PoolLine) → result ≡ Ok lines → answer.rows ≡ rows.Pools lines) → ((e : Refusal) → result ≡ Err e → e ≡ refused.Memory)
    → Does did p q (Ask (query.Pools None) (Ok answer)) → Call did p q (λ events. AsksPools events result)
pools-answered did p q answer (Ok lines) good bad d = asked-pools did p q answer lines (good lines refl) d
pools-answered did p q answer (Err e) good bad d = ask-nothing did p q (query.Pools None) answer e (bad e refl) d

pub asked-today : {S : Type 0} (did : S → List Event → S → Type 0) (p q : S) (answer : Answer) → Does did p q (Ask query.Today (Ok answer)) → Call did p q (λ events. AsksToday events (Ok tt))
asked-today did p q answer d = does_alone did (λ events. AsksToday events (Ok tt)) p q (Ask query.Today (Ok answer)) d (λ n listed. (n, answer, refl)) (λ m. absurd cc)

-- ---- the end

asking-ends : (xs : List Event) → AreAsking xs → AreEnding xs
asking-ends [] h = tt
asking-ends (x ∷ xs) h = (inl h.0, asking-ends xs h.1)

pub force-refused : {S : Type 0} (did : S → List Event → S → Type 0) (p q : S) (e : Refusal) → Does did p q (Force (Err e)) → Call did p q (λ events. Finishes events (Err (stopping e)))
force-refused did p q e d =
    does_alone did (λ events. Finishes events (Err (stopping e))) p q (Force (Err e)) d
    (λ n listed. (stopped-by (event n (Force (Err e)) ∷ []) e (inr (inl refl)), (inr (Err e, refl), tt)))
    (λ h. (stopped-by [] e (inl (some-memory e (Force (Err e)) refl h)), tt))

abbrev Forced : ℕ → List Event → Type 0
Forced number events = (n : ℕ) × (events ≡ event n (Force (Ok number)) ∷ [])

then-finished : (number : ℕ) (xs ys : List Event) (result : Result (Unit {0}) Refusal) → Forced number xs → AsksToday ys result → Finishes (xs ++ ys) result
then-finished number xs ys (Ok done) f g = (f.0, g.0, number, g.1, ap (λ (es : List Event). es ++ ys) f.1 ∙ ap (λ (es : List Event). event f.0 (Force (Ok number)) ∷ es) g.2)
then-finished number xs ys (Err e) f g =
    (stopped-behind xs ys e g.0, all-append (λ x. IsEnding x.deed) xs ys (subst AreEnding (sym f.1) (inr (Ok number, refl), tt)) (asking-ends ys g.1))

pub finishes : {S : Type 0} (did : S → List Event → S → Type 0) → GoesOn did → (p q r : S) (number : ℕ) (result : Result (Unit {0}) Refusal) → Does did p q (Force (Ok number))
    → Call did q r (λ events. AsksToday events result) → Call did p r (λ events. Finishes events result)
finishes did goes p q r number result d a =
    call_then did goes (Forced number) (λ events. AsksToday events result) (λ events. Finishes events result) p q r
    (does_alone did (Forced number) p q (Force (Ok number)) d (λ n listed. (n, refl)) (λ m. absurd cc)) a (λ xs ys f g. then-finished number xs ys result f g)

-- ---- copies, and the end

abbrev ended_by : Moved → Result (Unit {0}) Refusal → Result Moved Refusal
ended_by m (Ok done) = Ok m
ended_by m (Err e) = Err e

then-completed : (wanted : List Wanted) (avoid : ℕ) (m : Moved) (xs ys : List Event) (result : Result (Unit {0}) Refusal) → Run wanted avoid xs (Ok m) → Finishes ys result
    → Completes wanted avoid (xs ++ ys) (ended_by m result)
then-completed wanted avoid m xs ys (Ok done) f g = (xs, ys, refl, f, g)
then-completed wanted avoid m xs ys (Err e) f g = inr (m, (xs, ys, refl, f, g))

pub completes : {S : Type 0} (did : S → List Event → S → Type 0) → GoesOn did → (p q r : S) (wanted : List Wanted) (avoid : ℕ) (m : Moved) (result : Result (Unit {0}) Refusal)
    → Call did p q (λ events. Run wanted avoid events (Ok m)) → Call did q r (λ events. Finishes events result) → Call did p r (λ events. Completes wanted avoid events (ended_by m result))
completes did goes p q r wanted avoid m result a b =
    call_then did goes (λ events. Run wanted avoid events (Ok m)) (λ events. Finishes events result) (λ events. Completes wanted avoid events (ended_by m result)) p q r a b
    (λ xs ys f g. then-completed wanted avoid m xs ys result f g)

-- ---- lists

pub unlisted-by : {S : Type 0} (did : S → List Event → S → Type 0) (p q : S) (asked : Query) (e : Refusal) → Does did p q (Ask asked (Err e))
    → Call did p q (λ events. IsUnlisted asked events (unlisted e) × AreAsking events)
unlisted-by did p q asked e d =
    does_alone did (λ events. IsUnlisted asked events (unlisted e) × AreAsking events) p q (Ask asked (Err e)) d
    (λ n listed. (
      elim (number_of e == 10) as (λ b. (number_of e == 10) ≡ b → IsUnlisted asked (event n (Ask asked (Err e)) ∷ []) (if b then e else stopping e)) [
        | true ↦ λ ten. inr (ten, inl refl)
        | false ↦ λ other. inl (stopped-by (event n (Ask asked (Err e)) ∷ []) e (inr (inl refl)))
      ] refl,
      asking-one n asked (Err e),
    ))
    (λ h. (inl (inl (ap unlisted (some-memory e (Ask asked (Err e)) refl h))), tt))
