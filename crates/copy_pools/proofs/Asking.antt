-- The questions of a backup.
use Rattle.std.proofs.Common.{◌≡◌, inl, inr, ℕ, Bool, true, false, List, ◌++◌, map, None, Result, Ok, Err, refl, sym, ap, subst, ◌∙◌}
use Rattle.kinds.specs.Answers.{AnswersBy}
use Rattle.kinds.specs.declared.refusal.Refusal.{Refusal}
use Rattle.kinds.specs.declared.refusal.Refusal.TheVariants as refused
use Rattle.inventory_answers.specs.declared.lines.PoolLine.{PoolLine}
use Rattle.inventory_answers.specs.declared.query.Query.TheVariants as query
use Rattle.inventory_answers.specs.declared.reply.Answer.{Answer}
use Rattle.inventory_answers.specs.declared.reply.Rows.TheVariants as rows
use Rattle.inventory_work.specs.declared.lines.MissingLine.{MissingLine}
use Rattle.steps.proofs.Joining.{GoesOn, call_then, does_alone}
use Rattle.steps.specs.Calls.{Call, Does}
use Rattle.steps.specs.Events.{Event}
use Rattle.steps.specs.Events.Deed.{Ask}
use Rattle.copy_attempts.proofs.Facts.{all-append}
use Rattle.copy_runs.proofs.Ending.{ask-nothing, stopped-behind}
use Rattle.copy_runs.specs.declared.wanted.Wanted.{Wanted}
use Rattle.copy_runs.specs.Ends.{AreAsking, AsksPools, IsAsking, Unanswered}
use Rattle.copy_pools.specs.Backups.{Answered, Begins, Checks, Listed, Lists, are_kinds, further, kind_of}

-- ---- the list

pub listed : {S : Type 0} (did : S → List Event → S → Type 0) (p q : S) (primary copy : ℕ) (answer : Answer) (result : Result (List MissingLine) Refusal)
    → ((lines : List MissingLine) → result ≡ Ok lines → answer.rows ≡ rows.Missing lines) → ((e : Refusal) → result ≡ Err e → e ≡ refused.Memory)
    → Does did p q (Ask (query.Missing primary copy) (Ok answer)) → Call did p q (λ events. Lists primary copy events result)
listed did p q primary copy answer (Ok lines) good bad d =
    does_alone did (λ events. Lists primary copy events (Ok lines)) p q (Ask (query.Missing primary copy) (Ok answer)) d (λ n listed. (n, answer, refl, good lines refl)) (λ m. absurd cc)
listed did p q primary copy answer (Err e) good bad d =
    let c : Call did p q (λ events. Unanswered events e) = ask-nothing did p q (query.Missing primary copy) answer e (bad e refl) d in
    (c.0, c.1, (inl c.2.0, c.2.1))

-- ---- the kinds

pub checked : {S : Type 0} (did : S → List Event → S → Type 0) (p q : S) (primary copy : ℕ) (lines : List PoolLine) → Call did p q (λ events. AsksPools events (Ok lines))
    → are_kinds (kind_of primary lines) (kind_of copy lines) ≡ true
    → Call did p q (λ events. Checks primary copy events (Ok tt))
checked did p q primary copy lines a h = (a.0, a.1, (lines, a.2, h))

pub not-checked : {S : Type 0} (did : S → List Event → S → Type 0) (p q : S) (primary copy : ℕ) (lines : List PoolLine) → Call did p q (λ events. AsksPools events (Ok lines))
    → are_kinds (kind_of primary lines) (kind_of copy lines) ≡ false
    → Call did p q (λ events. Checks primary copy events (Err refused.NotFound))
not-checked did p q primary copy lines a h = (a.0, a.1, inr (refl, (lines, a.2, h)))

pub not-answered : {S : Type 0} (did : S → List Event → S → Type 0) (p q : S) (primary copy : ℕ) (e : Refusal) → Call did p q (λ events. AsksPools events (Err e))
    → Call did p q (λ events. Checks primary copy events (Err e))
not-answered did p q primary copy e a = (a.0, a.1, inl a.2)

-- ---- both

listed-asks : (primary copy : ℕ) (events : List Event) (lines : List MissingLine) → Listed primary copy events lines → AreAsking events
listed-asks primary copy events lines h = subst AreAsking (sym h.2) ((query.Missing primary copy, Ok h.1, refl), tt)

answered-asks : (primary copy : ℕ) (events : List Event) (is : Bool) → Answered primary copy events is → AreAsking events
answered-asks primary copy events is h = subst AreAsking (sym h.1.2) ((query.Pools None, Ok h.1.1, refl), tt)

asks-append : (xs ys : List Event) → AreAsking xs → AreAsking ys → AreAsking (xs ++ ys)
asks-append xs ys a b = all-append (λ e. IsAsking e.deed) xs ys a b

begins-refused : (primary copy : ℕ) (lines : List MissingLine) (xs ys : List Event) (e : Refusal) → Listed primary copy xs lines → Checks primary copy ys (Err e)
    → Begins primary copy (xs ++ ys) (Err e)
begins-refused primary copy lines xs ys e a (inl b) = (inl (inl (stopped-behind xs ys e b.0)), asks-append xs ys (listed-asks primary copy xs lines a) b.1)
begins-refused primary copy lines xs ys e a (inr b) =
    (inr (b.0, lines, (xs, ys, refl, a, b.1)), asks-append xs ys (listed-asks primary copy xs lines a) (answered-asks primary copy ys false b.1))

pub begin-unlisted : {S : Type 0} (did : S → List Event → S → Type 0) (p q : S) (primary copy : ℕ) (e : Refusal) → Call did p q (λ events. Lists primary copy events (Err e))
    → Call did p q (λ events. Begins primary copy events (Err e))
begin-unlisted did p q primary copy e a = (a.0, a.1, (inl a.2.0, a.2.1))

pub begin-refused : {S : Type 0} (did : S → List Event → S → Type 0) → GoesOn did → (p q r : S) (primary copy : ℕ) (lines : List MissingLine) (e : Refusal)
    → Call did p q (λ events. Lists primary copy events (Ok lines)) → Call did q r (λ events. Checks primary copy events (Err e)) → Call did p r (λ events. Begins primary copy events (Err e))
begin-refused did goes p q r primary copy lines e a b =
    call_then did goes (λ events. Listed primary copy events lines) (λ events. Checks primary copy events (Err e)) (λ events. Begins primary copy events (Err e)) p q r a b
    (λ xs ys f g. begins-refused primary copy lines xs ys e f g)

begins-by : (primary copy : ℕ) (lines those : List MissingLine) (result : Result (List Wanted) Refusal) (xs ys : List Event) → those ≡ lines → AnswersBy (λ w. w) result (map (further copy) those)
    → Listed primary copy xs lines → Answered primary copy ys true → Begins primary copy (xs ++ ys) result
begins-by primary copy lines those (Ok wanted) xs ys same said a b = (lines, said ∙ ap (map (further copy)) same, (xs, ys, refl, a, b))
begins-by primary copy lines those (Err e) xs ys same said a b = (inl (inl (inl said)), asks-append xs ys (listed-asks primary copy xs lines a) (answered-asks primary copy ys true b))

pub begins : {S : Type 0} (did : S → List Event → S → Type 0) → GoesOn did → (p q r : S) (primary copy : ℕ) (lines those : List MissingLine) (result : Result (List Wanted) Refusal)
    → those ≡ lines → AnswersBy (λ w. w) result (map (further copy) those)
    → Call did p q (λ events. Lists primary copy events (Ok lines)) → Call did q r (λ events. Checks primary copy events (Ok tt)) → Call did p r (λ events. Begins primary copy events result)
begins did goes p q r primary copy lines those result same said a b =
    call_then did goes (λ events. Listed primary copy events lines) (λ events. Answered primary copy events true) (λ events. Begins primary copy events result) p q r a b
    (λ xs ys f g. begins-by primary copy lines those result xs ys same said f g)
