-- The questions with which a reclamation begins.
use Rattle.std.proofs.Common.{◌≡◌, inl, inr, ℕ, ◌==◌, Bool, true, false, List, [], ◌++◌, Result, Ok, Err, refl, sym, subst, if◌then◌else◌}
use Rattle.kinds.specs.Refusals.{number_of}
use Rattle.kinds.specs.declared.refusal.Refusal.{Refusal}
use Rattle.kinds.specs.declared.refusal.Refusal.TheVariants as refused
use Rattle.inventory_answers.specs.declared.lines.PoolLine.{PoolLine}
use Rattle.inventory_answers.specs.declared.query.Query.TheVariants as query
use Rattle.inventory_answers.specs.declared.reply.Answer.{Answer}
use Rattle.inventory_answers.specs.declared.reply.Rows.TheVariants as rows
use Rattle.inventory_work.specs.declared.lines.CopyLine.{CopyLine}
use Rattle.steps.proofs.Joining.{GoesOn, call_then, does_alone}
use Rattle.steps.specs.Calls.{Call, Does}
use Rattle.steps.specs.Events.{Event}
use Rattle.steps.specs.Events.Deed.{Ask}
use Rattle.copy_attempts.proofs.Facts.{some-memory}
use Rattle.copy_attempts.specs.Attempts.{stopping}
use Rattle.copy_runs.proofs.Ending.{ask-nothing, ask-refused, stopped-behind, unlisted-by}
use Rattle.copy_runs.specs.Ends.{AreAsking, AsksPools, Unanswered, unlisted}
use Rattle.reclamation.specs.Reclaiming.{Answered, BeginsPool, Begun, ChecksPool, ListedFiles, ListedThere, ListsFiles, ListsThere, absent_by, is_sequential_in}
use Rattle.reclamation.proofs.Beginning.{asks-append, pools-asks}

-- ---- the volumes

pub files-listed : {S : Type 0} (did : S → List Event → S → Type 0) (p q : S) (pool threshold : ℕ) (answer : Answer) (result : Result (List ℕ) Refusal)
    → ((files : List ℕ) → result ≡ Ok files → answer.rows ≡ rows.Eligible files) → ((e : Refusal) → result ≡ Err e → e ≡ refused.Memory)
    → Does did p q (Ask (query.Eligible pool threshold) (Ok answer)) → Call did p q (λ events. ListsFiles pool threshold events result)
files-listed did p q pool threshold answer (Ok files) good bad d =
    does_alone did (λ events. ListsFiles pool threshold events (Ok files)) p q (Ask (query.Eligible pool threshold) (Ok answer)) d (λ n listed. (n, answer, refl, good files refl)) (λ m. absurd cc)
files-listed did p q pool threshold answer (Err e) good bad d =
    let c : Call did p q (λ events. Unanswered events e) = ask-nothing did p q (query.Eligible pool threshold) answer e (bad e refl) d in
    (c.0, c.1, (inl c.2.0, c.2.1))

pub files-unlisted : {S : Type 0} (did : S → List Event → S → Type 0) (p q : S) (pool threshold : ℕ) (e other : Refusal) → other ≡ unlisted e → Does did p q (Ask (query.Eligible pool threshold) (Err e))
    → Call did p q (λ events. ListsFiles pool threshold events (Err other))
files-unlisted did p q pool threshold e other is d =
    subst (λ (x : Refusal). Call did p q (λ events. ListsFiles pool threshold events (Err x))) (sym is) (unlisted-by did p q (query.Eligible pool threshold) e d)

-- ---- the pool

pub pool-checked : {S : Type 0} (did : S → List Event → S → Type 0) (p q : S) (pool : ℕ) (lines : List PoolLine) → Call did p q (λ events. AsksPools events (Ok lines))
    → is_sequential_in pool lines ≡ true → Call did p q (λ events. ChecksPool pool events (Ok tt))
pool-checked did p q pool lines a h = (a.0, a.1, (lines, a.2, h))

pub pool-not-checked : {S : Type 0} (did : S → List Event → S → Type 0) (p q : S) (pool : ℕ) (lines : List PoolLine) → Call did p q (λ events. AsksPools events (Ok lines))
    → is_sequential_in pool lines ≡ false → Call did p q (λ events. ChecksPool pool events (Err refused.NotFound))
pool-not-checked did p q pool lines a h = (a.0, a.1, inr (refl, (lines, a.2, h)))

pub pool-not-answered : {S : Type 0} (did : S → List Event → S → Type 0) (p q : S) (pool : ℕ) (e : Refusal) → Call did p q (λ events. AsksPools events (Err e))
    → Call did p q (λ events. ChecksPool pool events (Err e))
pool-not-answered did p q pool e a = (a.0, a.1, inl a.2)

-- ---- both

files-asks : (pool threshold : ℕ) (events : List Event) (files : List ℕ) → ListedFiles pool threshold events files → AreAsking events
files-asks pool threshold events files h = subst AreAsking (sym h.2) ((query.Eligible pool threshold, Ok h.1, refl), tt)

pub answered-asks : (pool : ℕ) (events : List Event) (is : Bool) → Answered pool events is → AreAsking events
answered-asks pool events is h = pools-asks events h.0 h.1

pub begun-asks : (pool threshold : ℕ) (files : List ℕ) (events : List Event) → Begun pool threshold files events → AreAsking events
begun-asks pool threshold files events (xs, ys, same, a, b) = subst AreAsking (sym same) (asks-append xs ys (files-asks pool threshold xs files a) (answered-asks pool ys true b))

pub pool-begins : {S : Type 0} (did : S → List Event → S → Type 0) → GoesOn did → (p q r : S) (pool threshold : ℕ) (files : List ℕ) → Call did p q (λ events. ListsFiles pool threshold events (Ok files))
    → Call did q r (λ events. ChecksPool pool events (Ok tt)) → Call did p r (λ events. BeginsPool pool threshold events (Ok files))
pool-begins did on p q r pool threshold files a b =
    call_then did on (λ events. ListedFiles pool threshold events files) (λ events. Answered pool events true) (λ events. Begun pool threshold files events) p q r a b (λ xs ys f g. (xs, ys, refl, f, g))

pool-barred : (pool threshold : ℕ) (files : List ℕ) (xs ys : List Event) (e : Refusal) → ListedFiles pool threshold xs files → ChecksPool pool ys (Err e) → BeginsPool pool threshold (xs ++ ys) (Err e)
pool-barred pool threshold files xs ys e a (inl b) = (inl (inl (stopped-behind xs ys e b.0)), asks-append xs ys (files-asks pool threshold xs files a) b.1)
pool-barred pool threshold files xs ys e a (inr b) = (inr (b.0, files, (xs, ys, refl, a, b.1)), asks-append xs ys (files-asks pool threshold xs files a) (answered-asks pool ys false b.1))

pub pool-refused : {S : Type 0} (did : S → List Event → S → Type 0) → GoesOn did → (p q r : S) (pool threshold : ℕ) (files : List ℕ) (e : Refusal)
    → Call did p q (λ events. ListsFiles pool threshold events (Ok files)) → Call did q r (λ events. ChecksPool pool events (Err e)) → Call did p r (λ events. BeginsPool pool threshold events (Err e))
pool-refused did on p q r pool threshold files e a b =
    call_then did on (λ events. ListedFiles pool threshold events files) (λ events. ChecksPool pool events (Err e)) (λ events. BeginsPool pool threshold events (Err e)) p q r a b
    (λ xs ys f g. pool-barred pool threshold files xs ys e f g)

pub pool-unlisted : {S : Type 0} (did : S → List Event → S → Type 0) (p q : S) (pool threshold : ℕ) (e : Refusal) → Call did p q (λ events. ListsFiles pool threshold events (Err e))
    → Call did p q (λ events. BeginsPool pool threshold events (Err e))
pool-unlisted did p q pool threshold e a = (a.0, a.1, (inl a.2.0, a.2.1))

-- ---- the copies on a volume

pub there-listed : {S : Type 0} (did : S → List Event → S → Type 0) (p q : S) (file : ℕ) (answer : Answer) (result : Result (List CopyLine) Refusal)
    → ((lines : List CopyLine) → result ≡ Ok lines → answer.rows ≡ rows.OnVolume lines) → ((e : Refusal) → result ≡ Err e → e ≡ refused.Memory)
    → Does did p q (Ask (query.OnVolume file) (Ok answer)) → Call did p q (λ events. ListsThere file events result)
there-listed did p q file answer (Ok lines) good bad d =
    does_alone did (λ events. ListedThere file events lines) p q (Ask (query.OnVolume file) (Ok answer)) d (λ n listed. inl (n, answer, refl, good lines refl)) (λ m. absurd cc)
there-listed did p q file answer (Err e) good bad d = ask-nothing did p q (query.OnVolume file) answer e (bad e refl) d

pub there-absent : {S : Type 0} (did : S → List Event → S → Type 0) (p q : S) (file : ℕ) (e : Refusal) (result : Result (List CopyLine) Refusal) → result ≡ absent_by e
    → Does did p q (Ask (query.OnVolume file) (Err e)) → Call did p q (λ events. ListsThere file events result)
there-absent {S} did p q file e result is d =
    subst (λ (x : Result (List CopyLine) Refusal). Call did p q (λ events. ListsThere file events x)) (sym is)
    (elim (number_of e == 10) as (λ b. (number_of e == 10) ≡ b → Call did p q (λ events. ListsThere file events (if b then Ok [] else Err (stopping e)))) [
      | true ↦ λ ten. gone ten d
      | false ↦ λ other. ask-refused did p q (query.OnVolume file) e d
    ] refl)
  where
    memory-other : (x : Refusal) → x ≡ refused.Memory → (number_of x == 10) ≡ true → ⊥
    memory-other x same ten = let never : (number_of refused.Memory == 10) ≡ true = subst (λ (y : Refusal). (number_of y == 10) ≡ true) same ten in absurd cc

    gone : (number_of e == 10) ≡ true → Does did p q (Ask (query.OnVolume file) (Err e)) → Call did p q (λ events. ListedThere file events [])
    gone ten h =
        does_alone did (λ events. ListedThere file events []) p q (Ask (query.OnVolume file) (Err e)) h (λ n listed. inr (refl, n, e, ten, refl))
        (λ m. absurd (memory-other e (some-memory e (Ask (query.OnVolume file) (Err e)) refl m) ten))
