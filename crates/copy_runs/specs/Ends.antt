-- How a process begins that copies objects, and how it ends.
use Rattle.std.specs.Prelude.{◌≡◌, ◌⊎◌, ℕ, ◌==◌, true, if◌then◌else◌, List, [], ◌∷◌, None, Some, Result, Ok, Err}
use Rattle.std.specs.List.{AllByRecursion}
use Rattle.kinds.specs.Refusals.{number_of}
use Rattle.kinds.specs.declared.refusal.Holder.TheVariants as holder
use Rattle.kinds.specs.declared.refusal.Refusal.{Refusal}
use Rattle.kinds.specs.declared.refusal.Refusal.TheVariants as refused
use Rattle.inventory_answers.specs.declared.lines.PoolLine.{PoolLine}
use Rattle.inventory_answers.specs.declared.query.Query.{Query}
use Rattle.inventory_answers.specs.declared.query.Query.TheVariants as query
use Rattle.inventory_answers.specs.declared.reply.Answer.{Answer}
use Rattle.inventory_answers.specs.declared.reply.Rows.TheVariants as rows
use Rattle.steps.specs.Events.{Deed, Event, event, refusal}
use Rattle.steps.specs.Events.Deed.{Ask, Force}
use Rattle.copy_attempts.specs.Attempts.{is_stopping, stopping}
use Rattle.copy_attempts.specs.Outcomes.{Met, MetBy}

-- the refusal is want of memory, or ends a process and was met by one of the steps
abbrev pub IsStopped : List Event → Refusal → Type 0
IsStopped events e = (e ≡ refused.Memory) ⊎ ((is_stopping e ≡ true) × Met e events)

-- all storage pools were asked for, and answered with these lines
abbrev pub AskedPools : List Event → List PoolLine → Type 0
AskedPools events lines = (n : ℕ) × (answer : Answer) × (events ≡ event n (Ask (query.Pools None) (Ok answer)) ∷ []) × (answer.rows ≡ rows.Pools lines)

-- it asks
abbrev pub IsAsking : Deed → Type 0
IsAsking d = (q : Query) × (answer : Result Answer Refusal) × (d ≡ Ask q answer)

-- it asks, and no more
abbrev pub AreAsking : List Event → Type 0
AreAsking events = AllByRecursion (λ e. IsAsking e.deed) events

-- what was asked wasn't answered
abbrev pub Unanswered : List Event → Refusal → Type 0
Unanswered events e = IsStopped events e × AreAsking events

abbrev pub AsksPools : List Event → Result (List PoolLine) Refusal → Type 0
AsksPools events (Ok lines) = AskedPools events lines
AsksPools events (Err e) = Unanswered events e

-- the number of the last transaction was asked for
abbrev pub AsksToday : List Event → Result (Unit {0}) Refusal → Type 0
AsksToday events (Ok done) = (n : ℕ) × (answer : Answer) × (events ≡ event n (Ask query.Today (Ok answer)) ∷ [])
AsksToday events (Err e) = Unanswered events e

-- it forces or asks
abbrev pub IsEnding : Deed → Type 0
IsEnding d = IsAsking d ⊎ ((answer : Result ℕ Refusal) × (d ≡ Force answer))

abbrev pub AreEnding : List Event → Type 0
AreEnding events = AllByRecursion (λ e. IsEnding e.deed) events

-- A refusal that names a transaction which isn't forced yet answered a question or a force: behind any other step that is so refused all is forced, and the step is tried again.
abbrev pub IsUnheld : List Event → Refusal → Type 0
IsUnheld events e = (number : ℕ) → e ≡ refused.Busy (holder.Unforced number) → MetBy (λ d. IsEnding d × (refusal d ≡ Some e)) events

-- all was made durable, and then the number of the last transaction was asked for
abbrev pub Finished : List Event → Type 0
Finished events = (n : ℕ) × (m : ℕ) × (number : ℕ) × (answer : Answer) × (events ≡ event n (Force (Ok number)) ∷ event m (Ask query.Today (Ok answer)) ∷ [])

abbrev pub Finishes : List Event → Result (Unit {0}) Refusal → Type 0
Finishes events (Ok done) = Finished events
Finishes events (Err e) = IsStopped events e × AreEnding events

-- ---- lists that are asked for

-- the refusal of a list: what is named isn't there, or what ends a process
abbrev pub unlisted : Refusal → Refusal
unlisted e = if number_of e == 10 then e else stopping e

-- what isn't there was named in this question
abbrev pub IsUnlisted : Query → List Event → Refusal → Type 0
IsUnlisted q events e = IsStopped events e ⊎ (((number_of e == 10) ≡ true) × MetBy (λ d. d ≡ Ask q (Err e)) events)

-- ---- numbers

-- those of the first and of the last of some events
abbrev pub first_of : List Event → ℕ
first_of [] = 0
first_of (e ∷ events) = e.n

abbrev pub last_of : List Event → ℕ
last_of [] = 0
last_of (e ∷ []) = e.n
last_of (e ∷ f ∷ events) = last_of (f ∷ events)
