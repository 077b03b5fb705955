-- What the migration of all pools did that are due.
use Rattle.std.specs.Prelude.{◌≡◌, ◌⊎◌, ◌≤◌, ℕ, ◌-◌, ◌&&◌, nat_lt, Bool, true, false, is_some, List, [], ◌∷◌, ◌++◌, length, Option, None, Some, Result, Ok, Err}
use Rattle.std.specs.List.{AllByRecursion, find, slice_get}
use Rattle.std.specs.Option.{option_map}
use Rattle.kinds.specs.declared.refusal.Refusal.{Refusal}
use Rattle.entries.specs.declared.change.Change.{Change}
use Rattle.inventory_answers.specs.declared.lines.PoolLine.{PoolLine}
use Rattle.inventory_answers.specs.declared.query.Query.TheVariants as query
use Rattle.inventory_answers.specs.declared.reply.Answer.{Answer}
use Rattle.inventory_answers.specs.declared.reply.Rows.TheVariants as rows
use Rattle.inventory_rows.specs.Search.{is_primary_kind}
use Rattle.space.specs.declared.aim.Aim.TheVariants as aim
use Rattle.steps.specs.Calls.{Then}
use Rattle.steps.specs.Events.{Deed, Event}
use Rattle.steps.specs.Events.Deed.{Ask}
use Rattle.steps.specs.Receipts.{made, receipts}
use Rattle.machine.specs.Fits.{Fits, History, Own}
use Rattle.copy_attempts.specs.Outcomes.{IsOf, MetBy, may_leave}
use Rattle.steps.specs.Spent.{AreSettled}
use Rattle.copy_runs.specs.declared.wanted.Moved.{Moved}
use Rattle.copy_runs.specs.declared.wanted.Wanted.{Wanted}
use Rattle.copy_runs.specs.Ends.{AskedPools, IsEnding, IsStopped, IsUnheld, Unanswered}
use Rattle.copy_runs.specs.Parts.{Part}
use Rattle.copy_runs.specs.Runs.{HasFailed, IsEntryFor, LeavesNone, copies_in, failing_in}
use Rattle.copy_runs.specs.Wanting.{IsIn}
use Rattle.migration.specs.declared.sweep.Due.{Due}
use Rattle.migration.specs.declared.sweep.Swept.{Swept}
use Rattle.migration.specs.Marks.{has_reached}
use Rattle.migration.specs.Migrating.{IsBarred, IsForced, IsMigrated, IsMigrating, Migrates}
use Rattle.migration.specs.Turns.{Picks}

-- ---- which pools

-- it comes behind the pool with this number, or there was none before
abbrev pub is_behind : Option ℕ → ℕ → Bool
is_behind None number = true
is_behind (Some before) number = nat_lt before number

-- It is a primary pool with a next one, and at least its high mark is used.
abbrev pub is_due : Option ℕ → PoolLine → Bool
is_due before line = is_behind before line.number && (is_primary_kind line.kind && (is_some line.settings.next && has_reached line.settings.high line))

-- the pool with its low mark
abbrev pub due_at : PoolLine → Due
due_at line = record { pool = line.number; low = line.settings.low }

-- the first of these, which come by number
abbrev pub due_of : Option ℕ → List PoolLine → Option Due
due_of before lines = option_map due_at (find (is_due before) lines)

-- the pools were asked for, and this one is due by the answer
abbrev pub AskedDue : Option ℕ → List Event → Option Due → Type 0
AskedDue before events next = (lines : List PoolLine) × AskedPools events lines × (due_of before lines ≡ next)

abbrev pub AsksDue : Option ℕ → List Event → Result (Option Due) Refusal → Type 0
AsksDue before events (Ok next) = AskedDue before events next
AsksDue before events (Err e) = Unanswered events e

-- ---- its moves

-- a copy of a pool goes to another, or to the pools behind it
abbrev pub IsAny : Wanted → Type 0
IsAny x = (pool : ℕ) × IsMigrating pool x

abbrev pub AreAny : List Wanted → Type 0
AreAny wanted = (x : Wanted) → IsIn x wanted → IsAny x

-- it asks or forces, or makes an attempt for such a move
abbrev pub IsSweep : Deed → Type 0
IsSweep d = IsEnding d ⊎ ((object : ℕ) × (pool : ℕ) × (placed : ℕ) × (to : ℕ) × IsOf object (aim.Move pool placed to true) 0 d)

abbrev pub AreSweep : List Event → Type 0
AreSweep events = AllByRecursion (λ e. IsSweep e.deed) events

-- each failed object had an attempt for such a move that failed
abbrev pub HasFailedAny : List Event → (object : ℕ) → Type 0
HasFailedAny events object = (x : Wanted) × IsAny x × HasFailed (x ∷ []) 0 events object

-- the transaction of the step stands in the history as the actor's, and moves one copy
abbrev pub IsEnteredAny : History → (actor : ℕ) → Event → Type 0
IsEnteredAny w actor e =
    (object : ℕ) × (pool : ℕ) × (placed : ℕ) × (to : ℕ) × (c : Change) × IsEntryFor object (aim.Move pool placed to true) c
    × (slice_get w.journal (e.n - w.base.number) ≡ Some (record { actor = actor; change = c }))

-- each transaction that joined by these steps does, in whatever history they fit
abbrev pub EntersAny : List Event → Type 0
EntersAny events = (w : History) (actor : ℕ) (a b : Own) → a.tickets ≡ [] → Fits w actor a events b → AllByRecursion (IsEnteredAny w actor) (made events)

-- ---- the pools, one after the other

-- A pool was migrated down to its low mark, and for these of its objects no move could be made; what holds of the migration of one pool holds of these steps.
pub record Turn (picks : Picks) (pool low : ℕ) (failed : List ℕ) (events : List Event) (m : Moved) : Type 0 where
  pub migrates : Migrates picks pool low events m
  pub same : migrates.part.done.failed ≡ failed
  pub row : IsMigrated pool low failed events

-- Each of these pools was due at its turn, behind the ones before, and was migrated then.
abbrev pub Sweeps : Picks → Option ℕ → List Due → (failed : List ℕ) → List Event → Type 0
Sweeps picks before [] failed events = (events ≡ []) × (failed ≡ [])
Sweeps picks before (t ∷ turns) failed events =
    (m : Moved) × (some : List ℕ) × (more : List ℕ) × (failed ≡ some ++ more)
    × Then (λ xs. AskedDue before xs (Some t)) (λ ys. Then (λ us. Turn picks t.pool t.low some us m) (λ vs. Sweeps picks (Some t.pool) turns more vs) ys) events

-- the number of the last of these pools
abbrev pub last_of_turns : Option ℕ → List Due → Option ℕ
last_of_turns before [] = before
last_of_turns before (t ∷ turns) = last_of_turns (Some t.pool) turns

-- so far it was so
pub record Sweeping (picks : Picks) (before : Option ℕ) (events : List Event) (m : Moved) : Type 0 where
  pub turns : List Due
  pub failed : List ℕ
  pub wanted : List Wanted
  pub order : Sweeps picks None turns failed events
  pub at : last_of_turns None turns ≡ before
  pub part : Part wanted 0 events m
  pub same : part.done.failed ≡ failed
  pub all : AreAny wanted

-- the pools were asked for, and by the answer this one is due
abbrev pub TellsDue : Due → Deed → Type 0
TellsDue t d = (before : Option ℕ) × (answer : Answer) × (lines : List PoolLine) × (d ≡ Ask (query.Pools None) (Ok answer)) × (answer.rows ≡ rows.Pools lines) × (due_of before lines ≡ Some t)

-- the migration of a pool is barred that was due by an answer
abbrev pub IsBarredIn : List Event → Refusal → Type 0
IsBarredIn events e = (t : Due) × MetBy (TellsDue t) events × IsBarred t.pool t.low events e

-- It was refused: for want of memory, or with a refusal that ends a process and that one of its steps met, or that bars the migration of a pool that was due; it waits for no transaction that a force
-- would make durable; and no ticket is left, unless none can be given back.
pub record SweepBreaks (events : List Event) (e : Refusal) : Type 0 where
  pub cause : IsStopped events e ⊎ IsBarredIn events e
  pub unheld : IsUnheld events e
  pub only : AreSweep events
  pub entries : EntersAny events
  pub settled : may_leave (Err e) ≡ false → AreSettled events
  pub none_left : may_leave (Err e) ≡ false → LeavesNone events

-- one pool's turn, or none is due any more
abbrev pub SweepTurn : Picks → Option ℕ → List Event → Result (Option Swept) Refusal → Type 0
SweepTurn picks before events (Ok (Some s)) =
    (t : Due) × (failed : List ℕ) × (t.pool ≡ s.pool) × Then (λ xs. AskedDue before xs (Some t)) (λ ys. Turn picks t.pool t.low failed ys s.moved) events
SweepTurn picks before events (Ok None) = AskedDue before events None
SweepTurn picks before events (Err e) = SweepBreaks events e

-- all that were due were migrated
pub record SweptAll (picks : Picks) (events : List Event) (m : Moved) : Type 0 where
  pub before : Option ℕ
  pub sweeping : Then (λ xs. Sweeping picks before xs m) (λ ys. AskedDue before ys None) events

abbrev pub SweepsAll : Picks → List Event → Result Moved Refusal → Type 0
SweepsAll picks events (Ok m) = SweptAll picks events m
SweepsAll picks events (Err e) = SweepBreaks events e

-- ---- the whole

-- Each of these pools was migrated at its turn, no other one was due, and all was made durable.
abbrev pub IsInOrder : Picks → List Due → (failed : List ℕ) → List Event → Type 0
IsInOrder picks turns failed events =
    Then (λ xs. Then (λ us. Sweeps picks None turns failed us) (λ vs. AskedDue (last_of_turns None turns) vs None) xs) IsForced events

-- What it did where it answered counts: they are those of the copies in its receipts, and of objects that failed, which are no more than its steps that were so refused; its steps came in their order,
-- and with them the row of each pool; and no ticket is left.
pub record AllMigrated (picks : Picks) (events : List Event) (m : Moved) : Type 0 where
  pub turns : List Due
  pub failed : List ℕ
  pub moved : m.moved ≡ copies_in (receipts events)
  pub number : length failed ≡ m.failed
  pub risen : m.failed ≤ failing_in events
  pub each : AllByRecursion (HasFailedAny events) failed
  pub order : IsInOrder picks turns failed events
  pub settled : AreSettled events
  pub none_left : LeavesNone events

abbrev pub AllCame : Picks → List Event → Result Moved Refusal → Type 0
AllCame picks events (Ok m) = AllMigrated picks events m
AllCame picks events (Err e) = SweepBreaks events e

-- What it did, that its steps were no others, and that each transaction which joined by them moves one copy of a pool.
pub record AllMigration (picks : Picks) (events : List Event) (result : Result Moved Refusal) : Type 0 where
  pub came : AllCame picks events result
  pub only : AreSweep events
  pub entries : EntersAny events
