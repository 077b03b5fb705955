-- What a migration did.
use Rattle.std.specs.Prelude.{◌≡◌, ◌⊎◌, ◌≤◌, ℕ, ◌-◌, ◌==◌, Bool, true, false, List, [], ◌∷◌, filter, length, Option, None, Some, Result, Ok, Err}
use Rattle.std.specs.List.{AllByRecursion, slice_get}
use Rattle.kinds.specs.Refusals.{number_of}
use Rattle.kinds.specs.declared.refusal.Refusal.{Refusal}
use Rattle.choosers.specs.declared.candidate.Candidate.{Candidate}
use Rattle.entries.specs.declared.change.Change.{Change}
use Rattle.inventory_answers.specs.Stores.{pool_lines}
use Rattle.inventory_answers.specs.declared.lines.PoolLine.{PoolLine}
use Rattle.inventory_answers.specs.declared.query.Query.TheVariants as query
use Rattle.inventory_answers.specs.declared.reply.Answer.{Answer}
use Rattle.inventory_answers.specs.declared.reply.Rows.TheVariants as rows
use Rattle.inventory_rows.specs.pool_rows.Shares.{percent_at_most}
use Rattle.inventory_rows.specs.version_groups.declared.copies.CopyRow.{CopyRow}
use Rattle.space.specs.declared.aim.Aim.TheVariants as aim
use Rattle.steps.specs.Calls.{Then}
use Rattle.steps.specs.Events.{Deed, Event, event}
use Rattle.steps.specs.Events.Deed.{Ask, Force, OpenCopy}
use Rattle.steps.specs.Receipts.{made, receipts}
use Rattle.machine.specs.Fits.{Fits, History, Own, inv}
use Rattle.copy_attempts.specs.Outcomes.{IsOf, MetBy, may_leave}
use Rattle.steps.specs.Spent.{AreSettled}
use Rattle.copy_runs.specs.declared.wanted.Moved.{Moved}
use Rattle.copy_runs.specs.declared.wanted.Wanted.{Wanted}
use Rattle.copy_runs.specs.Ends.{IsEnding, IsStopped, IsUnheld, IsUnlisted, first_of, last_of}
use Rattle.copy_runs.specs.Parts.{Part}
use Rattle.copy_runs.specs.Returning.{AreValid, Holds, is_kept}
use Rattle.copy_runs.specs.Runs.{HasFailed, IsEntryFor, LeavesNone, copies_in, failing_in, is_among}
use Rattle.copy_runs.specs.Tickets.{GotNoTicket}
use Rattle.copy_runs.specs.Wanting.{IsIn}
use Rattle.migration.specs.Marks.{target}
use Rattle.migration.specs.Turns.{IsOver, Lowered, Picks, Rest, Turned, Turns, unasked}

-- ---- one of its moves

-- a copy of the pool goes to another, or to the pools behind it
abbrev pub IsMigrating : (pool : ℕ) → Wanted → Type 0
IsMigrating pool x = (placed : ℕ) × (to : ℕ) × (x.aim ≡ aim.Move pool placed to true)

-- it asks or forces, or makes an attempt for such a move
abbrev pub IsMigration : (pool : ℕ) → Deed → Type 0
IsMigration pool d = IsEnding d ⊎ ((object : ℕ) × (placed : ℕ) × (to : ℕ) × IsOf object (aim.Move pool placed to true) 0 d)

abbrev pub AreMigration : (pool : ℕ) → List Event → Type 0
AreMigration pool events = AllByRecursion (λ e. IsMigration pool e.deed) events

-- each failed object had an attempt for such a move that failed
abbrev pub HasFailedIn : (pool : ℕ) → List Event → (object : ℕ) → Type 0
HasFailedIn pool events object = (x : Wanted) × IsMigrating pool x × HasFailed (x ∷ []) 0 events object

-- the transaction of the step stands in the history as the actor's, and moves one copy of the pool
abbrev pub IsEnteredIn : (pool : ℕ) → History → (actor : ℕ) → Event → Type 0
IsEnteredIn pool w actor e =
    (object : ℕ) × (placed : ℕ) × (to : ℕ) × (c : Change) × IsEntryFor object (aim.Move pool placed to true) c
    × (slice_get w.journal (e.n - w.base.number) ≡ Some (record { actor = actor; change = c }))

-- each transaction that joined by these steps does, in whatever history they fit
abbrev pub EntersFrom : (pool : ℕ) → List Event → Type 0
EntersFrom pool events = (w : History) (actor : ℕ) (a b : Own) → a.tickets ≡ [] → Fits w actor a events b → AllByRecursion (IsEnteredIn pool w actor) (made events)

-- ---- the row

abbrev pub is_question : Deed → Bool
is_question (Ask q answer) = true
is_question _ = false

-- the number of the last question
abbrev pub asked_last : List Event → ℕ
asked_last events = last_of (filter (λ e. is_question e.deed) events)

-- In every history of valid databases that the events fit: at the last question's number at most the mark is used of the pool; or each copy that lay there where it begins isn't there any more by
-- then, as the same transaction placed it, but those of the objects that are counted as failed.
abbrev pub IsMigrated : (pool low : ℕ) → (failed : List ℕ) → List Event → Type 0
IsMigrated pool low failed events =
    (w : History) (actor : ℕ) (a b : Own) → AreValid w → a.tickets ≡ [] → Fits w actor a events b
    → (percent_at_most pool low (inv w (asked_last events)).stores ≡ true)
    ⊎ ((object : ℕ) (copy : CopyRow) → Holds object copy (inv w (first_of events)) → copy.pool ≡ pool
    → (is_among object failed ≡ true) ⊎ (is_kept object copy (inv w (asked_last events)) ≡ false))

-- ---- one pool

-- These of its copies were tried in their turn, and what came of them.
pub record Migrates (picks : Picks) (pool low : ℕ) (events : List Event) (m : Moved) : Type 0 where
  pub wanted : List Wanted
  pub order : Lowered picks pool low wanted events
  pub part : Part wanted 0 events m

-- By the pools at one of the numbers that its actor's steps reach the copies of the pool are to go there; or it is refused.
abbrev pub GoesSo : (pool low : ℕ) → List Event → Result (Option ℕ) Refusal → Type 0
GoesSo pool low events is =
    (w : History) (actor : ℕ) (a b : Own) → Fits w actor a events b
    → (n : ℕ) × (a.reached ≤ n) × (n ≤ b.reached) × (target pool low (pool_lines None (inv w n).stores) ≡ is)

-- the pools were asked for, and by the answer it is refused so
abbrev pub TellsWhy : (pool low : ℕ) → Refusal → Deed → Type 0
TellsWhy pool low e d = (answer : Answer) × (lines : List PoolLine) × (d ≡ Ask (query.Pools None) (Ok answer)) × (answer.rows ≡ rows.Pools lines) × (target pool low lines ≡ Err e)

-- the pools were asked for, and by the answer copies of the pool are to go to this one
abbrev pub TellsNext : (pool low to : ℕ) → Deed → Type 0
TellsNext pool low to d = (answer : Answer) × (lines : List PoolLine) × (d ≡ Ask (query.Pools None) (Ok answer)) × (answer.rows ≡ rows.Pools lines) × (target pool low lines ≡ Ok (Some to))

-- The pool isn't there at one of the numbers, or has no next one, as one of its questions was answered; or it wasn't there when its copies were asked for; or the pool wasn't there to which by such an
-- answer a copy was to go that was listed.
abbrev pub IsBarred : (pool low : ℕ) → List Event → Refusal → Type 0
IsBarred pool low events e =
    (GoesSo pool low events (Err e) × MetBy (TellsWhy pool low e) events)
    ⊎ (((number_of e == 10) ≡ true) × MetBy (λ d. d ≡ Ask (query.OnPool pool) (Err e)) events)
    ⊎ (((number_of e == 10) ≡ true) × ((object : ℕ) × (placed : ℕ) × (to : ℕ) × MetBy (TellsNext pool low to) events × GotNoTicket object pool placed to true 0 events e))

-- It was refused, with this cause; it waits for no transaction that a force would make durable; and no ticket is left, unless none can be given back.
pub record BreaksFor (pool : ℕ) (Cause : Type 0) (events : List Event) (e : Refusal) : Type 0 where
  pub cause : Cause
  pub unheld : IsUnheld events e
  pub only : AreMigration pool events
  pub entries : EntersFrom pool events
  pub settled : may_leave (Err e) ≡ false → AreSettled events
  pub none_left : may_leave (Err e) ≡ false → LeavesNone events

-- for want of memory, or with a refusal that ends a process and that one of its steps met, or that bars it
abbrev pub Breaks : (pool low : ℕ) → List Event → Refusal → Type 0
Breaks pool low events e = BreaksFor pool (IsStopped events e ⊎ IsBarred pool low events e) events e

-- a copy of the object is left
abbrev pub HasLeft : (object : ℕ) → Rest → Type 0
HasLeft object r = (c : Candidate) × IsIn c r.candidates × (c.object ≡ object)

-- the pool wasn't there to which by an answer a copy was to go that was left
abbrev pub IsLeftBehind : (pool low : ℕ) → Rest → List Event → Refusal → Type 0
IsLeftBehind pool low r events e =
    ((number_of e == 10) ≡ true)
    × ((object : ℕ) × (placed : ℕ) × (to : ℕ) × HasLeft object r × MetBy (TellsNext pool low to) events × MetBy (λ d. d ≡ OpenCopy object (aim.Move pool placed to true) 0 (Err e)) events)

-- so a turn is, or for a copy that was left
abbrev pub EndsTurn : (pool low : ℕ) → Rest → List Event → Refusal → Type 0
EndsTurn pool low r events e = BreaksFor pool (IsStopped events e ⊎ IsBarred pool low events e ⊎ IsLeftBehind pool low r events e) events e

-- one turn: a copy was tried, or it was over, or it was refused
abbrev pub Turning : Picks → (pool low : ℕ) → (r s : Rest) → List Event → Result (Option Moved) Refusal → Type 0
Turning picks pool low r s events (Ok (Some m)) = (x : Wanted) × Turned picks pool low r s x m events
Turning picks pool low r s events (Ok None) = IsOver pool low r events
Turning picks pool low r s events (Err e) = EndsTurn pool low r events e

-- so far these were tried
pub record Going (picks : Picks) (pool low : ℕ) (left : Rest) (events : List Event) (m : Moved) : Type 0 where
  pub wanted : List Wanted
  pub order : Turns picks pool low unasked left wanted events
  pub part : Part wanted 0 events m

abbrev pub Lowers : Picks → (pool low : ℕ) → List Event → Result Moved Refusal → Type 0
Lowers picks pool low events (Ok m) = Migrates picks pool low events m
Lowers picks pool low events (Err e) = Breaks pool low events e

-- ---- the whole

-- all was made durable
abbrev pub IsForced : List Event → Type 0
IsForced events = (n : ℕ) × (number : ℕ) × (events ≡ event n (Force (Ok number)) ∷ [])

-- What it did where it answered counts: they are those of the copies in its receipts, and of objects that failed, which are no more than its steps that were so refused; its steps came in their order;
-- the row; and no ticket is left.
pub record Migrated (picks : Picks) (pool low : ℕ) (events : List Event) (m : Moved) : Type 0 where
  pub failed : List ℕ
  pub wanted : List Wanted
  pub moved : m.moved ≡ copies_in (receipts events)
  pub number : length failed ≡ m.failed
  pub risen : m.failed ≤ failing_in events
  pub each : AllByRecursion (HasFailedIn pool events) failed
  pub order : Then (λ xs. Lowered picks pool low wanted xs) IsForced events
  pub row : IsMigrated pool low failed events
  pub settled : AreSettled events
  pub none_left : LeavesNone events

abbrev pub Came : Picks → (pool low : ℕ) → List Event → Result Moved Refusal → Type 0
Came picks pool low events (Ok m) = Migrated picks pool low events m
Came picks pool low events (Err e) = Breaks pool low events e

-- What it did, that its steps were no others, and that each transaction which joined by them moves one copy of the pool.
pub record Migration (picks : Picks) (pool low : ℕ) (events : List Event) (result : Result Moved Refusal) : Type 0 where
  pub came : Came picks pool low events result
  pub only : AreMigration pool events
  pub entries : EntersFrom pool events
