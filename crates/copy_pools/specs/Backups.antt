-- What the copying of a primary pool did.
use Rattle.std.specs.Prelude.{◌≡◌, ◌⊎◌, ◌≤◌, ℕ, ◌-◌, ◌==◌, Bool, true, false, List, [], ◌∷◌, map, length, Option, None, Some, Result, Ok, Err}
use Rattle.std.specs.List.{AllByRecursion, find, slice_get}
use Rattle.std.specs.Option.{option_map, option_map_or}
use Rattle.kinds.specs.Refusals.{number_of}
use Rattle.kinds.specs.declared.pool.PoolKind.{PoolKind}
use Rattle.kinds.specs.declared.pool.PoolKind.TheVariants.{Primary, Copy}
use Rattle.kinds.specs.declared.refusal.Refusal.{Refusal}
use Rattle.kinds.specs.declared.refusal.Refusal.TheVariants as refused
use Rattle.entries.specs.declared.change.Change.{Change}
use Rattle.inventory_answers.specs.declared.lines.PoolLine.{PoolLine}
use Rattle.inventory_answers.specs.declared.query.Query.TheVariants as query
use Rattle.inventory_answers.specs.declared.reply.Answer.{Answer}
use Rattle.inventory_answers.specs.declared.reply.Rows.TheVariants as rows
use Rattle.inventory_work.specs.declared.lines.MissingLine.{MissingLine}
use Rattle.inventory_rows.specs.version_groups.Copies.{has_copy}
use Rattle.inventory_rows.specs.Search.{pool, version}
use Rattle.inventory_rows.specs.State.{Inv}
use Rattle.space.specs.declared.aim.Aim.TheVariants as aim
use Rattle.steps.specs.Calls.{Then}
use Rattle.steps.specs.Events.{Deed, Event, event}
use Rattle.steps.specs.Events.Deed.{Ask, OpenCopy}
use Rattle.steps.specs.Receipts.{made, receipts}
use Rattle.machine.specs.Fits.{Fits, History, Own, inv}
use Rattle.copy_attempts.specs.Outcomes.{IsOf, MetBy, may_leave}
use Rattle.steps.specs.Spent.{AreSettled}
use Rattle.copy_runs.specs.declared.wanted.Moved.{Moved}
use Rattle.copy_runs.specs.declared.wanted.Wanted.{Wanted}
use Rattle.copy_runs.specs.Ends.{AreAsking, AskedPools, IsEnding, IsStopped, IsUnheld, IsUnlisted, Unanswered, first_of, last_of}
use Rattle.copy_runs.specs.Processes.{Completes}
use Rattle.copy_runs.specs.Runs.{HasFailed, IsEntryFor, LeavesNone, copies_in, failing_in, is_among}
use Rattle.copy_runs.specs.Wanting.{IsIn, is_wanted}

-- ---- what is asked

-- the copy that is wanted of an object
abbrev pub further : (to : ℕ) → MissingLine → Wanted
further to line = record { object = line.object; aim = aim.Copy to; size = line.size }

-- the objects were asked for that the copy pool lacks
abbrev pub Listed : (primary copy : ℕ) → List Event → List MissingLine → Type 0
Listed primary copy events lines = (n : ℕ) × (answer : Answer) × (events ≡ event n (Ask (query.Missing primary copy) (Ok answer)) ∷ []) × (answer.rows ≡ rows.Missing lines)

abbrev pub Lists : (primary copy : ℕ) → List Event → Result (List MissingLine) Refusal → Type 0
Lists primary copy events (Ok lines) = Listed primary copy events lines
Lists primary copy events (Err e) = IsUnlisted (query.Missing primary copy) events e × AreAsking events

-- what a pool is for, where it is among these
abbrev pub kind_of : ℕ → List PoolLine → Option PoolKind
kind_of number lines = option_map (λ l. l.kind) (find (λ l. l.number == number) lines)

-- the one is that of a primary pool, and the other that of a copy pool
abbrev pub are_kinds : Option PoolKind → Option PoolKind → Bool
are_kinds (Some Primary) (Some Copy) = true
are_kinds (Some Primary) (Some Primary) = false
are_kinds (Some Primary) None = false
are_kinds (Some Copy) other = false
are_kinds None other = false

abbrev pub Answered : (primary copy : ℕ) → List Event → Bool → Type 0
Answered primary copy events is = (lines : List PoolLine) × AskedPools events lines × (are_kinds (kind_of primary lines) (kind_of copy lines) ≡ is)

abbrev pub Checks : (primary copy : ℕ) → List Event → Result (Unit {0}) Refusal → Type 0
Checks primary copy events (Ok done) = Answered primary copy events true
Checks primary copy events (Err e) = Unanswered events e ⊎ ((e ≡ refused.NotFound) × Answered primary copy events false)

-- the refusal is want of memory, or ends a process; or one of the pools isn't there or isn't of its kind, as one of the questions was answered
abbrev pub IsRefused : (primary copy : ℕ) → List Event → Refusal → Type 0
IsRefused primary copy events e =
    IsUnlisted (query.Missing primary copy) events e
    ⊎ ((e ≡ refused.NotFound) × (lines : List MissingLine) × Then (λ xs. Listed primary copy xs lines) (λ ys. Answered primary copy ys false) events)

abbrev pub Begins : (primary copy : ℕ) → List Event → Result (List Wanted) Refusal → Type 0
Begins primary copy events (Ok wanted) =
    (lines : List MissingLine) × (wanted ≡ map (further copy) lines) × Then (λ xs. Listed primary copy xs lines) (λ ys. Answered primary copy ys true) events
Begins primary copy events (Err e) = IsRefused primary copy events e × AreAsking events

-- ---- the row

-- the object is kept, with a copy in the pool
abbrev pub lies_in : (number object : ℕ) → Inv → Bool
lies_in number object v = option_map_or (λ w. has_copy number w.copies) (version object v) false

-- An object with a copy in the primary pool where it begins, which is kept and has none in the copy pool at each number up to its last step's, is counted as failed.
abbrev pub IsBackedUp : (primary copy : ℕ) → (failed : List ℕ) → List Event → Type 0
IsBackedUp primary copy failed events =
    (w : History) (actor : ℕ) (a b : Own) → a.tickets ≡ [] → Fits w actor a events b
    → (object : ℕ) → lies_in primary object (inv w (first_of events)) ≡ true
    → ((n : ℕ) → first_of events ≤ n → n ≤ last_of events → is_wanted (aim.Copy copy) object (inv w n) ≡ true) → is_among object failed ≡ true

-- what a pool is for
abbrev pub pool_kind : ℕ → Inv → Option PoolKind
pool_kind number v = option_map (λ p. p.kind) (pool number v)

-- At one of the numbers the pools are of their kinds; or they aren't.
abbrev pub KindsAre : (primary copy : ℕ) → List Event → Bool → Type 0
KindsAre primary copy events is =
    (w : History) (actor : ℕ) (a b : Own) → Fits w actor a events b
    → (n : ℕ) × (first_of events ≤ n) × (n ≤ last_of events) × (are_kinds (pool_kind primary (inv w n)) (pool_kind copy (inv w n)) ≡ is)

-- ---- the whole

-- one of the wanted copies
abbrev pub IsFurther : (copy : ℕ) → Wanted → Type 0
IsFurther copy x = x.aim ≡ aim.Copy copy

-- it asks or forces, or makes an attempt for a copy in the pool
abbrev pub IsBackup : (copy : ℕ) → Deed → Type 0
IsBackup copy d = IsEnding d ⊎ ((object : ℕ) × IsOf object (aim.Copy copy) 0 d)

-- the answer to the question for the objects that the copy pool lacks has a line of this one
abbrev pub Lacks : (primary copy object : ℕ) → Deed → Type 0
Lacks primary copy object d =
    (answer : Answer) × (lines : List MissingLine) × (d ≡ Ask (query.Missing primary copy) (Ok answer)) × (answer.rows ≡ rows.Missing lines) × (line : MissingLine) × IsIn line lines × (line.object ≡ object)

-- it opens a ticket for such an object alone
abbrev pub IsForListed : (primary copy : ℕ) → List Event → Deed → Type 0
IsForListed primary copy events (OpenCopy object a avoid answer) = MetBy (Lacks primary copy object) events
IsForListed primary copy events d = Unit {0}

-- each failed object had an attempt for such a copy that failed
abbrev pub HasFailedIn : (copy : ℕ) → List Event → (object : ℕ) → Type 0
HasFailedIn copy events object = (x : Wanted) × IsFurther copy x × HasFailed (x ∷ []) 0 events object

-- What it did where it answered counts: what it asked for told it which copies are wanted, and one attempt for each of these came behind it; the counts are those of the copies in its receipts, and of
-- objects that failed, which are no more than its steps that were so refused; the row; the pools were of their kinds; and no ticket is left.
pub record BackedUp (primary copy : ℕ) (events : List Event) (m : Moved) : Type 0 where
  pub failed : List ℕ
  pub wanted : List Wanted
  pub order : Then (λ xs. Begins primary copy xs (Ok wanted)) (λ ys. Completes wanted 0 ys (Ok m)) events
  pub moved : m.moved ≡ copies_in (receipts events)
  pub number : length failed ≡ m.failed
  pub risen : m.failed ≤ failing_in events
  pub each : AllByRecursion (HasFailedIn copy events) failed
  pub row : IsBackedUp primary copy failed events
  pub kinds : KindsAre primary copy events true
  pub settled : AreSettled events
  pub none_left : LeavesNone events

-- the pools were asked for, and by the answer one of the two isn't there or isn't of its kind
abbrev pub TellsOtherwise : (primary copy : ℕ) → Deed → Type 0
TellsOtherwise primary copy d =
    (answer : Answer) × (lines : List PoolLine) × (d ≡ Ask (query.Pools None) (Ok answer)) × (answer.rows ≡ rows.Pools lines) × (are_kinds (kind_of primary lines) (kind_of copy lines) ≡ false)

-- the pool that was aimed at wasn't there, or a pool that was named, or one isn't of its kind
abbrev pub IsNotThere : (primary copy : ℕ) → List Event → Refusal → Type 0
IsNotThere primary copy events e =
    ((number_of e == 10) ≡ true)
    × (MetBy (λ d. d ≡ Ask (query.Missing primary copy) (Err e)) events
    ⊎ (KindsAre primary copy events false × MetBy (TellsOtherwise primary copy) events)
    ⊎ ((object : ℕ) × MetBy (λ d. d ≡ OpenCopy object (aim.Copy copy) 0 (Err e)) events))

-- What it did where it was refused: the refusal is want of memory, or one that ends a process and that one of its steps met, or a pool isn't there or isn't of its kind; it waits for no transaction that
-- a force would make durable; and no ticket is left, unless none can be given back.
pub record Stopped (primary copy : ℕ) (events : List Event) (e : Refusal) : Type 0 where
  pub cause : IsStopped events e ⊎ IsNotThere primary copy events e
  pub unheld : IsUnheld events e
  pub settled : may_leave (Err e) ≡ false → AreSettled events
  pub none_left : may_leave (Err e) ≡ false → LeavesNone events

abbrev pub Came : (primary copy : ℕ) → List Event → Result Moved Refusal → Type 0
Came primary copy events (Ok m) = BackedUp primary copy events m
Came primary copy events (Err e) = Stopped primary copy events e

-- the transaction of the step stands in the history as the actor's, and makes one further copy, in the copy pool
abbrev pub IsEnteredIn : (copy : ℕ) → History → (actor : ℕ) → Event → Type 0
IsEnteredIn copy w actor e =
    (object : ℕ) × (c : Change) × IsEntryFor object (aim.Copy copy) c × (slice_get w.journal (e.n - w.base.number) ≡ Some (record { actor = actor; change = c }))

-- What it did, that its steps were no others, that it opened tickets for objects of the list alone, and that each transaction which joined by them makes one further copy in the copy pool.
pub record Backup (primary copy : ℕ) (events : List Event) (result : Result Moved Refusal) : Type 0 where
  pub came : Came primary copy events result
  pub only : AllByRecursion (λ e. IsBackup copy e.deed) events
  pub listed : AllByRecursion (λ e. IsForListed primary copy events e.deed) events
  pub entries : (w : History) (actor : ℕ) (a b : Own) → a.tickets ≡ [] → Fits w actor a events b → AllByRecursion (IsEnteredIn copy w actor) (made events)
