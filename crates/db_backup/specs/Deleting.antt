-- What taking backups off the list did.
use Rattle.std.specs.Prelude.{◌≡◌, ◌⊎◌, ℕ, ◌+◌, ◌==◌, true, if◌then◌else◌, List, [], ◌∷◌, length, Result, Ok, Err}
use Rattle.std.specs.List.{AllByRecursion, flat_map}
use Rattle.kinds.specs.Refusals.{number_of}
use Rattle.kinds.specs.declared.refusal.Refusal.{Refusal}
use Rattle.entries.specs.declared.change.Change.TheVariants.{DbDelete}
use Rattle.inventory_answers.specs.declared.lines.BackupLine.{BackupLine}
use Rattle.copy_attempts.specs.Attempts.{stopping}
use Rattle.copy_runs.specs.Ends.{Finished, IsEnding, IsStopped}
use Rattle.copy_runs.specs.Wanting.{IsIn}
use Rattle.sessions.specs.Changing.{Joins}
use Rattle.steps.specs.declared.asked.Asked.{Asked}
use Rattle.steps.specs.declared.asked.Asked.TheVariants.{Plain}
use Rattle.steps.specs.Calls.{Then}
use Rattle.steps.specs.Events.{Deed, Event}
use Rattle.steps.specs.Events.Deed.{Commit}
use Rattle.steps.specs.Receipts.{receipts}
use Rattle.steps.specs.Spent.{AreSettled}
use Rattle.db_backup.specs.Backups.{Listed}
use Rattle.db_backup.specs.Listing.{due_files}
use Rattle.db_backup.specs.Rows.{AreDeleted}

-- ---- what is taken off the list

abbrev pub file_in : Asked → List ℕ
file_in (Plain (DbDelete file)) = file ∷ []
file_in _ = []

abbrev pub file_by : Deed → List ℕ
file_by (Commit asked tickets answer) = file_in asked
file_by _ = []

-- the files of the backups that the transactions of these steps take off the list, one after the other
abbrev pub deleted_files : List Event → List ℕ
deleted_files events = flat_map (λ e. file_by e.deed) events

-- how many they are
abbrev pub deletions : List Event → ℕ
deletions events = length (deleted_files events)

-- ---- steps

-- it asks, forces, or takes one of these off the list
abbrev pub IsDeleting : List ℕ → Deed → Type 0
IsDeleting files d = IsEnding d ⊎ ((file : ℕ) × (answer : Result ℕ Refusal) × IsIn file files × (d ≡ Commit (Plain (DbDelete file)) [] answer))

-- no others
abbrev pub AreDeleting : List ℕ → List Event → Type 0
AreDeleting files events = AllByRecursion (λ e. IsDeleting files e.deed) events

-- ---- parts

-- how many went where the transaction of one was so answered: none where that one isn't on the list any more
abbrev pub outcome : Result ℕ Refusal → Result ℕ Refusal
outcome (Ok number) = Ok 1
outcome (Err e) = if number_of e == 10 then Ok 0 else Err (stopping e)

-- one was taken off the list, or isn't on it any more
abbrev pub Tried : (file : ℕ) → List Event → (count : ℕ) → Type 0
Tried file events count =
    ((number : ℕ) × Joins (Plain (DbDelete file)) events (Ok number) × (count ≡ 1))
    ⊎ ((why : Refusal) × ((number_of why == 10) ≡ true) × Joins (Plain (DbDelete file)) events (Err why) × (count ≡ 0))

-- so was each of these, one after the other
abbrev pub AreTried : List ℕ → List Event → (count : ℕ) → Type 0
AreTried [] events count = (events ≡ []) × (count ≡ 0)
AreTried (file ∷ files) events count = (m : ℕ) × (k : ℕ) × (count ≡ m + k) × Then (λ xs. Tried file xs m) (λ ys. AreTried files ys k) events

-- these steps ended with this refusal
pub record Breaks (files : List ℕ) (events : List Event) (e : Refusal) : Type 0 where
  pub cause : IsStopped events e
  pub only : AreDeleting files events

abbrev pub Tries : (file : ℕ) → List Event → Result ℕ Refusal → Type 0
Tries file events (Ok count) = Tried file events count
Tries file events (Err e) = Breaks (file ∷ []) events e

abbrev pub Deletes : List ℕ → List Event → Result ℕ Refusal → Type 0
Deletes files events (Ok count) = AreTried files events count
Deletes files events (Err e) = Breaks files events e

-- they were taken off it, all was made durable, and the number of the last transaction was asked for
abbrev pub Ended : List ℕ → List Event → (count : ℕ) → Type 0
Ended files events count = Then (λ xs. AreTried files xs count) Finished events

abbrev pub Ends : List ℕ → List Event → Result ℕ Refusal → Type 0
Ends files events (Ok count) = Ended files events count
Ends files events (Err e) = Breaks files events e

-- ---- the whole

-- the list was asked for, those that are due were taken off it, all was made durable, and the number of the last transaction was asked for
abbrev pub IsInOrder : (to : ℕ) → List BackupLine → List Event → ℕ → Type 0
IsInOrder to lines events count = Then (λ xs. Listed xs lines) (λ ys. Ended (due_files to lines) ys count) events

-- What it did where it answered a count: that is of the backups in its receipts; its steps came in their order; what was due is gone, and no other went by it.
pub record Deleted (to : ℕ) (lines : List BackupLine) (events : List Event) (number : ℕ) : Type 0 where
  pub count : number ≡ deletions (receipts events)
  pub order : IsInOrder to lines events number
  pub row : AreDeleted to (deleted_files (receipts events)) events

-- or its refusal is want of memory, or one that ends a process and that one of its steps met
abbrev pub Came : (to : ℕ) → List BackupLine → List Event → Result ℕ Refusal → Type 0
Came to lines events (Ok count) = Deleted to lines events count
Came to lines events (Err e) = IsStopped events e

-- its first question was answered with these lines; or with none
abbrev pub IsTold : List BackupLine → List Event → Type 0
IsTold lines events = (lines ≡ []) ⊎ Then (λ xs. Listed xs lines) (λ ys. Unit {0}) events

-- What it did, and that it asked, forced and took backups off the list that were due by what it was told, and no more; and it has opened no ticket that is left.
pub record HistoryDeletion (to : ℕ) (events : List Event) (result : Result ℕ Refusal) : Type 0 where
  pub lines : List BackupLine
  pub told : IsTold lines events
  pub came : Came to lines events result
  pub only : AreDeleting (due_files to lines) events
  pub settled : AreSettled events
