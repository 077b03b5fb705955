-- What the backup of the database did, and one that follows another.
use Rattle.std.specs.Prelude.{◌≡◌, ◌⊎◌, ℕ, List, [], ◌∷◌, Option, None, Some, Result, Ok, Err}
use Rattle.std.specs.List.{AllByRecursion}
use Rattle.kinds.specs.declared.refusal.Refusal.{Refusal}
use Rattle.kinds.specs.declared.refusal.Refusal.TheVariants as refused
use Rattle.inventory_answers.specs.declared.lines.BackupLine.{BackupLine}
use Rattle.inventory_answers.specs.declared.query.Query.TheVariants as query
use Rattle.inventory_answers.specs.declared.reply.Answer.{Answer}
use Rattle.inventory_answers.specs.declared.reply.Rows.TheVariants as rows
use Rattle.copy_attempts.specs.Outcomes.{Met}
use Rattle.copy_runs.specs.Ends.{IsAsking, IsStopped, Unanswered}
use Rattle.sessions.specs.Outcomes.{HasCause, IsCaused}
use Rattle.steps.specs.declared.image.ImageKind.TheVariants as image
use Rattle.steps.specs.Calls.{Then}
use Rattle.steps.specs.Events.{Deed, Event, event}
use Rattle.steps.specs.Events.Deed.{Ask}
use Rattle.steps.specs.Spent.{AreSettled}
use Rattle.db_backup.specs.declared.taking.Taken.{Taken}
use Rattle.db_backup.specs.Listing.{newest_file}
use Rattle.db_backup.specs.Taking.{Backs, IsOf, kind_of, numbers, since_numbers}

-- What a backup did, of the whole database or of what came behind the one in a file: its steps in their order, and no others; its refusal has its cause; and it has opened no ticket that is left.
pub record DatabaseBackup (after : Option ℕ) (events : List Event) (result : Result Taken Refusal) : Type 0 where
  pub order : Backs (kind_of after) events result
  pub only : AllByRecursion (λ e. IsOf (kind_of after) e.deed) events
  pub cause : HasCause (numbers (kind_of after)) events result
  pub settled : AreSettled events

-- ---- one that follows the newest

-- the list of backups was asked for, and answered with these lines
abbrev pub Listed : List Event → List BackupLine → Type 0
Listed events lines = (n : ℕ) × (answer : Answer) × (events ≡ event n (Ask query.History (Ok answer)) ∷ []) × (answer.rows ≡ rows.History lines)

abbrev pub Lists : List Event → Result (List BackupLine) Refusal → Type 0
Lists events (Ok lines) = Listed events lines
Lists events (Err e) = Unanswered events e

-- it follows the one in this file; where there is none, nothing is done
abbrev pub Follows : Option ℕ → List Event → Result Taken Refusal → Type 0
Follows None events result = (events ≡ []) × (result ≡ Err refused.NotFound)
Follows (Some file) events result = DatabaseBackup (Some file) events result

-- The list was asked for, and a backup made that follows the newest whole one on it.
abbrev pub FollowsNewest : List Event → Result Taken Refusal → Type 0
FollowsNewest events result =
    ((e : Refusal) × Unanswered events e × (result ≡ Err e))
    ⊎ ((lines : List BackupLine) × Then (λ xs. Listed xs lines) (λ ys. Follows (newest_file lines) ys result) events)

-- no whole backup was on the list that was answered
abbrev pub HasNone : List Event → Refusal → Type 0
HasNone events e = (e ≡ refused.NotFound) × (lines : List BackupLine) × Listed events lines × (newest_file lines ≡ None)

-- The refusal is want of memory, or one that ends a process and that one of its steps met; or no backup was there to be followed; or it is the backup's own.
abbrev pub IsBarred : List Event → Refusal → Type 0
IsBarred events e = IsStopped events e ⊎ HasNone events e ⊎ IsCaused since_numbers events e

abbrev pub HasBar : List Event → Result Taken Refusal → Type 0
HasBar events (Ok t) = Unit {0}
HasBar events (Err e) = IsBarred events e

-- it asks, or makes a step of a backup that follows one
abbrev pub IsFollowing : Deed → Type 0
IsFollowing d = IsAsking d ⊎ ((file : ℕ) × IsOf (image.Since file) d)

-- What the backup that follows the newest did: its steps in their order, and no others; its refusal has its cause; and it has opened no ticket that is left.
pub record IncrementalBackup (events : List Event) (result : Result Taken Refusal) : Type 0 where
  pub order : FollowsNewest events result
  pub only : AllByRecursion (λ e. IsFollowing e.deed) events
  pub cause : HasBar events result
  pub settled : AreSettled events
