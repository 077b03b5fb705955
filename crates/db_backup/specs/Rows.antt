-- What the processes come to in every history that their steps fit.
use Rattle.std.specs.Prelude.{◌≡◌, ◌⊎◌, ℕ, ◌+◌, ◌-◌, ◌<◌, ◌≤◌, nat_le, true, false, List, Option, None, Some}
use Rattle.std.specs.List.{slice_get}
use Rattle.std.specs.Option.{option_map_or}
use Rattle.entries.specs.declared.change.Change.TheVariants.{DbBegin, DbEnd}
use Rattle.inventory_answers.specs.declared.lines.BackupLine.{BackupLine}
use Rattle.inventory_answers.specs.Stores.{backup_lines}
use Rattle.inventory_rules.specs.Backups.{backup_at, is_done}
use Rattle.copy_runs.specs.Ends.{first_of, last_of}
use Rattle.copy_runs.specs.Returning.{AreValid}
use Rattle.copy_runs.specs.Wanting.{IsIn}
use Rattle.machine.specs.Fits.{Fits, History, Own, inv}
use Rattle.steps.specs.Events.{Event}
use Rattle.db_backup.specs.declared.taking.Taken.{Taken}
use Rattle.db_backup.specs.Listing.{is_due, is_listed_as, newest_file}

-- the backups of the database behind a number of the history, as a query lists them
abbrev pub lines_at : History → ℕ → List BackupLine
lines_at w n = backup_lines (inv w n).backups

-- ---- a backup

-- The backup's beginning is the transaction with its number, and its end one behind it, both this actor's.
abbrev pub IsBackedUp : History → (actor : ℕ) → (after : Option ℕ) → Taken → Type 0
IsBackedUp w actor after t =
    (n : ℕ) × (k : ℕ) × (w.base.number ≤ n) × (t.seq ≡ n + 1) × (n < k)
    × (slice_get w.journal (n - w.base.number) ≡ Some (record { actor = actor; change = DbBegin t.file after }))
    × (slice_get w.journal (k - w.base.number) ≡ Some (record { actor = actor; change = DbEnd t.file }))

-- it follows the whole backup that had the greatest number at this number of the history
abbrev pub FollowsAt : History → (actor n : ℕ) → Taken → Type 0
FollowsAt w actor n t = (file : ℕ) × (newest_file (lines_at w n) ≡ Some file) × IsBackedUp w actor (Some file) t

-- the backup in this file can't be followed there: it isn't on the list or isn't whole, or its number is below that of the run's base
abbrev pub IsUnfollowed : ℕ → History → ℕ → Type 0
IsUnfollowed file w n = (is_done (backup_at file (inv w n)) ≡ false) ⊎ (option_map_or (λ b. nat_le w.base.number b.number) (backup_at file (inv w n)) false ≡ false)

-- None was there to be followed where it began; or the newest there was, and at one of the numbers up to its last step's it couldn't be.
abbrev pub IsNoneToFollow : History → List Event → Type 0
IsNoneToFollow w events =
    (newest_file (lines_at w (first_of events)) ≡ None)
    ⊎ ((file : ℕ) × (n : ℕ) × (newest_file (lines_at w (first_of events)) ≡ Some file) × (first_of events ≤ n) × (n ≤ last_of events) × IsUnfollowed file w n)

-- ---- taking off the list

-- In every history of valid databases that the events fit: a backup that is due at the first event's number isn't on the list at the last one's; and each that was taken off is one that was due.
abbrev pub AreDeleted : (to : ℕ) → (deleted : List ℕ) → List Event → Type 0
AreDeleted to deleted events =
    (w : History) (actor : ℕ) (a b : Own) → AreValid w → Fits w actor a events b
    → ((line : BackupLine) → IsIn line (lines_at w (first_of events)) → is_due to (lines_at w (first_of events)) line ≡ true → is_listed_as line (inv w (last_of events)) ≡ false)
    × ((file : ℕ) → IsIn file deleted → (line : BackupLine) × IsIn line (lines_at w (first_of events)) × (line.file ≡ file) × (is_due to (lines_at w (first_of events)) line ≡ true))
