-- The list of database backups: which is the newest, which it needs, and which are due to be taken off it up to a day.
use Rattle.std.specs.Prelude.{ℕ, ◌==◌, nat_le, nat_lt, ◌&&◌, ◌||◌, zero, suc, Bool, false, not, List, [], ◌∷◌, length, Option, None, Some, if◌then◌else◌}
use Rattle.std.specs.List.{find, flat_map}
use Rattle.std.specs.Option.{option_map_or}
use Rattle.inventory_answers.specs.declared.lines.BackupLine.{BackupLine}
use Rattle.inventory_rules.specs.Backups.{backup_at}
use Rattle.inventory_rows.specs.State.{Inv}
use Rattle.inventory_work.specs.Lists.{only}
use Rattle.db_backup.specs.declared.listing.Latest.{Latest}

-- ---- the newest

abbrev pub marked : BackupLine → Latest
marked line = record { file = line.file; number = line.number }

-- the newest of some backups and one more: of those that are whole the one with the greater number
abbrev pub newer : Option Latest → BackupLine → Option Latest
newer None line = if line.done then Some (marked line) else None
newer (Some best) line = if line.done && nat_lt best.number line.number then Some (marked line) else Some best

abbrev pub newest_of : Option Latest → List BackupLine → Option Latest
newest_of best [] = best
newest_of best (line ∷ lines) = newest_of (newer best line) lines

-- the whole backup with the greatest number
abbrev pub newest : List BackupLine → Option Latest
newest lines = newest_of None lines

abbrev pub file_of : Option Latest → Option ℕ
file_of None = None
file_of (Some best) = Some best.file

abbrev pub newest_file : List BackupLine → Option ℕ
newest_file lines = file_of (newest lines)

-- ---- what it needs

-- the backup in this file
abbrev pub line_of : List BackupLine → (file : ℕ) → Option BackupLine
line_of lines file = find (λ l. l.file == file) lines

abbrev pub followed_by_line : Option BackupLine → Option ℕ
followed_by_line None = None
followed_by_line (Some line) = line.after

-- the backup that this one follows, by their files
abbrev pub followed_by : List BackupLine → ℕ → Option ℕ
followed_by lines file = followed_by_line (line_of lines file)

-- the backup is met on the way that begins here and goes each time to the one that is followed, at one of so many places
abbrev pub is_met : (places : ℕ) → List BackupLine → (file : ℕ) → Option ℕ → Bool
is_met zero lines file at = false
is_met (suc places) lines file None = false
is_met (suc places) lines file (Some other) = other == file || is_met places lines file (followed_by lines other)

-- It is the newest whole one, or that one follows it, directly or through others: a way has no more places than there are backups.
abbrev pub is_needed : List BackupLine → ℕ → Bool
is_needed lines file = is_met (length lines) lines file (newest_file lines)

-- ---- what is due

-- it was taken on or before the day, and isn't met on the way that begins here
abbrev pub is_due_by : (to : ℕ) → List BackupLine → Option ℕ → BackupLine → Bool
is_due_by to lines from line = nat_le line.taken to && not (is_met (length lines) lines line.file from)

-- it was taken on or before the day, and the newest one doesn't need it
abbrev pub is_due : (to : ℕ) → List BackupLine → BackupLine → Bool
is_due to lines line = nat_le line.taken to && not (is_needed lines line.file)

abbrev pub due_file : (to : ℕ) → List BackupLine → Option ℕ → BackupLine → List ℕ
due_file to lines from line = only (is_due_by to lines from line) line.file

abbrev pub due_from : (to : ℕ) → List BackupLine → Option ℕ → List ℕ
due_from to lines from = flat_map (due_file to lines from) lines

-- the files of those that are due, in the order of the list
abbrev pub due_files : (to : ℕ) → List BackupLine → List ℕ
due_files to lines = due_from to lines (newest_file lines)

-- that backup is on the list: one in this file, with this number
abbrev pub is_listed_as : BackupLine → Inv → Bool
is_listed_as line v = option_map_or (λ b. b.number == line.number) (backup_at line.file v) false
