-- What the steps of a database backup make of what the hall holds.
use Rattle.std.specs.Prelude.{◌≡◌, ◌⊎◌, ℕ, ◌+◌, ◌-◌, ◌^◌, ◌&&◌, Bool, true, false, nat_le, nat_lt, All, List, [], ◌∷◌, ◌++◌, drop, length, Option, None, Some, Result, Ok, Err}
use Rattle.std.specs.Option.{option_map_or}
use Rattle.store_api.specs.Cause.{Rose}
use Rattle.store_api.specs.Disk.{History}
use Rattle.store_api.specs.Runs.{GoesOn}
use Rattle.store_api.specs.declared.store.Failed.{Failed}
use Rattle.kinds.specs.Refusals.{unless}
use Rattle.kinds.specs.declared.refusal.Refusal.{Refusal}
use Rattle.kinds.specs.declared.refusal.Refusal.TheVariants as refusal
use Rattle.fields.specs.Editions.{second_form}
use Rattle.entries.specs.Meaning.{Spells}
use Rattle.entries.specs.declared.change.Change.{Change}
use Rattle.entries.specs.declared.change.Change.TheVariants as change
use Rattle.entries.specs.declared.entry.Entry.{Entry}
use Rattle.backup_payloads.specs.Increments.{IsIncrement}
use Rattle.backup_payloads.specs.Holding.{IsShort, holding}
use Rattle.db_image.specs.declared.mark.Mark.TheVariants.{Backup}
use Rattle.db_image.specs.declared.phase.Phase.TheVariants.{Begun}
use Rattle.db_image.specs.declared.phase.Progress.{Progress}
use Rattle.db_image.specs.Steps.{Job, Stepped, at_phase, further, progress_at}
use Rattle.inventory.specs.Meant.{meaning}
use Rattle.inventory_rows.specs.declared.backup.Backup.{Backup as BackupRow}
use Rattle.inventory_rows.specs.State.{Inv}
use Rattle.inventory_rules.specs.Backups.{backup_at, is_done}
use Rattle.inventory_rules.specs.Run.{journal_of}
use Rattle.inventory_rules.specs.Transactions.{effect, refused}
use Rattle.steps.specs.declared.image.ImageKind.{ImageKind}
use Rattle.steps.specs.declared.image.ImageKind.TheVariants as kind
use Rattle.steps.specs.declared.image.ImageReply.{ImageReply}
use Rattle.steps.specs.declared.image.ImageReply.TheVariants as reply
use Rattle.vault.specs.Vaults.{State, all_forced, with_waiting}
use Rattle.machine.specs.Causes.{image_refused}
use Rattle.machine.specs.State.{backup}
use Rattle.hall.specs.Held.{BegunImage, Held, has_failed}
use Rattle.hall.specs.Imaging.{image_held}
use Rattle.hall.specs.Joined.{RefusesJoin, joined_held}
use Rattle.hall.specs.Seats.{all_stamped, ended_at, with_vault}
use Rattle.hall.specs.Sights.{sight_of}

-- ---- refusals

-- a backup of the whole database, or one that follows the backup in this file
abbrev pub kind_of : (after : Option ℕ) → ImageKind
kind_of None = kind.Backup
kind_of (Some file) = kind.Since file

-- Why a backup follows none: the one in this file isn't a whole one of this run, or the transactions behind it, with that by which the backup begins, are 2^32 or more.
abbrev pub unfollowed : (after : Option ℕ) → Held → List Refusal
unfollowed None h = []
unfollowed (Some file) h =
    unless (is_done (backup_at file h.vault.database) && option_map_or (λ (b : BackupRow). nat_le h.base.number b.number) (backup_at file h.vault.database) false) refusal.NotFound
    ++ unless (option_map_or (λ (b : BackupRow). nat_lt (h.vault.database.number + 1 - b.number) (2 ^ 32)) (backup_at file h.vault.database) true) refusal.InventoryFull

-- why no such backup begins by a step that may begin: the rules refuse it, or another image is in progress
abbrev pub backing_causes : (actor : ℕ) → (after : Option ℕ) → Held → List Refusal
backing_causes actor after h = image_refused (kind_of after) (sight_of actor h) ++ image_held h.image

-- Why none begins: the run is full, or a fault has halted the hall; the rules refuse it; or another image is in progress.
abbrev pub backup_refused : (actor moment : ℕ) → (after : Option ℕ) → Held → List Refusal
backup_refused actor moment after h = ended_at moment h ++ backing_causes actor after h

-- ---- what it holds

-- the transaction by which a backup begins in the file that is drawn next
abbrev pub begin_of : (after : Option ℕ) → Held → Change
begin_of after h = change.DbBegin h.claims.next_file after

abbrev pub begin_entry : (actor : ℕ) → (after : Option ℕ) → Held → Entry
begin_entry actor after h = record { actor = actor; change = begin_of after h }

-- the database behind that transaction
abbrev pub backed_up : (after : Option ℕ) → Held → Inv
backed_up after h = effect (begin_of after h) h.vault.database

-- the transactions behind a number, that of the backup's begin among them
abbrev pub since_number : (actor number : ℕ) → (after : Option ℕ) → Held → List Entry
since_number actor number after h = drop (number - h.base.number) h.vault.journal ++ begin_entry actor after h ∷ []

-- The bytes of a backup that follows the one in a file: an increment of the transactions behind that one's number, each of which has few enough bytes for a record.
pub record IsHeldBehind (actor file : ℕ) (h : Held) (bytes : List ℕ) : Type 0 where
  pub row : BackupRow
  pub listed : backup_at file h.vault.database ≡ Some row
  pub short : All IsShort (since_number actor row.number (Some file) h)
  pub spelled : IsIncrement bytes (holding file row.number (since_number actor row.number (Some file) h))

-- A backup's bytes: the database behind its transaction; or, where it follows another, the transactions behind that one's number.
abbrev pub IsHolding : (actor : ℕ) → (after : Option ℕ) → Held → List ℕ → Type 0
IsHolding actor None h bytes = Spells meaning second_form bytes (backed_up None h)
IsHolding actor (Some file) h bytes = IsHeldBehind actor file h bytes

-- ---- what is held then

-- the same, with this image in progress and what it has still to write
abbrev pub with_job : Option BegunImage → Option Job → Held → Held
with_job i job h = record h { image = i; job = job }

-- the image that an actor begins in this file, of the database with this number, and its writer, which has written nothing yet
abbrev pub backup_by : (actor file seq : ℕ) → BegunImage
backup_by actor file seq = record { actor = actor; picture = backup; file = file; seq = seq }

abbrev pub job_by : (file seq : ℕ) → (bytes : List ℕ) → Job
job_by file seq bytes = record { file = file; mark = Backup; number = seq; payload = bytes; phase = Begun }

-- It is in progress, where the new file could be made durable; else it isn't, and its file's fault is answered.
abbrev pub Seats : (actor file seq : ℕ) → (bytes : List ℕ) → (synced : Bool) → Held → Held → Result ImageReply Refusal → Type 0
Seats actor file seq bytes true old new answer = (answer ≡ Ok (reply.Begun file seq)) × (new ≡ with_job (Some (backup_by actor file seq)) (Some (job_by file seq bytes)) old)
Seats actor file seq bytes false old new answer = (answer ≡ Err (refusal.WriteFault file)) × (new ≡ old)

-- the backup's transaction is made, and waits for a force
abbrev pub begun_waiting : (actor : ℕ) → (after : Option ℕ) → Held → Held
begun_waiting actor after h = joined_held (begin_of after h) [] (with_waiting meaning h.vault (begin_entry actor after h)) h

-- all is forced
abbrev pub begun_forced : (actor : ℕ) → (after : Option ℕ) → (moment : ℕ) → Held → Held
begun_forced actor after moment h = all_stamped moment (with_vault (all_forced (begun_waiting actor after h).vault) (begun_waiting actor after h))

-- and the image is in progress
abbrev pub backup_begun : (actor : ℕ) → (after : Option ℕ) → (bytes : List ℕ) → (moment : ℕ) → Held → Held
backup_begun actor after bytes moment h =
    with_job (Some (backup_by actor h.claims.next_file (h.vault.database.number + 1))) (Some (job_by h.claims.next_file (h.vault.database.number + 1) bytes)) (begun_forced actor after moment h)

-- ---- how it goes on

-- A step of writing a backup was taken: its writer is further; or a call on its file failed, and no image is in progress any more.
abbrev pub Writes : Option Job → Held → Held → Result Progress Failed → Type 0
Writes None old new answer = ⊥
Writes (Some job) old new (Ok p) = (p ≡ progress_at (further job.phase (length job.payload))) × (new ≡ with_job old.image (Some (at_phase (further job.phase (length job.payload)) job)) old)
Writes (Some job) old new (Err e) = new ≡ with_job None None old

-- What it did to the store.
abbrev pub WritesTo : Option Job → Result Progress Failed → History → History → Type 0
WritesTo None answer old new = ⊥
WritesTo (Some job) (Ok p) old new = (let result : Result Progress Failed = Ok p in Stepped job (at_phase (further job.phase (length job.payload)) job) result old new)
WritesTo (Some job) (Err e) old new = GoesOn (λ n. n ≡ job.file) old new

-- where it failed the count of its file rose
abbrev pub WriteRose : Option Job → (before after : ℕ → ℕ) → Type 0
WriteRose None before after = ⊥
WriteRose (Some job) before after = Rose (before job.file) (after job.file)

-- a backup that is written met no fault
abbrev pub IsGoing : Option Job → Type 0
IsGoing None = ⊥
IsGoing (Some job) = has_failed job.phase ≡ false

-- the transaction by which the backup in a file ends, and why that isn't legal
abbrev pub end_by : (actor file : ℕ) → Entry
end_by actor file = record { actor = actor; change = change.DbEnd file }

abbrev pub end_refused : (file : ℕ) → Held → Option Refusal
end_refused file h = refused (journal_of h.base h.vault.journal) (change.DbEnd file) h.vault.database

-- what joining it answered
abbrev pub joined_number : Held → Result ImageReply Refusal → Result ℕ Refusal
joined_number h (Ok r) = Ok (h.vault.database.number + 1)
joined_number h (Err e) = Err e

-- The backup in the file ended: its transaction joined, and no image is in progress. Or that isn't legal, since a number would reach its bound or the items would be too many: then none is
-- in progress either; or the transaction didn't join, or is in doubt, and the image is still held.
abbrev pub Ends : (actor file seq : ℕ) → Held → Held → (before after : ℕ → ℕ) → (same : Type 0) → Result ImageReply Refusal → Type 0
Ends actor file seq old new before after same (Ok r) =
    (r ≡ reply.Done seq) × (end_refused file old ≡ None) × (new ≡ with_job None None (joined_held (change.DbEnd file) [] (with_waiting meaning old.vault (end_by actor file)) old))
Ends actor file seq old new before after same (Err e) =
    ((end_refused file old ≡ Some e) × (e ≡ refusal.InventoryFull) × (new ≡ with_job None None old) × same)
    ⊎ ((end_refused file old ≡ None) × RefusesJoin old (end_by actor file) [] before after e new same)

-- a file is a backup's that is written
abbrev pub IsFileOf : Option Job → ℕ → Type 0
IsFileOf None n = ⊥
IsFileOf (Some job) n = n ≡ job.file
