-- What the hall holds in memory, and how that is a state of the machine.
use Rattle.std.specs.Prelude.{◌≡◌, ℕ, ◌+◌, ◌-◌, ◌<◌, ◌≤◌, ◌^◌, Bool, true, false, List, [], ◌∷◌, length, Option, None, Some}
use Rattle.sha2.specs.Hashers.{Holds256}
use Rattle.sha2.specs.Sha256.{sha256}
use Rattle.kinds.specs.ValueForms.{digest_with}
use Rattle.db_image.specs.declared.mark.Mark.TheVariants.{Backup}
use Rattle.db_image.specs.declared.phase.Phase.{Phase}
use Rattle.db_image.specs.declared.phase.Phase.TheVariants as phase
use Rattle.db_image.specs.Steps.{IsWithin, Job}
use Rattle.inventory_rows.specs.State.{Inv}
use Rattle.vault.specs.Files.{image_file}
use Rattle.vault.specs.Pieces.{IsGoing, Pending}
use Rattle.vault.specs.Vaults.{State}
use Rattle.space.specs.Claims.{Claims}
use Rattle.machine.specs.Machine.{space}
use Rattle.machine.specs.State.{Core, Image, Picture, Purpose, Ticket, backup, checkpoint, copying, inventory, storing}
use Rattle.hall.specs.declared.seat.Hashed.{Hashed}
use Rattle.hall.specs.declared.seat.Hashed.TheVariants.{Done, Taking, Unhashed}
use Rattle.hall.specs.declared.seat.Purpose.{Purpose as Use}
use Rattle.hall.specs.declared.seat.Purpose.TheVariants.{Copying, Storing}
use Rattle.hall.specs.declared.seat.Seat.{Seat}
use Rattle.hall.specs.declared.seated.Seated.{Seated}
use Rattle.hall.specs.Placed.{IsSpace, places_of}

-- ---- what is held

-- An image in progress as it is held: whose it is, what it is of, the file that it goes to, and the number of the database that it is of.
pub record BegunImage : Type 0 where
  pub actor : ℕ
  pub picture : Picture
  pub file : ℕ
  pub seq : ℕ

-- What a hall holds beside its store: the database that it was opened with, and the moment then; the vault, with the database as it is, the run's transactions and a checkpoint in
-- progress; the stamps, oldest first; the tickets, by number; the space that is held beside the copies, with the file number that is drawn next; the object and ticket numbers that are
-- drawn next; and the image in progress, with what a database backup has still to write.
pub record Held : Type 0 where
  pub base : Inv
  pub opened : ℕ
  pub vault : State Inv
  pub stamps : List ℕ
  pub seats : List (ℕ × Seat)
  pub claims : Claims
  pub next_object : ℕ
  pub next_ticket : ℕ
  pub image : Option BegunImage
  pub job : Option Job

-- a hall as a value: its store, and what it holds
pub record Hall (S : Type 0) : Type 0 where
  pub store : S
  pub held : Held

-- ---- as a state of the machine

-- what a ticket is for
abbrev pub purpose_of : Use → Purpose
purpose_of (Storing object) = storing object
purpose_of (Copying object aim) = copying object aim

-- a copy is not hashed, and a new object's ticket holds its bytes' digest, from the seal on as the kept one
abbrev pub IsHashed : Use → (is_sealed : Bool) → Hashed → List ℕ → Type 0
IsHashed (Storing object) false (Taking hasher) bytes = Holds256 hasher bytes
IsHashed (Storing object) true (Done digest) bytes = digest ≡ digest_with (sha256 bytes)
IsHashed (Copying object aim) is_sealed Unhashed bytes = Unit {0}
IsHashed _ _ _ bytes = ⊥

-- A ticket that is held under a number is this one of the machine, which has its bytes.
pub record IsSeatOf (key : ℕ) (s : Seat) (t : Ticket) : Type 0 where
  pub number : t.number ≡ key
  pub actor : t.actor ≡ s.actor
  pub purpose : t.purpose ≡ purpose_of s.purpose
  pub size : t.size ≡ s.size
  pub pool : t.place.pool ≡ s.pool
  pub places : places_of t.place ≡ s.places
  pub count : length t.bytes ≡ s.count
  pub is_sealed : t.is_sealed ≡ s.is_sealed
  pub hashed : IsHashed s.purpose s.is_sealed s.hashed t.bytes

-- each held ticket in its turn
abbrev pub AreSeatsOf : List (ℕ × Seat) → List Ticket → Type 0
AreSeatsOf [] [] = Unit {0}
AreSeatsOf (e ∷ seats) (t ∷ tickets) = IsSeatOf e.0 e.1 t × AreSeatsOf seats tickets
AreSeatsOf _ _ = ⊥

-- what an image is of: a backup where it has a writer of its own, and else the vault's checkpoint
abbrev pub picture_of : Option Job → Picture
picture_of None = checkpoint
picture_of (Some job) = backup

-- an image in progress as it is held
abbrev pub image_in : Option Seated → Option BegunImage
image_in None = None
image_in (Some i) = Some (record { actor = i.actor; picture = picture_of i.backup; file = i.file; seq = i.seq })

-- what a backup in progress has still to write
abbrev pub job_in : Option Seated → Option Job
job_in None = None
job_in (Some i) = i.backup

-- what is held of an image of the machine
abbrev pub begun_of : Option Image → Option BegunImage
begun_of None = None
begun_of (Some i) = Some (record { actor = i.actor; picture = i.picture; file = i.file; seq = i.seq })

-- how much of an image's payload isn't written yet
abbrev pub unwritten_at : Phase → (len : ℕ) → ℕ
unwritten_at phase.Begun len = len
unwritten_at (phase.Written written) len = len - written
unwritten_at phase.Durable len = 0
unwritten_at phase.Open len = 0
unwritten_at phase.Failed len = 0

-- A checkpoint in progress is the vault's: of the next generation, which is below its bound, with its payload partly written or all on the disk, and with as many of the later transactions as were copied.
pub record IsCheckpoint (first generation : ℕ) (pending : Pending) (i : Image) : Type 0 where
  pub few : generation + 1 < 2 ^ 62
  pub going : IsGoing pending.job.phase
  pub within : IsWithin pending.job.phase (length pending.job.payload)
  pub ordered : pending.start ≤ pending.copied
  pub picture : i.picture ≡ checkpoint
  pub file : i.file ≡ image_file (generation + 1)
  pub seq : i.seq ≡ first + pending.start
  pub unwritten : i.unwritten ≡ unwritten_at pending.job.phase (length pending.job.payload)
  pub copied : i.copied ≡ pending.copied - pending.start

-- a call on its file failed
abbrev pub has_failed : Phase → Bool
has_failed phase.Failed = true
has_failed phase.Begun = false
has_failed (phase.Written written) = false
has_failed phase.Durable = false
has_failed phase.Open = false

-- A backup in progress is the one that is written, with its number behind a backup's mark. Its payload isn't empty, and no call on its file failed.
pub record IsBackup (job : Job) (i : Image) : Type 0 where
  pub picture : i.picture ≡ backup
  pub file : i.file ≡ job.file
  pub mark : job.mark ≡ Backup
  pub number : job.number ≡ i.seq
  pub going : has_failed job.phase ≡ false
  pub within : IsWithin job.phase (length job.payload)
  pub some : 0 < length job.payload
  pub unwritten : i.unwritten ≡ unwritten_at job.phase (length job.payload)
  pub copied : i.copied ≡ 0

-- the image in progress is the vault's checkpoint, or a backup, or there is none
abbrev pub IsImage : (first generation : ℕ) → Option Pending → Option Job → Option Image → Type 0
IsImage first generation None None None = Unit {0}
IsImage first generation (Some pending) None (Some i) = IsCheckpoint first generation pending i
IsImage first generation None (Some job) (Some i) = IsBackup job i
IsImage first generation _ _ _ = ⊥

-- What is held is this state of the machine. Of a hall that a fault has halted, neither how much is forced, nor the log's length, nor how far an image in progress is, is looked at any more.
pub record IsCore (held : Held) (c : Core) : Type 0 where
  pub base : c.base ≡ held.base
  pub journal : c.journal ≡ held.vault.journal
  pub database : held.vault.database ≡ inventory c
  pub stamps : c.stamps ≡ held.stamps
  pub forced : held.vault.fault ≡ None → held.vault.forced ≡ length c.stamps
  pub tickets : AreSeatsOf held.seats c.tickets
  pub space : IsSpace (inventory c) (space c) held.claims
  pub next_object : c.next_object ≡ held.next_object
  pub next_ticket : c.next_ticket ≡ held.next_ticket
  pub image : begun_of c.image ≡ held.image
  pub is_image : held.vault.fault ≡ None → IsImage c.base.number held.vault.generation held.vault.pending held.job c.image
  pub generation : c.generation ≡ held.vault.generation
  pub log_length : held.vault.fault ≡ None → c.log_length ≡ held.vault.end
  pub fault : c.fault ≡ held.vault.fault
