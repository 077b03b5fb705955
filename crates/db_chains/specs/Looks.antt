-- What looking at one file of a chain finds.
use Rattle.std.specs.Prelude.{◌≡◌, ℕ, ◌-◌, ◌^◌, ◌&&◌, nat_le, Bool, List, Option, None, Some, Result, Ok, Err, IfOk, OnOk, IfSome, IfNone, Vec}
use Rattle.std.specs.declared.alloc.Global.{Global}
use Rattle.store_api.specs.Disk.{History, standing, reads, settled}
use Rattle.store_api.specs.Runs.{GoesOn}
use Rattle.kinds.specs.declared.refusal.OpenRefused.{OpenRefused}
use Rattle.kinds.specs.declared.refusal.OpenRefused.TheVariants as unread
use Rattle.db_image.specs.declared.mark.Mark.TheVariants.{Backup}
use Rattle.db_image.specs.Images.{HasImage}
use Rattle.entries.specs.Meaning.{Meaning}
use Rattle.backup_payloads.specs.Increments.{Increment, IsIncrement, last_number}
use Rattle.backup_payloads.specs.Payloads.{IsPayload}
use Rattle.backup_payloads.specs.declared.payload.Payload.{Payload}
use Rattle.backup_payloads.specs.declared.payload.Payload.TheVariants as payload
use Rattle.db_chains.specs.declared.refused.ChainRefused.{ChainRefused}
use Rattle.db_chains.specs.declared.refused.ChainRefused.TheVariants as refused
use Rattle.db_chains.specs.declared.backup.Found.{Found}
use Rattle.db_chains.specs.declared.backup.Kind.{Kind}
use Rattle.db_chains.specs.declared.backup.Kind.TheVariants.{Whole, Since}
use Rattle.db_chains.specs.Chains.{IsBackup, NoBackup, last_of}
use Rattle.db_chains.specs.Reads.{OnlySettles}

-- the file may be a backup's
abbrev pub is_backup_file : ℕ → Bool
is_backup_file file = nat_le 4 file && nat_le file (2 ^ 32 - 3)

-- what a refusal to read a file is of a chain; none where it speaks of the file's bytes
abbrev pub lasting : OpenRefused → Option ChainRefused
lasting (unread.ReadFault file) = Some (refused.ReadFault file)
lasting unread.NotFormatted = None
lasting (unread.Damaged file at) = None
lasting unread.RunFull = Some refused.RunFull
lasting unread.Memory = Some refused.Memory

-- the refusal doesn't speak of what a file is
abbrev pub IsLasting : ChainRefused → Type 0
IsLasting (refused.NotABackup file) = ⊥
IsLasting (refused.ReadFault file) = Unit {0}
IsLasting refused.RunFull = Unit {0}
IsLasting refused.Memory = Unit {0}

-- the image of a backup that the bytes of a file begin with
abbrev pub FindsImage : ℕ → List ℕ → Option (ℕ × Vec ℕ Global) → Type 0
FindsImage file bytes None = (number : ℕ) (payload : List ℕ) → HasImage file Backup bytes number payload → ⊥
FindsImage file bytes (Some found) = HasImage file Backup bytes found.0 found.1.items

-- A file was made durable and read, which changed nothing that is read, and a stop leaves no more of it than it might have before.
pub record Reads (file : ℕ) (result : Result (Option (ℕ × Vec ℕ Global)) ChainRefused) (old new : History) : Type 0 where
  pub goes : GoesOn (λ other. other ≡ file) old new
  pub settles : OnlySettles old new
  pub durable : OnOk result (standing new file ≡ settled (reads old file))
  pub finds : IfOk result (FindsImage file (reads old file))

-- what a payload holds, of which the last transaction has this number
abbrev pub HoldsKind : {D : Type 0} → Meaning D → List ℕ → ℕ → Kind D → Type 0
HoldsKind m bytes number (Whole d) = IsPayload m bytes (payload.Whole d) × (number ≡ m.number d)
HoldsKind m bytes number (Since after base) = (i : Increment) × IsIncrement bytes i × (number ≡ last_number i) × (after ≡ i.after) × (base ≡ i.number)

-- it holds nothing whose last transaction has this number
abbrev pub HoldsNone : {D : Type 0} → Meaning D → List ℕ → ℕ → Type 0
HoldsNone {D} m bytes number = (held : Payload D) → IsPayload m bytes held → number ≡ last_of m held → ⊥

-- what the image of a backup, its number and its payload, is found to be
abbrev pub FoundOf : {D : Type 0} → Meaning D → ℕ × Vec ℕ Global → Result (Option (Found D)) ChainRefused → Type 0
FoundOf m image (Ok None) = HoldsNone m image.1.items image.0
FoundOf m image (Ok (Some found)) = (found.number ≡ image.0) × (found.payload ≡ image.1) × HoldsKind m image.1.items image.0 found.kind
FoundOf m image (Err why) = Unit {0}

-- the backup in a file, with its payload
abbrev pub IsOfKind : {D : Type 0} → Meaning D → (ℕ → List ℕ) → (file number : ℕ) → List ℕ → Kind D → Type 0
IsOfKind m files file number bytes (Whole d) = IsBackup m files file number (payload.Whole d)
IsOfKind m files file number bytes (Since after base) = (i : Increment) × IsBackup m files file number (payload.Since i) × IsIncrement bytes i × (after ≡ i.after) × (base ≡ i.number)

abbrev pub FindsBackup : {D : Type 0} → Meaning D → (ℕ → List ℕ) → ℕ → Option (Found D) → Type 0
FindsBackup m files file None = NoBackup m files file
FindsBackup m files file (Some found) = IsOfKind m files file found.number found.payload.items found.kind

-- the whole database that a backup holds, where it holds one
abbrev pub whole_of : {D : Type 0} → Kind D → Option D
whole_of (Whole d) = Some d
whole_of (Since after base) = None

-- The backup in a file was looked for. Nothing that is read changed, a stop leaves no more of the file than it might have before, and where there is a backup the file is on the disk.
pub record Looks {D : Type 0} (m : Meaning D) (file : ℕ) (result : Result (Option (Found D)) ChainRefused) (old new : History) : Type 0 where
  pub goes : GoesOn (λ other. other ≡ file) old new
  pub settles : OnlySettles old new
  pub durable : IfOk result (λ found. IfSome found (λ _. standing new file ≡ settled (reads old file)))
  pub finds : IfOk result (FindsBackup m (reads old) file)
