-- What reading a chain of database backups does and finds.
use Rattle.std.specs.Prelude.{◌≡◌, ℕ, ◌-◌, ◌^◌, ◌≤◌, List, [], ◌∷◌, Option, None, Some, Result, Ok, Err, IfOk, IfErr}
use Rattle.store_api.specs.Cause.{Rose}
use Rattle.store_api.specs.Disk.{History, standing, reads, now, settled, ImageAt}
use Rattle.store_api.specs.Runs.{GoesOn, EachImage}
use Rattle.db_image.specs.declared.mark.Mark.TheVariants.{Backup}
use Rattle.db_image.specs.Images.{HasImage}
use Rattle.entries.specs.Meaning.{Meaning}
use Rattle.backup_payloads.specs.Increments.{Increment, IsIncrement}
use Rattle.backup_payloads.specs.declared.payload.Payload.TheVariants.{Whole, Since}
use Rattle.db_chains.specs.declared.refused.ChainRefused.{ChainRefused}
use Rattle.db_chains.specs.declared.refused.ChainRefused.TheVariants as refused
use Rattle.db_chains.specs.Chains.{IsBackupFile, IsBackup, NoBackup, IsGiven, IsBrokenAt}

-- Calls on files from 4 on that change nothing that is read, and after which a stop leaves no more than it might have before.
pub record OnlySettles (old new : History) : Type 0 where
  pub goes : GoesOn (λ file. 4 ≤ file) old new
  pub same : (file : ℕ) → reads new file ≡ reads old file
  pub images : EachImage (now old) new (λ files. ImageAt old (now old) files)

-- the file, and those that the increments behind it follow, are on the disk as they read
abbrev pub AreSettled : ℕ → List Increment → History → Type 0
AreSettled file [] h = standing h file ≡ settled (reads h file)
AreSettled file (i ∷ older) h = (standing h file ≡ settled (reads h file)) × AreSettled i.after older h

-- the backup in the file gives this database by files that are on the disk
pub record IsReadFrom {D : Type 0} (m : Meaning D) (file : ℕ) (d : D) (old new : History) : Type 0 where
  pub given : IsGiven m (reads old) file d
  pub settled : AreSettled file given.increments new

-- a refusal that names a file is right
abbrev pub SaysBroken : {D : Type 0} → Meaning D → (ℕ → List ℕ) → ℕ → ChainRefused → Type 0
SaysBroken m files file (refused.NotABackup at) = IsBrokenAt m files file at
SaysBroken m files file (refused.ReadFault at) = Unit {0}
SaysBroken m files file refused.RunFull = Unit {0}
SaysBroken m files file refused.Memory = Unit {0}

-- The chain of the backup in a file was read, which changed nothing that is read. On Ok it gives this database, and each file of it is on the disk; what refuses for what a file is is right.
pub record ReadChain {D : Type 0} (m : Meaning D) (file : ℕ) (result : Result D ChainRefused) (old new : History) : Type 0 where
  pub settles : OnlySettles old new
  pub gives : IfOk result (λ d. IsReadFrom m file d old new)
  pub says : IfErr result (SaysBroken m (reads old) file)

-- the backup in the file holds this database, and the file is on the disk
pub record IsWholeIn {D : Type 0} (m : Meaning D) (file : ℕ) (d : D) (old new : History) : Type 0 where
  pub number : ℕ
  pub backup : IsBackup m (reads old) file number (Whole d)
  pub settled : standing new file ≡ settled (reads new file)

-- the file has no backup that holds a whole database
abbrev pub NoWhole : {D : Type 0} → Meaning D → (ℕ → List ℕ) → ℕ → Type 0
NoWhole {D} m files file = (number : ℕ) (d : D) → IsBackup m files file number (Whole d) → ⊥

-- a refusal that names a file names this one, and is right
abbrev pub SaysNoWhole : {D : Type 0} → Meaning D → (ℕ → List ℕ) → ℕ → ChainRefused → Type 0
SaysNoWhole m files file (refused.NotABackup at) = (at ≡ file) × NoWhole m files file
SaysNoWhole m files file (refused.ReadFault at) = Unit {0}
SaysNoWhole m files file refused.RunFull = Unit {0}
SaysNoWhole m files file refused.Memory = Unit {0}

-- The backup in the file was read for the whole database that it holds, which changed nothing that is read. On Ok it holds this database, and the file is on the disk; what refuses for what the file is is right.
pub record ReadWhole {D : Type 0} (m : Meaning D) (file : ℕ) (result : Result D ChainRefused) (old new : History) : Type 0 where
  pub settles : OnlySettles old new
  pub gives : IfOk result (λ d. IsWholeIn m file d old new)
  pub says : IfErr result (SaysNoWhole m (reads old) file)

-- Why a chain wasn't read: a call on a file of it failed, the moment is all but the last, what a file is, or want of memory.
abbrev pub MayRefuseChain : (before after : ℕ → ℕ) (moment : ℕ) → ChainRefused → Type 0
MayRefuseChain before after moment (refused.ReadFault file) = IsBackupFile file × Rose (before file) (after file)
MayRefuseChain before after moment (refused.NotABackup file) = Unit {0}
MayRefuseChain before after moment refused.RunFull = 2 ^ 62 - 2 ^ 24 ≤ moment
MayRefuseChain before after moment refused.Memory = Unit {0}
