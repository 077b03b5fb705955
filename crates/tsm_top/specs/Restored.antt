-- What a restore of the database leaves in the store.
use Rattle.std.specs.Prelude.{◌≡◌, ℕ, ◌≤◌, List, Result, Ok, Err, IfOk}
use Rattle.store_api.specs.Disk.{History, now, reads}
use Rattle.contents.specs.Contents.{InImage}
use Rattle.inventory.specs.Meant.{meaning}
use Rattle.inventory_rows.specs.Search.{versions}
use Rattle.inventory_rows.specs.State.{Inv}
use Rattle.inventory_rows.specs.declared.backup.Backup.{Backup}
use Rattle.vault.specs.Openings.{NotLast}
use Rattle.vault.specs.Recovery.{Recovers}
use Rattle.hall.specs.Opening.{IsSound}
use Rattle.hall.specs.Protected.{AlwaysBacked, EachSequential, HasCopy, IsProtected, IsRow, KeepsBackups, Taken}
use Rattle.hall_turns.specs.Runs.{HasOwnBackups, IsBacked}
use Rattle.db_chains.specs.declared.refused.ChainRefused.TheVariants as chain
use Rattle.db_losses.specs.Losses.{Losses, restored}
use Rattle.db_restore.specs.Chained.{RestoresFrom}
use Rattle.db_restore.specs.Missing.{AreJudged}
use Rattle.db_restore.specs.Restoring.{AreAlike}
use Rattle.db_restore.specs.Sequential.{SparesSequential, with_sequential}
use Rattle.db_restore.specs.declared.done.RestoreDone.{RestoreDone}
use Rattle.db_restore.specs.declared.refused.NotRestored.{NotRestored}
use Rattle.db_restore.specs.declared.refused.NotRestored.TheVariants.{Chain, Database}

-- ---- a backup that was kept

-- What the files recover to is what is left of the database that a backup gave back. Where none of that one's copies in sequential pools is passed over, each object that has such a copy is kept, with each of these; and they
-- stand in their frames, with their object's size and digest.
pub record FindsSequential (file day : ℕ) (skipped : List ℕ) (t : Taken) (h : History) : Type 0 where
  pub losses : Losses
  pub recovers : Recovers meaning (reads h) (restored losses file day t.database)
  pub stay : SparesSequential skipped t.database → with_sequential t.database (versions (restored losses file day t.database)) ≡ with_sequential t.database (versions t.database)
  pub copies : EachSequential (λ w c. HasCopy (InImage (reads h)) (t.contents w.object) w c) t.database

-- it isn't for what a file is that nothing was restored
abbrev pub IsElsewhere : NotRestored → Type 0
IsElsewhere (Chain (chain.NotABackup at)) = ⊥
IsElsewhere (Chain (chain.ReadFault at)) = Unit {0}
IsElsewhere (Chain chain.RunFull) = Unit {0}
IsElsewhere (Chain chain.Memory) = Unit {0}
IsElsewhere (Database why) = Unit {0}

-- what came of restoring a backup that gave this back
abbrev pub ComesBack : (file day : ℕ) → List ℕ → Taken → Result RestoreDone NotRestored → History → Type 0
ComesBack file day skipped t (Ok done) new = FindsSequential file day skipped t new
ComesBack file day skipped t (Err why) new = IsElsewhere why

-- The files of volumes and backups read as in an image that keeps the backups of a database, which lists this file as that of a whole backup that is protected on its day. Then the backup comes back: the database of its number, as of the day
-- on which it was taken.
abbrev pub FindsKept : (file day : ℕ) → List ℕ → Result RestoreDone NotRestored → (old new : History) → Type 0
FindsKept file day skipped came old new =
    (image : ℕ → List ℕ) (v : Inv) (b : Backup) → KeepsBackups image v → IsProtected v file b → ((other : ℕ) → 4 ≤ other → reads old other ≡ image other) → (t : Taken) × IsRow b t × ComesBack file day skipped t came new

-- ---- a backup's own database

-- The files recover to what is left of this database on the day, with no database backup listed (`restored`): of its copies those are lost that lie in a file that is passed over, or that didn't stand in their frames, with their objects' sizes and digests.
pub record IsLeftOf (file day : ℕ) (skipped : List ℕ) (database : Inv) (old new : History) : Type 0 where
  pub losses : Losses
  pub judged : AreJudged (reads old) skipped losses database
  pub recovers : Recovers meaning (reads new) (restored losses file day database)

-- what came of restoring a backup that holds this database
abbrev pub ComesBackAs : (file day : ℕ) → List ℕ → Inv → Result RestoreDone NotRestored → (old new : History) → Type 0
ComesBackAs file day skipped database (Ok done) old new = IsLeftOf file day skipped database old new
ComesBackAs file day skipped database (Err why) old new = IsElsewhere why

-- A backup comes back as this database: that is of the number and of the day of the backup's row; and what is restored is what is left of it, or nothing was restored, and it isn't for what a file is.
pub record ReturnsAs (file day : ℕ) (skipped : List ℕ) (b : Backup) (database : Inv) (came : Result RestoreDone NotRestored) (old new : History) : Type 0 where
  pub number : database.number ≡ b.number
  pub taken : database.today ≡ b.taken
  pub left : ComesBackAs file day skipped database came old new

-- ---- a restore

-- The database that the backup in a file gives was restored on a day, or that was refused. What is restored is what the files recover to then; where all copies of each of its objects have the same bytes the store is
-- sound, its objects having these, so that a script may be run over it; and it has the backups that what is restored lists, which are none, as has each image of then. A backup that was kept comes back with its copies in sequential pools. Whatever came of it, where the store
-- was sound, its newest image not of the last generation, and each image at the start backed the database to which it recovers, each image of each moment since does so.
pub record IsRestored (file day : ℕ) (skipped : List ℕ) (came : Result RestoreDone NotRestored) (old new : History) : Type 0 where
  pub from : RestoresFrom file day skipped came old new
  pub sound : IfOk came (λ done. (v : Inv) × Recovers meaning (reads new) v × ((contents : ℕ → List ℕ) → AreAlike contents (reads old) v → IsSound contents new))
  pub backups : IfOk came (λ done. IsBacked new × HasOwnBackups new)
  pub kept : FindsKept file day skipped came old new
  pub within : (contents : ℕ → List ℕ) → IsSound contents old → NotLast (reads old) → IsBacked old → AlwaysBacked (now old) new
