-- A database that is restored from a backup: what the store holds then.
use Rattle.std.specs.Prelude.{◌≡◌, ◌⊎◌, ℕ, ◌^◌, ◌-◌, ◌<◌, ◌≤◌, List, [], length, Result, Ok, Err, IfOk, OnOk}
use Rattle.std.specs.List.{AllByRecursion}
use Rattle.store_api.specs.Cause.{Rose}
use Rattle.store_api.specs.Disk.{History, standing, reads, now, Leaves as MayLeave}
use Rattle.store_api.specs.Runs.{EachImage, GoesOn}
use Rattle.kinds.specs.declared.refusal.OpenRefused.{OpenRefused}
use Rattle.kinds.specs.declared.refusal.OpenRefused.TheVariants as unread
use Rattle.volume_frames.specs.Frames.{bytes_of}
use Rattle.inventory_rows.specs.Search.{versions, copies}
use Rattle.inventory_rows.specs.State.{Inv}
use Rattle.inventory.specs.Meant.{meaning}
use Rattle.contents.specs.Contents.{Holds}
use Rattle.vault.specs.Recovery.{RecoversWithin, IsBase, IsInstalledAs}
use Rattle.vault.specs.Openings.{IsSound, NotLast, HadOne, Installed}
use Rattle.db_losses.specs.Losses.{Losses, restored}
use Rattle.db_losses.specs.Lost.{all_put, lost_rows}
use Rattle.db_chains.specs.Reads.{OnlySettles}
use Rattle.db_restore.specs.Missing.{AreJudged}
use Rattle.db_restore.specs.Settling.{AreDurable}
use Rattle.db_restore.specs.declared.done.RestoreDone.{RestoreDone}
use Rattle.db_restore.specs.declared.refused.RestoreRefused.{RestoreRefused}
use Rattle.db_restore.specs.declared.refused.RestoreRefused.TheVariants as refused

-- the copies of each object of a database have these bytes in an image, so all copies of one object have the same
abbrev pub AreAlike : (contents : ℕ → List ℕ) → (image : ℕ → List ℕ) → Inv → Type 0
AreAlike contents image v = AllByRecursion (λ w. AllByRecursion (λ c. bytes_of image c.segments ≡ contents w.object) w.copies) (versions v)

-- The database that is left of a backup's was put in the place of what the files recovered to: each image of now is it, as the next generation with an empty log, and where all copies of one object
-- have the same bytes it holds every copy of every object. So the store is sound. What is answered is of this database.
pub record IsInstalled (p : Inv) (file day : ℕ) (skipped : List ℕ) (done : RestoreDone) (old new : History) : Type 0 where
  pub losses : Losses
  pub judged : AreJudged (reads old) skipped losses p
  pub next : ℕ
  pub follows : IsInstalledAs meaning (reads old) next
  pub images : EachImage (now new) new (IsBase meaning next (restored losses file day p))
  pub holds : (contents : ℕ → List ℕ) → AreAlike contents (reads old) (restored losses file day p) → EachImage (now new) new (λ image. Holds contents image (restored losses file day p))
  pub versions : done.versions ≡ length (versions (restored losses file day p))
  pub copies : done.copies ≡ length (copies (restored losses file day p))
  pub lost : done.lost ≡ all_put (lost_rows losses p.clients) []

-- What is left of a backup's database, and what there is to say of it.
pub record Leaves (losses : Losses) (file day : ℕ) (p left : Inv) (done : RestoreDone) : Type 0 where
  pub is : left ≡ restored losses file day p
  pub versions : done.versions ≡ length (versions left)
  pub copies : done.copies ≡ length (copies left)
  pub lost : done.lost ≡ all_put (lost_rows losses p.clients) []

-- The copies of a backup's database were looked for, which changed nothing that is read. On Ok it is known what is left, and the volumes that are read are on the disk.
pub record Looked {E : Type 0} (p : Inv) (file day : ℕ) (skipped : List ℕ) (result : Result (Inv × RestoreDone) E) (old new : History) : Type 0 where
  pub settles : OnlySettles old new
  pub durable : OnOk result (AreDurable skipped p.stores.volumes new)
  pub left : IfOk result (λ left. (losses : Losses) × AreJudged (reads old) skipped losses p × Leaves losses file day p left.0 left.1)

-- A database was put in the place of what the files recovered to, and this is told of it.
pub record Puts {E : Type 0} (left : Inv) (done : RestoreDone) (result : Result RestoreDone E) (old new : History) : Type 0 where
  pub installs : Installed meaning left result old new
  pub tells : IfOk result (λ told. told ≡ done)

-- what a refusal to look at files or to write them is of a restore
abbrev pub stopped : OpenRefused → RestoreRefused
stopped (unread.ReadFault file) = refused.ReadFault file
stopped unread.NotFormatted = refused.Memory
stopped (unread.Damaged file at) = refused.Memory
stopped unread.RunFull = refused.RunFull
stopped unread.Memory = refused.Memory

-- the files recover to what is left of a backup's database
pub record IsRestored (p : Inv) (file day : ℕ) (skipped : List ℕ) (old : History) (files : ℕ → List ℕ) : Type 0 where
  pub losses : Losses
  pub judged : AreJudged (reads old) skipped losses p
  pub recovers : RecoversWithin meaning files (restored losses file day p)

-- of each volume and each backup the files have what a stop might have left of it at the start
abbrev pub KeepsOthers : History → (ℕ → List ℕ) → Type 0
KeepsOthers old files = (other : ℕ) → 4 ≤ other → MayLeave (standing old other) (files other)

-- A database was restored, or that was refused. The bytes of volumes and backups stay, and each image since has of them what one might have had at the start. Whatever came of it, where the store was sound, and
-- its newest image not of the last generation, each image since recovers to a database to which one recovered at the start, or to the restored one.
pub record Restores (p : Inv) (file day : ℕ) (skipped : List ℕ) (result : Result RestoreDone RestoreRefused) (old new : History) : Type 0 where
  pub goes : GoesOn (λ other. Unit {0}) old new
  pub others : (other : ℕ) → 4 ≤ other → reads new other ≡ reads old other
  pub kept : EachImage (now old) new (KeepsOthers old)
  pub installed : IfOk result (λ done. IsInstalled p file day skipped done old new)
  pub since : IsSound meaning old → NotLast (reads old) → EachImage (now old) new (λ files. HadOne meaning old files ⊎ IsRestored p file day skipped old files)

-- a refusal names the backup's day and the one on which it was to be restored exactly where that lies before
abbrev pub SaysDay : (taken day : ℕ) → RestoreRefused → Type 0
SaysDay taken day (refused.ReadFault file) = taken ≤ day
SaysDay taken day refused.NotABackup = taken ≤ day
SaysDay taken day (refused.DayBack was given) = (was ≡ taken) × (given ≡ day) × (day < taken)
SaysDay taken day refused.RunFull = taken ≤ day
SaysDay taken day refused.Memory = taken ≤ day

-- nothing is restored on a day before that of the backup, and then that is the answer
abbrev pub SaysDays : (taken day : ℕ) → Result RestoreDone RestoreRefused → Type 0
SaysDays taken day (Ok done) = taken ≤ day
SaysDays taken day (Err why) = SaysDay taken day why

-- Why nothing was restored: a call on a file failed, the file has no backup, the day lies before the backup's, the moment is all but the last, or want of memory.
abbrev pub MayRefuseRestore : (taken day : ℕ) (before after : ℕ → ℕ) (moment : ℕ) → RestoreRefused → Type 0
MayRefuseRestore taken day before after moment (refused.ReadFault file) = Rose (before file) (after file)
MayRefuseRestore taken day before after moment refused.NotABackup = ⊥
MayRefuseRestore taken day before after moment (refused.DayBack was given) = (was ≡ taken) × (given ≡ day) × (day < taken)
MayRefuseRestore taken day before after moment refused.RunFull = 2 ^ 62 - 2 ^ 24 ≤ moment
MayRefuseRestore taken day before after moment refused.Memory = Unit {0}
