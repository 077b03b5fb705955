-- A database that is restored from a backup that holds it whole.
use Rattle.std.specs.Prelude.{◌≡◌, ◌⊎◌, ℕ, List, [], Result, Ok, Err}
use Rattle.store_api.specs.Disk.{History, reads}
use Rattle.inventory_rows.specs.State.{Inv}
use Rattle.inventory.specs.Meant.{meaning}
use Rattle.db_chains.specs.Chains.{Gives}
use Rattle.db_chains.specs.Reads.{NoWhole, OnlySettles}
use Rattle.db_chains.specs.declared.refused.ChainRefused.{ChainRefused}
use Rattle.db_chains.specs.declared.refused.ChainRefused.TheVariants as chain
use Rattle.db_restore.specs.declared.done.RestoreDone.{RestoreDone}
use Rattle.db_restore.specs.declared.refused.RestoreRefused.{RestoreRefused}
use Rattle.db_restore.specs.declared.refused.RestoreRefused.TheVariants as refused
use Rattle.db_restore.specs.Restoring.{MayRefuseRestore, Restores, SaysDays}

-- what a refusal to read a backup is of a restore
abbrev pub unread : ChainRefused → RestoreRefused
unread (chain.ReadFault file) = refused.ReadFault file
unread (chain.NotABackup file) = refused.NotABackup
unread chain.RunFull = refused.RunFull
unread chain.Memory = refused.Memory

-- The database that the backup in the file gives without any other backup, the one that it holds, was restored on a day, or that was refused.
abbrev pub RestoresHeld : (file day : ℕ) → List ℕ → Result RestoreDone RestoreRefused → History → History → Type 0
RestoresHeld file day skipped result old new = (p : Inv) × ((number : ℕ) × Gives meaning (reads old) file number [] p) × SaysDays p.today day result × Restores p file day skipped result old new

-- The same, or the file has no backup that holds a whole database, and that is the answer; or the file couldn't be read. Then nothing that is read changed.
abbrev pub RestoresWhole : (file day : ℕ) → List ℕ → Result RestoreDone RestoreRefused → History → History → Type 0
RestoresWhole file day skipped (Ok done) old new = RestoresHeld file day skipped (Ok done) old new
RestoresWhole file day skipped (Err refused.NotABackup) old new = OnlySettles old new × NoWhole meaning (reads old) file
RestoresWhole file day skipped (Err (refused.ReadFault which)) old new = OnlySettles old new ⊎ RestoresHeld file day skipped (Err (refused.ReadFault which)) old new
RestoresWhole file day skipped (Err (refused.DayBack taken given)) old new = RestoresHeld file day skipped (Err (refused.DayBack taken given)) old new
RestoresWhole file day skipped (Err refused.RunFull) old new = OnlySettles old new ⊎ RestoresHeld file day skipped (Err refused.RunFull) old new
RestoresWhole file day skipped (Err refused.Memory) old new = OnlySettles old new ⊎ RestoresHeld file day skipped (Err refused.Memory) old new

-- why nothing was restored, by what was counted
abbrev pub MayRefuseWhole : (day : ℕ) (before after : ℕ → ℕ) (moment : ℕ) → RestoreRefused → Type 0
MayRefuseWhole day before after moment refused.NotABackup = Unit {0}
MayRefuseWhole day before after moment (refused.ReadFault file) = (taken : ℕ) × MayRefuseRestore taken day before after moment (refused.ReadFault file)
MayRefuseWhole day before after moment (refused.DayBack was given) = (taken : ℕ) × MayRefuseRestore taken day before after moment (refused.DayBack was given)
MayRefuseWhole day before after moment refused.RunFull = (taken : ℕ) × MayRefuseRestore taken day before after moment refused.RunFull
MayRefuseWhole day before after moment refused.Memory = (taken : ℕ) × MayRefuseRestore taken day before after moment refused.Memory
