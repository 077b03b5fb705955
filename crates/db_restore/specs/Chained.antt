-- A database that is restored from the backup in a file: the one that it holds, or what a chain of increments makes of another.
use Rattle.std.specs.Prelude.{ℕ, List, Result, Ok, Err}
use Rattle.store_api.specs.Disk.{History, reads}
use Rattle.inventory_rows.specs.State.{Inv}
use Rattle.inventory.specs.Meant.{meaning}
use Rattle.db_chains.specs.Chains.{IsGiven}
use Rattle.db_chains.specs.Reads.{MayRefuseChain, OnlySettles, SaysBroken}
use Rattle.db_restore.specs.declared.done.RestoreDone.{RestoreDone}
use Rattle.db_restore.specs.declared.refused.NotRestored.{NotRestored}
use Rattle.db_restore.specs.declared.refused.NotRestored.TheVariants as unrestored
use Rattle.db_restore.specs.declared.refused.RestoreRefused.{RestoreRefused}
use Rattle.db_restore.specs.Restoring.{MayRefuseRestore, Restores, SaysDays}

-- The database that the backup in the file gives was restored on a day, or that was refused; or the file gives none, and then nothing that is read changed.
abbrev pub RestoresFrom : (file day : ℕ) → List ℕ → Result RestoreDone NotRestored → History → History → Type 0
RestoresFrom file day skipped (Ok done) old new = (p : Inv) × IsGiven meaning (reads old) file p × (let result : Result RestoreDone RestoreRefused = Ok done in SaysDays p.today day result × Restores p file day skipped result old new)
RestoresFrom file day skipped (Err (unrestored.Chain why)) old new = OnlySettles old new × SaysBroken meaning (reads old) file why
RestoresFrom file day skipped (Err (unrestored.Database why)) old new = (p : Inv) × IsGiven meaning (reads old) file p × (let result : Result RestoreDone RestoreRefused = Err why in SaysDays p.today day result × Restores p file day skipped result old new)

-- why nothing was restored, by what was counted
abbrev pub MayNotRestore : (day : ℕ) (before after : ℕ → ℕ) (moment : ℕ) → NotRestored → Type 0
MayNotRestore day before after moment (unrestored.Chain why) = MayRefuseChain before after moment why
MayNotRestore day before after moment (unrestored.Database why) = (taken : ℕ) × MayRefuseRestore taken day before after moment why
