-- What `restoredb` puts, and its exit status.
use Rattle.std.specs.Prelude.{ℕ, List, [], ◌∷◌, ◌++◌, length, codes, Result, Ok, Err}
use Rattle.std.specs.List.{flat_map}
use Rattle.kinds.specs.declared.refusal.Refusal.TheVariants as refusal
use Rattle.script_loop.specs.Ends.{told_number}
use Rattle.reports.specs.Lines.{notice_line}
use Rattle.reports.specs.declared.shown.Notice.TheVariants.{Lost, NotABackup, Refused, Restored}
use Rattle.db_chains.specs.declared.refused.ChainRefused.{ChainRefused}
use Rattle.db_chains.specs.declared.refused.ChainRefused.TheVariants as chain
use Rattle.db_losses.specs.declared.lost.Lost.{Lost as LostObject}
use Rattle.db_restore.specs.declared.done.RestoreDone.{RestoreDone}
use Rattle.db_restore.specs.declared.refused.NotRestored.{NotRestored}
use Rattle.db_restore.specs.declared.refused.NotRestored.TheVariants.{Chain, Database}
use Rattle.db_restore.specs.declared.refused.RestoreRefused.{RestoreRefused}
use Rattle.db_restore.specs.declared.refused.RestoreRefused.TheVariants as restore

-- a line for each object that was lost, by number
abbrev pub lost_lines : List (ℕ × LostObject) → List ℕ
lost_lines lost = flat_map (λ e. notice_line (Lost e.1.node e.1.filespace e.1.path e.0)) lost

-- these, and the counts
abbrev pub done_lines : RestoreDone → List ℕ
done_lines done = lost_lines done.lost ++ notice_line (Restored done.versions done.copies (length done.lost))

-- calls on this file failed
abbrev pub fault_line : ℕ → List ℕ
fault_line file = told_number (codes "STORE FAULT ") file

-- why a chain gives no database
abbrev pub chain_line : ChainRefused → List ℕ
chain_line (chain.ReadFault at) = fault_line at
chain_line (chain.NotABackup at) = notice_line (NotABackup at)
chain_line chain.RunFull = codes "RUN FULL\n"
chain_line chain.Memory = codes "MEMORY\n"

-- why the database that the backup in this file gives wasn't restored
abbrev pub restore_line : (file : ℕ) → RestoreRefused → List ℕ
restore_line file (restore.ReadFault at) = fault_line at
restore_line file restore.NotABackup = notice_line (NotABackup file)
restore_line file (restore.DayBack taken given) = notice_line (Refused (refusal.DayBack taken given))
restore_line file restore.RunFull = codes "RUN FULL\n"
restore_line file restore.Memory = codes "MEMORY\n"

-- what is put for what came of the backup in a file
abbrev pub told_lines : (file : ℕ) → Result RestoreDone NotRestored → List ℕ
told_lines file (Ok done) = done_lines done
told_lines file (Err (Chain why)) = chain_line why
told_lines file (Err (Database why)) = restore_line file why

-- ---- the exit status: 0 where nothing was lost, 1 where something was

abbrev pub done_status : {X : Type 0} → List X → ℕ
done_status [] = 0
done_status (x ∷ lost) = 1

abbrev pub chain_status : ChainRefused → ℕ
chain_status (chain.ReadFault at) = 5
chain_status (chain.NotABackup at) = 7
chain_status chain.RunFull = 9
chain_status chain.Memory = 8

abbrev pub restore_status : RestoreRefused → ℕ
restore_status (restore.ReadFault at) = 5
restore_status restore.NotABackup = 7
restore_status (restore.DayBack taken given) = 1
restore_status restore.RunFull = 9
restore_status restore.Memory = 8

abbrev pub told_status : Result RestoreDone NotRestored → ℕ
told_status (Ok done) = done_status done.lost
told_status (Err (Chain why)) = chain_status why
told_status (Err (Database why)) = restore_status why
