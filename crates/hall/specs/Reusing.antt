-- Why a volume isn't reused, and what its reuse makes of the files.
use Rattle.std.specs.Prelude.{◌≡◌, ℕ, List, ◌++◌, Option, None, Some, Result, Ok, Err}
use Rattle.kinds.specs.Refusals.{foremost}
use Rattle.kinds.specs.declared.refusal.Refusal.{Refusal}
use Rattle.store_api.specs.Disk.{History}
use Rattle.store_api.specs.Runs.{GoesOn}
use Rattle.store_api.specs.Told.{Adds, MayCut}
use Rattle.store_api.specs.declared.store.Failed.{Failed}
use Rattle.entries.specs.declared.change.Change.TheVariants as change
use Rattle.entries.specs.declared.entry.Entry.{Entry}
use Rattle.inventory.specs.Meant.{meaning}
use Rattle.inventory_rows.specs.volume_rows.declared.volume.Volume.{Volume}
use Rattle.inventory_rows.specs.pool_tables.Rows.{row_at}
use Rattle.inventory_rows.specs.State.{Inv}
use Rattle.vault.specs.Files.{IsOurs}
use Rattle.vault.specs.Vaults.{Forces, State}
use Rattle.machine.specs.Causes.{reuse_refused}
use Rattle.machine.specs.Machine.{has_file, held_by}
use Rattle.hall.specs.Held.{Held}
use Rattle.hall.specs.Sights.{sight_of, tickets_of}

-- why a volume isn't reused by a step that may begin: the rules refuse it, or a ticket has space on it
abbrev pub reuse_causes : (actor file : ℕ) → Held → List Refusal
reuse_causes actor file h = reuse_refused file (sight_of actor h) ++ held_by (has_file file) (tickets_of h.seats)

-- The transaction by which it is reused, where nothing refuses it; or the foremost of what does.
abbrev pub IsReuse : (actor file : ℕ) → Held → Result Entry Refusal → Type 0
IsReuse actor file h (Ok e) = (e ≡ record { actor = actor; change = change.Reuse file }) × (foremost (reuse_causes actor file h) ≡ None)
IsReuse actor file h (Err e) = foremost (reuse_causes actor file h) ≡ Some e

-- Where the volume is gone, its file was cut to 0, or that cut failed; where it is there, no call was made.
abbrev pub Clears : (file : ℕ) → Option Volume → History → History → Type 0
Clears file None old new = (result : Result (Unit {0}) Failed) × Adds (MayCut file 0 result) old new
Clears file (Some volume) old new = new ≡ old

-- All that waited was forced, and then the file was cleared; or forcing failed, and no other file changed.
abbrev pub Empties : (file : ℕ) → Result ℕ Refusal → (vault next : State Inv) → History → History → Type 0
Empties file (Ok number) vault next old new =
    (between : History) × Forces {T = ℕ} {E = Refusal} meaning vault (Ok number) next old between × Clears file (row_at file vault.database.stores.volumes) between new
Empties file (Err e) vault next old new = Forces {T = ℕ} {E = Refusal} meaning vault (Err e) next old new

-- The files of the vault changed, and behind them the file of a volume that is gone was cut to 0, or that cut failed.
abbrev pub ClearsBehind : (file : ℕ) → Result ℕ Refusal → Held → History → History → Type 0
ClearsBehind file (Ok number) held old new = (between : History) × GoesOn IsOurs old between × Clears file (row_at file held.vault.database.stores.volumes) between new
ClearsBehind file (Err e) held old new = GoesOn IsOurs old new
