-- RESTORE STGPOOL and RESTORE VOLUME: what was done, and what the database has against it.
use Rattle.std.specs.Prelude.{◌≡◌, ◌⊎◌, ℕ, false, List, None, Some, Result, Ok, Err}
use Rattle.kinds.specs.declared.refusal.Refusal.{Refusal}
use Rattle.kinds.specs.declared.refusal.Refusal.TheVariants.{NotFound}
use Rattle.entries.specs.declared.change.Change.{Change}
use Rattle.inventory_answers.specs.Stores.{volume_lines}
use Rattle.inventory_rows.specs.State.{Inv}
use Rattle.inventory_work.specs.Copies.{has_pool}
use Rattle.command_steps.specs.copy_runs.declared.wanted.Moved.{Moved}
use Rattle.command_steps.specs.pool_restores.Listing.{destroying_of}
use Rattle.command_steps.specs.pool_restores.Restoring.{PoolRestore}
use Rattle.command_steps.specs.pool_restores.Volumes.{VolumeRestore}
use Rattle.steps.specs.Events.{Event}
use Rattle.machine.specs.State.{Machine}
use Rattle.line_results.specs.Resting.{database, why_not}

-- ---- RESTORE STGPOOL

-- it was done, with some answer
abbrev pub RestoresPool : (pool : ℕ) → List Event → Type 0
RestoresPool pool events = (answer : Result Moved Refusal) × PoolRestore pool events answer

-- the pool isn't there
abbrev pub HasNoPool : (pool : ℕ) → (old : Machine) → Refusal → Type 0
HasNoPool pool old why = (why ≡ NotFound) × (has_pool pool (database old) ≡ false)

-- ---- RESTORE VOLUME

abbrev pub RestoresVolume : (file : ℕ) → List Event → Type 0
RestoresVolume file events = (answer : Result Moved Refusal) × VolumeRestore file events answer

-- the transaction by which what the volume with this file number held is made known as lost; `NotFound` where it isn't there
abbrev pub loss_in : (file : ℕ) → Inv → Result Change Refusal
loss_in file v = destroying_of file (volume_lines None None v.stores)

-- The volume isn't there; or there is a reason against that transaction.
abbrev pub CannotBeLost : (file : ℕ) → (old : Machine) → Refusal → Type 0
CannotBeLost file old why = (loss_in file (database old) ≡ Err why) ⊎ ((c : Change) × (loss_in file (database old) ≡ Ok c) × (why_not c old.core ≡ Some why))

-- The volume is there, and there is none.
abbrev pub CanBeLost : (file : ℕ) → (old : Machine) → Type 0
CanBeLost file old = (c : Change) × (loss_in file (database old) ≡ Ok c) × (why_not c old.core ≡ None)
