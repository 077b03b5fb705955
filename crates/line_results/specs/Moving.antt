-- Why a process that copies objects, or moves copies, is refused where one actor has the machine alone and the run goes on: what it names isn't there or isn't of the kind, or it comes to a bound.
use Rattle.std.specs.Prelude.{◌≡◌, ◌⊎◌, ℕ, ◌+◌, ◌^◌, ◌≤◌, ◌==◌, min, Bool, true, false, List, ◌∷◌, ◌++◌, None, Some, Result, Ok, Err}
use Rattle.kinds.specs.declared.refusal.Refusal.{Refusal}
use Rattle.kinds.specs.declared.refusal.Refusal.TheVariants.{InventoryFull, NotFound}
use Rattle.entries.specs.declared.change.Change.{Change}
use Rattle.inventory_answers.specs.Stores.{pool_lines, volume_lines}
use Rattle.inventory_rows.specs.State.{Inv}
use Rattle.inventory_work.specs.Copies.{has_pool, has_volume}
use Rattle.command_steps.specs.copy_pools.Backups.{Backup, are_kinds, pool_kind}
use Rattle.command_steps.specs.copy_runs.declared.wanted.Moved.{Moved}
use Rattle.command_steps.specs.reclamation.Moving.{DataMove, goes}
use Rattle.command_steps.specs.reclamation.Reclaiming.{Reclamation, is_sequential_in}
use Rattle.script_loop.specs.declared.ends.Halt.{Halt}
use Rattle.steps.specs.Events.{Deed, Event}
use Rattle.steps.specs.Events.Deed.{Commit, OpenCopy}
use Rattle.machine.specs.Alone.{Alone}
use Rattle.machine.specs.Machine.{Places, asked_change, size_of, space}
use Rattle.machine.specs.State.{Machine}
use Rattle.command_steps.specs.Answers.{halt_by}
use Rattle.command_steps.specs.Doing.{the_number, the_second}
use Rattle.command_steps.specs.Owns.{Mover, Own, all_migrator, back_up_pool, data_mover, migrator, moves, pool_restorer, reclaimer, volume_restorer}
use Rattle.command_steps.specs.declared.outcome.Outcome.{Outcome}
use Rattle.line_results.specs.Bounds.{illegal}
use Rattle.line_results.specs.Migrating.{IsAllMigration, IsPoolMigration, IsWithoutNext, has_next}
use Rattle.line_results.specs.Resting.{Onward, database}
use Rattle.line_results.specs.Returning.{CanBeLost, CannotBeLost, HasNoPool, RestoresPool, RestoresVolume}

-- ---- bounds

-- In this state a bound refuses the step. A copy gets no ticket, as no number is left for one, or none for the file of a scratch volume that its place would have; or the database refuses the transaction of a
-- ticket's copy for a bound of its own.
abbrev pub IsFullAt : Places → Deed → Machine → Type 0
IsFullAt places (OpenCopy object a avoid answer) m =
    places (database m) (space m.core) 0 (size_of object (database m)) a 0 avoid (Err InventoryFull) ⊎ (2 ^ 62 ≤ m.core.next_ticket + 1)
IsFullAt places (Commit asked tickets answer) m = (c : Change) × (asked_change 0 asked tickets m.core ≡ Some c) × (illegal c m.core ≡ Some InventoryFull)
IsFullAt places d m = ⊥

-- A process that did this may come to this step: by the steps before it the machine went from the one state to the other. It reads no object's bytes by a step of their own.
pub record ComesBy (places : Places) (Did : List Event → Type 0) (e : Event) (old m : Machine) : Type 0 where
  pub start : Machine
  pub first : List Event
  pub later : List Event
  pub did : Did (first ++ e ∷ later)
  pub core : start.core ≡ old.core
  pub onward : Onward old start
  pub made : Alone ⊥ places 0 first start m

-- it came to a step that a bound refuses
abbrev pub ComesToBound : Places → (Did : List Event → Type 0) → (old : Machine) → Type 0
ComesToBound places Did old = (e : Event) × (m : Machine) × ComesBy places Did e old m × IsFullAt places e.deed m

-- ---- BACKUP STGPOOL

-- it was done, with some answer
abbrev pub IsBackup : (primary copy : ℕ) → List Event → Type 0
IsBackup primary copy events = (answer : Result Moved Refusal) × Backup primary copy events answer

-- the first is a primary pool of the database, and the second a copy pool of it
abbrev pub ArePools : (primary copy : ℕ) → Inv → Type 0
ArePools primary copy v = are_kinds (pool_kind primary v) (pool_kind copy v) ≡ true

-- One of the pools isn't there or isn't of its kind; or it comes to a bound.
abbrev pub IsUncopied : Places → (primary copy : ℕ) → (old : Machine) → Refusal → Type 0
IsUncopied places primary copy old why =
    ((why ≡ NotFound) × (are_kinds (pool_kind primary (database old)) (pool_kind copy (database old)) ≡ false))
    ⊎ ((why ≡ InventoryFull) × ComesToBound places (IsBackup primary copy) old)

-- ---- copies that are to move

-- On its way it came to a bound. (What is listed stays there until it moves, and where it isn't there any more the transaction that moved it tells so; and the database names no pool that isn't there.)
abbrev pub IsStuck : Places → (Did : List Event → Type 0) → (old : Machine) → Refusal → Type 0
IsStuck places Did old why = (why ≡ InventoryFull) × ComesToBound places Did old

-- it comes to none
abbrev pub IsOpen : Places → (Did : List Event → Type 0) → (old : Machine) → Type 0
IsOpen places Did old = ComesToBound places Did old → ⊥

-- ---- MOVE DATA

abbrev pub IsDataMove : (file to : ℕ) → List Event → Type 0
IsDataMove file to events = (answer : Result Moved Refusal) × DataMove file to events answer

-- whether what lies on the volume may move to the pool: that is the volume's own, or both are primary
abbrev pub goes_in : (file to : ℕ) → Inv → Result (Unit {0}) Refusal
goes_in file to v = goes file to (volume_lines None None v.stores) (pool_lines None v.stores)

-- The volume isn't there; or what lies on it may not move to the pool that is named; or it is stuck on its way.
abbrev pub IsUnmoved : Places → (file to : ℕ) → (old : Machine) → Refusal → Type 0
IsUnmoved places file to old why =
    ((why ≡ NotFound) × (has_volume file (database old) ≡ false)) ⊎ (((to == 0) ≡ false) × (goes_in file to (database old) ≡ Err why)) ⊎ IsStuck places (IsDataMove file to) old why

-- ---- RECLAIM STGPOOL

abbrev pub IsReclamation : (pool threshold : ℕ) → List Event → Type 0
IsReclamation pool threshold events = (answer : Result Moved Refusal) × Reclamation pool threshold events answer

-- the pool is there, and its device class isn't DISK
abbrev pub is_sequential_there : (pool : ℕ) → Inv → Bool
is_sequential_there pool v = is_sequential_in pool (pool_lines None v.stores)

-- The pool isn't there or isn't sequential; or it is stuck on its way.
abbrev pub IsUnreclaimed : Places → (pool threshold : ℕ) → (old : Machine) → Refusal → Type 0
IsUnreclaimed places pool threshold old why =
    ((why ≡ NotFound) × (is_sequential_there pool (database old) ≡ false)) ⊎ IsStuck places (IsReclamation pool threshold) old why

-- ---- processes

-- of what moves copies
abbrev pub HasMoveReason : Places → (numbers : List ℕ) → Mover → (old : Machine) → Refusal → Type 0
HasMoveReason places numbers data_mover old why = IsUnmoved places (the_number numbers) (the_second numbers) old why
HasMoveReason places numbers reclaimer old why = IsUnreclaimed places (the_number numbers) (min (the_second numbers) 100) old why
HasMoveReason places numbers migrator old why =
    IsWithoutNext (the_number numbers) (database old) why ⊎ IsStuck places (IsPoolMigration (the_number numbers) (min (the_second numbers) 100)) old why
HasMoveReason places numbers all_migrator old why = IsStuck places IsAllMigration old why
HasMoveReason places numbers pool_restorer old why = HasNoPool (the_number numbers) old why ⊎ IsStuck places (RestoresPool (the_number numbers)) old why
HasMoveReason places numbers volume_restorer old why = CannotBeLost (the_number numbers) old why ⊎ IsStuck places (RestoresVolume (the_number numbers)) old why

-- why a process that makes copies is refused over the numbers of the things that it names; of those that aren't told apart here its steps alone say why
abbrev pub HasCopyReason : Places → (numbers : List ℕ) → Own → (old : Machine) → Refusal → Type 0
HasCopyReason places numbers back_up_pool old why = IsUncopied places (the_number numbers) (the_second numbers) old why
HasCopyReason places numbers (moves mover) old why = HasMoveReason places numbers mover old why
HasCopyReason places numbers own old why = Unit {0}

-- a refusal has its reason, or the run ended
abbrev pub IsCopyReasoned : Places → (numbers : List ℕ) → Own → (old : Machine) → Result Outcome Refusal → Type 0
IsCopyReasoned places numbers own old (Ok it) = Unit {0}
IsCopyReasoned places numbers own old (Err why) = HasCopyReason places numbers own old why ⊎ ((how : Halt) × (halt_by why ≡ Some how))

-- ---- legal ones

-- Its pools are there and of their kinds, and it doesn't come to a bound.
abbrev pub MayCopy : Places → (primary copy : ℕ) → (old : Machine) → Type 0
MayCopy places primary copy old = ArePools primary copy (database old) × (ComesToBound places (IsBackup primary copy) old → ⊥)

-- The volume is there, what lies on it may move to the pool where one is named, and it isn't stuck on its way.
abbrev pub MayMoveData : Places → (file to : ℕ) → (old : Machine) → Type 0
MayMoveData places file to old =
    (has_volume file (database old) ≡ true) × ((to == 0) ≡ false → goes_in file to (database old) ≡ Ok tt) × IsOpen places (IsDataMove file to) old

-- The pool is there and sequential, and it isn't stuck on its way.
abbrev pub MayReclaim : Places → (pool threshold : ℕ) → (old : Machine) → Type 0
MayReclaim places pool threshold old = (is_sequential_there pool (database old) ≡ true) × IsOpen places (IsReclamation pool threshold) old

abbrev pub MayMove : Places → (numbers : List ℕ) → Mover → (old : Machine) → Type 0
MayMove places numbers data_mover old = MayMoveData places (the_number numbers) (the_second numbers) old
MayMove places numbers reclaimer old = MayReclaim places (the_number numbers) (min (the_second numbers) 100) old
MayMove places numbers migrator old = (has_next (the_number numbers) (database old) ≡ true) × IsOpen places (IsPoolMigration (the_number numbers) (min (the_second numbers) 100)) old
MayMove places numbers all_migrator old = IsOpen places IsAllMigration old
MayMove places numbers pool_restorer old = (has_pool (the_number numbers) (database old) ≡ true) × IsOpen places (RestoresPool (the_number numbers)) old
MayMove places numbers volume_restorer old = CanBeLost (the_number numbers) old × IsOpen places (RestoresVolume (the_number numbers)) old
