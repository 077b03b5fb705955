-- When a process of a job isn't refused: what each asks of the states that its line's turns pass. Other actors' transactions may come between two of its steps, and so it is asked of each of these states.
use Rattle.std.specs.Prelude.{◌≡◌, ℕ, ◌+◌, ◌^◌, ◌<◌, ◌≤◌, ◌==◌, ◌||◌, min, is_some, Bool, true, false, List, [], ◌∷◌, Option, None, Some, Ok, Err}
use Rattle.std.specs.List.{find}
use Rattle.kinds.specs.Refusals.{foremost}
use Rattle.kinds.specs.declared.refusal.Refusal.{Refusal}
use Rattle.kinds.specs.declared.refusal.Refusal.TheVariants.{InventoryFull, NotFound}
use Rattle.entries.specs.declared.change.Change.{Change}
use Rattle.inventory_rows.specs.Items.{count_items, most_items}
use Rattle.inventory_rows.specs.object_rows.Filespaces.{filespace_at}
use Rattle.inventory_rows.specs.pool_rows.PoolRows.{volume_named}
use Rattle.inventory_rows.specs.pool_tables.Rows.{row_at}
use Rattle.inventory_rows.specs.version_groups.declared.groups.Filespace.{Filespace}
use Rattle.inventory_rows.specs.volume_rows.declared.volume.Volume.{Volume}
use Rattle.inventory_rows.specs.Search.{version}
use Rattle.inventory_rows.specs.State.{Inv}
use Rattle.inventory_rules.specs.Transactions.{refused}
use Rattle.inventory_work.specs.Copies.{has_pool, has_volume, missing}
use Rattle.inventory_work.specs.Found.{filespace_asked}
use Rattle.inventory_work.specs.declared.lines.MissingLine.{MissingLine}
use Rattle.inventory_answers.specs.Look.{name_of_node}
use Rattle.inventory_answers.specs.Stores.{backup_lines, pool_lines, volume_lines}
use Rattle.space.specs.declared.aim.Aim.{Aim}
use Rattle.space.specs.declared.aim.Aim.TheVariants as aim
use Rattle.steps.specs.declared.asked.Asked.TheVariants.{Placed}
use Rattle.steps.specs.declared.image.ImageKind.{ImageKind}
use Rattle.steps.specs.declared.image.ImageKind.TheVariants as image
use Rattle.machine.specs.Causes.{image_refused}
use Rattle.machine.specs.Machine.{Places, asked_change, size_of, space}
use Rattle.machine.specs.State.{Machine, sight}
use Rattle.inventory_answers.specs.declared.lines.PoolLine.{PoolLine}
use Rattle.line_results.specs.copy_runs.Wanting.{IsIn}
use Rattle.line_results.specs.db_backup.Listing.{newest_file}
use Rattle.line_results.specs.migration.Marks.{target}
use Rattle.line_results.specs.migration.Sweeping.{is_due}
use Rattle.line_results.specs.pool_restores.Listing.{destroyed_of}
use Rattle.line_results.specs.reclamation.Moving.{goes}
use Rattle.line_results.specs.command_steps.Doing.{the_number, the_second}
use Rattle.line_results.specs.command_steps.Owns.{Mover, Own, all_migrator, audit_volume, back_up_database, back_up_pool, back_up_since, data_mover, delete_history, empty_filespace, empty_volume, expire, migrator, moves, pool_restorer, reclaimer}
use Rattle.line_results.specs.Moving.{ArePools, is_sequential_there}
use Rattle.line_results.specs.Resting.{database}

-- No bound of the database's is reached: its lists have no more items than those of a database may have, and behind its last transaction another one has a number.
abbrev pub IsWithin : Machine → Type 0
IsWithin m = (count_items (database m) ≤ most_items) × ((database m).number + 1 < 2 ^ 62)

-- the volume is there; and where damaged copies are to go, the database is within its bounds
abbrev pub MayAudit : (fix : Bool) → (file : ℕ) → Machine → Type 0
MayAudit fix file m = (has_volume file (database m) ≡ true) × (fix ≡ true → IsWithin m)

-- the database is within its bounds, and there is no reason against the beginning of such a backup of it
abbrev pub MayBackUpDatabase : (actor : ℕ) → ImageKind → Machine → Type 0
MayBackUpDatabase actor kind m = (foremost (image_refused kind (sight actor m.core)) ≡ None) × IsWithin m

-- In what follows `Is` says which states are meant.

-- at each of them a whole backup is on the list, and the one with the greatest number there may be followed at each of them
abbrev pub MayFollow : (Is : Machine → Type 0) → (actor : ℕ) → Type 0
MayFollow Is actor =
    (m : Machine) → Is m → (file : ℕ) × (newest_file (backup_lines (database m).backups) ≡ Some file) × ((other : Machine) → Is other → MayBackUpDatabase actor (image.Since file) other)

-- No bound stands in the way of a copy that is aimed so, and what it needs is there: there is a number for its ticket; an object's copy has a place, or no place for another reason; and no transaction of one ticket of its actor's reaches a
-- bound.
abbrev pub HasNumbers : Places → (actor : ℕ) → Aim → (avoid : ℕ) → Machine → Type 0
HasNumbers places actor a avoid m =
    (m.core.next_ticket + 1 < 2 ^ 62)
    × ((object : ℕ) (e : Refusal) → places (database m) (space m.core) actor (size_of object (database m)) a 0 avoid (Err e) → (e ≡ InventoryFull → ⊥) × (e ≡ NotFound → ⊥))
    × ((ticket : ℕ) (c : Change) → asked_change actor Placed (ticket ∷ []) m.core ≡ Some c → refused (sight actor m.core).journal c (database m) ≡ Some InventoryFull → ⊥)

-- the object is kept, or what the journal tells says which transaction removed it
abbrev pub IsKnown : (actor object : ℕ) → Machine → Type 0
IsKnown actor object m = (is_some (version object (database m)) || is_some ((sight actor m.core).journal.removed object)) ≡ true

-- At each of them the pools are there, the first a primary pool and the second a copy pool, and no bound stands in the way of a further copy there; and an object that the copy pool lacks at one of them is kept at each, or known to be gone.
abbrev pub MayCopy : Places → (Is : Machine → Type 0) → (actor primary copy : ℕ) → Type 0
MayCopy places Is actor primary copy =
    ((m : Machine) → Is m → ArePools primary copy (database m) × HasNumbers places actor (aim.Copy copy) 0 m)
    × ((m n : Machine) → Is m → Is n → (lines : List MissingLine) (line : MissingLine) → missing primary copy (database m) ≡ Ok lines → IsIn line lines → IsKnown actor line.object n)

-- the filespace is there, and is the one that its node's name and its own name
abbrev pub IsFilespace : (filespace : ℕ) → (node name : List ℕ) → Inv → Type 0
IsFilespace filespace node name v =
    (x : Filespace) × (filespace_at filespace v.clients.filespaces ≡ Some x) × (x.name ≡ name) × (name_of_node x.node v.clients ≡ Some node) × (filespace_asked node name v.clients ≡ Ok filespace)

-- at each of them the filespace is there, under the same names, and the database within its bounds
abbrev pub MayEmpty : (Is : Machine → Type 0) → (filespace : ℕ) → Type 0
MayEmpty Is filespace = (node : List ℕ) × (name : List ℕ) × ((m : Machine) → Is m → IsFilespace filespace node name (database m) × IsWithin m)

-- the volume is there, and is the one with this name
abbrev pub IsVolume : (file : ℕ) → (name : List ℕ) → Inv → Type 0
IsVolume file name v = (x : Volume) × (row_at file v.stores.volumes ≡ Some x) × (x.name ≡ name) × (volume_named name v.stores ≡ Some file)

-- at each of them the volume is there, under the same name, and the database within its bounds
abbrev pub MayRemove : (Is : Machine → Type 0) → (file : ℕ) → Type 0
MayRemove Is file = (name : List ℕ) × ((m : Machine) → Is m → IsVolume file name (database m) × IsWithin m)

-- ---- copies that move

-- at each of them no bound stands in the way of a copy, wherever it is aimed
abbrev pub HaveNumbers : Places → (Is : Machine → Type 0) → (actor : ℕ) → Type 0
HaveNumbers places Is actor = (m : Machine) → Is m → (a : Aim) (avoid : ℕ) → HasNumbers places actor a avoid m

-- the volume is there; and where a pool is named, what lies on it may move there, by the volumes of one of them and the pools of another
abbrev pub MayMoveData : (Is : Machine → Type 0) → (file to : ℕ) → Type 0
MayMoveData Is file to =
    ((m : Machine) → Is m → has_volume file (database m) ≡ true)
    × ((to == 0) ≡ false → (m n : Machine) → Is m → Is n → goes file to (volume_lines None None (database m).stores) (pool_lines None (database n).stores) ≡ Ok tt)

-- the pool is there, and its device class isn't DISK
abbrev pub MayReclaim : (Is : Machine → Type 0) → (pool : ℕ) → Type 0
MayReclaim Is pool = (m : Machine) → Is m → (has_pool pool (database m) ≡ true) × (is_sequential_there pool (database m) ≡ true)

-- the pool is there, and it is told where its copies are to go, if anywhere
abbrev pub MayMigrate : (Is : Machine → Type 0) → (pool low : ℕ) → Type 0
MayMigrate Is pool low = (m : Machine) → Is m → (has_pool pool (database m) ≡ true) × (to : Option ℕ) × (target pool low (pool_lines None (database m).stores) ≡ Ok to)

-- a pool that is due at one of them, whichever came before it, may be migrated
abbrev pub MaySweep : (Is : Machine → Type 0) → Type 0
MaySweep Is =
    (m : Machine) → Is m → (before : Option ℕ) (line : PoolLine) → find (is_due before) (pool_lines None (database m).stores) ≡ Some line → MayMigrate Is line.number line.settings.low

-- the pool is there, and a volume on which what it held is lost at one of them is there at each
abbrev pub MayRestore : (Is : Machine → Type 0) → (pool : ℕ) → Type 0
MayRestore Is pool =
    ((m : Machine) → Is m → has_pool pool (database m) ≡ true)
    × ((m n : Machine) → Is m → Is n → (file : ℕ) → IsIn file (destroyed_of (volume_lines None None (database m).stores)) → has_volume file (database n) ≡ true)

-- what moves copies; RESTORE VOLUME stands in Legal
abbrev pub MayMove : Places → (Is : Machine → Type 0) → (actor : ℕ) → (numbers : List ℕ) → Mover → Type 0
MayMove places Is actor numbers data_mover = HaveNumbers places Is actor × MayMoveData Is (the_number numbers) (the_second numbers)
MayMove places Is actor numbers reclaimer = HaveNumbers places Is actor × MayReclaim Is (the_number numbers)
MayMove places Is actor numbers migrator = HaveNumbers places Is actor × MayMigrate Is (the_number numbers) (min (the_second numbers) 100)
MayMove places Is actor numbers all_migrator = HaveNumbers places Is actor × MaySweep Is
MayMove places Is actor numbers pool_restorer = HaveNumbers places Is actor × MayRestore Is (the_number numbers)
MayMove places Is actor numbers mover = ⊥

-- ---- all of them

-- A process is legal over the numbers of the things that it names. RESTORE VOLUME stands in Legal (`MayLose`).
abbrev pub MayProcess : Places → (Is : Machine → Type 0) → (actor : ℕ) → (numbers : List ℕ) → Own → Type 0
MayProcess places Is actor numbers expire = (m : Machine) → Is m → IsWithin m
MayProcess places Is actor numbers (delete_history to) = (m : Machine) → Is m → IsWithin m
MayProcess places Is actor numbers (audit_volume fix) = (m : Machine) → Is m → MayAudit fix (the_number numbers) m
MayProcess places Is actor numbers empty_filespace = MayEmpty Is (the_number numbers)
MayProcess places Is actor numbers empty_volume = MayRemove Is (the_number numbers)
MayProcess places Is actor numbers (moves mover) = MayMove places Is actor numbers mover
MayProcess places Is actor numbers back_up_pool = MayCopy places Is actor (the_number numbers) (the_second numbers)
MayProcess places Is actor numbers back_up_database = (m : Machine) → Is m → MayBackUpDatabase actor image.Backup m
MayProcess places Is actor numbers back_up_since = MayFollow Is actor
MayProcess places Is actor numbers own = ⊥
