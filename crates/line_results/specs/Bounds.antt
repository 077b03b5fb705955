-- The bound of the database, and why a process is refused where the run goes on.
use Rattle.std.specs.Prelude.{◌≡◌, ◌⊎◌, ℕ, ◌+◌, ◌-◌, ◌^◌, ◌≤◌, ◌&&◌, nat_le, nat_lt, Bool, true, false, List, Option, None, Some, Result, Ok, Err}
use Rattle.std.specs.Option.{option_map_or}
use Rattle.kinds.specs.declared.refusal.Refusal.{Refusal}
use Rattle.kinds.specs.declared.refusal.Refusal.TheVariants.{InventoryFull, NotFound}
use Rattle.entries.specs.declared.change.Change.{Change}
use Rattle.entries.specs.declared.change.Change.TheVariants as change
use Rattle.inventory_rows.specs.declared.backup.Backup.{Backup}
use Rattle.inventory_rules.specs.Backups.{backup_at, is_done}
use Rattle.inventory_rules.specs.Transactions.{refused}
use Rattle.inventory_work.specs.Copies.{has_volume}
use Rattle.inventory_answers.specs.Stores.{backup_lines}
use Rattle.script_loop.specs.declared.ends.Halt.{Halt}
use Rattle.command_steps.specs.db_backup.Listing.{newest_file}
use Rattle.machine.specs.Machine.{made}
use Rattle.machine.specs.State.{Core, Machine, inventory, sight}
use Rattle.command_steps.specs.Answers.{halt_by}
use Rattle.command_steps.specs.Behind.{Behind, reuses}
use Rattle.command_steps.specs.Doing.{the_number}
use Rattle.command_steps.specs.Owns.{Own, audit_volume, back_up_database, back_up_since, delete_history, empty_filespace, empty_volume, expire}
use Rattle.command_steps.specs.declared.outcome.Outcome.{Outcome}
use Rattle.line_results.specs.Removing.{IsAbsent, has_filespace}
use Rattle.line_results.specs.Resting.{RoseFrom, database}

-- ---- the bound

-- The bound of the database's is reached: behind the later one no other transaction has a number.
abbrev pub ReachesBound : (old new : Machine) → Type 0
ReachesBound old new = 2 ^ 62 ≤ (database new).number + 1

-- it is refused for that
abbrev pub IsBounded : (old new : Machine) → Refusal → Type 0
IsBounded old new why = (why ≡ InventoryFull) × ReachesBound old new

-- ---- a backup of the database

-- why the database refuses a transaction
abbrev pub illegal : Change → Core → Option Refusal
illegal c core = refused (sight 0 core).journal c (inventory core)

-- the transactions by which a backup begins, of the whole database or of what came behind the backup in a file, and ends
abbrev pub begins : (after : Option ℕ) → Core → Change
begins after core = change.DbBegin core.next_file after

abbrev pub ends : Core → Change
ends core = change.DbEnd core.next_file

-- why the database refuses its end behind its beginning
abbrev pub end_refused : (after : Option ℕ) → Core → Option Refusal
end_refused after core = illegal (ends core) (made 0 (begins after core) core)

-- The database refuses its beginning, or behind that its end; or the count of its file's faults rose.
abbrev pub IsUnmade : (after : Option ℕ) → (old new : Machine) → Refusal → Type 0
IsUnmade after old new why = (illegal (begins after old.core) old.core ≡ Some why) ⊎ (end_refused after old.core ≡ Some why) ⊎ RoseFrom old new old.core.next_file

-- ---- a backup that follows another

-- the backup in this file is on the list, is whole, and its number isn't below that of the run's base
abbrev pub is_of_run : (file : ℕ) → Core → Bool
is_of_run file c = is_done (backup_at file (inventory c)) && option_map_or (λ (b : Backup). nat_le c.base.number b.number) (backup_at file (inventory c)) false

-- fewer than 2^32 transactions come behind it, with the one by which a backup that follows it begins
abbrev pub is_near : (file : ℕ) → Core → Bool
is_near file c = option_map_or (λ (b : Backup). nat_lt ((inventory c).number + 1 - b.number) (2 ^ 32)) (backup_at file (inventory c)) true

-- none is there to be followed: no whole backup is on the list, or the one with the greatest number isn't of this run
abbrev pub HasNoneToFollow : (old : Machine) → Type 0
HasNoneToFollow old =
    (newest_file (backup_lines (database old).backups) ≡ None) ⊎ ((file : ℕ) × (newest_file (backup_lines (database old).backups) ≡ Some file) × (is_of_run file old.core ≡ false))

-- why one that follows the backup in this file isn't begun: that one isn't of this run, or too many transactions come behind it, or the one that is to follow it isn't made
abbrev pub IsUnmadeBehind : (file : ℕ) → (old new : Machine) → Refusal → Type 0
IsUnmadeBehind file old new why =
    ((why ≡ NotFound) × (is_of_run file old.core ≡ false)) ⊎ ((why ≡ InventoryFull) × (is_near file old.core ≡ false)) ⊎ IsUnmade (Some file) old new why

-- No whole backup is on the list; or one that follows the one with the greatest number isn't made.
abbrev pub IsUnfollowed : (old new : Machine) → Refusal → Type 0
IsUnfollowed old new why =
    ((why ≡ NotFound) × (newest_file (backup_lines (database old).backups) ≡ None))
    ⊎ ((file : ℕ) × (newest_file (backup_lines (database old).backups) ≡ Some file) × IsUnmadeBehind file old new why)

-- ---- processes

-- The volume isn't there; or, where damaged copies are to go, the bound of the database's is reached.
abbrev pub IsUnaudited : (fix : Bool) → (file : ℕ) → (old new : Machine) → Refusal → Type 0
IsUnaudited fix file old new why =
    ((why ≡ NotFound) × (has_volume file (database old) ≡ false)) ⊎ ((fix ≡ true) × IsBounded old new why)

-- why a process is refused over the numbers of the things that it names; of those that aren't told apart here its steps alone say why
abbrev pub HasReason : (numbers : List ℕ) → Own → (old new : Machine) → Refusal → Type 0
HasReason numbers expire old new why = IsBounded old new why
HasReason numbers empty_filespace old new why = IsAbsent (has_filespace (the_number numbers) (database old)) why ⊎ IsBounded old new why
HasReason numbers empty_volume old new why = IsAbsent (has_volume (the_number numbers) (database old)) why ⊎ IsBounded old new why
HasReason numbers back_up_database old new why = IsUnmade None old new why
HasReason numbers back_up_since old new why = IsUnfollowed old new why
HasReason numbers (delete_history to) old new why = IsBounded old new why
HasReason numbers (audit_volume fix) old new why = IsUnaudited fix (the_number numbers) old new why
HasReason numbers own old new why = Unit {0}

-- a refusal has its reason, or the run ended
abbrev pub IsReasoned : (numbers : List ℕ) → Own → (old new : Machine) → Result Outcome Refusal → Type 0
IsReasoned numbers own old new (Ok it) = Unit {0}
IsReasoned numbers own old new (Err why) = HasReason numbers own old new why ⊎ ((how : Halt) × (halt_by why ≡ Some how))

-- The reuse of volumes behind work that was done is refused for the bound of the database's alone, or the run ended.
abbrev pub IsReused : Behind → (said : Result Outcome Refusal) → (mid new : Machine) → Result Outcome Refusal → Type 0
IsReused reuses (Ok it) mid new (Err why) = IsBounded mid new why ⊎ ((how : Halt) × (halt_by why ≡ Some how))
IsReused b said mid new result = Unit {0}
