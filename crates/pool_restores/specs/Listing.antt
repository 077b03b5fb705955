-- Which copies are to be restored.
use Rattle.std.specs.Prelude.{◌≡◌, ◌⊎◌, ℕ, ◌==◌, ◌&&◌, not, Bool, true, false, List, [], ◌∷◌, ◌++◌, if◌then◌else◌, Option, None, Some, Result, Ok, Err}
use Rattle.std.specs.List.{find, flat_map, list_any}
use Rattle.std.specs.Ordering.{is_eq, nat_cmp, ordering_then}
use Rattle.kinds.specs.Refusals.{number_of}
use Rattle.kinds.specs.declared.change.Verb.TheVariants as verb
use Rattle.kinds.specs.declared.change.PoolChange.TheVariants as store
use Rattle.kinds.specs.declared.pool.Access.{Access}
use Rattle.kinds.specs.declared.pool.Access.TheVariants.{ReadWrite, ReadOnly, Unavailable, Offsite, Destroyed}
use Rattle.kinds.specs.declared.refusal.Refusal.{Refusal}
use Rattle.kinds.specs.declared.refusal.Refusal.TheVariants as refused
use Rattle.entries.specs.declared.change.Change.{Change}
use Rattle.entries.specs.declared.change.Change.TheVariants as change
use Rattle.inventory_answers.specs.declared.lines.PoolLine.{PoolLine}
use Rattle.inventory_answers.specs.declared.lines.VolumeLine.{VolumeLine}
use Rattle.inventory_answers.specs.declared.query.Query.TheVariants as query
use Rattle.inventory_answers.specs.declared.reply.Answer.{Answer}
use Rattle.inventory_answers.specs.declared.reply.Rows.TheVariants as rows
use Rattle.inventory_work.specs.declared.lines.CopyLine.{CopyLine}
use Rattle.inventory_work.specs.Lists.{only}
use Rattle.space.specs.declared.aim.Aim.{Aim}
use Rattle.space.specs.declared.aim.Aim.TheVariants as aim
use Rattle.steps.specs.Calls.{Then}
use Rattle.steps.specs.Events.{Event, event}
use Rattle.steps.specs.Events.Deed.{Ask}
use Rattle.copy_runs.specs.declared.wanted.Wanted.{Wanted}
use Rattle.copy_runs.specs.Ends.{AreAsking, AskedPools, IsUnlisted, Unanswered}
use Rattle.copy_runs.specs.Wanting.{IsIn}

-- ---- volumes

-- all volumes were asked for
abbrev pub AskedVolumes : List Event → List VolumeLine → Type 0
AskedVolumes events lines = (n : ℕ) × (answer : Answer) × (events ≡ event n (Ask (query.Volumes None None) (Ok answer)) ∷ []) × (answer.rows ≡ rows.Volumes lines)

abbrev pub AsksVolumes : List Event → Result (List VolumeLine) Refusal → Type 0
AsksVolumes events (Ok lines) = AskedVolumes events lines
AsksVolumes events (Err e) = Unanswered events e

abbrev pub is_destroyed : Access → Bool
is_destroyed ReadWrite = false
is_destroyed ReadOnly = false
is_destroyed Unavailable = false
is_destroyed Offsite = false
is_destroyed Destroyed = true

abbrev pub destroyed_file : VolumeLine → List ℕ
destroyed_file line = only (is_destroyed line.access) line.file

-- the files of the volumes on which what they held is lost
abbrev pub destroyed_of : List VolumeLine → List ℕ
destroyed_of lines = flat_map destroyed_file lines

-- the volume with this file number, where it is among these
abbrev pub volume_with : ℕ → List VolumeLine → Option VolumeLine
volume_with file lines = find (λ l. l.file == file) lines

-- the transaction by which what it held is lost: the volume is found by its name, and its pool isn't looked at
abbrev pub destroying : VolumeLine → Change
destroying line = change.Pool (store.Volume verb.Update line.name 0 line.file line.capacity Destroyed)

abbrev pub destroying_found : Option VolumeLine → Result Change Refusal
destroying_found None = Err refused.NotFound
destroying_found (Some line) = Ok (destroying line)

abbrev pub destroying_of : ℕ → List VolumeLine → Result Change Refusal
destroying_of file lines = destroying_found (volume_with file lines)

-- ---- pools

-- the pool is among these
abbrev pub is_there : ℕ → List PoolLine → Bool
is_there pool lines = list_any (λ l. l.number == pool) lines

-- ---- copies

-- the move of a copy into its own pool, or to the pools behind it
abbrev pub aim_of : (pool placed : ℕ) → Aim
aim_of pool placed = aim.Move pool placed pool true

-- the copy that is wanted in the place of one
abbrev pub restoring : CopyLine → Wanted
restoring line = record { object = line.object; aim = aim_of line.pool line.placed; size = line.size }

-- it is of the copy in this pool that this transaction placed
abbrev pub is_that : (pool placed : ℕ) → Aim → Bool
is_that pool placed (aim.New number) = false
is_that pool placed (aim.Move from by to along) = from == pool && by == placed
is_that pool placed (aim.Copy to) = false

-- it is wanted already
abbrev pub is_wanted_of : CopyLine → List Wanted → Bool
is_wanted_of line wanted = list_any (λ x. x.object == line.object && is_that line.pool line.placed x.aim) wanted

-- it lies in the pool that is to be restored, or any pool is
abbrev pub is_of : Option ℕ → CopyLine → Bool
is_of None line = true
is_of (Some pool) line = line.pool == pool

-- with this copy, where it is of the pool and isn't wanted yet
abbrev pub with_one : Option ℕ → CopyLine → List Wanted → List Wanted
with_one pool line wanted = wanted ++ only (is_of pool line && not (is_wanted_of line wanted)) (restoring line)

abbrev pub with_all : Option ℕ → List CopyLine → List Wanted → List Wanted
with_all pool [] wanted = wanted
with_all pool (line ∷ lines) wanted = with_all pool lines (with_one pool line wanted)

-- the copies on the volume were asked for
abbrev pub Listed : ℕ → List Event → List CopyLine → Type 0
Listed file events lines = (n : ℕ) × (answer : Answer) × (events ≡ event n (Ask (query.OnVolume file) (Ok answer)) ∷ []) × (answer.rows ≡ rows.OnVolume lines)

abbrev pub Lists : ℕ → List Event → Result (List CopyLine) Refusal → Type 0
Lists file events (Ok lines) = Listed file events lines
Lists file events (Err e) = IsUnlisted (query.OnVolume file) events e × AreAsking events

-- the copies on these volumes were asked for, volume after volume, and with them these are wanted
abbrev pub Collected : Option ℕ → List ℕ → (from to : List Wanted) → List Event → Type 0
Collected pool [] from to events = (events ≡ []) × (to ≡ from)
Collected pool (file ∷ files) from to events =
    (lines : List CopyLine) × Then (λ xs. Listed file xs lines) (λ ys. Collected pool files (with_all pool lines from) to ys) events

-- one of the questions for these volumes was refused
abbrev pub IsUncollected : (files : List ℕ) → List Event → Refusal → Type 0
IsUncollected files events e = (file : ℕ) × IsIn file files × IsUnlisted (query.OnVolume file) events e

abbrev pub Collects : Option ℕ → List ℕ → List Event → Result (List Wanted) Refusal → Type 0
Collects pool files events (Ok wanted) = Collected pool files [] wanted events
Collects pool files events (Err e) = IsUncollected files events e × AreAsking events

-- so far these volumes were asked
abbrev pub Collecting : Option ℕ → List ℕ → List Event → List Wanted → Type 0
Collecting pool files events wanted = Collected pool files [] wanted events

-- it is added, or memory is wanted
abbrev pub Adds : Option ℕ → List CopyLine → (from to : List Wanted) → Result (Unit {0}) Refusal → Type 0
Adds pool lines from to (Ok done) = to ≡ with_all pool lines from
Adds pool lines from to (Err e) = e ≡ refused.Memory

-- ---- what is known of them

-- one of these is the copy's: its object, its pool, and the transaction that placed it
abbrev pub is_known : List (ℕ × ℕ × ℕ) → CopyLine → Bool
is_known known line = list_any (λ k. is_eq (ordering_then (ordering_then (nat_cmp line.object k.0) (nat_cmp line.pool k.1)) (nat_cmp line.placed k.2))) known

-- these are known of the copies that are wanted, and of no others
abbrev pub AreWanted : List (ℕ × ℕ × ℕ) → List Wanted → Type 0
AreWanted known wanted = (line : CopyLine) → is_known known line ≡ is_wanted_of line wanted
