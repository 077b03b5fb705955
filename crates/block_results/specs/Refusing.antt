-- Why a step of a job was refused, over the state of the machine that it met and the one that it left.
use Rattle.std.specs.Prelude.{◌≡◌, ◌⊎◌, ℕ, ◌+◌, ◌^◌, nat_lt, List, [], ◌∷◌, ◌++◌, length, Some, Err}
use Rattle.std.specs.List.{AllByRecursion}
use Rattle.std.specs.Option.{option_map_or}
use Rattle.kinds.specs.Refusals.{foremost, unless}
use Rattle.kinds.specs.declared.refusal.Refusal.{Refusal}
use Rattle.kinds.specs.declared.refusal.Refusal.TheVariants.{InventoryFull, LogFault, Memory, Unavailable, WriteFault}
use Rattle.entries.specs.declared.change.Change.TheVariants as change
use Rattle.inventory_rules.specs.Transactions.{refused}
use Rattle.space.specs.declared.aim.Aim.TheVariants as aim
use Rattle.steps.specs.declared.image.ImageKind.TheVariants as image
use Rattle.steps.specs.Events.{Deed, refusal}
use Rattle.steps.specs.Events.Deed.{OpenNew, OpenCopy, WritePiece, CopyPiece, Seal, Commit, DropTicket, ReadPiece, Ask, Image, Reuse, Force}
use Rattle.machine.specs.Alone.{Moves}
use Rattle.machine.specs.Causes.{ask_refused, commit_refused, copy_refused_by, copying_refused, drop_refused, image_refused, new_refused, read_refused, reuse_refused, seal_refused, write_refused}
use Rattle.machine.specs.Machine.{CantRead, IsLogFault, IsTicket, Places, asked_change, ended, has_file, held_by, held_refused, in_progress, next_count, read_count, size_of, space}
use Rattle.machine.specs.Pieces.{RoseAt}
use Rattle.machine.specs.State.{Core, Image as Picture, Machine, Sight, Ticket, backup, inventory, object_of, sight}
use Rattle.machine.specs.Turns.{Turn}
use Rattle.crew.specs.Ran.{Turned}

-- ---- one step

-- the reasons against a step that its actor sees: those of the database and of what the journal tells, and those of its own tickets and image
abbrev pub own_reasons : (actor : ℕ) → Deed → Sight → List Refusal
own_reasons actor (OpenNew pool size prefer answer) s = new_refused pool size s
own_reasons actor (OpenCopy object a avoid answer) s = copy_refused_by object a s
own_reasons actor (WritePiece number bytes answer) s = write_refused number (length bytes) s
own_reasons actor (CopyPiece number answer) s = copying_refused number s
own_reasons actor (Seal number answer) s = seal_refused number s
own_reasons actor (Commit asked numbers answer) s = commit_refused actor asked numbers s
own_reasons actor (DropTicket number answer) s = drop_refused number s
own_reasons actor (ReadPiece object kept from offset wanted answer) s = read_refused object kept from offset wanted s
own_reasons actor (Ask query answer) s = ask_refused query s
own_reasons actor (Image kind answer) s = image_refused kind s
own_reasons actor (Reuse file answer) s = reuse_refused file s
own_reasons actor (Force answer) s = []

-- an object has no place, and this is why: no room, room that another's ticket or a transaction that isn't forced yet holds, or no file number
abbrev pub HasNoPlace : Places → (actor : ℕ) → Deed → Machine → Refusal → Type 0
HasNoPlace places actor (OpenNew pool size prefer answer) m e = places (inventory m.core) (space m.core) actor size (aim.New pool) prefer 0 (Err e)
HasNoPlace places actor (OpenCopy object a avoid answer) m e = places (inventory m.core) (space m.core) actor (size_of object (inventory m.core)) a 0 avoid (Err e)
HasNoPlace places actor _ m e = ⊥

-- others hold what it needs: a live ticket has space on what it takes away or is placed there, or an image is in progress
abbrev pub held_reasons : (actor : ℕ) → Deed → Core → List Refusal
held_reasons actor (Commit asked numbers answer) c = option_map_or (λ it. held_refused it c) (asked_change actor asked numbers c) []
held_reasons actor (Image image.Next answer) c = []
held_reasons actor (Image kind answer) c = in_progress c.image
held_reasons actor (Reuse file answer) c = held_by (has_file file) c.tickets
held_reasons actor _ c = []

-- the number that it draws would reach its bound: an object's, a ticket's, or that of a generation
abbrev pub bounds : Deed → Core → List Refusal
bounds (OpenNew pool size prefer answer) c = unless (nat_lt (c.next_object + 1) (2 ^ 62)) InventoryFull ++ unless (nat_lt (c.next_ticket + 1) (2 ^ 62)) InventoryFull
bounds (OpenCopy object a avoid answer) c = unless (nat_lt (c.next_ticket + 1) (2 ^ 62)) InventoryFull
bounds (Image image.Checkpoint answer) c = unless (nat_lt (c.generation + 1) (2 ^ 62)) InventoryFull
bounds _ c = []

-- each copy of the object misses something of the piece that was to be read: its volume may not be read, or its file's count of faults rose in the step
abbrev pub IsUnread : (actor : ℕ) → Deed → (before after : Machine) → Type 0
IsUnread actor (CopyPiece number answer) before after = (t : Ticket) × IsTicket actor number before t × CantRead (object_of t.purpose) 0 (length t.bytes) (next_count t) before after
IsUnread actor (ReadPiece object kept from offset wanted answer) before after = CantRead object from offset (read_count object wanted offset (inventory before.core)) before after
IsUnread actor _ before after = ⊥

-- of a backup whose last piece was written, the transaction of its end would reach a bound
abbrev pub IsUnended : (actor : ℕ) → Deed → Machine → Type 0
IsUnended actor (Image image.Next answer) m =
    (i : Picture) × ((sight actor m.core).image ≡ Some i) × (i.picture ≡ backup) × (refused (sight actor m.core).journal (change.DbEnd i.file) (inventory m.core) ≡ Some InventoryFull)
IsUnended actor _ m = ⊥

-- what failed in the step: a call on the file whose count of faults rose, or on a log or an image
abbrev pub Failed : (actor : ℕ) → Deed → (before after : Machine) → Refusal → Type 0
Failed actor deed before after (WriteFault file) = RoseAt before.counts after.counts file
Failed actor deed before after (LogFault file count) = IsLogFault before after file count
Failed actor deed before after Unavailable = IsUnread actor deed before after
Failed actor deed before after InventoryFull = IsUnended actor deed before
Failed actor deed before after e = ⊥

-- A step was refused so: for the foremost of the reasons that its actor sees; since the object has no place; since others hold what it needs; for a number at its bound; since a fault has halted the hall, or the run is full; since
-- something failed in it; or for want of memory.
abbrev pub IsRefusedFor : Places → (actor : ℕ) → Deed → (before after : Machine) → Refusal → Type 0
IsRefusedFor places actor deed before after e =
    (foremost (own_reasons actor deed (sight actor before.core)) ≡ Some e)
    ⊎ HasNoPlace places actor deed before e
    ⊎ (foremost (held_reasons actor deed before.core) ≡ Some e)
    ⊎ (foremost (bounds deed before.core) ≡ Some e)
    ⊎ (foremost (ended before) ≡ Some e)
    ⊎ Failed actor deed before after e
    ⊎ (e ≡ Memory)

-- ---- among others

-- A step of these turns met a state and left another one: some of them led to it, and the others lead on from there.
pub record Meets (trusted : Type 0) (places : Places) (turns : List Turn) (old new : Machine) (t : Turn) : Type 0 where
  pub front : List Turn
  pub back : List Turn
  pub parts : turns ≡ front ++ (t ∷ back)
  pub before : Machine
  pub after : Machine
  pub led : Turned trusted places front old before
  pub made : Moves trusted places t.actor t.did before after
  pub leads : Turned trusted places back after new

-- of a ticket's step that writes to a volume, and of one that writes to a backup's file: where that failed, the count of the file's faults rose in the turns
abbrev pub HasRisen : Deed → Refusal → (old new : Machine) → Type 0
HasRisen (WritePiece number bytes answer) (WriteFault file) old new = RoseAt old.counts new.counts file
HasRisen (CopyPiece number answer) (WriteFault file) old new = RoseAt old.counts new.counts file
HasRisen (Seal number answer) (WriteFault file) old new = RoseAt old.counts new.counts file
HasRisen (Image kind answer) (WriteFault file) old new = RoseAt old.counts new.counts file
HasRisen deed e old new = Unit {0}

-- Each of these turns that was refused has its cause at the state that it met.
abbrev pub HaveCauses : (trusted : Type 0) → Places → List Turn → (old new : Machine) → Type 0
HaveCauses trusted places turns old new =
    AllByRecursion
    (λ t. (why : Refusal) → refusal t.did.deed ≡ Some why
    → (m : Meets trusted places turns old new t) × IsRefusedFor places t.actor t.did.deed m.before m.after why × HasRisen t.did.deed why old new) turns
