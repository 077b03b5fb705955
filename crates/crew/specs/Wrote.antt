-- What a ticket took, as the events of its actor tell it, and that the tickets have it.
use Rattle.std.specs.Prelude.{◌≡◌, ℕ, ◌==◌, true, false, List, [], ◌∷◌, ◌++◌, Option, None, Some, Ok, if◌then◌else◌}
use Rattle.std.specs.List.{AllByRecursion}
use Rattle.sha2.specs.Hashers.{Holds256}
use Rattle.sha2.specs.declared.Sha256.{Sha256}
use Rattle.store_api.specs.Disk.{History}
use Rattle.steps.specs.Events.{Deed, Event}
use Rattle.steps.specs.Events.Deed.{OpenNew, WritePiece, CopyPiece}
use Rattle.machine.specs.State.{Core, Machine, Ticket, is_storing, own_tickets}
use Rattle.machine.specs.Turns.{Turn, events_of}
use Rattle.hall.specs.Good.{Is}
use Rattle.hall.specs.Held.{Hall}

-- these bytes behind others, where these are known
abbrev pub then_bytes : List ℕ → Option (List ℕ) → Option (List ℕ)
then_bytes bytes None = None
then_bytes bytes (Some taken) = Some (taken ++ bytes)

-- What the ticket with this number took, behind a step. A new object's ticket that is opened took nothing, and a piece that is written is behind what it took; of a copy's nothing is said.
abbrev pub taken_behind : (number : ℕ) → Option (List ℕ) → Deed → Option (List ℕ)
taken_behind number taken (OpenNew pool size prefer (Ok ticket)) = if ticket == number then Some [] else taken
taken_behind number taken (WritePiece ticket bytes (Ok count)) = if ticket == number then then_bytes bytes taken else taken
taken_behind number taken (CopyPiece ticket (Ok count)) = if ticket == number then None else taken
taken_behind number taken _ = taken

-- and behind several
abbrev pub taken_from : (number : ℕ) → Option (List ℕ) → List Event → Option (List ℕ)
taken_from number taken [] = taken
taken_from number taken (e ∷ events) = taken_from number (taken_behind number taken e.deed) events

-- what an actor's events tell of the ticket with this number
abbrev pub taken : (number : ℕ) → List Event → Option (List ℕ)
taken number events = taken_from number None events

-- The hasher holds what these events tell of the ticket.
abbrev pub HoldsTaken : (number : ℕ) → List Event → Sha256 → Type 0
HoldsTaken number events hasher = (bytes : List ℕ) × (taken number events ≡ Some bytes) × Holds256 hasher bytes

-- It holds that, and a piece behind it.
abbrev pub HoldsAhead : (number : ℕ) → List Event → (piece : List ℕ) → Sha256 → Type 0
HoldsAhead number events piece hasher = (bytes : List ℕ) × (taken number events ≡ Some bytes) × Holds256 hasher (bytes ++ piece)

-- where a ticket is the actor's with this number, and a new object's that takes more, it has these bytes
abbrev pub HasBytes : (actor number : ℕ) → List ℕ → Ticket → Type 0
HasBytes actor number bytes t = t.actor ≡ actor → t.number ≡ number → is_storing t.purpose ≡ true → t.is_sealed ≡ false → t.bytes ≡ bytes

-- each ticket has what these turns tell of it
abbrev pub HaveTaken : List Turn → Core → Type 0
HaveTaken turns c =
    (actor number : ℕ) (bytes : List ℕ) → taken number (events_of actor turns) ≡ Some bytes → AllByRecursion (HasBytes actor number bytes) (own_tickets actor c.tickets)

-- The hall is in a state of the machine whose tickets have what these turns tell of them.
abbrev pub IsAsTold : {S : Type 0} → (told : S → Option History) → (moment : S → ℕ) → (faults : S → ℕ → ℕ) → List Turn → Hall S → Type 0
IsAsTold told moment faults turns hall = (m : Machine) × Is told moment faults hall m × HaveTaken turns m.core
