-- Turns from an opening on, and what a process did whose actor has a hall alone.
use Rattle.std.specs.Prelude.{◌≡◌, ◌++◌, ℕ, List, Option, Some, IfSome}
use Rattle.store_api.specs.Disk.{History, now, reads}
use Rattle.steps.specs.Events.{Event}
use Rattle.steps.specs.declared.step.Reply.{Reply}
use Rattle.inventory.specs.Meant.{meaning}
use Rattle.inventory_rows.specs.State.{Inv}
use Rattle.vault.specs.Recovery.{Recovers}
use Rattle.machine.specs.State.{Machine}
use Rattle.hall.specs.declared.turn.Turn.{Turn}
use Rattle.hall.specs.Alone.{Ran}
use Rattle.hall.specs.Good.{Is, IsKept}
use Rattle.hall.specs.Held.{Hall}
use Rattle.hall.specs.Plays.{Plays, Reopens, RunsTurns}
use Rattle.hall.specs.Protected.{AlwaysBacked, HadBackups}

-- a hall was opened over this store, and these turns with these replies led from it to this one
abbrev pub PlaysFrom : {S : Type 0} → (told : S → Option History) → (moment : S → ℕ) → (faults : S → ℕ → ℕ) → (store : S) → List Turn → List Reply → Hall S → Type 0
PlaysFrom {S} told moment faults store turns replies hall = (first : Hall S) × Reopens told moment faults store first × Plays told moment faults turns replies first hall

-- The turns with these replies were a run of the machine with exact byte lists, from a state of a hall that was opened over this store, in which the objects have these contents, to one of this hall.
abbrev pub RunsFrom : {S : Type 0} → (told : S → Option History) → (moment : S → ℕ) → (faults : S → ℕ → ℕ) → (store : S) → (contents : ℕ → List ℕ) → List Turn → List Reply → Hall S → Type 0
RunsFrom {S} told moment faults store contents turns replies hall =
    (first : Hall S) × (start : Machine) × (last : Machine) × Reopens told moment faults store first × Is told moment faults first start × (start.contents ≡ contents)
    × RunsTurns turns replies start last × Is told moment faults hall last

-- the store has the backups of the database to which its files recover
abbrev pub HasOwnBackups : History → Type 0
HasOwnBackups h = (v : Inv) → Recovers meaning (reads h) v → HadBackups v (now h) h

-- each image that a stop may leave now backs the database to which it recovers
abbrev pub IsBacked : History → Type 0
IsBacked h = AlwaysBacked (now h) h

-- it had those of the hall's base when that was opened
abbrev pub HadOwnBackups : {S : Type 0} → (told : S → Option History) → Hall S → Type 0
HadOwnBackups told hall = IfSome (told hall.store) (HadBackups hall.held.base hall.held.opened)

-- The store tells its bytes, and at every moment since the hall was opened each image that a stop may leave is safe. Where `has` is true it had the backups of the hall's base when that was opened, so that each of these images keeps those of its own
-- database.
abbrev pub IsSafeHall : {S : Type 0} → (told : S → Option History) → (moment : S → ℕ) → (faults : S → ℕ → ℕ) → (has : Type 0) → Hall S → Type 0
IsSafeHall told moment faults has hall = (m : Machine) × (h : History) × (told hall.store ≡ Some h) × Is told moment faults hall m × IsKept m hall.held h × (has → HadOwnBackups told hall)

-- so it is of the hall between any two of the turns, and before the first and behind the last one
abbrev pub AreSafe : {S : Type 0} → (told : S → Option History) → (moment : S → ℕ) → (faults : S → ℕ → ℕ) → (has : Type 0) → (store : S) → List Turn → List Reply → Hall S → Type 0
AreSafe {S} told moment faults has store turns replies last =
    (front back : List Turn) → turns ≡ front ++ back
    → (hall : Hall S) × (said : List Reply) × (rest : List Reply) × (replies ≡ said ++ rest) × PlaysFrom told moment faults store front said hall × Plays told moment faults back rest hall last
    × IsSafeHall told moment faults has hall

-- ---- one actor

-- What a process came to whose actor has the hall alone: these events, each of them a step of this actor on the hall that the one before it left, led from the one hall to the other, and this holds of them.
abbrev pub CameTo : {S : Type 0} → (told : S → Option History) → (moment : S → ℕ) → (faults : S → ℕ → ℕ) → (actor : ℕ) → (Of : List Event → Type 0) → Hall S → Hall S → Type 0
CameTo told moment faults actor Of old new = (events : List Event) × Ran told moment faults actor events old new × Of events
