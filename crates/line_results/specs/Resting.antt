-- The machine between the lines of a script, where one actor has it alone, and what a line may do to it.
use Rattle.std.specs.Prelude.{◌≡◌, ◌⊎◌, ℕ, ◌+◌, Bool, true, false, ◌<◌, ◌≤◌, List, [], ◌∷◌, ◌++◌, length, Option, None, Some, Result, Ok, Err}
use Rattle.std.specs.List.{AllByRecursion}
use Rattle.store_api.specs.Cause.{NoneFell}
use Rattle.kinds.specs.Refusals.{foremost}
use Rattle.kinds.specs.declared.refusal.Holder.{Holder}
use Rattle.kinds.specs.declared.refusal.Holder.TheVariants.{Unforced}
use Rattle.kinds.specs.declared.refusal.Refusal.{Refusal}
use Rattle.kinds.specs.declared.refusal.Refusal.TheVariants.{Busy, LogFault, Memory, RunFull}
use Rattle.entries.specs.declared.change.Change.{Change}
use Rattle.entries.specs.declared.entry.Entry.{Entry}
use Rattle.inventory_rows.specs.Search.{versions}
use Rattle.inventory_rows.specs.State.{Inv}
use Rattle.space.specs.declared.aim.Aim.{Aim}
use Rattle.steps.specs.Events.{has_number}
use Rattle.machine.specs.Causes.{change_refused}
use Rattle.machine.specs.Machine.{Places, Space, last_moment, made, records_length, stamped}
use Rattle.machine.specs.Pieces.{RoseAt}
use Rattle.machine.specs.State.{Core, Machine, inventory, sight}

-- Between two lines nothing is in progress: there is no ticket and no image, each transaction is durable, and no fault has halted the machine.
pub record IsAtRest (c : Core) : Type 0 where
  pub tickets : c.tickets ≡ []
  pub image : c.image ≡ None
  pub durable : length c.stamps ≡ length c.journal
  pub fault : c.fault ≡ None

-- the database
abbrev pub database : Machine → Inv
database m = inventory m.core

-- from this moment on no step is begun
abbrev pub IsLate : Machine → Type 0
IsLate m = last_moment ≤ m.moment

-- the count of a file's faults rose from the one to the other
abbrev pub RoseFrom : Machine → Machine → ℕ → Type 0
RoseFrom old new file = RoseAt old.counts new.counts file

-- the script's own transactions have the actor 0
abbrev pub entry : Change → Entry
entry c = record { actor = 0; change = c }

-- why a change isn't made: it isn't legal, or its record would have more than 2^24 bytes
abbrev pub why_not : Change → Core → Option Refusal
why_not c core = foremost (change_refused 0 (Some c) (sight 0 core))

-- These transactions were made, oldest first, behind those that were there.
pub record Adds (added : List Entry) (old new : Machine) : Type 0 where
  pub base : new.core.base ≡ old.core.base
  pub journal : new.core.journal ≡ old.core.journal ++ added

-- The one state comes no earlier than the other: no file's count of faults fell, and the moment didn't.
pub record Onward (old new : Machine) : Type 0 where
  pub counts : NoneFell old.counts new.counts
  pub since : old.moment ≤ new.moment

-- the newest image is the one that was there
abbrev pub SameImage : (old new : Machine) → Type 0
SameImage old new = new.core.generation ≡ old.core.generation

-- the bytes of the objects are those that they had
abbrev pub SameBytes : (old new : Machine) → Type 0
SameBytes old new = new.contents ≡ old.contents

-- where the log ends: behind the records of the transactions that were made, or in front of any, where a new image was made
abbrev pub LogEnds : (added : List Entry) → (old new : Machine) → Type 0
LogEnds added old new =
    (SameImage old new × (new.core.log_length ≡ old.core.log_length + records_length added))
    ⊎ ((new.core.generation ≡ old.core.generation + 1) × (new.core.log_length ≡ 0))

-- each kept object has as many bytes as its version says
abbrev pub HasSizes : Machine → Type 0
HasSizes m = AllByRecursion (λ w. length (m.contents w.object) ≡ w.size) (versions (database m))

-- where all tickets are the actor's own, nothing has to be waited for but a transaction that waits for its force, and only where there is one
abbrev pub NobodyHolds : Places → Type 0
NobodyHolds places =
    (v : Inv) (s : Space) (actor size : ℕ) (a : Aim) (prefer avoid : ℕ) (h : Holder) → AllByRecursion (λ t. t.actor ≡ actor) s.tickets → places v s actor size a prefer avoid (Err (Busy h))
    → ((number : ℕ) × (h ≡ Unforced number)) × (s.freed ≡ [] → ⊥)

-- where an object goes nowhere, that ends no run
abbrev pub EndsNoRun : Places → Type 0
EndsNoRun places =
    (v : Inv) (s : Space) (actor size : ℕ) (a : Aim) (prefer avoid : ℕ) (e : Refusal) → places v s actor size a prefer avoid (Err e) → has_number (40 ∷ 41 ∷ 50 ∷ []) e ≡ false

-- the change was made and is durable, and nothing else changed
abbrev pub Makes : Change → Machine → Machine → Type 0
Makes c old new = (moment : ℕ) × (new.core ≡ stamped moment (made 0 c old.core)) × (new.contents ≡ old.contents) × Onward old new

-- why a run ends: the count of a log or an image rose, the moment is all but the last, or memory was wanted
abbrev pub EndsRun : (old new : Machine) → Refusal → Type 0
EndsRun old new (LogFault file count) = (file < 4) × RoseFrom old new file
EndsRun old new RunFull = IsLate new
EndsRun old new Memory = Unit {0}
EndsRun old new e = ⊥

-- A call ended the run before it made a transaction.
abbrev pub Breaks : {A : Type 0} → (old new : Machine) → Result A Refusal → (added : List Entry) → Type 0
Breaks old new (Ok x) added = ⊥
Breaks old new (Err e) added = EndsRun old new e × (added ≡ [])

-- A change was made; or it is refused by what refuses it; or the run ended, before or behind it.
abbrev pub Commits : {A : Type 0} → Change → (old new : Machine) → Result A Refusal → (added : List Entry) → Type 0
Commits c old new (Ok x) added = (why_not c old.core ≡ None) × (added ≡ entry c ∷ [])
Commits c old new (Err e) added =
    ((why_not c old.core ≡ Some e) × (added ≡ []))
    ⊎ (EndsRun old new e × ((added ≡ []) ⊎ ((why_not c old.core ≡ None) × (added ≡ entry c ∷ []))))

-- ---- what every call leaves

-- the run ended: the fault of a log or an image, a full run, want of memory
abbrev pub has_ended : {A : Type 0} → Result A Refusal → Bool
has_ended (Ok x) = false
has_ended (Err e) = has_number (40 ∷ 41 ∷ 50 ∷ []) e

-- it ended by a fault, or because it was full
abbrev pub has_broken : {A : Type 0} → Result A Refusal → Bool
has_broken (Ok x) = false
has_broken (Err e) = has_number (40 ∷ 41 ∷ []) e

-- all transactions but the newest have a stamp, if not all
abbrev pub IsNearlyDurable : Core → Type 0
IsNearlyDurable c = length c.journal ≤ length c.stamps + 1

-- What a call leaves that answered so and made these transactions. Unless the run ended, the machine is at rest again; and each transaction is durable unless a fault or a full run ended it,
-- or memory was wanted behind one that was made; but for the newest each one is in any case.
pub record Leaves {A : Type 0} (result : Result A Refusal) (added : List Entry) (old new : Machine) : Type 0 where
  pub adds : Adds added old new
  pub onward : Onward old new
  pub log : LogEnds added old new
  pub nearly : IsNearlyDurable new.core
  pub rests : has_ended result ≡ false → IsAtRest new.core
  pub durable : has_broken result ≡ false → (length new.core.stamps ≡ length new.core.journal) ⊎ ((has_ended result ≡ true) × (added ≡ [] → ⊥))
