-- Runs of the machine, of any actors in one order, and what of them is one actor's.
use Rattle.std.specs.Prelude.{◌≡◌, ℕ, ◌==◌, true, is_some, List, [], ◌∷◌, ◌++◌, if◌then◌else◌}
use Rattle.steps.specs.entries.declared.entry.Entry.{Entry}
use Rattle.steps.specs.inventory_rows.Search.{version}
use Rattle.steps.specs.Events.{Event}
use Rattle.machine.specs.Fits.{History, Own}
use Rattle.machine.specs.Machine.{Made, Places}
use Rattle.machine.specs.State.{Core, Machine, inventory, own_image, own_tickets}

-- a step of an actor
pub record Turn : Type 0 where
  pub actor : ℕ
  pub did : Event

-- the objects that are kept have the bytes that they have in the history
abbrev pub Agrees : History → Machine → Type 0
Agrees w m = (object : ℕ) → is_some (version object (inventory m.core)) ≡ true → w.contents object ≡ m.contents object

-- the machine makes these steps, one after the other, and before and behind each of them the kept objects have the history's bytes
abbrev pub Runs : Places → History → Machine → List Turn → Machine → Type 0
Runs places w old [] new = (new ≡ old) × Agrees w old
Runs places w old (t ∷ turns) new = (next : Machine) × Made places t.actor t.did old next × Agrees w old × Runs places w next turns new

-- what one actor did
abbrev pub events_of : ℕ → List Turn → List Event
events_of actor [] = []
events_of actor (t ∷ turns) = if t.actor == actor then t.did ∷ events_of actor turns else events_of actor turns

-- the history begins as the hall's does: with its base, and all its transactions
pub record GoesOn (c : Core) (w : History) : Type 0 where
  pub base : w.base ≡ c.base
  pub rest : List Entry
  pub journal : w.journal ≡ c.journal ++ rest

-- what an actor has in the hall, and the number behind its last step
abbrev pub own_in : (actor reached : ℕ) → Core → Own
own_in actor reached c = record { reached = reached; tickets = own_tickets actor c.tickets; image = own_image actor c.image }
