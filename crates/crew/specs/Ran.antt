-- What several actors did on a hall, one step after the other.
use Rattle.std.specs.Prelude.{◌≡◌, ◌⊎◌, ℕ, ◌≤◌, false, List, [], ◌∷◌, Option, Some}
use Rattle.std.specs.List.{AllByRecursion}
use Rattle.store_api.specs.Disk.{History}
use Rattle.hall.specs.Alone.{Continues, is_read}
use Rattle.hall.specs.Held.{Hall, Held}
use Rattle.hall.specs.Steps.{Goes, Steps}
use Rattle.machine.specs.Alone.{Moves}
use Rattle.machine.specs.Fits.{Fits, History as Run}
use Rattle.machine.specs.Machine.{Places}
use Rattle.machine.specs.State.{Machine, inventory}
use Rattle.machine.specs.Turns.{Turn, events_of, own_in}

-- Each of these turns is a step of its actor on the hall that the one before it left, behind the transaction that was the last by then.
abbrev pub Ran : {S : Type 0} → (told : S → Option History) → (moment : S → ℕ) → (faults : S → ℕ → ℕ) → List Turn → Hall S → Hall S → Type 0
Ran {S} told moment faults [] old new = new ≡ old
Ran {S} told moment faults (t ∷ turns) old new =
    (next : Hall S) × (t.did.n ≡ old.held.vault.database.number) × Steps told moment faults t.actor t.did.deed old next × Goes told old next × Ran told moment faults turns next new

-- What a hall is, apart from its store's type: what it holds, and what the store tells.
pub record Began : Type 0 where
  pub held : Held
  pub told : Option History
  pub moment : ℕ
  pub faults : ℕ → ℕ

abbrev pub began : {S : Type 0} → (told : S → Option History) → (moment : S → ℕ) → (faults : S → ℕ → ℕ) → Hall S → Began
began told moment faults hall = record { held = hall.held; told = told hall.store; moment = moment hall.store; faults = faults hall.store }

-- from such a hall these turns led here
abbrev pub RanFrom : {S : Type 0} → (told : S → Option History) → (moment : S → ℕ) → (faults : S → ℕ → ℕ) → Option Began → List Turn → Hall S → Type 0
RanFrom {S} told moment faults first turns new = (old : Hall S) × (first ≡ Some (began told moment faults old)) × Ran told moment faults turns old new

-- These turns of several actors led from the one state of the machine to the other, one after the other, each by the machine's case. `trusted` says that the store has the very bytes of the machine's objects;
-- of another store what is read is whatever was read, and each read by itself.
abbrev pub Turned : (trusted : Type 0) → Places → List Turn → Machine → Machine → Type 0
Turned trusted places [] old new = new ≡ old
Turned trusted places (t ∷ turns) old new = (next : Machine) × Moves trusted places t.actor t.did old next × Turned trusted places turns next new

-- What was read are the machine's bytes: the store tells its bytes and was sound when the hall was opened, or nobody read.
abbrev pub ReadExactly : (trusted : Type 0) → List Turn → Type 0
ReadExactly trusted turns = trusted ⊎ AllByRecursion (λ t. is_read t.did.deed ≡ false) turns

-- What each actor did in these turns, which led from the one state of the machine to the other, fits every history that goes on from behind them: each of its steps was made on the database of its number, and what joined
-- by it stands in the history.
abbrev pub EachFits : List Turn → (old last : Machine) → Type 0
EachFits turns old last =
    (w : Run) → Continues last w → (actor reached : ℕ) → reached ≤ (inventory old.core).number
    → (n : ℕ) × (n ≤ (inventory last.core).number) × Fits w actor (own_in actor reached old.core) (events_of actor turns) (own_in actor n last.core)
