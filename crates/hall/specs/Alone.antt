-- What one actor did on a hall that it has alone.
use Rattle.std.specs.Prelude.{◌≡◌, ◌⊎◌, ℕ, ◌+◌, ◌-◌, ◌^◌, nat_lt, ◌&&◌, Bool, true, false, List, [], ◌∷◌, Option, if◌then◌else◌}
use Rattle.std.specs.List.{AllByRecursion}
use Rattle.std.specs.Option.{option_map_or}
use Rattle.kinds.specs.declared.refusal.Refusal.{Refusal}
use Rattle.store_api.specs.Disk.{History}
use Rattle.steps.specs.Calls.{fails_object, risen}
use Rattle.steps.specs.Events.{Deed, Event}
use Rattle.steps.specs.Events.Deed.{ReadPiece}
use Rattle.machine.specs.Fits.{History as Run}
use Rattle.machine.specs.State.{Machine}
use Rattle.machine.specs.Turns.{GoesOn}
use Rattle.hall.specs.Covered.{WasThere}
use Rattle.hall.specs.Held.{Hall}
use Rattle.hall.specs.Steps.{Goes, Steps}

-- Each of these events is a step of the actor on the hall that the one before it left, behind the transaction that was the last by then.
abbrev pub Ran : {S : Type 0} → (told : S → Option History) → (moment : S → ℕ) → (faults : S → ℕ → ℕ) → (actor : ℕ) → List Event → Hall S → Hall S → Type 0
Ran {S} told moment faults actor [] old new = new ≡ old
Ran {S} told moment faults actor (e ∷ events) old new =
    (next : Hall S) × (e.n ≡ old.held.vault.database.number) × Steps told moment faults actor e.deed old next × Goes told old next × Ran told moment faults actor events next new

-- What an actor did who is lent a hall that it has alone: these events, the refused steps among them are counted, and it is still the same actor on the hall that it was lent. Which borrow of a hall that is
-- its ghost name tells.
abbrev pub Did : {S N : Type 0} → (told : S → Option History) → (moment : S → ℕ) → (faults : S → ℕ → ℕ) → (name : N) → (actor refused : ℕ) → (old : Hall S) → List Event → (name_after : N) → (actor_after refused_after : ℕ)
    → (new : Hall S) → Type 0
Did told moment faults name actor refused old events name_after actor_after refused_after new =
    (name_after ≡ name) × (actor_after ≡ actor) × (refused_after ≡ risen refused events) × Ran told moment faults actor events old new

-- a count of steps that were refused as those of an object that can't be moved or stored, behind one more that was refused so, or answered
abbrev pub raised : ℕ → Option Refusal → ℕ
raised count why = if option_map_or fails_object why false && nat_lt count (2 ^ 64 - 1) then count + 1 else count

-- ---- what it means

-- the step reads bytes of an object
abbrev pub is_read : Deed → Bool
is_read (ReadPiece object kept from offset wanted answer) = true
is_read _ = false

-- What was read are the machine's bytes: the store tells its bytes and was sound when the hall was opened, or nothing was read.
abbrev pub AreExact : (trusted : Type 0) → List Event → Type 0
AreExact trusted events = trusted ⊎ AllByRecursion (λ e. is_read e.deed ≡ false) events

-- A history goes on from here: it begins as the hall's does, and the objects that a database of the run had have the bytes there that they have here.
pub record Continues (m : Machine) (w : Run) : Type 0 where
  pub begins : GoesOn m.core w
  pub bytes : (object : ℕ) → WasThere m.core object → w.contents object ≡ m.contents object
