-- Turns of actors on a hall, with stops of the machine between them.
use Rattle.std.specs.Prelude.{◌≡◌, ℕ, ◌≤◌, List, [], ◌∷◌, Option, Ok}
use Rattle.store_api.specs.Cause.{NoneFell}
use Rattle.store_api.specs.Disk.{History}
use Rattle.store_api.specs.Told.{Told, StopsAs}
use Rattle.steps.specs.Events.{Deed, event, reply_of, step_of}
use Rattle.steps.specs.declared.step.Reply.{Reply}
use Rattle.machine.specs.Machine.{Made, Restarted}
use Rattle.machine.specs.State.{Machine, inventory}
use Rattle.hall.specs.declared.turn.Turn.{Turn}
use Rattle.hall.specs.declared.turn.Turn.TheVariants.{Do, Stop}
use Rattle.hall.specs.Held.{Hall}
use Rattle.hall.specs.Opening.{Opens, OpensFiles}
use Rattle.hall.specs.Placed.{hall_places}
use Rattle.hall.specs.Steps.{Answers}

-- a store that a stop of this one left: it goes on counting
pub record Stopped {S : Type 0} (told : S → Option History) (moment : S → ℕ) (faults : S → ℕ → ℕ) (old new : S) : Type 0 where
  pub files : Told (told old) (told new) StopsAs
  pub clock : moment new ≡ moment old
  pub counts : NoneFell (faults old) (faults new)

-- A hall was opened over this store, which goes on counting.
pub record Reopens {S : Type 0} (told : S → Option History) (moment : S → ℕ) (faults : S → ℕ → ℕ) (store : S) (next : Hall S) : Type 0 where
  pub opens : Opens told moment faults store (Ok next)
  pub files : Told (told store) (told next.store) (OpensFiles (Ok next.held.vault))
  pub later : moment store ≤ moment next.store
  pub counts : NoneFell (faults store) (faults next.store)

-- ---- on the hall

-- These turns, one after the other, with these replies, led from the one hall to the other: each step is one of the hall's, and behind each stop it was opened again over what the stop left.
abbrev pub Plays : {S : Type 0} → (told : S → Option History) → (moment : S → ℕ) → (faults : S → ℕ → ℕ) → List Turn → List Reply → Hall S → Hall S → Type 0
Plays {S} told moment faults [] replies old new = (replies ≡ []) × (new ≡ old)
Plays {S} told moment faults (Do actor step ∷ turns) [] old new = ⊥
Plays {S} told moment faults (Do actor step ∷ turns) (reply ∷ replies) old new =
    (next : Hall S) × Answers told moment faults actor step reply old next × Plays told moment faults turns replies next new
Plays {S} told moment faults (Stop choice ∷ turns) replies old new =
    (store : S) × (next : Hall S) × Stopped told moment faults old.store store × Reopens told moment faults store next × Plays told moment faults turns replies next new

-- ---- as the machine

-- The machine stops and starts again: it goes on counting, behind a transaction that is at least the last with a stamp.
pub record Restarts (old new : Machine) : Type 0 where
  pub restarted : Restarted old new
  pub counts : NoneFell old.counts new.counts
  pub moment : old.moment ≤ new.moment

-- These turns with these replies are a run of the machine, with exact byte lists.
abbrev pub RunsTurns : List Turn → List Reply → Machine → Machine → Type 0
RunsTurns [] replies old new = (replies ≡ []) × (new ≡ old)
RunsTurns (Do actor step ∷ turns) [] old new = ⊥
RunsTurns (Do actor step ∷ turns) (reply ∷ replies) old new =
    (deed : Deed) × (next : Machine) × (step_of deed ≡ step) × (reply_of deed ≡ reply) × Made hall_places actor (event (inventory old.core).number deed) old next × RunsTurns turns replies next new
RunsTurns (Stop choice ∷ turns) replies old new = (next : Machine) × Restarts old next × RunsTurns turns replies next new
