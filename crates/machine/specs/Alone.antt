-- What one actor does who has the machine alone.
use Rattle.std.specs.Prelude.{◌≡◌, ℕ, List, [], ◌∷◌}
use Rattle.steps.specs.Events.{Deed, Event}
use Rattle.steps.specs.Events.Deed.{ReadPiece}
use Rattle.machine.specs.Machine.{Made, Places}
use Rattle.machine.specs.State.{Machine}

-- the same machine with these bytes of its objects
abbrev pub with_contents : (ℕ → List ℕ) → Machine → Machine
with_contents contents m = record m { contents = contents }

-- The bytes of objects of which a step speaks are the machine's. Those that are read are so where the store is trusted to have them; of another store they are whatever was read, and each
-- read by itself.
abbrev pub AreBytes : (trusted : Type 0) → Deed → (contents seen : ℕ → List ℕ) → Type 0
AreBytes trusted (ReadPiece object kept from offset wanted answer) contents seen = trusted → seen ≡ contents
AreBytes trusted _ contents seen = seen ≡ contents

-- behind a read the machine's bytes are what they were
abbrev pub behind : Deed → (contents : ℕ → List ℕ) → Machine → Machine
behind (ReadPiece object kept from offset wanted answer) contents m = with_contents contents m
behind _ contents m = m

-- One step of the actor led from the one state to the other, by the machine's case. `trusted` says that the store has the very bytes of the machine's objects.
pub record Moves (trusted : Type 0) (places : Places) (actor : ℕ) (e : Event) (old new : Machine) : Type 0 where
  pub seen : ℕ → List ℕ
  pub next : Machine
  pub bytes : AreBytes trusted e.deed old.contents seen
  pub made : Made places actor e (with_contents seen old) next
  pub left : new ≡ behind e.deed old.contents next

-- These steps of the actor led from the one state to the other, one after the other, and nobody made another between them.
abbrev pub Alone : (trusted : Type 0) → Places → (actor : ℕ) → List Event → Machine → Machine → Type 0
Alone trusted places actor [] old new = new ≡ old
Alone trusted places actor (e ∷ events) old new = (next : Machine) × Moves trusted places actor e old next × Alone trusted places actor events next new
