-- By which steps the transactions of a block joined.
use Rattle.std.specs.Prelude.{◌≡◌, ℕ, ◌+◌, List, [], ◌∷◌, Some}
use Rattle.entries.specs.declared.entry.Entry.{Entry}
use Rattle.machine.specs.Fits.{Joined}
use Rattle.machine.specs.Machine.{Places}
use Rattle.machine.specs.State.{Machine, sight}
use Rattle.machine.specs.Turns.{Turn}
use Rattle.block_results.specs.Refusing.{Meets}

-- The transaction behind this number joined by a step of these turns: one of its own actor, which was made at that number, and by which it joins over the state that the step met (`Joined` of machine).
pub record IsByStep (trusted : Type 0) (places : Places) (turns : List Turn) (old new : Machine) (n : ℕ) (x : Entry) : Type 0 where
  pub turn : Turn
  pub meets : Meets trusted places turns old new turn
  pub actor : x.actor ≡ turn.actor
  pub number : turn.did.n ≡ n
  pub joins : Joined (sight turn.actor meets.before.core) turn.did.deed (Some x.change)

-- So is each of these, which stand behind this number. No actor has a transaction among them but by a step of its own.
abbrev pub AreBySteps : (trusted : Type 0) → Places → List Turn → (old new : Machine) → (n : ℕ) → List Entry → Type 0
AreBySteps trusted places turns old new n [] = Unit {0}
AreBySteps trusted places turns old new n (x ∷ entries) = IsByStep trusted places turns old new n x × AreBySteps trusted places turns old new (n + 1) entries
