-- What a function that takes a value from a reader returned and left, seen from what reading its form gives.
use Rattle.std.specs.Prelude.{◌≡◌, ℕ, List, Option, Some, None, Result, Ok, Err}
use Rattle.fields.specs.declared.errors.Fault.{Fault}
use Rattle.fields.specs.declared.errors.Fault.TheVariants.{Malformed, Memory}

-- malformed only where reading gives none
abbrev pub Fails : {X : Type 0} → Fault → Option X → Type 0
Fails Malformed read = read ≡ None
Fails Memory read = Unit {0}

-- the value, seen by view, and the bytes that are left are what reading gives
abbrev pub GivesBy : {X Y : Type 0} → (Y → X) → Result Y Fault → List ℕ → Option (X × List ℕ) → Type 0
GivesBy view (Ok y) rest read = read ≡ Some (view y, rest)
GivesBy view (Err fault) rest read = Fails fault read

-- the same of a value that is seen as it is
abbrev pub Gives : {X : Type 0} → Result X Fault → List ℕ → Option (X × List ℕ) → Type 0
Gives result rest read = GivesBy (λ x. x) result rest read
