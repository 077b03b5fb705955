-- Words are read one after the other.
use Rattle.std.proofs.Common.{◌++◌, ℕ, List, Option, None, Some}

-- numbers that were read, in front of those that are still to be read
abbrev pub behind : List ℕ → Option (List ℕ) → Option (List ℕ)
behind done None = None
behind done (Some more) = Some (done ++ more)
