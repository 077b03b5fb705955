-- Stamps that stay.
use Rattle.std.specs.Prelude.{◌≡◌, ℕ, List, ◌++◌}
use Rattle.machine.specs.State.{Core}

-- the stamps that were there stay, in front of those that were added
abbrev pub KeepsStamps : (old new : Core) → Type 0
KeepsStamps old new = (fresh : List ℕ) × (new.stamps ≡ old.stamps ++ fresh)
