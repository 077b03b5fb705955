-- A database within a transaction on data: what has to hold of it after each step.
use Rattle.std.specs.Prelude.{◌≡◌, ℕ, true, List}
use Rattle.kinds.specs.declared.segment.Segment.{Segment}
use Rattle.inventory_rules.specs.inventory_rows.State.{Inv}
use Rattle.inventory_rules.specs.Valid.{copies_cite}
use Rattle.inventory_rules.specs.Halfway.{VersionFacts, VolumeFacts}

-- The facts of the objects, where nothing was placed by a transaction behind the n-th; those of the volumes, with these segments pending; and
-- each copy lies on volumes of its pool.
pub record IsSteady (n : ℕ) (pending : List (ℕ × Segment)) (v : Inv) : Type 0 where
  pub versions : VersionFacts n v
  pub volumes : VolumeFacts pending v
  pub cite : copies_cite v ≡ true
