-- The segments that each volume's row holds are those of the copies.
use Rattle.std.specs.Prelude.{◌≡◌, ℕ, List, [], ◌∷◌}
use Rattle.std.specs.List.{AllByRecursion}
use Rattle.kinds.specs.declared.segment.Segment.{Segment}
use Rattle.inventory_rows.specs.volume_rows.declared.held.HeldSegment.{HeldSegment}
use Rattle.inventory_rows.specs.volume_rows.Held.{held_of}
use Rattle.inventory_rows.specs.volume_rows.Holdings.{with_segment}
use Rattle.inventory_rows.specs.Search.{segments_on}
use Rattle.inventory_rows.specs.State.{Inv}

-- a volume's row that holds these segments, each of an object
abbrev pub holding : List (ℕ × Segment) → List (HeldSegment × ℕ)
holding [] = []
holding (s ∷ segments) = with_segment (held_of s.0 s.1) (holding segments)

-- each volume's row holds the segments of the copies that lie on it, and no others
abbrev pub IsTied : Inv → Type 0
IsTied v = AllByRecursion (λ f. f.1.segments ≡ holding (segments_on f.0 v)) v.stores.volumes
