-- What it means that places have nothing in common.
use Rattle.std.specs.Prelude.{◌≢◌, ◌≤◌, ◌⊎◌, List, [], ◌∷◌}
use Rattle.std.specs.List.{AllByRecursion}
use Rattle.space.specs.declared.places.Placed.{Placed}
use Rattle.space_laws.specs.Ending.{end_of_place}

-- a place lies on another volume than a later one, or its frame ends where that begins, or before
abbrev pub IsBefore : Placed → Placed → Type 0
IsBefore p q = (p.segment.file ≢ q.segment.file) ⊎ (end_of_place p ≤ q.segment.offset)

-- no two of them have a byte in common
abbrev pub AllApart : List Placed → Type 0
AllApart [] = Unit {0}
AllApart (p ∷ places) = AllByRecursion (IsBefore p) places × AllApart places
