-- What segments that go leave of the storage pools' rows.
use Rattle.std.specs.Prelude.{ℕ, List, [], ◌∷◌}
use Rattle.kinds.specs.declared.segment.Segment.{Segment}
use Rattle.inventory_rows.specs.version_groups.declared.copies.CopyRow.{CopyRow}
use Rattle.inventory_rows.specs.pool_rows.PoolRows.{PoolRows}
use Rattle.inventory_rows.specs.pool_rows.Segments.{take_segment}
use Rattle.inventory_rules.specs.Common.{or_same}

-- the segments of an object's copy go from their volumes today
abbrev pub taken : ℕ → List Segment → ℕ → PoolRows → PoolRows
taken object [] today s = s
taken object (x ∷ segments) today s = taken object segments today (or_same s (take_segment object x today s))

-- the segments of some copies of an object go
abbrev pub all_taken : ℕ → List CopyRow → ℕ → PoolRows → PoolRows
all_taken object [] today s = s
all_taken object (c ∷ copies) today s = all_taken object copies today (taken object c.segments today s)
