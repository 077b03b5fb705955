-- Where tickets' segments end on volumes as they are seen.
use Rattle.std.specs.Prelude.{◌≡◌, ◌≤◌, ◌+◌, ℕ, Some, List}
use Rattle.pool_tables.specs.Rows.{row_at}
use Rattle.space.specs.declared.places.Placed.{Placed}
use Rattle.space.specs.declared.site.Site.{Site}

-- the place on the volume behind a segment's frame
abbrev pub end_of_place : Placed → ℕ
end_of_place p = p.segment.offset + 32 + p.segment.len

-- the volume of the place is there, and what is written next begins behind the segment
abbrev pub EndsBefore : List (ℕ × Site) → Placed → Type 0
EndsBefore volumes p = (site : Site) × (row_at p.segment.file volumes ≡ Some site) × (end_of_place p ≤ site.end)
