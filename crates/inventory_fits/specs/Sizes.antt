-- How many bytes segments have.
use Rattle.std.specs.Prelude.{ℕ, Bool, ◌==◌, List}
use Rattle.std.specs.List.{sum_by}
use Rattle.kinds.specs.declared.segment.Segment.{Segment}

-- so many bytes in all
abbrev pub have_bytes : ℕ → List Segment → Bool
have_bytes size segments = sum_by (λ s. s.len) segments == size
