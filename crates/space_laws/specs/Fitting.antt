-- What it means that free space is lawful.
use Rattle.std.specs.Prelude.{◌≡◌, ◌≤◌, ℕ, true, List}
use Rattle.entries.specs.change_items.declared.items.MovedCopy.{MovedCopy}
use Rattle.inventory_rows.specs.State.{Inv}
use Rattle.inventory_rules.specs.Segments.{segment_fits_after}
use Rattle.space.specs.declared.piece.Piece.{Piece}
use Rattle.space.specs.Lawful.{segment_in}

-- a segment at the beginning of a piece, of any length that the piece has room for, fits in a copy in this pool, whichever copies move
abbrev pub FitsThere : Inv → ℕ → Piece → Type 0
FitsThere v number p = (moved : List MovedCopy) (len : ℕ) → len ≤ p.room → segment_fits_after moved v number (segment_in p len) ≡ true
