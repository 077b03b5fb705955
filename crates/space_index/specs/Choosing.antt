-- What the index says of the free space of a pool of random access.
use Rattle.std.specs.Prelude.{ℕ, ◌-◌, ◌==◌, Option, Some, None, unwrap_or, List, [], ◌++◌, map, sum, if◌then◌else◌}
use Rattle.std.specs.List.{flat_map}
use Rattle.std.specs.Map.{values_of}
use Rattle.pool_tables.specs.Rows.{row_at}
use Rattle.extent_map.specs.Blocks.{free_runs}
use Rattle.space.specs.declared.piece.Piece.{Piece}
use Rattle.space.specs.Pieces.{run_piece}
use Rattle.space_index.specs.declared.standing.Standing.{Standing}
use Rattle.space_index.specs.declared.random.RandomIndex.{RandomIndex}
use Rattle.space_index.specs.Listed.{rooms_at}

-- the free runs of a volume that is kept
abbrev pub pieces_of : ℕ → Option Standing → List Piece
pieces_of file None = []
pieces_of file (Some e) = map (run_piece file) (free_runs e.blocks.used)

abbrev pub pieces_on : RandomIndex → ℕ → List Piece
pieces_on i file = pieces_of file (row_at file i.files.entries)

-- of a volume that has room, where it is neither the preferred nor the avoided one
abbrev pub other_pieces : RandomIndex → ℕ → ℕ → ℕ × ℕ → List Piece
other_pieces i prefer avoid e = if e.0 == prefer then [] else if e.0 == avoid then [] else pieces_on i e.0

abbrev pub pieces_if : RandomIndex → ℕ → Option ℕ → List Piece
pieces_if i file None = []
pieces_if i file (Some room) = pieces_on i file

-- of the preferred volume, where it has room and isn't to be avoided
abbrev pub preferred_pieces : RandomIndex → ℕ → ℕ → ℕ → List Piece
preferred_pieces i number prefer avoid = if prefer == avoid then [] else pieces_if i prefer (row_at prefer (rooms_at number i.pools.entries))

-- the free space of a pool, the preferred volume first, and then by volume and block
abbrev pub listed_pieces : RandomIndex → ℕ → ℕ → ℕ → List Piece
listed_pieces i number prefer avoid =
    preferred_pieces i number prefer avoid ++ flat_map (other_pieces i prefer avoid) (rooms_at number i.pools.entries)

-- the room of a pool but for the avoided volume's
abbrev pub listed_room : RandomIndex → ℕ → ℕ → ℕ
listed_room i number avoid = sum (values_of (rooms_at number i.pools.entries)) - unwrap_or (row_at avoid (rooms_at number i.pools.entries)) 0
