-- The free space of one pool, piece by piece, in the order in which it is used.
use Rattle.std.specs.Prelude.{ℕ, ◌+◌, ◌-◌, ◌*◌, ◌/◌, ◌==◌, ◌&&◌, ◌||◌, not, zero, suc, Bool, nat_le, Option, Some, None, List, [], ◌∷◌, ◌++◌, map, if◌then◌else◌}
use Rattle.std.specs.List.{flat_map, list_any, range_with_len}
use Rattle.kinds.specs.declared.segment.Segment.{Segment}
use Rattle.pool_rows.specs.volume_rows.declared.volume.Volume.{Volume}
use Rattle.pool_rows.specs.pool_tables.Rows.{row_at}
use Rattle.pool_rows.specs.pool_tables.declared.pool.Pool.{Pool}
use Rattle.pool_rows.specs.PoolRows.{PoolRows, pool_capacity}
use Rattle.extent_map.specs.declared.extents.Run.{Run}
use Rattle.extent_map.specs.Bits.{is_between}
use Rattle.extent_map.specs.Blocks.{free_runs, room_in}
use Rattle.space.specs.declared.places.Placed.{Placed}
use Rattle.space.specs.declared.piece.Piece.{Piece}
use Rattle.space.specs.declared.site.Site.{Site}
use Rattle.space.specs.declared.counted.Counted.{Counted}
use Rattle.space.specs.declared.turn.Turn.{Turn}
use Rattle.space.specs.declared.turn.Turn.TheVariants.{Preferred, Filling, Empty}
use Rattle.space.specs.Claims.{on_volume}
use Rattle.space.specs.Volumes.{site_of, sites, has_tail, is_filling, is_empty, is_held, is_open, scratch_count}

-- ---- volumes of random access

-- the segments of copies on a volume
abbrev pub copies_on : ℕ × Volume → List Segment
copies_on f = map (λ e. record { file = f.0; offset = e.0.offset; len = e.0.len }) f.1.segments

-- what lies on it of what counts as used beside the copies
abbrev pub claims_on : ℕ → Counted → List Segment
claims_on file c = on_volume file c.own ++ (on_volume file c.others ++ on_volume file c.freed)

-- a segment's frame, its header of 32 bytes and its data, uses a block
abbrev pub covers : ℕ → Segment → Bool
covers block s = is_between (s.offset / 4096) ((s.offset + 32 + s.len + 4095) / 4096) block

-- which of so many blocks these segments use
abbrev pub blocks_used : ℕ → List Segment → List Bool
blocks_used count segments = map (λ block. list_any (covers block) segments) (range_with_len 0 count)

-- all segments on the volume that count
abbrev pub segments_on : Counted → ℕ × Volume → List Segment
segments_on c f = copies_on f ++ claims_on f.0 c

-- which blocks of the volume count as used
abbrev pub used_on : Counted → ℕ × Volume → List Bool
used_on c f = blocks_used (f.1.capacity / 4096) (segments_on c f)

-- a run of free blocks is a piece: a frame's header, and the data
abbrev pub run_piece : ℕ → Run → Piece
run_piece file r = record { file = file; offset = 4096 * r.first; room = room_in r }

-- the maximal runs of free blocks of a volume
abbrev pub free_pieces : Counted → ℕ × Volume → List Piece
free_pieces c f = map (run_piece f.0) (free_runs (used_on c f))

-- those of a volume of a pool, where it may be used
abbrev pub open_pieces : ℕ → ℕ → Counted → ℕ × Volume → List Piece
open_pieces number avoid c f = if is_open number avoid (f.0, site_of f.1) then free_pieces c f else []

abbrev pub preferred_pieces : ℕ → ℕ → ℕ → Counted → ℕ × Volume → List Piece
preferred_pieces number prefer avoid c f = if f.0 == prefer then open_pieces number avoid c f else []

abbrev pub other_pieces : ℕ → ℕ → ℕ → Counted → ℕ × Volume → List Piece
other_pieces number prefer avoid c f = if f.0 == prefer then [] else open_pieces number avoid c f

-- those of a pool of random access, by volume and by block; the preferred volume comes first
abbrev pub random_pieces : ℕ → ℕ → ℕ → Counted → PoolRows → List Piece
random_pieces number prefer avoid c s =
    flat_map (preferred_pieces number prefer avoid c) s.volumes ++ flat_map (other_pieces number prefer avoid c) s.volumes

-- ---- sequential volumes

-- behind the end of a volume
abbrev pub tail_piece : ℕ × Site → Piece
tail_piece f = record { file = f.0; offset = f.1.end; room = f.1.capacity - f.1.end - 32 }

-- a volume comes in its turn: the preferred one where it is FILLING or EMPTY, others by which of both they are
abbrev pub is_in_turn : Turn → ℕ → ℕ × Site → Bool
is_in_turn Preferred prefer f = f.0 == prefer && (is_filling f.1 || is_empty f.1)
is_in_turn Filling prefer f = not (f.0 == prefer) && is_filling f.1
is_in_turn Empty prefer f = not (f.0 == prefer) && is_empty f.1

-- the space behind a volume's end, where it may be used, no other actor's ticket has space there, it comes in this turn, and it isn't FULL
abbrev pub tail_in : Turn → ℕ → ℕ → ℕ → List Placed → ℕ × Site → List Piece
tail_in turn number prefer avoid others f =
    if is_open number avoid f && (not (is_held f.0 others) && (is_in_turn turn prefer f && has_tail f.1)) then tail_piece f ∷ [] else []

abbrev pub tails_in : Turn → ℕ → ℕ → ℕ → List Placed → List (ℕ × Site) → List Piece
tails_in turn number prefer avoid others volumes = flat_map (tail_in turn number prefer avoid others) volumes

-- by volume, FILLING before EMPTY; the preferred volume comes first
abbrev pub tails : ℕ → ℕ → ℕ → List Placed → List (ℕ × Site) → List Piece
tails number prefer avoid others volumes =
    tails_in Preferred number prefer avoid others volumes
    ++ tails_in Filling number prefer avoid others volumes
    ++ tails_in Empty number prefer avoid others volumes

-- new scratch volumes, so many, with numbers from this one on
abbrev pub scratch_pieces : ℕ → ℕ → ℕ → List Piece
scratch_pieces capacity zero file = []
scratch_pieces capacity (suc count) file = record { file = file; offset = 0; room = capacity - 32 } ∷ scratch_pieces capacity count (file + 1)

abbrev pub max_scratch : Option Pool → ℕ
max_scratch None = 0
max_scratch (Some pool) = pool.settings.max_scratch

-- how many scratch volumes MAXSCRATCH still allows
abbrev pub scratch_left : ℕ → PoolRows → List (ℕ × Site) → ℕ
scratch_left number s volumes = max_scratch (row_at number s.pools) - scratch_count number volumes

-- those of a sequential pool: scratch volumes come last
abbrev pub sequential_pieces : ℕ → ℕ → ℕ → ℕ → ℕ → Counted → PoolRows → List Piece
sequential_pieces number capacity prefer avoid next_file c s =
    tails number prefer avoid c.others (sites s c) ++ scratch_pieces capacity (scratch_left number s (sites s c)) next_file

-- ---- pools

abbrev pub pieces_by : Option ℕ → ℕ → ℕ → ℕ → ℕ → Counted → PoolRows → List Piece
pieces_by None number prefer avoid next_file c s = random_pieces number prefer avoid c s
pieces_by (Some capacity) number prefer avoid next_file c s = sequential_pieces number capacity prefer avoid next_file c s

-- the free space of a pool, in the order in which it is used
abbrev pub pieces : ℕ → ℕ → ℕ → ℕ → Counted → PoolRows → List Piece
pieces number prefer avoid next_file c s = pieces_by (pool_capacity number s) number prefer avoid next_file c s

-- the bytes of data that some pieces have room for
abbrev pub room : List Piece → ℕ
room [] = 0
room (p ∷ free) = p.room + room free

-- the front of a piece, so many bytes of data long
abbrev pub cut : Piece → ℕ → Piece
cut p len = record p { room = len }

-- what of some pieces so many bytes of data use: each piece but the last is filled
abbrev pub filled : ℕ → List Piece → List Piece
filled size [] = []
filled size (p ∷ free) = if size == 0 then [] else if nat_le size p.room then cut p size ∷ [] else p ∷ filled (size - p.room) free
