-- The blocks of a random-access volume are a list that says, for each block in order, whether it is in use.
use Rattle.std.specs.Prelude.{ℕ, ◌≡◌, ◌+◌, ◌-◌, ◌*◌, ◌<◌, ◌≤◌, Bool, true, false, not, ◌&&◌, ◌==◌, nat_lt, nat_le, if◌then◌else◌, List, [], ◌∷◌, ◌++◌, take, drop, replicate, slice_get, slice_index_or, Option, Some, None}
use Rattle.std.specs.List.{sum_by}
use Rattle.std.specs.Int.{div_ceil}
use Rattle.extent_map.specs.declared.extents.Run.{Run}

-- the run of so many blocks that begins at block `first`
abbrev pub run : ℕ → ℕ → Run
run first blocks = record { first = first; blocks = blocks }

-- the block behind a run
abbrev pub end_of : Run → ℕ
end_of r = r.first + r.blocks

-- the bytes of data that a run has room for: its blocks of 4,096 bytes, less the 32 bytes of the frame's header
abbrev pub room_in : Run → ℕ
room_in r = 4096 * r.blocks - 32

-- the room of several runs, in bytes
abbrev pub total_room : List Run → ℕ
total_room runs = sum_by room_in runs

-- how many blocks so many bytes of data and their frame's header fill, the last one perhaps in part
abbrev pub blocks_for : ℕ → ℕ
blocks_for bytes = div_ceil (bytes + 32) 4096

-- a free block in front of free runs: it lengthens the one that begins right behind it, else it is a run by itself
abbrev pub with_block : ℕ → List Run → List Run
with_block at [] = run at 1 ∷ []
with_block at (r ∷ rs) = if r.first == at + 1 then run at (r.blocks + 1) ∷ rs else run at 1 ∷ r ∷ rs

-- the maximal runs of free blocks in ascending order, where the list's first block is block `at`
abbrev pub free_runs_from : ℕ → List Bool → List Run
free_runs_from at [] = []
free_runs_from at (true ∷ used) = free_runs_from (at + 1) used
free_runs_from at (false ∷ used) = with_block at (free_runs_from (at + 1) used)

-- the maximal runs of free blocks of a volume, in ascending order
abbrev pub free_runs : List Bool → List Run
free_runs used = free_runs_from 0 used

-- what is taken of free runs for so many bytes: whole runs in order, and of the last one the front that the rest needs
abbrev pub first_of : ℕ → List Run → List Run
first_of bytes [] = []
first_of bytes (r ∷ rs) =
    if bytes == 0 then [] else if nat_le bytes (room_in r) then run r.first (blocks_for bytes) ∷ [] else r ∷ first_of (bytes - room_in r) rs

-- the runs that are taken for so many bytes; none where the free runs have too little room
abbrev pub taken : ℕ → List Bool → Option (List Run)
taken bytes used = if nat_le bytes (total_room (free_runs used)) then Some (first_of bytes (free_runs used)) else None

-- a list with so many of its places, from `first` on, having this value; all others stay
abbrev pub marked_from : Bool → ℕ → ℕ → List Bool → List Bool
marked_from value first count list = take first list ++ replicate count value ++ drop (first + count) list

-- the blocks after those of one run have come into use, or have become free
abbrev pub marked : Bool → Run → List Bool → List Bool
marked in_use r used = marked_from in_use r.first r.blocks used

-- the blocks after those of all of these runs have come into use
abbrev pub with_used : List Run → List Bool → List Bool
with_used [] used = used
with_used (r ∷ rs) used = with_used rs (marked true r used)

-- each block of the run is there and is in use, or each is there and is free
abbrev pub AllAre : Bool → Run → List Bool → Type 0
AllAre in_use r used = (k : ℕ) → r.first ≤ k → k < end_of r → slice_get used k ≡ Some in_use

-- each run has blocks, all of them free, also after the runs before it were taken: no two runs share a block
abbrev pub AreFree : List Run → List Bool → Type 0
AreFree [] used = Unit {0}
AreFree (r ∷ rs) used = (0 < r.blocks) × (AllAre false r used × AreFree rs (marked true r used))

-- the runs stand in ascending order from block `at` on, and no two share a block
abbrev pub Ascend : ℕ → List Run → Type 0
Ascend at [] = Unit {0}
Ascend at (r ∷ rs) = (at ≤ r.first) × Ascend (end_of r) rs

-- whether a block is there and is free
abbrev pub is_free : List Bool → ℕ → Bool
is_free used k = not (slice_index_or used k true)

-- the bytes of a header, where there is one
abbrev pub header_if : Bool → ℕ
header_if true = 32
header_if false = 0

-- the bytes of a run's blocks, and of one header for each of its neighbours that is free: with such a neighbour it makes one run
abbrev pub joined : Run → List Bool → ℕ
joined r used = 4096 * r.blocks + header_if (nat_lt 0 r.first && is_free used (r.first - 1)) + header_if (is_free used (end_of r))
