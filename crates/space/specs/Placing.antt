-- Where an object goes: the first pool of its hierarchy that may take it and has room, and the pieces of that pool's free space; or why it goes nowhere.
use Rattle.std.specs.Prelude.{ℕ, ◌+◌, ◌-◌, ◌^◌, ◌==◌, ◌&&◌, not, Bool, true, false, nat_le, is_some, Option, Some, None, Result, Ok, Err, List, [], ◌∷◌, map, length, if◌then◌else◌}
use Rattle.std.specs.List.{find, list_any, flat_map}
use Rattle.std.specs.Option.{option_map}
use Rattle.kinds.specs.declared.pool.SizeLimit.{SizeLimit}
use Rattle.kinds.specs.declared.pool.SizeLimit.TheVariants.{At, NoLimit}
use Rattle.kinds.specs.declared.refusal.Holder.{Holder}
use Rattle.kinds.specs.declared.refusal.Holder.TheVariants.{Ticket, Unforced}
use Rattle.kinds.specs.declared.refusal.Refusal.{Refusal}
use Rattle.kinds.specs.declared.refusal.Refusal.TheVariants.{NoSpace, Busy, InventoryFull}
use Rattle.pool_rows.specs.pool_tables.Rows.{row_at}
use Rattle.pool_rows.specs.pool_tables.declared.pool.Pool.{Pool}
use Rattle.pool_rows.specs.PoolRows.{PoolRows, is_sequential}
use Rattle.pool_rows.specs.Hierarchy.{chain}
use Rattle.space.specs.declared.aim.Aim.{Aim}
use Rattle.space.specs.declared.aim.Aim.TheVariants.{New, Move, Copy}
use Rattle.space.specs.declared.places.Placed.{Placed}
use Rattle.space.specs.declared.piece.Piece.{Piece}
use Rattle.space.specs.declared.request.Request.{Request}
use Rattle.space.specs.declared.claims.Claim.{Claim}
use Rattle.space.specs.declared.counted.Counted.{Counted}
use Rattle.space.specs.Claims.{Claims, counted, without_others, own_alone}
use Rattle.space.specs.Pieces.{pieces, room, filled}

-- ---- pools

-- the pool that an aim goes to
abbrev pub goes_to : Aim → ℕ
goes_to (New pool) = pool
goes_to (Move from placed to along) = to
goes_to (Copy to) = to

-- the hierarchy that begins with a pool
abbrev pub hierarchy : ℕ → PoolRows → List ℕ
hierarchy start s = chain (length s.pools) (Some start) s.pools

-- the pools that are walked
abbrev pub walked : Aim → PoolRows → List ℕ
walked (New pool) s = hierarchy pool s
walked (Move from placed to along) s = if along then hierarchy to s else to ∷ []
walked (Copy to) s = to ∷ []

-- MAXSIZE allows so many bytes
abbrev pub is_allowed : ℕ → SizeLimit → Bool
is_allowed size (At most) = nat_le size most
is_allowed size NoLimit = true

-- the pool may take an object of so many bytes
abbrev pub may_take : ℕ → Option Pool → Bool
may_take size None = false
may_take size (Some pool) = is_allowed size pool.settings.max_size

-- the pool may take what is asked for, and has room for it
abbrev pub has_place : Request → ℕ → Counted → PoolRows → ℕ → Bool
has_place r next_file c s number =
    may_take r.size (row_at number s.pools) && nat_le r.size (room (pieces number r.prefer r.avoid next_file c s))

-- the first pool that does
abbrev pub pool_for : Request → ℕ → Counted → PoolRows → Option ℕ
pool_for r next_file c s = find (has_place r next_file c s) (walked r.aim s)

-- ---- refusals

-- a place lies in one of these pools
abbrev pub lies_in : List ℕ → Placed → Bool
lies_in pools p = list_any (λ number. number == p.pool) pools

-- another actor's ticket holds space in these pools
abbrev pub holds_in : List ℕ → ℕ → Claim → Bool
holds_in pools actor claim = not (claim.actor == actor) && list_any (lies_in pools) claim.places

-- the least such ticket
abbrev pub ticket_in : List ℕ → ℕ → Claims → Option ℕ
ticket_in pools actor claims = option_map (λ t. t.0) (find (λ t. holds_in pools actor t.1) claims.tickets)

-- the least transaction that isn't forced yet and took segments away in these pools
abbrev pub unforced_in : List ℕ → Claims → Option ℕ
unforced_in pools claims = option_map (λ f. f.0) (find (λ f. list_any (lies_in pools) f.1) claims.freed)

-- a pool, where it is of random access
abbrev pub if_random : PoolRows → ℕ → List ℕ
if_random s number = if is_sequential number s then [] else number ∷ []

-- those of some pools that are: on a sequential volume nothing is written where segments were taken away
abbrev pub random_among : List ℕ → PoolRows → List ℕ
random_among pools s = flat_map (if_random s) pools

abbrev pub busy_or_full : ℕ → (ℕ → Holder) → Option ℕ → Refusal
busy_or_full start holder None = NoSpace start
busy_or_full start holder (Some number) = Busy (holder number)

-- Why there is no place: the space of another actor's ticket would be one; or that which a transaction frees that isn't forced yet; or there
-- is none.
abbrev pub no_place : Request → PoolRows → Claims → Refusal
no_place r s claims =
    if is_some (pool_for r claims.next_file (without_others (counted r.actor claims)) s)
    then busy_or_full (goes_to r.aim) Ticket (ticket_in (walked r.aim s) r.actor claims)
    else if is_some (pool_for r claims.next_file (own_alone (counted r.actor claims)) s)
    then busy_or_full (goes_to r.aim) Unforced (unforced_in (random_among (walked r.aim s) s) claims)
    else NoSpace (goes_to r.aim)

-- ---- places

-- the number behind that of a scratch volume would reach the bound of file numbers
abbrev pub is_last : Piece → Bool
is_last p = nat_le (2 ^ 32 - 1) (p.file + 1)

-- the segment that fills a piece
abbrev pub placed : ℕ → Piece → Placed
placed number p = record { pool = number; segment = record { file = p.file; offset = p.offset; len = p.room } }

abbrev pub placed_in : ℕ → List Piece → Result (List Placed) Refusal
placed_in number used = if list_any is_last used then Err InventoryFull else Ok (map (placed number) used)

abbrev pub placed_or_refused : Request → PoolRows → Claims → Option ℕ → Result (List Placed) Refusal
placed_or_refused r s claims None = Err (no_place r s claims)
placed_or_refused r s claims (Some number) =
    placed_in number (filled r.size (pieces number r.prefer r.avoid claims.next_file (counted r.actor claims) s))

-- Where an object goes, or why it goes nowhere.
abbrev pub choose : Request → PoolRows → Claims → Result (List Placed) Refusal
choose r s claims = placed_or_refused r s claims (pool_for r claims.next_file (counted r.actor claims) s)
