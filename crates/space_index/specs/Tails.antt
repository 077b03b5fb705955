-- What the index says of the volumes of sequential pools.
use Rattle.std.specs.Prelude.{◌≡◌, ◌≢◌, ℕ, ◌-◌, ◌==◌, ◌&&◌, Bool, Option, Some, None, unwrap_or, List, if◌then◌else◌}
use Rattle.std.specs.Option.{option_map}
use Rattle.volume_rows.specs.declared.volume.Volume.{Volume}
use Rattle.pool_tables.specs.Rows.{row_at}
use Rattle.pool_rows.specs.PoolRows.{PoolRows, is_sequential, pool_capacity}
use Rattle.space.specs.declared.site.Site.{Site}
use Rattle.space.specs.declared.claims.Claim.{Claim}
use Rattle.space.specs.Claims.{Claims}
use Rattle.space.specs.Volumes.{site_of, drawn_site, has_tail, is_filling, is_empty}
use Rattle.space_index.specs.declared.by_pool.Home.{Home}
use Rattle.space_index.specs.declared.by_pool.Listing.{Listing}
use Rattle.space_index.specs.declared.held.Held.{Held}
use Rattle.space_index.specs.declared.lists.Lists.{Lists}
use Rattle.space_index.specs.declared.tails.Tails.{Tails}
use Rattle.space_index.specs.declared.index.Index.{Index}
use Rattle.space_index.specs.Listed.{some_room, rooms_at}
use Rattle.space_index.specs.Claimed.{is_lone, with_held, pool_on, AreHeld}
use Rattle.space_index.specs.Index.{IsRandomIndexOf}

-- ---- volumes by pool

-- what a pool's list has of a volume
abbrev pub room_if : ℕ → Option Home → Option ℕ
room_if pool None = None
room_if pool (Some h) = if h.pool == pool then some_room h.room else None

-- Each pool's list has its volumes that have room, with their room. Where a volume was listed last is noted, so it stands nowhere else.
pub record IsListing (l : Listing) (homes : ℕ → Option Home) : Type 0 where
  pub noted : (pool file : ℕ) → row_at file l.homes.entries ≢ Some pool → row_at file (rooms_at pool l.pools.entries) ≡ None
  pub listed : (pool file : ℕ) → row_at file (rooms_at pool l.pools.entries) ≡ room_if pool (homes file)

-- the same is said of all numbers but one
abbrev pub AreElse : {V : Type 0} → ℕ → (ℕ → Option V) → (ℕ → Option V) → Type 0
AreElse file homes others = (q : ℕ) → q ≢ file → others q ≡ homes q

-- ---- sequential volumes

-- the room behind a volume's end, where it may be written, isn't too near its end, and passes
abbrev pub tail_room : Bool → Site → ℕ
tail_room passes site = if site.is_writable && (passes && has_tail site) then site.capacity - site.end - 32 else 0

-- of one that is FILLING
abbrev pub filling_room : Site → ℕ
filling_room site = tail_room (is_filling site) site

-- of one that is EMPTY
abbrev pub empty_room : Site → ℕ
empty_room site = tail_room (is_empty site) site

-- 1 for a scratch volume
abbrev pub scratch_room : Site → ℕ
scratch_room site = if site.scratch then 1 else 0

-- a volume's pool, with the room that is listed there
abbrev pub home_by : (Site → ℕ) → Option Site → Option Home
home_by room None = None
home_by room (Some site) = Some (record { pool = site.pool; room = room site })

-- ---- and what tickets hold there

-- where no ticket has space
abbrev pub open_home : (Site → ℕ) → Option Site → Option Held → Option Home
open_home room site None = home_by room site
open_home room site (Some h) = None

-- where this actor's tickets alone have space: it is FILLING then
abbrev pub own_home : ℕ → Option Site → Option Held → Option Home
own_home actor site None = None
own_home actor None (Some h) = None
own_home actor (Some site) (Some h) = if is_lone actor h then Some (record { pool = site.pool; room = filling_room (with_held h site) }) else None

-- an actor's list, where one is kept
abbrev pub IsOwnListing : Option Listing → (ℕ → Option Home) → Type 0
IsOwnListing None homes = (pool file : ℕ) → room_if pool (homes file) ≡ None
IsOwnListing (Some l) homes = IsListing l homes

-- The lists are those of these volumes, with what tickets hold there: those on which no ticket has space, FILLING and EMPTY apart; for each actor
-- those on which its tickets alone have space; and all scratch volumes.
pub record AreLists (l : Lists) (sites : ℕ → Option Site) (helds : ℕ → Option Held) : Type 0 where
  pub filling : IsListing l.filling (λ file. open_home filling_room (sites file) (helds file))
  pub empty : IsListing l.empty (λ file. open_home empty_room (sites file) (helds file))
  pub scratch : IsListing l.scratch (λ file. home_by scratch_room (sites file))
  pub own : (actor : ℕ) → IsOwnListing (row_at actor l.own.entries) (λ file. own_home actor (sites file) (helds file))

-- the lists are those of these volumes, with what is kept of what tickets hold there
abbrev pub AreTails : Tails → (ℕ → Option Site) → Type 0
AreTails t sites = AreLists t.lists sites (λ file. row_at file t.held.entries)

-- a volume, where it is sequential
abbrev pub tail_by : Bool → Volume → Option Site
tail_by sequential v = if sequential then Some (site_of v) else None

-- a volume that is there and sequential, or a scratch volume of this pool that tickets have drawn
abbrev pub base_of : PoolRows → Option Volume → Option ℕ → Option Site
base_of s (Some v) drawn = tail_by (is_sequential v.pool s) v
base_of s None None = None
base_of s None (Some pool) = Some (drawn_site pool (unwrap_or (pool_capacity pool s) 0))

-- by what the tickets hold
abbrev pub base_at : PoolRows → List (ℕ × Claim) → ℕ → Option Site
base_at s tickets file = base_of s (row_at file s.volumes) (pool_on file tickets)

-- by what is kept of it
abbrev pub base_in : PoolRows → List (ℕ × Held) → ℕ → Option Site
base_in s held file = base_of s (row_at file s.volumes) (option_map (λ h. h.pool) (row_at file held))

-- what is kept is that of these rows and tickets
pub record IsTailsOf (t : Tails) (s : PoolRows) (tickets : List (ℕ × Claim)) : Type 0 where
  pub held : AreHeld t.held.entries tickets
  pub lists : AreTails t (base_in s t.held.entries)

-- ---- the index

-- It is the index of these rows and of what is held beside them, as far as volumes of random access go, knows what tickets hold, and lists these
-- sequential volumes.
pub record IsIndexWith (i : Index) (s : PoolRows) (c : Claims) (sites : ℕ → Option Site) : Type 0 where
  pub random : IsRandomIndexOf i.random s c
  pub tails : AreTails i.tails sites
  pub held : AreHeld i.tails.held.entries c.tickets

-- The index is that of these rows, and of what is held beside them.
abbrev pub IsIndexOf : Index → PoolRows → Claims → Type 0
IsIndexOf i s c = IsIndexWith i s c (base_at s c.tickets)
