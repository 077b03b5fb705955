-- The part of a sequential pool's volumes that is looked at one by one, beside what is kept of the others.
use Rattle.std.specs.Prelude.{◌≡◌, ℕ, ◌+◌, ◌-◌, ◌<◌, ◌≤◌, ◌==◌, ◌⊎◌, Option, Some, None, unwrap_or, List, [], ◌++◌, sum, if◌then◌else◌}
use Rattle.std.specs.List.{sum_by}
use Rattle.std.specs.Map.{values_of}
use Rattle.pool_tables.specs.Rows.{row_at}
use Rattle.pool_rows.specs.PoolRows.{PoolRows}
use Rattle.space.specs.declared.piece.Piece.{Piece}
use Rattle.space.specs.declared.site.Site.{Site}
use Rattle.space.specs.declared.turn.Turn.{Turn}
use Rattle.space.specs.declared.turn.Turn.TheVariants.{Preferred, Filling, Empty}
use Rattle.space.specs.Pieces.{room}
use Rattle.space_index.specs.declared.by_pool.Listing.{Listing}
use Rattle.space_index.specs.declared.held.Held.{Held}
use Rattle.space_index.specs.declared.lists.Lists.{Lists}
use Rattle.space_index.specs.Claimed.{is_lone, with_held}
use Rattle.space_index.specs.Listed.{given_at, rooms_at}
use Rattle.space_index.specs.Tails.{base_in}

-- ---- the volumes of a pool on which nobody else's tickets have space

-- a volume where they have none, as the actor sees it
abbrev pub seen_with : ℕ → Site → Option Held → Option Site
seen_with actor site None = Some site
seen_with actor site (Some h) = if is_lone actor h then Some (with_held h site) else None

abbrev pub seen_in : ℕ → ℕ → Option Site → Option Held → Option Site
seen_in number actor None h = None
seen_in number actor (Some site) h = if site.pool == number then seen_with actor site h else None

-- by what is kept
abbrev pub view : PoolRows → List (ℕ × Held) → ℕ → ℕ → ℕ → Option Site
view s held number actor file = seen_in number actor (base_in s held file) (row_at file held)

-- ---- those that are looked at

-- what stands first, or what stands else
abbrev pub over : Option Site → Option Site → Option Site
over None below = below
over (Some site) below = Some site

-- Volumes came to those that are looked at, as they are seen, and none went.
pub record AreMore (seen : ℕ → Option Site) (old new : List (ℕ × Site)) : Type 0 where
  pub kept : (q : ℕ) (x : Site) → row_at q old ≡ Some x → row_at q new ≡ Some x
  pub come : (q : ℕ) (x : Site) → row_at q old ≡ None → row_at q new ≡ Some x → seen q ≡ Some x

-- a volume is looked at, or isn't seen
abbrev pub IsKnown : (ℕ → Option Site) → List (ℕ × Site) → ℕ → Type 0
IsKnown seen near file = row_at file near ≡ None → seen file ≡ None

pub record KnowsMore (seen : ℕ → Option Site) (file : ℕ) (old new : List (ℕ × Site)) : Type 0 where
  pub more : AreMore seen old new
  pub known : IsKnown seen new file

-- Of all volumes that are seen these are looked at, the preferred one and the avoided one among them.
pub record AreNear (seen : ℕ → Option Site) (prefer avoid : ℕ) (near : List (ℕ × Site)) : Type 0 where
  pub more : AreMore seen [] near
  pub preferred : IsKnown seen near prefer
  pub avoided : IsKnown seen near avoid

-- Of the volumes that aren't looked at those have a piece that are listed, with the room that is listed.
pub record IsPart (g : ℕ × Site → List Piece) (seen : ℕ → Option Site) (rooms : ℕ → Option ℕ) (near : List (ℕ × Site)) : Type 0 where
  pub none : (q : ℕ) → row_at q near ≡ None → rooms q ≡ None → given_at g q (seen q) ≡ []
  pub room : (q : ℕ) → row_at q near ≡ None → room (given_at g q (seen q)) ≡ unwrap_or (rooms q) 0

-- these are the volumes that are seen
abbrev pub AreSeenAs : (ℕ → Option Site) → List (ℕ × Site) → Type 0
AreSeenAs seen sites = (q : ℕ) → row_at q sites ≡ seen q

-- as much data goes into the first as into the second, piece by piece: they are the same, or begin with the same that has room for it all
abbrev pub Serves : ℕ → List Piece → List Piece → Type 0
Serves size xs ys = (xs ≡ ys) ⊎ ((front behind after : List Piece) × (xs ≡ front ++ behind) × (ys ≡ front ++ after) × (size ≤ room front))

-- ---- what is listed

-- of the volumes that are looked at
abbrev pub listed_near : List (ℕ × ℕ) → List (ℕ × Site) → ℕ
listed_near rooms near = sum_by (λ e. unwrap_or (row_at e.0 rooms) 0) near

-- of the others
abbrev pub listed_else : List (ℕ × ℕ) → List (ℕ × Site) → ℕ
listed_else rooms near = sum (values_of rooms) - listed_near rooms near

abbrev pub rooms_of_own : ℕ → Option Listing → List (ℕ × ℕ)
rooms_of_own number None = []
rooms_of_own number (Some l) = rooms_at number l.pools.entries

-- the volumes of a pool on which the actor's tickets alone have space
abbrev pub own_rooms : Lists → ℕ → ℕ → List (ℕ × ℕ)
own_rooms l number actor = rooms_of_own number (row_at actor l.own.entries)

abbrev pub either_of : Option ℕ → Option ℕ → Option ℕ
either_of None o = o
either_of (Some n) o = Some n

-- what one of two lists has
abbrev pub in_either : List (ℕ × ℕ) → List (ℕ × ℕ) → ℕ → Option ℕ
in_either rooms others file = either_of (row_at file rooms) (row_at file others)

-- the volumes of a pool that are listed and come in this turn, where the preferred one is looked at
abbrev pub listed_by : Turn → Lists → ℕ → ℕ → ℕ → Option ℕ
listed_by Preferred l number actor file = None
listed_by Filling l number actor file = in_either (rooms_at number l.filling.pools.entries) (own_rooms l number actor) file
listed_by Empty l number actor file = row_at file (rooms_at number l.empty.pools.entries)

-- the first volume from this number on that is listed, with its room
pub record IsNext (rooms : ℕ → Option ℕ) (low : ℕ) (e : ℕ × ℕ) : Type 0 where
  pub above : low ≤ e.0
  pub there : rooms e.0 ≡ Some e.1
  pub none : (q : ℕ) → low ≤ q → q < e.0 → rooms q ≡ None

abbrev pub IsNextOrNone : (ℕ → Option ℕ) → ℕ → Option (ℕ × ℕ) → Type 0
IsNextOrNone rooms low None = (q : ℕ) → low ≤ q → rooms q ≡ None
IsNextOrNone rooms low (Some e) = IsNext rooms low e

-- the number behind the last one
abbrev pub behind : Option ℕ → ℕ
behind None = 0
behind (Some file) = file + 1
