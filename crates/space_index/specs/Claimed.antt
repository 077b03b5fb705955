-- Which volumes tickets have space on, and whose tickets, as the index keeps it.
use Rattle.std.specs.Prelude.{◌≡◌, ◌≢◌, ℕ, ◌+◌, ◌==◌, ◌&&◌, not, max, Bool, false, Option, Some, None, unwrap_or, List, [], ◌∷◌}
use Rattle.std.specs.Option.{option_map}
use Rattle.std.specs.List.{find, flat_map, sum_by}
use Rattle.std.specs.List.Sorted.{IsStrictlySortedBy}
use Rattle.std.specs.Map.{keys_of}
use Rattle.std.specs.Ordering.{nat_cmp}
use Rattle.kinds.specs.declared.segment.Segment.{Segment}
use Rattle.pool_tables.specs.Rows.{row_at}
use Rattle.space.specs.declared.places.Placed.{Placed}
use Rattle.space.specs.declared.claims.Claim.{Claim}
use Rattle.space.specs.declared.site.Site.{Site}
use Rattle.space_index.specs.declared.held.Held.{Held}
use Rattle.space_index.specs.Counts.{one_if}
use Rattle.space_index.specs.Listed.{some_room}

-- ---- bags of numbers

-- how often a number stands there
abbrev pub times_in : ℕ → List (ℕ × ℕ) → ℕ
times_in n counts = unwrap_or (row_at n counts) 0

-- each number stands there so often
pub record IsBag (counts : List (ℕ × ℕ)) (times : ℕ → ℕ) : Type 0 where
  pub each : (n : ℕ) → row_at n counts ≡ some_room (times n)
  pub sorted : IsStrictlySortedBy nat_cmp (keys_of counts)

-- one number stands there once more
pub record IsMoreAt (n : ℕ) (less more : ℕ → ℕ) : Type 0 where
  pub here : more n ≡ less n + 1
  pub others : (k : ℕ) → k ≢ n → more k ≡ less k

-- the one number that stands there
abbrev pub lone : List (ℕ × ℕ) → Option ℕ
lone [] = None
lone (e ∷ []) = Some e.0
lone (e ∷ f ∷ counts) = None

-- the last
abbrev pub greatest : List (ℕ × ℕ) → ℕ
greatest [] = 0
greatest (e ∷ []) = e.0
greatest (e ∷ f ∷ counts) = greatest (f ∷ counts)

-- ---- how many places tickets hold

-- how many of an actor's places pass
abbrev pub times_of : (ℕ → Placed → Bool) → ℕ → List Placed → ℕ
times_of passes actor places = sum_by (λ p. one_if (passes actor p)) places

-- how many of the places that tickets hold pass, each with its actor
abbrev pub times : (ℕ → Placed → Bool) → List (ℕ × Claim) → ℕ
times passes tickets = sum_by (λ t. times_of passes t.1.actor t.1.places) tickets

-- a place more is held
abbrev pub IsOneMore : ℕ → Placed → List (ℕ × Claim) → List (ℕ × Claim) → Type 0
IsOneMore actor p less more = (passes : ℕ → Placed → Bool) → times passes more ≡ times passes less + one_if (passes actor p)

-- the same places are held
abbrev pub AreAlike : List (ℕ × Claim) → List (ℕ × Claim) → Type 0
AreAlike tickets others = (passes : ℕ → Placed → Bool) → times passes tickets ≡ times passes others

-- beside these tickets an actor's with these places
abbrev pub and_ticket : ℕ → List Placed → List (ℕ × Claim) → List (ℕ × Claim)
and_ticket actor places tickets = (0, record { actor = actor; places = places }) ∷ tickets

-- where the frame of a segment ends
abbrev pub frame_end : Segment → ℕ
frame_end s = s.offset + 32 + s.len

-- the place is on the volume
abbrev pub is_on : ℕ → ℕ → Placed → Bool
is_on file actor p = p.segment.file == file

-- and its actor is this one
abbrev pub is_of : ℕ → ℕ → ℕ → Placed → Bool
is_of file actor other p = p.segment.file == file && other == actor

-- its frame ends there
abbrev pub is_ending : ℕ → ℕ → ℕ → Placed → Bool
is_ending file end actor p = p.segment.file == file && frame_end p.segment == end

-- it names another pool
abbrev pub is_astray : ℕ → ℕ → ℕ → Placed → Bool
is_astray file pool actor p = p.segment.file == file && not (p.pool == pool)

-- What is kept of a volume on which tickets have space: the actors of the places and where these end, each as often as there are places, and the
-- pool that all of them name.
pub record IsHeldBy (file : ℕ) (tickets : List (ℕ × Claim)) (h : Held) : Type 0 where
  pub actors : IsBag h.actors (λ actor. times (is_of file actor) tickets)
  pub ends : IsBag h.ends (λ end. times (is_ending file end) tickets)
  pub pool : times (is_astray file h.pool) tickets ≡ 0

-- nothing is kept where tickets have no space
abbrev pub IsHeldAt : ℕ → List (ℕ × Claim) → Option Held → Type 0
IsHeldAt file tickets None = times (is_on file) tickets ≡ 0
IsHeldAt file tickets (Some h) = IsHeldBy file tickets h × (h.actors ≢ [])

abbrev pub AreHeld : List (ℕ × Held) → List (ℕ × Claim) → Type 0
AreHeld held tickets = (file : ℕ) → IsHeldAt file tickets (row_at file held)

-- ---- volumes

-- the pool that the first place on the volume names
abbrev pub pool_on : ℕ → List (ℕ × Claim) → Option ℕ
pool_on file tickets = option_map (λ p. p.pool) (find (λ p. p.segment.file == file) (flat_map (λ t. t.1.places) tickets))

-- there is a number, and it is this one
abbrev pub is_this : ℕ → Option ℕ → Bool
is_this n None = false
is_this n (Some k) = k == n

-- all places on the volume are this actor's
abbrev pub is_lone : ℕ → Held → Bool
is_lone actor h = is_this actor (lone h.actors)

-- a volume with the places on it as if they were copies there already
abbrev pub with_held : Held → Site → Site
with_held h site = record site { end = max site.end (greatest h.ends); is_bare = false }
