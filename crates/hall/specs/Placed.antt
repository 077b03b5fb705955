-- Where the hall places objects: what it holds beside the copies, and the places that are chosen from it.
use Rattle.std.specs.Prelude.{◌≡◌, ℕ, ◌+◌, true, nat_le, List, map, Some, IfSome, Option, Result, Ok, Err, Contains}
use Rattle.kinds.specs.declared.refusal.Refusal.{Refusal}
use Rattle.kinds.specs.declared.segment.Segment.{Segment}
use Rattle.inventory_rows.specs.version_groups.Entries.{all_later}
use Rattle.inventory_rows.specs.pool_tables.Rows.{row_at}
use Rattle.inventory_rows.specs.State.{Inv}
use Rattle.space.specs.declared.aim.Aim.{Aim}
use Rattle.space.specs.declared.claims.Claim.{Claim}
use Rattle.space.specs.declared.places.Placed.{Placed}
use Rattle.space.specs.declared.request.Request.{Request}
use Rattle.space.specs.Claims.{Claims, counted}
use Rattle.space.specs.Placing.{choose, pool_for}
use Rattle.machine.specs.Machine.{Places, Space}
use Rattle.machine.specs.State.{Place, Ticket}

-- the segments of a place, each with its pool
abbrev pub places_of : Place → List Placed
places_of p = map (λ s. record { pool = p.pool; segment = s }) p.segments

-- what a ticket holds, by its number
abbrev pub claim_of : Ticket → ℕ × Claim
claim_of t = (t.number, record { actor = t.actor; places = places_of t.place })

-- a transaction that isn't forced yet freed this segment, as the hall keeps it
abbrev pub IsNoted : List (ℕ × List Placed) → (number : ℕ) → Segment → Type 0
IsNoted rows number s = (places : List Placed) × (p : Placed) × Contains rows (number, places) × Contains places p × (p.segment ≡ s)

-- a place that the hall keeps as freed was freed by that transaction, and where its volume is still there it is in that volume's pool
abbrev pub IsFreed : Inv → List (ℕ × Segment) → (number : ℕ) → Placed → Type 0
IsFreed v freed number p = Contains freed (number, p.segment) × IfSome (row_at p.segment.file v.stores.volumes) (λ volume. p.pool ≡ volume.pool)

-- What the hall keeps of the space beside the copies is what the machine gives to placing: the tickets' space, each in its place; what the transactions free that aren't forced yet,
-- in whatever order within a transaction, but transactions by number; and the file number that is drawn next.
pub record IsSpace (v : Inv) (space : Space) (claims : Claims) : Type 0 where
  pub tickets : claims.tickets ≡ map claim_of space.tickets
  pub noted : (number : ℕ) (s : Segment) → Contains space.freed (number, s) → IsNoted claims.freed number s
  pub freed : (number : ℕ) (places : List Placed) (p : Placed) → Contains claims.freed (number, places) → Contains places p → IsFreed v space.freed number p
  pub ascending : all_later (λ a b. nat_le (a.0 + 1) b.0) claims.freed ≡ true
  pub next_file : claims.next_file ≡ space.next_file

-- what is asked of placing
abbrev pub request : (actor size : ℕ) → Aim → (prefer avoid : ℕ) → Request
request actor size a prefer avoid = record { actor = actor; size = size; aim = a; prefer = prefer; avoid = avoid }

-- the place is in the pool that was found, with these places
abbrev pub IsPlaceOf : (pool : Option ℕ) → List Placed → Result Place Refusal → Type 0
IsPlaceOf pool places (Ok place) = (pool ≡ Some place.pool) × (places_of place ≡ places)
IsPlaceOf pool places (Err e) = ⊥

-- what was chosen, as a place
abbrev pub IsChosen : (pool : Option ℕ) → Result (List Placed) Refusal → Result Place Refusal → Type 0
IsChosen pool (Ok places) answer = IsPlaceOf pool places answer
IsChosen pool (Err e) answer = answer ≡ Err e

-- where this is placed over these claims: in the first pool that may take it and has room, which an object without bytes has too
abbrev pub IsPlacedOver : Request → Inv → Claims → Result Place Refusal → Type 0
IsPlacedOver r v claims answer = IsChosen (pool_for r claims.next_file (counted r.actor claims) v.stores) (choose r v.stores claims) answer

-- Where an object goes: where it is placed over what the hall keeps of the space.
abbrev pub hall_places : Places
hall_places v space actor size a prefer avoid answer = (claims : Claims) × IsSpace v space claims × IsPlacedOver (request actor size a prefer avoid) v claims answer
