-- What drawing a ticket makes of what the hall holds, and why none is drawn.
use Rattle.std.specs.Prelude.{◌≡◌, ◌⊎◌, ℕ, ◌+◌, ◌^◌, ◌<◌, ◌≤◌, max, nat_lt, Bool, true, false, ◌&&◌, List, [], ◌∷◌, ◌++◌, length, Option, None, Some, IfSome, Ok, Err}
use Rattle.std.specs.List.{AllByRecursion}
use Rattle.std.specs.List.Sorted.{IsStrictlySortedBy}
use Rattle.std.specs.Map.{keys_of}
use Rattle.std.specs.Ordering.{nat_cmp}
use Rattle.kinds.specs.Refusals.{foremost, sooner_of, unless}
use Rattle.kinds.specs.declared.refusal.Refusal.{Refusal}
use Rattle.kinds.specs.declared.refusal.Refusal.TheVariants as refusal
use Rattle.inventory_rows.specs.pool_rows.PoolRows.{PoolRows, pool_capacity}
use Rattle.inventory_rows.specs.pool_tables.Rows.{with_row}
use Rattle.inventory_rows.specs.Search.{is_primary}
use Rattle.inventory_rows.specs.State.{Inv}
use Rattle.inventory_rules.specs.Held.{IsTied}
use Rattle.space.specs.declared.aim.Aim.{Aim}
use Rattle.space.specs.declared.aim.Aim.TheVariants as aim
use Rattle.space.specs.declared.places.Placed.{Placed}
use Rattle.space.specs.declared.request.Request.{Request}
use Rattle.space.specs.Claims.{Claims, counted, drawn, held}
use Rattle.space.specs.Placing.{choose, pool_for}
use Rattle.machine.specs.Causes.{copy_refused_by}
use Rattle.machine.specs.Machine.{can_place_copy, size_of}
use Rattle.hall.specs.declared.seat.Hashed.{Hashed}
use Rattle.hall.specs.declared.seat.Hashed.TheVariants.{Unhashed}
use Rattle.hall.specs.declared.seat.Purpose.{Purpose}
use Rattle.hall.specs.declared.seat.Purpose.TheVariants.{Copying, Storing}
use Rattle.hall.specs.declared.seat.Seat.{Seat}
use Rattle.hall.specs.Reading.{seen_by_all}
use Rattle.hall.specs.Held.{Held, IsHashed}
use Rattle.hall.specs.Placed.{request}

-- ---- a ticket

-- the greatest file number of some places, 0 where there are none
abbrev pub last_file : List Placed → ℕ
last_file [] = 0
last_file (p ∷ places) = max p.segment.file (last_file places)

-- the ticket gets the number that is drawn next, its seat and its space; the files of scratch volumes are drawn with it
abbrev pub with_seat : Seat → Held → Held
with_seat s h = record h {
  seats = with_row h.next_ticket s h.seats;
  claims = drawn (last_file s.places) (held h.next_ticket (record { actor = s.actor; places = s.places }) h.claims);
  next_ticket = h.next_ticket + 1;
}

-- an object gets the number that is drawn next
abbrev pub with_object : Held → Held
with_object h = record h { next_object = h.next_object + 1 }

-- a ticket that took nothing yet, where it is placed
abbrev pub new_seat : (actor size : ℕ) → Purpose → Hashed → ℕ × List Placed → Seat
new_seat actor size purpose hashed spot = record {
  actor = actor;
  purpose = purpose;
  size = size;
  pool = spot.0;
  places = spot.1;
  count = 0;
  hashed = hashed;
  is_sealed = false;
  is_firm = false;
}

-- each ticket that is held has a number below that which is drawn next
abbrev pub AreBelow : Held → Type 0
AreBelow h = AllByRecursion (λ e. e.0 < h.next_ticket) h.seats

-- the number behind the next one is below the bound
abbrev pub object_left : Held → Bool
object_left h = nat_lt (h.next_object + 1) (2 ^ 62)

abbrev pub ticket_left : Held → Bool
ticket_left h = nat_lt (h.next_ticket + 1) (2 ^ 62)

-- ---- where it is placed

-- the pool and the places that are found for what is asked
abbrev pub IsSpot : Request → Inv → Claims → ℕ × List Placed → Type 0
IsSpot r v claims spot = (pool_for r claims.next_file (counted r.actor claims) v.stores ≡ Some spot.0) × (choose r v.stores claims ≡ Ok spot.1)

-- what the types of the rows keep: volumes ascend by file number, and one of a sequential pool has room for a block
abbrev pub AreRoomy : (number : ℕ) → PoolRows → Type 0
AreRoomy number s = IsStrictlySortedBy nat_cmp (keys_of s.volumes) × IfSome (pool_capacity number s) (λ capacity. 4096 ≤ capacity)

-- Nothing is found where what is asked may go, and this is why; or a place is, and there is no number left.
abbrev pub WhyNoSeat : Request → Held → (left : Bool) → Refusal → Type 0
WhyNoSeat r h left e =
    (choose r h.vault.database.stores h.claims ≡ Err e)
    ⊎ (((spot : ℕ × List Placed) × IsSpot r h.vault.database h.claims spot) × (left ≡ false) × (e ≡ refusal.InventoryFull))

-- ---- a new object

abbrev pub new_refused_in : (pool size : ℕ) → Inv → List Refusal
new_refused_in number size v =
    unless (nat_lt size (2 ^ 44)) refusal.TooLarge  -- no object has so many bytes
    ++ unless (is_primary number v) refusal.NotFound  -- the pool isn't there, or is none for new objects

abbrev pub new_request : (actor pool size prefer : ℕ) → Request
new_request actor number size prefer = request actor size (aim.New number) prefer 0

-- A ticket was drawn for a new object, which has the number that was drawn next.
pub record IsOpenedNew (actor pool size prefer : ℕ) (old new : Held) (number : ℕ) : Type 0 where
  pub spot : ℕ × List Placed
  pub allowed : foremost (new_refused_in pool size old.vault.database) ≡ None
  pub is_spot : IsSpot (new_request actor pool size prefer) old.vault.database old.claims spot
  pub roomy : AreRoomy spot.0 old.vault.database.stores
  pub tied : IsTied old.vault.database
  pub few : length spot.1 ≤ 2 ^ 23
  pub left : (object_left old && ticket_left old) ≡ true
  pub hashed : Hashed
  pub empty : IsHashed (Storing old.next_object) false hashed []
  pub numbered : number ≡ old.next_ticket
  pub becomes : new ≡ with_object (with_seat (new_seat actor size (Storing old.next_object) hashed spot) old)

-- Why none was: what is asked isn't allowed; or nothing is found where it may go; or there are no numbers left.
abbrev pub NotOpenedNew : (actor pool size prefer : ℕ) → Held → Refusal → Type 0
NotOpenedNew actor number size prefer h e =
    (foremost (new_refused_in number size h.vault.database) ≡ Some e)
    ⊎ ((foremost (new_refused_in number size h.vault.database) ≡ None) × WhyNoSeat (new_request actor number size prefer) h (object_left h && ticket_left h) e)

-- ---- a copy
-- why no copy of the object is made so, by what can be seen of it
abbrev pub copy_refusal : (object : ℕ) → Aim → Held → Option Refusal
copy_refusal object a h = foremost (copy_refused_by object a (seen_by_all h))

abbrev pub copy_request : (actor object : ℕ) → Aim → (avoid : ℕ) → Inv → Request
copy_request actor object a avoid v = request actor (size_of object v) a 0 avoid

-- A ticket was drawn for a copy.
pub record IsOpenedCopy (actor object : ℕ) (a : Aim) (avoid : ℕ) (old new : Held) (number : ℕ) : Type 0 where
  pub spot : ℕ × List Placed
  pub allowed : copy_refusal object a old ≡ None
  pub can : can_place_copy object a old.vault.database ≡ true
  pub is_spot : IsSpot (copy_request actor object a avoid old.vault.database) old.vault.database old.claims spot
  pub roomy : AreRoomy spot.0 old.vault.database.stores
  pub tied : IsTied old.vault.database
  pub few : length spot.1 ≤ 2 ^ 23
  pub small : size_of object old.vault.database < 2 ^ 44
  pub left : ticket_left old ≡ true
  pub numbered : number ≡ old.next_ticket
  pub becomes : new ≡ with_seat (new_seat actor (size_of object old.vault.database) (Copying object a) Unhashed spot) old

-- Why no place is had, where there may be a refusal of the copy's own: nothing is found, and of both the one that comes first is answered; or a place is, and there is that refusal, or no number is left.
abbrev pub WhyNoCopySeat : (own : Option Refusal) → Request → Held → Refusal → Type 0
WhyNoCopySeat own r h e =
    ((x : Refusal) × (choose r h.vault.database.stores h.claims ≡ Err x) × (sooner_of own (Some x) ≡ Some e))
    ⊎ ((((spot : ℕ × List Placed) × IsSpot r h.vault.database h.claims spot) × (own ≡ Some e))
    ⊎ (((spot : ℕ × List Placed) × IsSpot r h.vault.database h.claims spot) × (own ≡ None) × (ticket_left h ≡ false) × (e ≡ refusal.InventoryFull)))

-- Why none was: what is asked isn't allowed, and can't be placed; or nothing is had where it can.
abbrev pub NotOpenedCopy : (actor object : ℕ) → Aim → (avoid : ℕ) → Held → Refusal → Type 0
NotOpenedCopy actor object a avoid h e =
    ((can_place_copy object a h.vault.database ≡ false) × (copy_refusal object a h ≡ Some e))
    ⊎ ((can_place_copy object a h.vault.database ≡ true) × WhyNoCopySeat (copy_refusal object a h) (copy_request actor object a avoid h.vault.database) h e)
