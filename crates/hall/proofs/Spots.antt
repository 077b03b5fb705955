-- Where placing puts an object: why it doesn't, and what is true of the places.
use Rattle.std.proofs.Common.{◌≡◌, ℕ, ◌+◌, ◌-◌, ◌<◌, ◌^◌, Bool, true, false, cond, ◌&&◌, is_some, List, [], ◌∷◌, map, Option, Some, None, Result, Ok, Err, refl, sym, ap, subst, ◌∙◌, arith}
use Rattle.std.specs.Prelude.{Contains, if◌then◌else◌, nat_le, slice_get}
use Rattle.std.specs.List.{AllByRecursion, find, list_any, sum_by}
use Rattle.std.proofs.lemmas.Bool.{and_parts, le-leb, leb-false, or_parts}
use Rattle.std.proofs.lemmas.Option.{same_Some}
use Rattle.kinds.specs.declared.refusal.Holder.{Holder}
use Rattle.kinds.specs.declared.refusal.Holder.TheVariants as holder
use Rattle.kinds.specs.declared.refusal.Refusal.{Refusal}
use Rattle.kinds.specs.declared.refusal.Refusal.TheVariants as refusal
use Rattle.kinds.specs.declared.segment.Segment.{Segment}
use Rattle.inventory_rows.specs.pool_rows.PoolRows.{PoolRows, pool_capacity}
use Rattle.inventory_rows.specs.State.{Inv}
use Rattle.inventory_rules.specs.Held.{IsTied}
use Rattle.inventory_laws.proofs.Lists.{each_also}
use Rattle.inventory_laws.proofs.Origins.{each_contained}
use Rattle.inventory_rows.specs.pool_tables.Rows.{row_at}
use Rattle.inventory_rows.specs.pool_tables.declared.pool.Pool.{Pool}
use Rattle.inventory_rows.specs.Search.{pool}
use Rattle.space.specs.declared.aim.Aim.{Aim}
use Rattle.space.specs.declared.counted.Counted.{Counted}
use Rattle.space.specs.declared.piece.Piece.{Piece}
use Rattle.space.specs.declared.places.Placed.{Placed}
use Rattle.space.specs.declared.request.Request.{Request}
use Rattle.space.specs.Claims.{Claims, counted, own_alone, without_others}
use Rattle.space.specs.Pieces.{filled, pieces, room}
use Rattle.space.specs.Placing.{busy_or_full, choose, goes_to, has_place, is_last, may_take, no_place, placed, placed_in, placed_or_refused, pool_for, random_among, ticket_in, unforced_in, walked}
use Rattle.space_laws.specs.Apart.{AllApart}
use Rattle.space_laws.specs.Chosen.{IsWhole}
use Rattle.space_laws.proofs.Apart.{chosen_apart}
use Rattle.space_laws.proofs.Whole.{chosen_whole}
use Rattle.machine.specs.Machine.{IsPlaced, Space, space}
use Rattle.machine.specs.Says.{is_elsewhere}
use Rattle.machine.specs.State.{Core, Place, inventory, unforced}
use Rattle.hall.specs.Covered.{NumbersAreDrawn, SpaceIsClear, is_any_reuse}
use Rattle.hall.specs.Drawn.{AreRoomy, IsSpot}
use Rattle.hall.specs.Good.{IsLawful}
use Rattle.hall.specs.Placed.{IsChosen, IsPlaceOf, IsPlacedOver, IsSpace, hall_places, places_of, request}
use Rattle.hall.proofs.PlacesChosen.{IsLawfulIn, found_lawful, sites_below}
use Rattle.hall.proofs.Found.{IsCut, IsFound, cuts_found, sorted_sites}
use Rattle.hall.proofs.MoreTickets.{to_mapped}

-- ---- why nothing is found

module _ (P : Refusal → Type 0) (full : (n : ℕ) → P (refusal.NoSpace n)) (busy : (h : Holder) → P (refusal.Busy h)) (over : P refusal.InventoryFull) where
  busy_has : (start : ℕ) (by : ℕ → Holder) (o : Option ℕ) → P (busy_or_full start by o)
  busy_has start by None = full start
  busy_has start by (Some n) = busy (by n)

  none_has : (r : Request) (s : PoolRows) (claims : Claims) → P (no_place r s claims)
  none_has r s claims =
      elim (is_some (pool_for r claims.next_file (without_others (counted r.actor claims)) s)) as
      (λ b. P (if b then busy_or_full (goes_to r.aim) holder.Ticket (ticket_in (walked r.aim s) r.actor claims)
      else if is_some (pool_for r claims.next_file (own_alone (counted r.actor claims)) s) then busy_or_full (goes_to r.aim) holder.Unforced (unforced_in (random_among (walked r.aim s) s) claims) else refusal.NoSpace (goes_to r.aim))) [
        | true ↦ busy_has (goes_to r.aim) holder.Ticket (ticket_in (walked r.aim s) r.actor claims)
        | false ↦ elim (is_some (pool_for r claims.next_file (own_alone (counted r.actor claims)) s)) as
            (λ b. P (if b then busy_or_full (goes_to r.aim) holder.Unforced (unforced_in (random_among (walked r.aim s) s) claims) else refusal.NoSpace (goes_to r.aim))) [
              | true ↦ busy_has (goes_to r.aim) holder.Unforced (unforced_in (random_among (walked r.aim s) s) claims)
              | false ↦ full (goes_to r.aim)
            ]
      ]

  in_has : (number : ℕ) (used : List Piece) (e : Refusal) → placed_in number used ≡ Err e → P e
  in_has number used e h =
      elim (list_any is_last used) as (λ b. (if b then Err refusal.InventoryFull else Ok (map (placed number) used)) ≡ Err e → P e) [
        | true ↦ λ g. let same : refusal.InventoryFull ≡ e = cc in subst P same over
        | false ↦ λ g. absurd cc
      ] h

  -- what holds of want of room, of room that others hold, and of numbers at their bounds holds of what is answered
  pub choose_has : (r : Request) (s : PoolRows) (claims : Claims) (e : Refusal) → choose r s claims ≡ Err e → P e
  choose_has r s claims e h = go (pool_for r claims.next_file (counted r.actor claims) s) h where
    go : (o : Option ℕ) → placed_or_refused r s claims o ≡ Err e → P e
    go None g = let same : no_place r s claims ≡ e = cc in subst P same (none_has r s claims)
    go (Some number) g = in_has number (filled r.size (pieces number r.prefer r.avoid claims.next_file (counted r.actor claims) s)) e g

-- ---- as the machine's placing

abbrev pub place_by : (pool : Option ℕ) → Result (List Placed) Refusal → Result Place Refusal
place_by pool (Err e) = Err e
place_by None (Ok places) = Err refusal.NotFound
place_by (Some number) (Ok places) = Ok (record { pool = number; segments = map (λ p. p.segment) places })

abbrev pub place_over : Request → Inv → Claims → Result Place Refusal
place_over r v claims = place_by (pool_for r claims.next_file (counted r.actor claims) v.stores) (choose r v.stores claims)

pub places_back : (number : ℕ) (used : List Piece) → map (λ s. record { pool = number; segment = s }) (map (λ p. p.segment) (map (placed number) used)) ≡ map (placed number) used
places_back number [] = refl
places_back number (p ∷ used) = ap (λ (l : List Placed). placed number p ∷ l) (places_back number used)

pub spot_back : (r : Request) (s : PoolRows) (claims : Claims) (places : List Placed) (number : ℕ) → pool_for r claims.next_file (counted r.actor claims) s ≡ Some number → choose r s claims ≡ Ok places
    → places_of (record { pool = number; segments = map (λ p. p.segment) places }) ≡ places
spot_back r s claims places number first h =
    let whole : IsWhole r s claims places = chosen_whole r s claims places h in
    let same : whole.number ≡ number = same_Some whole.number number (sym whole.first ∙ first) in
    subst (λ (n : ℕ). places_of (record { pool = n; segments = map (λ p. p.segment) places }) ≡ places) same
    (subst (λ (l : List Placed). places_of (record { pool = whole.number; segments = map (λ p. p.segment) l }) ≡ l) (sym whole.are)
    (places_back whole.number (filled r.size (pieces whole.number r.prefer r.avoid claims.next_file (counted r.actor claims) s))))

place_is : (r : Request) (v : Inv) (claims : Claims) → IsPlacedOver r v claims (place_over r v claims)
place_is r v claims = go (choose r v.stores claims) refl where
  put : (places : List Placed) (o : Option ℕ) → pool_for r claims.next_file (counted r.actor claims) v.stores ≡ o → choose r v.stores claims ≡ Ok places → IsPlaceOf o places (place_by o (Ok places))
  put places None first is = let whole : IsWhole r v.stores claims places = chosen_whole r v.stores claims places is in absurd (let never : None ≡ Some whole.number = sym first ∙ whole.first in cc)
  put places (Some number) first is = (refl, spot_back r v.stores claims places number first is)

  go : (answer : Result (List Placed) Refusal) → choose r v.stores claims ≡ answer
      → IsChosen (pool_for r claims.next_file (counted r.actor claims) v.stores) answer (place_by (pool_for r claims.next_file (counted r.actor claims) v.stores) answer)
  go (Err e) is = refl
  go (Ok places) is = put places (pool_for r claims.next_file (counted r.actor claims) v.stores) refl is

-- where placing is asked it answers this
abbrev pub place_if : Bool → Request → Inv → Claims → Result Place Refusal
place_if true r v claims = place_over r v claims
place_if false r v claims = Err refusal.NotFound

pub is_placed : (can : Bool) (v : Inv) (s : Space) (claims : Claims) (actor size : ℕ) (a : Aim) (prefer avoid : ℕ) → IsSpace v s claims
    → IsPlaced can (hall_places v s actor size a prefer avoid) (place_if can (request actor size a prefer avoid) v claims)
is_placed true v s claims actor size a prefer avoid is = (claims, is, place_is (request actor size a prefer avoid) v claims)
is_placed false v s claims actor size a prefer avoid is = refl

-- ---- laws of the machine's placing

pub refuses_elsewhere : (v : Inv) (s : Space) (actor size : ℕ) (a : Aim) (prefer avoid : ℕ) (e : Refusal) → hall_places v s actor size a prefer avoid (Err e) → is_elsewhere e ≡ true
refuses_elsewhere v s actor size a prefer avoid e p = go (choose (request actor size a prefer avoid) v.stores p.0) refl p.2 where
  go : (answer : Result (List Placed) Refusal) → choose (request actor size a prefer avoid) v.stores p.0 ≡ answer
      → IsChosen (pool_for (request actor size a prefer avoid) p.0.next_file (counted actor p.0) v.stores) answer (let err : Result Place Refusal = Err e in err) → is_elsewhere e ≡ true
  go (Ok places) is h = absurd h
  go (Err x) is h = let same : x ≡ e = cc in subst (λ (y : Refusal). is_elsewhere y ≡ true) same (choose_has (λ y. is_elsewhere y ≡ true) (λ n. refl) (λ w. refl) refl (request actor size a prefer avoid) v.stores p.0 x is)

found_holds : (P : ℕ → Type 0) (test : ℕ → Bool) (xs : List ℕ) (x : ℕ) → find test xs ≡ Some x → AllByRecursion P xs → P x
found_holds P test [] x h all = absurd cc
found_holds P test (y ∷ xs) x h all =
    elim (test y) as (λ b. cond b (Some y) (find test xs) ≡ Some x → P x) [
      | true ↦ λ g. subst P (same_Some y x g) all.0
      | false ↦ λ g. found_holds P test xs x g all.1
    ] h

pub goes_where_aimed : (v : Inv) (s : Space) (actor size : ℕ) (a : Aim) (prefer avoid : ℕ) (place : Place) → hall_places v s actor size a prefer avoid (Ok place) → Contains (walked a v.stores) place.pool
goes_where_aimed v s actor size a prefer avoid place p = go (choose (request actor size a prefer avoid) v.stores p.0) p.2 where
  go : (answer : Result (List Placed) Refusal) → IsChosen (pool_for (request actor size a prefer avoid) p.0.next_file (counted actor p.0) v.stores) answer (let ok : Result Place Refusal = Ok place in ok)
      → Contains (walked a v.stores) place.pool
  go (Ok places) h =
      found_holds (Contains (walked a v.stores)) (has_place (request actor size a prefer avoid) p.0.next_file (counted actor p.0) v.stores) (walked a v.stores) place.pool h.0 (each_contained (walked a v.stores))
  go (Err x) h = absurd cc

-- the pool is there
found_passes : (test : ℕ → Bool) (xs : List ℕ) (x : ℕ) → find test xs ≡ Some x → test x ≡ true
found_passes test [] x h = absurd cc
found_passes test (y ∷ xs) x h =
    elim (test y) as (λ b. test y ≡ b → cond b (Some y) (find test xs) ≡ Some x → test x ≡ true) [
      | true ↦ λ t g. ap test (sym (same_Some y x g)) ∙ t
      | false ↦ λ t g. found_passes test xs x g
    ] refl h

takes_there : (size : ℕ) (o : Option Pool) → may_take size o ≡ true → is_some o ≡ true
takes_there size None h = h
takes_there size (Some p) h = refl

pub pool_there : (r : Request) (v : Inv) (claims : Claims) (spot : ℕ × List Placed) → IsSpot r v claims spot → is_some (pool spot.0 v) ≡ true
pool_there r v claims spot at =
    let c : Counted = counted r.actor claims in
    let has : has_place r claims.next_file c v.stores spot.0 ≡ true = found_passes (has_place r claims.next_file c v.stores) (walked r.aim v.stores) spot.0 at.0 in
    takes_there r.size (row_at spot.0 v.stores.pools) (and_parts (may_take r.size (row_at spot.0 v.stores.pools)) (nat_le r.size (room (pieces spot.0 r.prefer r.avoid claims.next_file c v.stores))) has).0

-- ---- the places

-- a scratch volume's number has one behind it
not_last : (number : ℕ) (used : List Piece) → list_any is_last used ≡ false → AllByRecursion (λ p. p.segment.file + 1 < 2 ^ 32) (map (placed number) used)
not_last number [] none = tt
not_last number (p ∷ used) none =
    let t = or_parts (is_last p) (list_any is_last used) none in
    let below : p.file + 1 < 2 ^ 32 - 1 = leb-false (2 ^ 32 - 1) (p.file + 1) t.0 in
    (omega (arith, below), not_last number used t.1)

pub files_below : (r : Request) (s : PoolRows) (claims : Claims) (places : List Placed) → choose r s claims ≡ Ok places → AllByRecursion (λ p. p.segment.file + 1 < 2 ^ 32) places
files_below r s claims places h = go (pool_for r claims.next_file (counted r.actor claims) s) h where
  go : (o : Option ℕ) → placed_or_refused r s claims o ≡ Ok places → AllByRecursion (λ p. p.segment.file + 1 < 2 ^ 32) places
  go None g = absurd cc
  go (Some number) g = here (list_any is_last (filled r.size (pieces number r.prefer r.avoid claims.next_file (counted r.actor claims) s))) refl g where
    here : (b : Bool) → list_any is_last (filled r.size (pieces number r.prefer r.avoid claims.next_file (counted r.actor claims) s)) ≡ b
        → (if b then Err refusal.InventoryFull else Ok (map (placed number) (filled r.size (pieces number r.prefer r.avoid claims.next_file (counted r.actor claims) s)))) ≡ Ok places
        → AllByRecursion (λ p. p.segment.file + 1 < 2 ^ 32) places
    here true is h = absurd cc
    here false is h =
        let same : map (placed number) (filled r.size (pieces number r.prefer r.avoid claims.next_file (counted r.actor claims) s)) ≡ places = cc in
        subst (λ (l : List Placed). AllByRecursion (λ p. p.segment.file + 1 < 2 ^ 32) l) same (not_last number (filled r.size (pieces number r.prefer r.avoid claims.next_file (counted r.actor claims) s)) is)

-- What is true of the places that a ticket gets.
pub record AreLawful (c : Core) (actor size number : ℕ) (places : List Placed) : Type 0 where
  pub lawful : AllByRecursion (IsLawfulIn c actor number) (map (λ p. p.segment) places)
  pub apart : AllApart places
  pub some : AllByRecursion (λ s. 0 < s.len) (map (λ p. p.segment) places)
  pub whole : sum_by (λ s. s.len) (map (λ p. p.segment) places) ≡ size

pub spot_lawful : (c : Core) (claims : Claims) (actor size : ℕ) (a : Aim) (prefer avoid : ℕ) (spot : ℕ × List Placed) → IsLawful c → NumbersAreDrawn c → SpaceIsClear c
    → AllByRecursion (λ e. is_any_reuse e.change ≡ false) (unforced c) → IsSpace (inventory c) (space c) claims → IsTied (inventory c) → AreRoomy spot.0 (inventory c).stores
    → IsSpot (request actor size a prefer avoid) (inventory c) claims spot → AreLawful c actor size spot.0 spot.1
spot_lawful c claims actor size a prefer avoid spot l numbers clear waiting is tied roomy at =
    let r : Request = request actor size a prefer avoid in
    let whole : IsWhole r (inventory c).stores claims spot.1 = chosen_whole r (inventory c).stores claims spot.1 at.1 in
    let same : whole.number ≡ spot.0 = same_Some whole.number spot.0 (sym whole.first ∙ at.0) in
    let used : List Piece = filled size (pieces spot.0 prefer avoid claims.next_file (counted actor claims) (inventory c).stores) in
    let are : spot.1 ≡ map (placed spot.0) used = whole.are ∙ ap (λ (n : ℕ). map (placed n) (filled size (pieces n prefer avoid claims.next_file (counted actor claims) (inventory c).stores))) same in
    let cuts = cuts_found size spot.0 prefer avoid claims.next_file (counted actor claims) (inventory c).stores roomy.0 roomy.1 in
    let found : Piece → Type 0 = IsFound (pool_capacity spot.0 (inventory c).stores) spot.0 claims.next_file (counted actor claims) (inventory c).stores in
    record {
      lawful = subst (λ (ps : List Placed). AllByRecursion (IsLawfulIn c actor spot.0) (map (λ p. p.segment) ps)) (sym are)
          (to_mapped (IsLawfulIn c actor spot.0) (λ (p : Placed). p.segment) (map (placed spot.0) used)
          (to_mapped (λ (p : Placed). IsLawfulIn c actor spot.0 p.segment) (placed spot.0) used
          (each_also (IsCut found) (λ q. IsLawfulIn c actor spot.0 (record { file = q.file; offset = q.offset; len = q.room })) used
          (λ q k. subst (λ (x : Piece). IsLawfulIn c actor spot.0 (record { file = x.file; offset = x.offset; len = x.room })) (sym k.front)
          (found_lawful c claims actor spot.0 l numbers clear waiting is tied roomy.0 k.piece q.room k.within (pool_capacity spot.0 (inventory c).stores) refl k.is)) cuts)));
      apart = chosen_apart r (inventory c).stores claims spot.1 whole roomy.0 (sorted_sites (inventory c).stores (counted actor claims) roomy.0)
          (sites_below c claims actor spot.0 l numbers clear waiting is tied roomy.0);
      some = subst (λ (ps : List Placed). AllByRecursion (λ s. 0 < s.len) (map (λ p. p.segment) ps)) (sym are)
          (to_mapped (λ (s : Segment). 0 < s.len) (λ (p : Placed). p.segment) (map (placed spot.0) used)
          (to_mapped (λ (p : Placed). 0 < p.segment.len) (placed spot.0) used (each_also (IsCut found) (λ q. 0 < q.room) used (λ q k. k.some) cuts)));
      whole = whole.bytes;
    }

-- ---- the pool of the places

-- the first one's
pub first_pool : (r : Request) (s : PoolRows) (claims : Claims) (places : List Placed) (p : Placed) → choose r s claims ≡ Ok places → slice_get places 0 ≡ Some p
    → pool_for r claims.next_file (counted r.actor claims) s ≡ Some p.pool
first_pool r s claims places p h first =
    let whole : IsWhole r s claims places = chosen_whole r s claims places h in
    let used : List Piece = filled r.size (pieces whole.number r.prefer r.avoid claims.next_file (counted r.actor claims) s) in
    whole.first ∙ ap (λ (n : ℕ). Some n) (of_first whole.number used p (subst (λ (l : List Placed). slice_get l 0 ≡ Some p) whole.are first))
  where
    of_first : (number : ℕ) (used : List Piece) (p : Placed) → slice_get (map (placed number) used) 0 ≡ Some p → number ≡ p.pool
    of_first number [] p at = absurd cc
    of_first number (q ∷ used) p at = ap (λ (x : Placed). x.pool) (same_Some (placed number q) p at)

-- where an object has no bytes each pool that may take it has room
pub first_takes : (r : Request) (s : PoolRows) (claims : Claims) → choose r s claims ≡ Ok []
    → find (λ n. may_take r.size (row_at n s.pools)) (walked r.aim s) ≡ pool_for r claims.next_file (counted r.actor claims) s
first_takes r s claims h = alike (walked r.aim s) where
  none : r.size ≡ 0
  none = sym (chosen_whole r s claims [] h).bytes

  and_true : (b : Bool) → b ≡ (b && true)
  and_true true = refl
  and_true false = refl

  same : (n : ℕ) → may_take r.size (row_at n s.pools) ≡ has_place r claims.next_file (counted r.actor claims) s n
  same n =
      and_true (may_take r.size (row_at n s.pools))
      ∙ ap (λ (b : Bool). may_take r.size (row_at n s.pools) && b) (sym (le-leb r.size (room (pieces n r.prefer r.avoid claims.next_file (counted r.actor claims) s)) (omega (arith, none))))

  alike : (xs : List ℕ) → find (λ n. may_take r.size (row_at n s.pools)) xs ≡ find (has_place r claims.next_file (counted r.actor claims) s) xs
  alike [] = refl
  alike (x ∷ xs) =
      ap (λ (b : Bool). cond b (Some x) (find (λ n. may_take r.size (row_at n s.pools)) xs)) (same x) ∙ ap (λ (o : Option ℕ). cond (has_place r claims.next_file (counted r.actor claims) s x) (Some x) o) (alike xs)

none_first : (places : List Placed) → None ≡ slice_get places 0 → places ≡ []
none_first [] h = refl
none_first (p ∷ places) h = absurd cc

-- so of what is found by a walk over these pools
pub found_pool : (r : Request) (s t : PoolRows) (claims : Claims) (places : List Placed) (numbers : List ℕ) (found : Option ℕ) → t ≡ s → choose r s claims ≡ Ok places → None ≡ slice_get places 0
    → found ≡ find (λ n. may_take r.size (row_at n t.pools)) numbers → numbers ≡ walked r.aim t → found ≡ pool_for r claims.next_file (counted r.actor claims) s
found_pool r s t claims places numbers found same h none is all =
    is ∙ ap (find (λ n. may_take r.size (row_at n t.pools))) all ∙ ap (λ (x : PoolRows). find (λ n. may_take r.size (row_at n x.pools)) (walked r.aim x)) same
    ∙ first_takes r s claims (h ∙ ap (λ (l : List Placed). let ok : Result (List Placed) Refusal = Ok l in ok) (none_first places none))

pub some_pool : (r : Request) (s : PoolRows) (claims : Claims) (places : List Placed) → choose r s claims ≡ Ok places → None ≡ pool_for r claims.next_file (counted r.actor claims) s → ⊥
some_pool r s claims places h none = let whole : IsWhole r s claims places = chosen_whole r s claims places h in let never : None ≡ Some whole.number = none ∙ whole.first in cc
