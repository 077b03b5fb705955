-- A ticket is drawn for a new object, or isn't.
use Rattle.std.proofs.Common.{◌≡◌, ◌⊎◌, inl, inr, ℕ, suc, ◌+◌, ◌-◌, ◌<◌, ◌≤◌, ◌^◌, max, Bool, true, false, not, ◌&&◌, List, [], ◌∷◌, ◌++◌, length, map, Option, Some, None, Result, Ok, Err, refl, sym, ap, subst, ◌∙◌, arith}
use Rattle.std.specs.Prelude.{◌==◌, IfErr, IfOk, OnErr, if◌then◌else◌, nat_le, nat_lt}
use Rattle.std.specs.List.{AllByRecursion}
use Rattle.std.proofs.lemmas.Bool.{and_parts, false≢true, leb-true, ltb-true, ne_eqb}
use Rattle.std.proofs.lemmas.List.{map-append}
use Rattle.store_api.specs.Disk.{History}
use Rattle.kinds.specs.Refusals.{foremost, place_of, refusal_of, unless}
use Rattle.kinds.specs.declared.refusal.Holder.{Holder}
use Rattle.kinds.specs.declared.refusal.Refusal.{Refusal}
use Rattle.kinds.specs.declared.refusal.Refusal.TheVariants as refusal
use Rattle.kinds.specs.declared.segment.Segment.{Segment}
use Rattle.inventory_rows.specs.pool_tables.Rows.{with_row}
use Rattle.inventory_rows.specs.version_groups.Entries.{is_nil}
use Rattle.inventory_rows.specs.version_groups.declared.versions.Version.{Version}
use Rattle.inventory_rows.specs.version_groups.Versions.{version_of}
use Rattle.inventory_rows.specs.Search.{is_primary, versions}
use Rattle.inventory_rows.specs.State.{Inv}
use Rattle.inventory_rules.specs.Held.{IsTied}
use Rattle.inventory_rules.specs.Valid.{is_valid, lie_in}
use Rattle.inventory_laws.proofs.Facts.{facts_of}
use Rattle.inventory_laws.proofs.Lists.{each_also}
use Rattle.space.specs.declared.aim.Aim.{Aim}
use Rattle.space.specs.declared.aim.Aim.TheVariants as aim
use Rattle.space.specs.declared.claims.Claim.{Claim}
use Rattle.space.specs.declared.places.Placed.{Placed}
use Rattle.space.specs.declared.request.Request.{Request}
use Rattle.space.specs.Claims.{Claims, counted}
use Rattle.space.specs.Placing.{choose, pool_for}
use Rattle.steps.specs.Events.{event, is_listed}
use Rattle.steps.specs.Events.Deed.{OpenNew}
use Rattle.machine.specs.Machine.{Made, ended, files_drawn, opened_new, placing_refused, space}
use Rattle.machine.specs.State.{Core, Machine, Place, Purpose, Ticket, copying, inventory, is_storing, object_of, storing}
use Rattle.machine.proofs.Elsewhere.{append-all, append-none, foremost-all, none-held, unless-all}
use Rattle.hall.specs.declared.seat.Hashed.{Hashed}
use Rattle.hall.specs.declared.seat.Purpose.TheVariants.{Storing}
use Rattle.hall.specs.declared.seat.Seat.{Seat}
use Rattle.hall.specs.Covered.{IsNew, IsObject, NumbersAreDrawn, bring_others, inv_at}
use Rattle.hall.specs.Drawn.{AreBelow, AreRoomy, IsOpenedNew, IsSpot, NotOpenedNew, WhyNoSeat, last_file, new_refused_in, new_request, new_seat, object_left, ticket_left, with_object, with_seat}
use Rattle.hall.specs.Good.{Is, IsFront, IsGood, IsLawful, is_firm_at}
use Rattle.hall.specs.Held.{AreSeatsOf, Hall, Held, IsCore, IsSeatOf}
use Rattle.hall.specs.Placed.{claim_of, hall_places, request}
use Rattle.hall.specs.Seats.{ended_at}
use Rattle.machine.specs.Alone.{behind, with_contents, AreBytes}
use Rattle.hall.specs.Steps.{IsTrusted, Steps}
use Rattle.hall.proofs.Along.{each_at, each_draws, run_valid}
use Rattle.hall.proofs.Apart.{both_joined}
use Rattle.hall.proofs.Databases.{last_left, left_lawful}
use Rattle.hall.proofs.Dropping.{no_later}
use Rattle.hall.proofs.Ended.{ended_first, ended_has, ended_is, first_answers, next_answers, none_halted}
use Rattle.hall.proofs.MoreTickets.{drawn_last, fresh_ticket, numbers_join, opened_firm, row_last, seats_below, seats_more, space_joins, taken_joins, to_mapped}
use Rattle.hall.proofs.Seating.{good_seated, seated_core, seated_held, seated_machine}
use Rattle.hall.proofs.Spots.{AreLawful, choose_has, files_below, is_placed, place_by, place_if, place_over, pool_there, spot_back, spot_lawful}
use Rattle.hall.proofs.Stepping.{still_good}

-- ---- what is held, with a ticket more

-- a ticket's claim is what the machine's holds
claim_is : (k : ℕ) (s : Seat) (t : Ticket) → IsSeatOf k s t → (let claim : Claim = record { actor = s.actor; places = s.places } in let row : ℕ × Claim = (k, claim) in row) ≡ claim_of t
claim_is k s t is =
    ap (λ (n : ℕ). let row : ℕ × Claim = (n, record { actor = s.actor; places = s.places }) in row) (sym is.number)
    ∙ ap (λ (n : ℕ). let row : ℕ × Claim = (t.number, record { actor = n; places = s.places }) in row) (sym is.actor)
    ∙ ap (λ (l : List Placed). let row : ℕ × Claim = (t.number, record { actor = t.actor; places = l }) in row) (sym is.places)

pub core_joins : (h : Held) (c : Core) (s : Seat) (t : Ticket) (object next : ℕ) → IsCore h c → AllByRecursion (λ u. u.number < c.next_ticket) c.tickets → 1 ≤ c.next_file → IsSeatOf h.next_ticket s t
    → map (λ p. p.segment) s.places ≡ t.place.segments → object ≡ next
    → IsCore (record (with_seat s h) { next_object = next }) (seated_core (c.tickets ++ (t ∷ [])) (files_drawn t.place.segments c.next_file) object (c.next_ticket + 1) c)
core_joins h c s t object next is below least at are same =
    let claim : Claim = record { actor = s.actor; places = s.places } in
    let keys : AllByRecursion (λ (e : ℕ × Claim). e.0 < h.next_ticket) (map claim_of c.tickets) =
    to_mapped (λ (e : ℕ × Claim). e.0 < h.next_ticket) claim_of c.tickets (each_also (λ u. u.number < c.next_ticket) (λ u. u.number < h.next_ticket) c.tickets (λ u lt. omega (arith, lt, is.next_ticket)) below) in
    let rows = seats_below h.next_ticket h.seats c.tickets is.tickets (each_also (λ u. u.number < c.next_ticket) (λ u. u.number < h.next_ticket) c.tickets (λ u lt. omega (arith, lt, is.next_ticket)) below) in
    record {
      base = is.base;
      journal = is.journal;
      database = is.database;
      stamps = is.stamps;
      forced = is.forced;
      tickets = subst (λ l. AreSeatsOf l (c.tickets ++ (t ∷ []))) (sym (row_last h.next_ticket s h.seats rows)) (seats_more h.next_ticket s t h.seats c.tickets is.tickets at);
      space = record {
        tickets = ap (with_row h.next_ticket claim) is.space.tickets ∙ row_last h.next_ticket claim (map claim_of c.tickets) keys
            ∙ ap (λ (x : ℕ × Claim). map claim_of c.tickets ++ (x ∷ [])) (claim_is h.next_ticket s t at) ∙ sym (map-append claim_of c.tickets (t ∷ []));
        noted = is.space.noted;
        freed = is.space.freed;
        ascending = is.space.ascending;
        next_file = ap (λ (n : ℕ). max n (last_file s.places + 1)) is.space.next_file ∙ sym (drawn_last s.places c.next_file least) ∙ ap (λ (l : List Segment). files_drawn l c.next_file) are;
      };
      next_object = same;
      next_ticket = ap (λ (n : ℕ). n + 1) is.next_ticket;
      image = is.image;
      is_image = is.is_image;
      generation = is.generation;
      log_length = is.log_length;
      fault = is.fault;
    }

-- ---- the object's number

-- no database of the run has an object with the number that is drawn next
not_drawn_yet : (object bound : ℕ) (list : List Version) → lie_in 1 bound (map (λ w. w.object) list) ≡ true → bound ≤ object → version_of object list ≡ None
not_drawn_yet object bound [] h le = refl
not_drawn_yet object bound (w ∷ list) h le =
    let t = and_parts (nat_le 1 w.object && nat_lt w.object bound) (lie_in 1 bound (map (λ x. x.object) list)) h in
    let u = and_parts (nat_le 1 w.object) (nat_lt w.object bound) t.0 in
    let below : w.object < bound = ltb-true w.object bound u.1 in
    ap (λ (b : Bool). if b then Some w else version_of object list) (ne_eqb w.object object (λ (same : w.object ≡ object). omega (arith, below, same, le))) ∙ not_drawn_yet object bound list t.1 le

object_is_new : (c : Core) → IsLawful c → NumbersAreDrawn c → IsNew c c.next_object
object_is_new c l numbers =
    λ count.
    let v : Inv = inv_at count c in
    let valid : is_valid v ≡ true = each_at (λ x. is_valid x ≡ true) c.base c.journal (run_valid c l) count in
    let draws = each_at _ c.base c.journal (each_draws c.base c.journal) count in
    not_drawn_yet c.next_object v.next_object (versions v) (facts_of v valid).objects_drawn (omega (arith, draws.object, numbers.next_object.1))

others_brought : (next key actor size : ℕ) (place : Place) (u : Ticket) → (is_storing u.purpose ≡ true → object_of u.purpose < next) → bring_others u (fresh_ticket key actor size (storing next) place) ≡ true
others_brought next key actor size place u h = go (is_storing u.purpose) refl where
  go : (b : Bool) → is_storing u.purpose ≡ b → not (b && (true && object_of u.purpose == next)) ≡ true
  go false isnt = refl
  go true is = ap (λ (b : Bool). not b) (ne_eqb (object_of u.purpose) next (λ (same : object_of u.purpose ≡ next). let lt = h is in omega (arith, same, lt)))

object_below : (c : Core) (p : Purpose) → IsObject c p → is_storing p ≡ true → object_of p < c.next_object
object_below c (storing x) h is = h.1
object_below c (copying x a) h is = absurd (false≢true is)

as_many : (places : List Placed) → length (map (λ p. p.segment) places) ≡ length places
as_many [] = refl
as_many (p ∷ places) = ap (λ (n : ℕ). suc n) (as_many places)

-- ---- what is kept

module _ (told : Option History) (m : Machine) (held : Held) (good : IsGood told m held) (none : m.core.fault ≡ None) (core : IsCore held m.core) where
  pub least_file : 4 ≤ m.core.next_file
  least_file =
      let f = facts_of (inventory m.core) (last_left (λ v. is_valid v ≡ true) m.core (left_lawful m.core good.lawful)) in
      let t = and_parts (nat_le 4 (inventory m.core).next_file && nat_lt (inventory m.core).next_file (2 ^ 32 - 1)) true f.files_bounded in
      let u = and_parts (nat_le 4 (inventory m.core).next_file) (nat_lt (inventory m.core).next_file (2 ^ 32 - 1)) t.0 in
      let least : 4 ≤ (inventory m.core).next_file = leb-true 4 (inventory m.core).next_file u.0 in
      omega (arith, least, good.numbers.next_file.1)

  -- a ticket joins that took nothing, in places that placing chose
  pub good_joins : (actor size : ℕ) (purpose : Purpose) (a : Aim) (prefer avoid : ℕ) (spot : ℕ × List Placed) (seats : List (ℕ × Seat))
      (firm : ((k : ℕ) → is_firm_at k seats ≡ true → is_firm_at k held.seats ≡ true) × (is_firm_at m.core.next_ticket seats ≡ false)) (claims : Claims) (object o n : ℕ)
      → IsTied (inventory m.core) → AreRoomy spot.0 (inventory m.core).stores → IsSpot (request actor size a prefer avoid) (inventory m.core) held.claims spot
      → size < 2 ^ 44 → length spot.1 ≤ 2 ^ 23 → m.core.next_ticket + 1 < 2 ^ 62 → m.core.next_object ≤ object → object < 2 ^ 62
      → (let place : Place = record { pool = spot.0; segments = map (λ p. p.segment) spot.1 } in
      let t : Ticket = fresh_ticket m.core.next_ticket actor size purpose place in
      IsObject (seated_core (m.core.tickets ++ (t ∷ [])) (files_drawn (map (λ p. p.segment) spot.1) m.core.next_file) object (m.core.next_ticket + 1) m.core) purpose
      → AllByRecursion (λ u. bring_others u t ≡ true) m.core.tickets → IsFront m.contents (inventory m.core) purpose size []
      → IsGood told (seated_machine (m.core.tickets ++ (t ∷ [])) (files_drawn (map (λ p. p.segment) spot.1) m.core.next_file) object (m.core.next_ticket + 1) m) (seated_held seats claims o n held))
  good_joins actor size purpose a prefer avoid spot seats firm claims object o n tied roomy at small few left more bound mine others front =
      let place : Place = record { pool = spot.0; segments = map (λ p. p.segment) spot.1 } in
      let t : Ticket = fresh_ticket m.core.next_ticket actor size purpose place in
      let file : ℕ = files_drawn (map (λ p. p.segment) spot.1) m.core.next_file in
      let are : AreLawful m.core actor size spot.0 spot.1 =
      spot_lawful m.core held.claims actor size a prefer avoid spot good.lawful good.numbers good.space (good.stamped.waiting none) core.space tied roomy at in
      let files : AllByRecursion (λ s. s.file + 1 < 2 ^ 32) (map (λ p. p.segment) spot.1) =
      to_mapped (λ (s : Segment). s.file + 1 < 2 ^ 32) (λ (p : Placed). p.segment) spot.1 (files_below (request actor size a prefer avoid) (inventory m.core).stores held.claims spot.1 at.1) in
      let fewer : length (map (λ p. p.segment) spot.1) ≤ 2 ^ 23 = let same : length (map (λ (p : Placed). p.segment) spot.1) ≡ length spot.1 = as_many spot.1 in omega (arith, same, few) in
      good_seated (m.core.tickets ++ (t ∷ [])) file object (m.core.next_ticket + 1) told m held seats claims o n good
      (space_joins m.core t file object (m.core.next_ticket + 1) spot.1 refl refl refl are.lawful are.apart are.some are.whole small fewer good.space)
      (numbers_join m.core t file object (m.core.next_ticket + 1) spot.1 refl refl refl are.lawful are.apart are.some are.whole small fewer good.numbers refl refl left refl files more bound mine (pool_there (request actor size a prefer avoid) (inventory m.core) held.claims spot at) others)
      (both_joined (λ u. IsFront m.contents (inventory m.core) u.purpose u.size u.bytes) m.core.tickets (t ∷ []) good.bytes.fronts (front, tt))
      (taken_joins m.core t file object (m.core.next_ticket + 1) spot.1 refl refl refl are.lawful are.apart are.some are.whole small fewer held.seats seats firm.0 firm.1)

-- ---- the refusals

no_refusal : (b : Bool) (e : Refusal) → foremost (unless b e) ≡ None → b ≡ true
no_refusal true e h = refl
no_refusal false e h = absurd cc

small_size : (number size : ℕ) (v : Inv) → foremost (new_refused_in number size v) ≡ None → size < 2 ^ 44
small_size number size v h =
    let parts = append-none (unless (nat_lt size (2 ^ 44)) refusal.TooLarge) (unless (is_primary number v) refusal.NotFound) (none-held (new_refused_in number size v) h) in
    ltb-true size (2 ^ 44) (no_refusal (nat_lt size (2 ^ 44)) refusal.TooLarge (ap foremost parts.0))

can_place : (l : List Refusal) → foremost l ≡ None → is_nil l ≡ true
can_place l h = ap is_nil (none-held l h)

pub none_then : (a b : List Refusal) → foremost a ≡ None → foremost b ≡ None → foremost (a ++ b) ≡ None
none_then a b x y = next_answers a b x ∙ y

pub no_unless : (b : Bool) (e : Refusal) → b ≡ true → foremost (unless b e) ≡ None
no_unless b e is = ap (λ t. foremost (unless t e)) is

pub placed_ok : (r : Request) (v : Inv) (claims : Claims) (spot : ℕ × List Placed) → IsSpot r v claims spot → place_over r v claims ≡ Ok (record { pool = spot.0; segments = map (λ p. p.segment) spot.1 })
placed_ok r v claims spot at =
    ap (λ (o : Option ℕ). place_by o (choose r v.stores claims)) at.0 ∙ ap (λ (x : Result (List Placed) Refusal). place_by (Some spot.0) x) at.1

either_full : (a b : Bool) → (a && b) ≡ false → foremost (unless a refusal.InventoryFull ++ unless b refusal.InventoryFull) ≡ Some refusal.InventoryFull
either_full true true h = absurd (false≢true (sym h))
either_full true false h = refl
either_full false true h = refl
either_full false false h = refl

-- what holds of want of room and the like holds of what placing answers
pub placing_all : (P : Refusal → Type 0) → ((n : ℕ) → P (refusal.NoSpace n)) → ((h : Holder) → P (refusal.Busy h)) → P refusal.InventoryFull → P refusal.NotFound
    → (b : Bool) (r : Request) (v : Inv) (claims : Claims) → AllByRecursion P (placing_refused b (place_if b r v claims))
placing_all P full busy over absent false r v claims = tt
placing_all P full busy over absent true r v claims = go (choose r v.stores claims) refl where
  put : (o : Option ℕ) (places : List Placed) → AllByRecursion P (refusal_of (place_by o (Ok places)))
  put None places = (absent, tt)
  put (Some n) places = tt

  go : (answer : Result (List Placed) Refusal) → choose r v.stores claims ≡ answer → AllByRecursion P (refusal_of (place_by (pool_for r claims.next_file (counted r.actor claims) v.stores) answer))
  go (Err e) is = (choose_has P full busy over r v.stores claims e is, tt)
  go (Ok places) is = put (pool_for r claims.next_file (counted r.actor claims) v.stores) places

-- ---- the step

module _ {S : Type 0} (told : S → Option History) (moment : S → ℕ) (faults : S → ℕ → ℕ) (actor number size prefer : ℕ) (hall : Hall S) where
  abbrev can : Core → Bool
  can c = is_nil (new_refused_in number size (inventory c))

  abbrev asked : Request
  asked = request actor size (aim.New number) prefer 0

  module _ (free : foremost (ended_at (moment hall.store) hall.held) ≡ None) (ticket : ℕ) (new : Held) (o : IsOpenedNew actor number size prefer hall.held new ticket) where
    abbrev place : Place
    place = record { pool = o.spot.0; segments = map (λ p. p.segment) o.spot.1 }

    abbrev opened_held : Held
    opened_held = with_object (with_seat (new_seat actor size (Storing hall.held.next_object) o.hashed o.spot) hall.held)

    opens : Steps told moment faults actor (OpenNew number size prefer (Ok ticket)) hall (record hall { held = opened_held })
    opens = λ m is.
        let c : Core = m.core in
        let v : Inv = inventory c in
        let same : hall.held.vault.database ≡ v = is.core.database in
        let allowed : foremost (new_refused_in number size v) ≡ None = subst (λ (x : Inv). foremost (new_refused_in number size x) ≡ None) same o.allowed in
        let at : IsSpot asked v hall.held.claims o.spot = subst (λ (x : Inv). IsSpot asked x hall.held.claims o.spot) same o.is_spot in
        let roomy : AreRoomy o.spot.0 v.stores = subst (λ (x : Inv). AreRoomy o.spot.0 x.stores) same o.roomy in
        let tied : IsTied v = subst IsTied same o.tied in
        let left = and_parts (object_left hall.held) (ticket_left hall.held) o.left in
        let objects : nat_lt (c.next_object + 1) (2 ^ 62) ≡ true = ap (λ (n : ℕ). nat_lt (n + 1) (2 ^ 62)) is.core.next_object ∙ left.0 in
        let tickets : nat_lt (c.next_ticket + 1) (2 ^ 62) ≡ true = ap (λ (n : ℕ). nat_lt (n + 1) (2 ^ 62)) is.core.next_ticket ∙ left.1 in
        let one : can c ≡ true = can_place (new_refused_in number size v) allowed in
        let put : place_over asked v hall.held.claims ≡ Ok place = placed_ok asked v hall.held.claims o.spot at in
        let found : place_if (can c) asked v hall.held.claims ≡ Ok place = ap (λ (b : Bool). place_if b asked v hall.held.claims) one ∙ put in
        let placing : foremost (placing_refused (can c) (place_if (can c) asked v hall.held.claims)) ≡ None =
        ap (λ (b : Bool). foremost (placing_refused b (place_if b asked v hall.held.claims))) one ∙ ap (λ (r : Result Place Refusal). foremost (refusal_of r)) put in
        let none : foremost (ended m ++ (new_refused_in number size v ++ (placing_refused (can c) (place_if (can c) asked v hall.held.claims)
        ++ (unless (nat_lt (c.next_object + 1) (2 ^ 62)) refusal.InventoryFull ++ unless (nat_lt (c.next_ticket + 1) (2 ^ 62)) refusal.InventoryFull)))) ≡ None =
        none_then (ended m) _ (ap foremost (ended_is (moment hall.store) hall.held m is.core is.clock) ∙ free)
        (none_then (new_refused_in number size v) _ allowed
        (none_then (placing_refused (can c) (place_if (can c) asked v hall.held.claims)) _ placing
        (none_then (unless (nat_lt (c.next_object + 1) (2 ^ 62)) refusal.InventoryFull) _ (no_unless (nat_lt (c.next_object + 1) (2 ^ 62)) refusal.InventoryFull objects)
        (no_unless (nat_lt (c.next_ticket + 1) (2 ^ 62)) refusal.InventoryFull tickets)))) in
        let next : Machine = record m { core = opened_new actor size place c } in
        let fault : c.fault ≡ None = is.core.fault ∙ none_halted (moment hall.store) hall.held free in
        let below_object : c.next_object + 1 < 2 ^ 62 = ltb-true (c.next_object + 1) (2 ^ 62) objects in
        let below_ticket : c.next_ticket + 1 < 2 ^ 62 = ltb-true (c.next_ticket + 1) (2 ^ 62) tickets in
        let seat : IsSeatOf hall.held.next_ticket (new_seat actor size (Storing hall.held.next_object) o.hashed o.spot) (fresh_ticket c.next_ticket actor size (storing c.next_object) place) = record {
          number = is.core.next_ticket;
          actor = refl;
          purpose = ap storing is.core.next_object;
          size = refl;
          pool = refl;
          places = spot_back asked v.stores hall.held.claims o.spot.1 o.spot.0 at.0 at.1;
          count = refl;
          is_sealed = refl;
          hashed = o.empty;
        } in (
          m.contents,
          next,
          refl,
          record {
            number = refl;
            later = no_later m m.contents next refl refl;
            step = (
              place_if (can c) asked v hall.held.claims,
              is_placed (can c) v (space c) hall.held.claims actor size (aim.New number) prefer 0 is.core.space,
              (none, (place, found, o.numbered ∙ sym is.core.next_ticket, record { core = refl; contents = refl })),
            );
          },
          record {
            core = core_joins hall.held c (new_seat actor size (Storing hall.held.next_object) o.hashed o.spot) (fresh_ticket c.next_ticket actor size (storing c.next_object) place) (c.next_object + 1)
                (hall.held.next_object + 1) is.core is.good.numbers.below (let least = least_file (told hall.store) m hall.held is.good fault is.core in omega (arith, least)) seat refl (ap (λ (n : ℕ). n + 1) is.core.next_object);
            clock = is.clock;
            counts = is.counts;
            good = good_joins (told hall.store) m hall.held is.good fault is.core actor size (storing c.next_object) (aim.New number) prefer 0 o.spot opened_held.seats
                (opened_firm hall.held.next_ticket c.next_ticket (new_seat actor size (Storing hall.held.next_object) o.hashed o.spot) hall.held.seats c.tickets is.core.tickets is.good.numbers.below is.core.next_ticket refl)
                opened_held.claims (c.next_object + 1)
                opened_held.next_object opened_held.next_ticket tied roomy at (small_size number size v allowed) o.few below_ticket (omega arith) below_object
                (omega (arith, is.good.numbers.next_object.0, is.good.numbers.next_object.1), omega arith, object_is_new c is.good.lawful is.good.numbers)
                (each_also (λ u. IsObject c u.purpose) (λ u. bring_others u (fresh_ticket c.next_ticket actor size (storing c.next_object) place) ≡ true) c.tickets
                (λ u h. others_brought c.next_object c.next_ticket actor size place u (object_below c u.purpose h)) is.good.numbers.objects) tt;
          },
        )

    pub opens_new : Steps told moment faults actor (OpenNew number size prefer (Ok ticket)) hall (record { store = hall.store; held = new })
    opens_new = subst (λ h. Steps told moment faults actor (OpenNew number size prefer (Ok ticket)) hall (record { store = hall.store; held = h })) (sym o.becomes) opens

  -- ---- where none is drawn

  module _ (m : Machine) (is : Is told moment faults hall m) where
    abbrev placing : List Refusal
    placing = placing_refused (can m.core) (place_if (can m.core) asked (inventory m.core) hall.held.claims)

    abbrev numbers_list : List Refusal
    numbers_list = unless (nat_lt (m.core.next_object + 1) (2 ^ 62)) refusal.InventoryFull ++ unless (nat_lt (m.core.next_ticket + 1) (2 ^ 62)) refusal.InventoryFull

    abbrev all_list : List Refusal
    all_list = ended m ++ (new_refused_in number size (inventory m.core) ++ (placing ++ numbers_list))

    refused_with : (e : Refusal) → (foremost all_list ≡ Some e) ⊎ (e ≡ refusal.Memory)
        → (seen : ℕ → List ℕ) × (next : Machine) × AreBytes (IsTrusted (told hall.store) hall.held) (OpenNew number size prefer (Err e)) m.contents seen
        × Made hall_places actor (event (inventory m.core).number (OpenNew number size prefer (Err e))) (with_contents seen m) next × Is told moment faults hall (behind (OpenNew number size prefer (Err e)) m.contents next)
    refused_with e held = (
      m.contents,
      m,
      refl,
      record {
        number = refl;
        later = no_later m m.contents m refl refl;
        step = (
          place_if (can m.core) asked (inventory m.core) hall.held.claims,
          is_placed (can m.core) (inventory m.core) (space m.core) hall.held.claims actor size (aim.New number) prefer 0 is.core.space,
          inl (held, record { core = refl; contents = refl }),
        );
      },
      is,
    )

    -- what comes behind the database's own refusals
    later_all : (P : Refusal → Type 0) → P refusal.NotFound → ((n : ℕ) → P (refusal.NoSpace n)) → ((h : Holder) → P (refusal.Busy h)) → P refusal.InventoryFull → AllByRecursion P (placing ++ numbers_list)
    later_all P absent full busy over =
        append-all P placing numbers_list (placing_all P full busy over absent (can m.core) asked (inventory m.core) hall.held.claims)
        (append-all P (unless (nat_lt (m.core.next_object + 1) (2 ^ 62)) refusal.InventoryFull) (unless (nat_lt (m.core.next_ticket + 1) (2 ^ 62)) refusal.InventoryFull)
        (unless-all P (nat_lt (m.core.next_object + 1) (2 ^ 62)) refusal.InventoryFull over) (unless-all P (nat_lt (m.core.next_ticket + 1) (2 ^ 62)) refusal.InventoryFull over))

    new_all : (P : Refusal → Type 0) → P refusal.TooLarge → P refusal.NotFound → AllByRecursion P (new_refused_in number size (inventory m.core))
    new_all P large absent =
        append-all P (unless (nat_lt size (2 ^ 44)) refusal.TooLarge) (unless (is_primary number (inventory m.core)) refusal.NotFound) (unless-all P (nat_lt size (2 ^ 44)) refusal.TooLarge large)
        (unless-all P (is_primary number (inventory m.core)) refusal.NotFound absent)

    first_is : (e : Refusal) → foremost (ended_at (moment hall.store) hall.held) ≡ Some e → foremost all_list ≡ Some e
    first_is e full =
        ap (λ (l : List Refusal). foremost (l ++ (new_refused_in number size (inventory m.core) ++ (placing ++ numbers_list)))) (ended_is (moment hall.store) hall.held m is.core is.clock)
        ∙ ended_first (moment hall.store) hall.held (new_refused_in number size (inventory m.core) ++ (placing ++ numbers_list)) e full
        (append-all (λ y. 1 ≤ place_of y) (new_refused_in number size (inventory m.core)) (placing ++ numbers_list) (new_all (λ y. 1 ≤ place_of y) (omega arith) (omega arith))
        (later_all (λ y. 1 ≤ place_of y) (omega arith) (λ n. omega arith) (λ h. omega arith) (omega arith)))

    module _ (free : foremost (ended_at (moment hall.store) hall.held) ≡ None) where
      behind_ended : foremost all_list ≡ foremost (new_refused_in number size (inventory m.core) ++ (placing ++ numbers_list))
      behind_ended = next_answers (ended m) (new_refused_in number size (inventory m.core) ++ (placing ++ numbers_list)) (ap foremost (ended_is (moment hall.store) hall.held m is.core is.clock) ∙ free)

      refused_is : (e : Refusal) → foremost (new_refused_in number size (inventory m.core)) ≡ Some e → foremost all_list ≡ Some e
      refused_is e here =
          let low : place_of e ≤ 12 = foremost-all (λ x. place_of x ≤ 12) (new_refused_in number size (inventory m.core)) (new_all (λ x. place_of x ≤ 12) (omega arith) (omega arith)) e here in
          behind_ended
          ∙ first_answers (new_refused_in number size (inventory m.core)) (placing ++ numbers_list) e here
          (later_all (λ y. place_of e ≤ place_of y) (omega (arith, low)) (λ n. omega (arith, low)) (λ h. omega (arith, low)) (omega (arith, low)))

      module _ (allowed : foremost (new_refused_in number size (inventory m.core)) ≡ None) where
        behind_own : foremost all_list ≡ foremost (placing ++ numbers_list)
        behind_own = behind_ended ∙ next_answers (new_refused_in number size (inventory m.core)) (placing ++ numbers_list) allowed

        one : can m.core ≡ true
        one = can_place (new_refused_in number size (inventory m.core)) allowed

        nowhere_is : (e : Refusal) → choose asked (inventory m.core).stores hall.held.claims ≡ Err e → foremost all_list ≡ Some e
        nowhere_is e none =
            let low : place_of e ≤ 33 = choose_has (λ x. place_of x ≤ 33) (λ n. omega arith) (λ h. omega arith) (omega arith) asked (inventory m.core).stores hall.held.claims e none in
            let mine : foremost placing ≡ Some e =
            ap (λ (b : Bool). foremost (placing_refused b (place_if b asked (inventory m.core) hall.held.claims))) one
            ∙ ap (λ (x : Result (List Placed) Refusal). foremost (refusal_of (place_by (pool_for asked hall.held.claims.next_file (counted actor hall.held.claims) (inventory m.core).stores) x))) none in
            behind_own
            ∙ first_answers placing numbers_list e mine
            (append-all (λ y. place_of e ≤ place_of y) (unless (nat_lt (m.core.next_object + 1) (2 ^ 62)) refusal.InventoryFull) (unless (nat_lt (m.core.next_ticket + 1) (2 ^ 62)) refusal.InventoryFull)
            (unless-all (λ y. place_of e ≤ place_of y) (nat_lt (m.core.next_object + 1) (2 ^ 62)) refusal.InventoryFull (omega (arith, low)))
            (unless-all (λ y. place_of e ≤ place_of y) (nat_lt (m.core.next_ticket + 1) (2 ^ 62)) refusal.InventoryFull (omega (arith, low))))

        full_is : (spot : ℕ × List Placed) → IsSpot asked (inventory m.core) hall.held.claims spot → (object_left hall.held && ticket_left hall.held) ≡ false → foremost all_list ≡ Some refusal.InventoryFull
        full_is spot at none =
            let mine : foremost placing ≡ None =
            ap (λ (b : Bool). foremost (placing_refused b (place_if b asked (inventory m.core) hall.held.claims))) one
            ∙ ap (λ (r : Result Place Refusal). foremost (refusal_of r)) (placed_ok asked (inventory m.core) hall.held.claims spot at) in
            behind_own ∙ next_answers placing numbers_list mine
            ∙ either_full (nat_lt (m.core.next_object + 1) (2 ^ 62)) (nat_lt (m.core.next_ticket + 1) (2 ^ 62))
            (ap (λ (n : ℕ). nat_lt (n + 1) (2 ^ 62) && nat_lt (m.core.next_ticket + 1) (2 ^ 62)) is.core.next_object ∙ ap (λ (n : ℕ). object_left hall.held && nat_lt (n + 1) (2 ^ 62)) is.core.next_ticket ∙ none)

      not_opened : (v : Inv) (e : Refusal) → v ≡ inventory m.core
          → (foremost (new_refused_in number size v) ≡ Some e)
          ⊎ ((foremost (new_refused_in number size v) ≡ None)
          × ((choose asked v.stores hall.held.claims ≡ Err e) ⊎ (((spot : ℕ × List Placed) × IsSpot asked v hall.held.claims spot) × ((object_left hall.held && ticket_left hall.held) ≡ false) × (e ≡ refusal.InventoryFull))))
          → foremost all_list ≡ Some e
      not_opened v e same (inl h) = refused_is e (subst (λ (x : Inv). foremost (new_refused_in number size x) ≡ Some e) same h)
      not_opened v e same (inr h) = rest h.1 where
        allowed : foremost (new_refused_in number size (inventory m.core)) ≡ None
        allowed = subst (λ (x : Inv). foremost (new_refused_in number size x) ≡ None) same h.0

        rest : (choose asked v.stores hall.held.claims ≡ Err e) ⊎ (((spot : ℕ × List Placed) × IsSpot asked v hall.held.claims spot) × ((object_left hall.held && ticket_left hall.held) ≡ false) × (e ≡ refusal.InventoryFull))
            → foremost all_list ≡ Some e
        rest (inl none) = nowhere_is allowed e (subst (λ (x : Inv). choose asked x.stores hall.held.claims ≡ Err e) same none)
        rest (inr full) =
            full_is allowed full.0.0 (subst (λ (x : Inv). IsSpot asked x hall.held.claims full.0.0) same full.0.1) full.1 ∙ ap (λ (x : Refusal). Some x) (sym full.2)

  pub not_drawn_ended : (e : Refusal) → foremost (ended_at (moment hall.store) hall.held) ≡ Some e → Steps told moment faults actor (OpenNew number size prefer (Err e)) hall hall
  not_drawn_ended e full = λ m is. refused_with m is e (inl (first_is m is e full))

  pub not_drawn : foremost (ended_at (moment hall.store) hall.held) ≡ None → (e : Refusal) → NotOpenedNew actor number size prefer hall.held e ⊎ (e ≡ refusal.Memory)
      → Steps told moment faults actor (OpenNew number size prefer (Err e)) hall hall
  not_drawn free e (inl why) = λ m is. refused_with m is e (inl (not_opened m is free hall.held.vault.database e is.core.database why))
  not_drawn free e (inr memory) = λ m is. refused_with m is e (inr memory)

-- ---- its refusals

pub new_ended_listed : (moment : ℕ) (h : Held) (number size prefer : ℕ) (e : Refusal) → foremost (ended_at moment h) ≡ Some e → is_listed (OpenNew number size prefer (Err e)) ≡ true
unfolding is_listed
new_ended_listed moment h number size prefer e is = ended_has (λ x. is_listed (OpenNew number size prefer (Err x)) ≡ true) refl (λ file count. refl) moment h e is

pub new_listed : (actor number size prefer : ℕ) (h : Held) (e : Refusal) → NotOpenedNew actor number size prefer h e ⊎ (e ≡ refusal.Memory) → is_listed (OpenNew number size prefer (Err e)) ≡ true
unfolding is_listed
new_listed actor number size prefer h e (inr memory) = ap (λ (x : Refusal). is_listed (OpenNew number size prefer (Err x))) memory
new_listed actor number size prefer h e (inl (inl own)) =
    foremost-all (λ x. is_listed (OpenNew number size prefer (Err x)) ≡ true) (new_refused_in number size h.vault.database)
    (append-all (λ x. is_listed (OpenNew number size prefer (Err x)) ≡ true) (unless (nat_lt size (2 ^ 44)) refusal.TooLarge) (unless (is_primary number h.vault.database) refusal.NotFound)
    (unless-all (λ x. is_listed (OpenNew number size prefer (Err x)) ≡ true) (nat_lt size (2 ^ 44)) refusal.TooLarge refl)
    (unless-all (λ x. is_listed (OpenNew number size prefer (Err x)) ≡ true) (is_primary number h.vault.database) refusal.NotFound refl)) e own
new_listed actor number size prefer h e (inl (inr why)) = of_place why.1 where
  of_place : WhyNoSeat (new_request actor number size prefer) h (object_left h && ticket_left h) e → is_listed (OpenNew number size prefer (Err e)) ≡ true
  of_place (inl none) =
      choose_has (λ x. is_listed (OpenNew number size prefer (Err x)) ≡ true) (λ n. refl) (λ w. refl) refl (new_request actor number size prefer) h.vault.database.stores h.claims e none
  of_place (inr full) = ap (λ (x : Refusal). is_listed (OpenNew number size prefer (Err x))) full.2

pub opened_listed : (number size prefer ticket : ℕ) → is_listed (OpenNew number size prefer (Ok ticket)) ≡ true
unfolding is_listed
opened_listed number size prefer ticket = refl

-- ---- as the hall's parts say it

pub both_as : (a b x y t : Bool) → a ≡ x → b ≡ y → (a && b) ≡ t → (x && y) ≡ t
both_as a b x y t p q h = ap (λ (z : Bool). z && y) (sym p) ∙ ap (λ (z : Bool). a && z) (sym q) ∙ h

-- each ticket that is held has a number below the next one
pub below_held : {S : Type 0} → (told : S → Option History) → (moment : S → ℕ) → (faults : S → ℕ → ℕ) → (hall : Hall S) → ((m : Machine) × Is told moment faults hall m) → AreBelow hall.held
below_held told moment faults hall good =
    let is = good.1 in
    seats_below hall.held.next_ticket hall.held.seats good.0.core.tickets is.core.tickets
    (each_also (λ u. u.number < good.0.core.next_ticket) (λ u. u.number < hall.held.next_ticket) good.0.core.tickets (λ u lt. omega (arith, lt, is.core.next_ticket)) is.good.numbers.below)

module _ {S : Type 0} (told : S → Option History) (moment : S → ℕ) (faults : S → ℕ → ℕ) (actor number size prefer : ℕ) (hall : Hall S) (free : foremost (ended_at (moment hall.store) hall.held) ≡ None) where
  pub new_step : (result : Result ℕ Refusal) (new : Held) → IfOk result (λ ticket. IsOpenedNew actor number size prefer hall.held new ticket) → OnErr result (new ≡ hall.held)
      → IfErr result (λ e. NotOpenedNew actor number size prefer hall.held e ⊎ (e ≡ refusal.Memory)) → Steps told moment faults actor (OpenNew number size prefer result) hall (record { store = hall.store; held = new })
  new_step (Ok ticket) new ok same err = opens_new told moment faults actor number size prefer hall free ticket new ok
  new_step (Err e) new ok same err =
      subst (λ h. Steps told moment faults actor (OpenNew number size prefer (Err e)) hall (record { store = hall.store; held = h })) (sym same) (not_drawn told moment faults actor number size prefer hall free e err)

  pub new_good : (result : Result ℕ Refusal) (new : Held) → IfOk result (λ ticket. IsOpenedNew actor number size prefer hall.held new ticket) → OnErr result (new ≡ hall.held)
      → IfErr result (λ e. NotOpenedNew actor number size prefer hall.held e ⊎ (e ≡ refusal.Memory)) → ((m : Machine) × Is told moment faults hall m)
      → (m : Machine) × Is told moment faults (record { store = hall.store; held = new }) m
  new_good result new ok same err good =
      still_good told moment faults actor (OpenNew number size prefer result) hall (record { store = hall.store; held = new }) (new_step result new ok same err) good

pub new_result_listed : (actor number size prefer : ℕ) (h : Held) (result : Result ℕ Refusal) → IfErr result (λ e. NotOpenedNew actor number size prefer h e ⊎ (e ≡ refusal.Memory))
    → is_listed (OpenNew number size prefer result) ≡ true
new_result_listed actor number size prefer h (Ok ticket) err = opened_listed number size prefer ticket
new_result_listed actor number size prefer h (Err e) err = new_listed actor number size prefer h e err

pub becomes_opened : (actor size : ℕ) (hashed : Hashed) (spot : ℕ × List Placed) (inside now seated view : Held) → inside ≡ now → seated ≡ with_seat (new_seat actor size (Storing inside.next_object) hashed spot) now → view ≡ seated
    → record view { next_object = inside.next_object + 1 } ≡ with_object (with_seat (new_seat actor size (Storing now.next_object) hashed spot) now)
becomes_opened actor size hashed spot inside now seated view is made seen =
    ap (λ (h : Held). record h { next_object = inside.next_object + 1 }) (seen ∙ made)
    ∙ ap (λ (n : ℕ). record (with_seat (new_seat actor size (Storing n) hashed spot) now) { next_object = n + 1 }) (ap (λ (h : Held). h.next_object) is)
