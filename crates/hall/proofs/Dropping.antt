-- A ticket goes, and its space is given back.
use Rattle.std.proofs.Common.{◌≡◌, inl, ℕ, ◌≤◌, Bool, true, false, not, is_some, List, [], ◌∷◌, ◌++◌, Option, Some, None, Ok, Err, refl, sym, ap, subst, ◌∙◌, arith}
use Rattle.std.specs.List.{AllByRecursion}
use Rattle.store_api.specs.Disk.{History}
use Rattle.kinds.specs.Refusals.{foremost, place_of}
use Rattle.kinds.specs.declared.refusal.Refusal.{Refusal}
use Rattle.kinds.specs.declared.refusal.Refusal.TheVariants as refusal
use Rattle.inventory_rows.specs.pool_tables.Rows.{without_row}
use Rattle.inventory_rows.specs.version_groups.Entries.{all_later}
use Rattle.steps.specs.Events.{is_listed}
use Rattle.steps.specs.Events.Deed.{DropTicket}
use Rattle.machine.specs.Causes.{drop_refused, of_ticket}
use Rattle.machine.specs.Machine.{Later, dropping, ended}
use Rattle.machine.specs.State.{Core, Machine, Ticket, inventory, is_among, own_tickets, sight, ticket, without}
use Rattle.hall.specs.Covered.{IsClear, IsFilled, NumbersAreDrawn, SpaceIsClear, all_space, are_apart_in, bring_others, is_later}
use Rattle.hall.specs.Good.{HasTaken, Is, IsFront, IsGood}
use Rattle.hall.specs.Held.{Hall, Held, IsCore}
use Rattle.hall.specs.Seats.{ended_at, own_seat, without_seat}
use Rattle.machine.specs.Alone.{with_contents}
use Rattle.hall.specs.Steps.{Steps}
use Rattle.hall.proofs.Ended.{ended_first, ended_has, ended_is, next_answers, of_absent, of_there}
use Rattle.hall.proofs.FirmSeats.{all_less, firm_gone}
use Rattle.hall.proofs.Lists.{each_kept, later_kept, pairs_kept}
use Rattle.hall.proofs.Seating.{good_seated}
use Rattle.hall.proofs.Stepping.{still_good}
use Rattle.hall.proofs.Tickets.{claims_gone, matches, matches_some, seats_gone}

pub no_later : (m : Machine) (contents : ℕ → List ℕ) (next : Machine) → next.counts ≡ m.counts → next.moment ≡ m.moment → Later (with_contents contents m) next
no_later m contents next counts moment = record {
  counts = λ file. omega (arith, ap (λ (f : ℕ → ℕ). f file) counts);
  since = omega (arith, moment);
  soon = omega (arith, moment);
}

-- ---- what is kept

space_gone : (actor number : ℕ) (c : Core) → SpaceIsClear c → SpaceIsClear (dropping actor number c)
space_gone actor number c s =
    let stays : Ticket → Bool = λ t. not (is_among actor (number ∷ []) t) in
    record {
      filled = each_kept IsFilled stays c.tickets s.filled;
      clear = each_kept (λ t. AllByRecursion (IsClear c t.place.pool) t.place.segments) stays c.tickets s.clear;
      apart = ap (all_later (are_apart_in (inventory c))) (pairs_kept (λ t. t.place.segments) stays c.tickets) ∙ later_kept (are_apart_in (inventory c)) (λ e. stays e.0) (all_space c.tickets) s.apart;
    }

numbers_gone : (actor number : ℕ) (c : Core) → NumbersAreDrawn c → NumbersAreDrawn (dropping actor number c)
numbers_gone actor number c n =
    let stays : Ticket → Bool = λ t. not (is_among actor (number ∷ []) t) in
    record {
      tickets = later_kept is_later stays c.tickets n.tickets;
      below = each_kept _ stays c.tickets n.below;
      objects = each_kept _ stays c.tickets n.objects;
      apart = later_kept bring_others stays c.tickets n.apart;
      pools = each_kept _ stays c.tickets n.pools;
      files = each_kept _ stays c.tickets n.files;
      lying = each_kept _ stays c.tickets n.lying;
      none_back = n.none_back;
      next_file = n.next_file;
      next_object = n.next_object;
      bounds = n.bounds;
    }

pub good_gone : (actor number : ℕ) (told : Option History) (m : Machine) (held : Held) → IsGood told m held → IsGood told (record m { core = dropping actor number m.core }) (without_seat number held)
good_gone actor number told m held g =
    let stays : Ticket → Bool = λ t. not (is_among actor (number ∷ []) t) in
    let c : Core = m.core in
    good_seated (without actor (number ∷ []) c.tickets) c.next_file c.next_object c.next_ticket told m held (without_seat number held).seats
    (without_seat number held).claims held.next_object held.next_ticket g
    (space_gone actor number c g.space)
    (numbers_gone actor number c g.numbers)
    (each_kept (λ t. IsFront m.contents (inventory c) t.purpose t.size t.bytes) stays c.tickets g.bytes.fronts)
    (λ h taken.
    all_less held.seats (without_seat number held).seats h (without actor (number ∷ []) c.tickets) (λ n firm. firm_gone number n held.seats firm) (each_kept (HasTaken held.seats h) stays c.tickets taken))

pub core_gone : (actor number : ℕ) (h : Held) (c : Core) → IsCore h c → all_later is_later c.tickets ≡ true → is_some (own_seat actor number h) ≡ true
    → IsCore (without_seat number h) (dropping actor number c)
core_gone actor number h c is rises mine = record {
  base = is.base;
  journal = is.journal;
  database = is.database;
  stamps = is.stamps;
  forced = is.forced;
  tickets = seats_gone actor number h.seats c.tickets is.tickets rises mine;
  space = record {
    tickets = ap (without_row number) is.space.tickets ∙ claims_gone actor number h.seats c.tickets is.tickets rises mine;
    noted = is.space.noted;
    freed = is.space.freed;
    ascending = is.space.ascending;
    next_file = is.space.next_file;
  };
  next_object = is.next_object;
  next_ticket = is.next_ticket;
  image = is.image;
  is_image = is.is_image;
  generation = is.generation;
  log_length = is.log_length;
  fault = is.fault;
}

-- ---- the step

-- a ticket that isn't there comes behind a full run and a fault
drop_after : (found : Option Ticket) → AllByRecursion (λ y. 1 ≤ place_of y) (of_ticket (λ t. []) found)
drop_after None = (omega arith, tt)
drop_after (Some t) = tt

-- the actor's ticket is there exactly where it is held
pub there_alike : (actor number : ℕ) (h : Held) (m : Machine) → IsCore h m.core → all_later is_later m.core.tickets ≡ true
    → is_some (own_seat actor number h) ≡ is_some (ticket number (sight actor m.core).tickets)
there_alike actor number h m is rises = matches_some number (own_seat actor number h) (ticket number (own_tickets actor m.core.tickets)) (matches actor number h.seats m.core.tickets is.tickets rises)

module _ {S : Type 0} (told : S → Option History) (moment : S → ℕ) (faults : S → ℕ → ℕ) (actor number : ℕ) (hall : Hall S) where
  pub drops : foremost (ended_at (moment hall.store) hall.held) ≡ None → is_some (own_seat actor number hall.held) ≡ true
      → Steps told moment faults actor (DropTicket number (Ok tt)) hall (record hall { held = without_seat number hall.held })
  drops free mine = λ m is.
      let next : Machine = record m { core = dropping actor number m.core } in
      let there : is_some (ticket number (sight actor m.core).tickets) ≡ true = sym (there_alike actor number hall.held m is.core is.good.numbers.tickets) ∙ mine in
      let none : foremost (ended m ++ drop_refused number (sight actor m.core)) ≡ None =
      ap (λ (l : List Refusal). foremost (l ++ drop_refused number (sight actor m.core))) (ended_is (moment hall.store) hall.held m is.core is.clock)
      ∙ next_answers (ended_at (moment hall.store) hall.held) (drop_refused number (sight actor m.core)) free
      ∙ ap foremost (of_there (λ t. []) (ticket number (sight actor m.core).tickets) (λ t. refl) there) in (
        m.contents,
        next,
        refl,
        record { number = refl; later = no_later m m.contents next refl refl; step = (none, record { core = refl; contents = refl }) },
        record {
          core = core_gone actor number hall.held m.core is.core is.good.numbers.tickets mine;
          clock = is.clock;
          counts = is.counts;
          good = good_gone actor number (told hall.store) m hall.held is.good;
        },
      )

  pub drops_ended : (e : Refusal) → foremost (ended_at (moment hall.store) hall.held) ≡ Some e → Steps told moment faults actor (DropTicket number (Err e)) hall hall
  drops_ended e full = λ m is.
      let held : foremost (ended m ++ drop_refused number (sight actor m.core)) ≡ Some e =
      ap (λ (l : List Refusal). foremost (l ++ drop_refused number (sight actor m.core))) (ended_is (moment hall.store) hall.held m is.core is.clock)
      ∙ ended_first (moment hall.store) hall.held (drop_refused number (sight actor m.core)) e full (drop_after (ticket number (sight actor m.core).tickets)) in
      (m.contents, m, refl, record { number = refl; later = no_later m m.contents m refl refl; step = inl (inl held, record { core = refl; contents = refl }) }, is)

  pub drops_absent : foremost (ended_at (moment hall.store) hall.held) ≡ None → is_some (own_seat actor number hall.held) ≡ false
      → Steps told moment faults actor (DropTicket number (Err refusal.NotFound)) hall hall
  drops_absent free absent = λ m is.
      let gone : is_some (ticket number (sight actor m.core).tickets) ≡ false = sym (there_alike actor number hall.held m is.core is.good.numbers.tickets) ∙ absent in
      let held : foremost (ended m ++ drop_refused number (sight actor m.core)) ≡ Some refusal.NotFound =
      ap (λ (l : List Refusal). foremost (l ++ drop_refused number (sight actor m.core))) (ended_is (moment hall.store) hall.held m is.core is.clock)
      ∙ next_answers (ended_at (moment hall.store) hall.held) (drop_refused number (sight actor m.core)) free
      ∙ ap foremost (of_absent (λ t. []) (ticket number (sight actor m.core).tickets) gone) in
      (m.contents, m, refl, record { number = refl; later = no_later m m.contents m refl refl; step = inl (inl held, record { core = refl; contents = refl }) }, is)

-- ---- its refusals

pub drop_listed : (moment : ℕ) (h : Held) (number : ℕ) (e : Refusal) → foremost (ended_at moment h) ≡ Some e → is_listed (DropTicket number (Err e)) ≡ true
unfolding is_listed
drop_listed moment h number e is = ended_has (λ x. is_listed (DropTicket number (Err x)) ≡ true) refl (λ file count. refl) moment h e is

pub gone_listed : (number : ℕ) → is_listed (DropTicket number (Err refusal.NotFound)) ≡ true
unfolding is_listed
gone_listed number = refl

pub dropped_listed : (number : ℕ) → is_listed (DropTicket number (Ok tt)) ≡ true
unfolding is_listed
dropped_listed number = refl

-- ---- as the hall's parts say it

module _ {S : Type 0} (told : S → Option History) (moment : S → ℕ) (faults : S → ℕ → ℕ) (actor number : ℕ) (hall : Hall S) (new : Held) (is : new ≡ without_seat number hall.held)
    (step : Steps told moment faults actor (DropTicket number (Ok tt)) hall (record hall { held = without_seat number hall.held })) where
  pub dropped_step : Steps told moment faults actor (DropTicket number (Ok tt)) hall (record { store = hall.store; held = new })
  dropped_step = subst (λ h. Steps told moment faults actor (DropTicket number (Ok tt)) hall (record { store = hall.store; held = h })) (sym is) step

  pub dropped_good : ((m : Machine) × Is told moment faults hall m) → (m : Machine) × Is told moment faults (record { store = hall.store; held = new }) m
  dropped_good good = still_good told moment faults actor (DropTicket number (Ok tt)) hall (record { store = hall.store; held = new }) dropped_step good
