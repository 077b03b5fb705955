-- A step that makes calls within one ticket's frames: the ticket is dropped, or another one stands in its place.
use Rattle.std.proofs.Common.{◌≡◌, ◌≢◌, ℕ, ◌+◌, ◌<◌, ◌≤◌, ◌^◌, Bool, true, not, ◌&&◌, ◌||◌, is_some, List, [], ◌∷◌, Option, Some, None, refl, sym, ap, subst, ◌∙◌, arith}
use Rattle.std.specs.Prelude.{◌==◌, nat_le, IfSome}
use Rattle.std.specs.List.{AllByRecursion}
use Rattle.kinds.specs.declared.segment.Segment.{Segment}
use Rattle.kinds.specs.declared.refusal.Refusal.{Refusal}
use Rattle.store_api.specs.Cause.{NoneFell, Rose}
use Rattle.store_api.specs.Disk.{History, now}
use Rattle.store_api.specs.Told.{Told}
use Rattle.inventory_rows.specs.State.{Inv}
use Rattle.inventory_rows.specs.pool_rows.PoolRows.{is_sequential}
use Rattle.inventory_rows.specs.version_groups.Entries.{all_later}
use Rattle.inventory_laws.proofs.Lists.{each_both}
use Rattle.inventory_rules.specs.Segments.{are_clear}
use Rattle.contents.specs.Reading.{lies_in_file}
use Rattle.machine.specs.Machine.{DropsTicket, IsTicket, Later, dropping, with_tickets}
use Rattle.machine.specs.State.{Core, Machine, Place, Purpose, Ticket, inventory, is_storing, object_of, without}
use Rattle.hall.specs.declared.seat.Seat.{Seat}
use Rattle.inventory_rows.specs.Search.{pool}
use Rattle.hall.specs.Covered.{IsClear, IsFilled, IsObject, IsVolume, LiesIn, NumbersAreDrawn, SpaceIsClear, all_space, are_apart_in, bring_others, is_later}
use Rattle.hall.specs.Frames.{WroteIn}
use Rattle.hall.specs.Good.{HasTaken, Is, IsFront, IsGood, IsKept, WasSound, is_firm_at}
use Rattle.hall.specs.Held.{AreSeatsOf, Hall, Held, IsCore, IsSeatOf}
use Rattle.hall.specs.Seats.{own_seat, without_seat}
use Rattle.machine.specs.Alone.{with_contents}
use Rattle.hall.specs.Taken.{DroppedOne}
use Rattle.hall.proofs.Behind.{segments_are}
use Rattle.hall.proofs.Dropping.{core_gone, good_gone}
use Rattle.hall.proofs.Edited.{IsLike, StandsAmong, claims_edited, each_edited, each_put, each_replaced, edit, edit_actor, edit_number, edit_pair, edit_place, edit_purpose, edited, later_mapped, others_left, own_has, space_mapped}
use Rattle.hall.proofs.FirmSeats.{all_less, firm_beside, has_less}
use Rattle.hall.proofs.Seating.{kept_seated}
use Rattle.hall.proofs.Stamping.{rise_later, rise_over}
use Rattle.hall.proofs.Within.{LiesBeside, WritesBeside, files_of, goes_in, kept_at, kept_without, sound_back}

-- two segments of tickets, by what is looked at
abbrev apart_by : Inv → (p q x y : ℕ) → Segment → Segment → Bool
apart_by v p q x y r s =
    not (r.file == s.file) || (p == q && (are_clear (is_sequential p v.stores) r s && (not (is_sequential p v.stores) || x == y)))

same_apart : (v : Inv) (a b t u : Ticket) (r s : Segment) → a.place ≡ t.place → b.place ≡ u.place → a.actor ≡ t.actor → b.actor ≡ u.actor → are_apart_in v (a, r) (b, s) ≡ are_apart_in v (t, r) (u, s)
same_apart v a b t u r s pa pb aa ab =
    ap (λ (p : Place). apart_by v p.pool b.place.pool a.actor b.actor r s) pa
    ∙ ap (λ (p : Place). apart_by v t.place.pool p.pool a.actor b.actor r s) pb
    ∙ ap (λ x. apart_by v t.place.pool u.place.pool x b.actor r s) aa
    ∙ ap (λ y. apart_by v t.place.pool u.place.pool t.actor y r s) ab

abbrev others_by : Purpose → Purpose → Bool
others_by p q = not (is_storing p && (is_storing q && object_of p == object_of q))

-- ---- one ticket changed

abbrev pub edited_core : (actor number : ℕ) → (Ticket → Ticket) → Core → Core
edited_core actor number f c = with_tickets (edited actor number f c.tickets) c

-- behind calls, without the ticket
abbrev pub dropped_at : (actor number moment : ℕ) → (counts : ℕ → ℕ) → Machine → Machine
dropped_at actor number moment counts m = record m { core = dropping actor number m.core; moment = moment; counts = counts }

-- behind calls, with another one in its place
abbrev pub replaced_at : (actor number : ℕ) → (Ticket → Ticket) → (moment : ℕ) → (counts : ℕ → ℕ) → Machine → Machine
replaced_at actor number f moment counts m = record m { core = edited_core actor number f m.core; moment = moment; counts = counts }

module _ (actor number : ℕ) (c : Core) (f : Ticket → Ticket) (like : IsLike f) where
  space_edited : (t : Ticket) → StandsAmong actor number t c.tickets → IsFilled (f t) → SpaceIsClear c → SpaceIsClear (edited_core actor number f c)
  space_edited t among filled s = record {
    filled = each_replaced actor number t c.tickets among IsFilled f s.filled filled;
    clear = each_edited actor number f (λ u. AllByRecursion (IsClear c u.place.pool) u.place.segments) c.tickets
        (λ u all. subst (λ (p : Place). AllByRecursion (IsClear c p.pool) p.segments) (sym (like.place u)) all) s.clear;
    apart = ap (all_later (are_apart_in (inventory c))) (space_mapped (edit actor number f) (edit_place actor number f like) c.tickets)
        ∙ later_mapped (are_apart_in (inventory c)) (edit_pair (edit actor number f)) (all_space c.tickets)
        (λ a b. same_apart (inventory c) (edit actor number f a.0) (edit actor number f b.0) a.0 b.0 a.1 b.1 (edit_place actor number f like a.0) (edit_place actor number f like b.0)
        (edit_actor actor number f like a.0) (edit_actor actor number f like b.0))
        ∙ s.apart;
  }

  numbers_edited : NumbersAreDrawn c → NumbersAreDrawn (edited_core actor number f c)
  numbers_edited n = record {
    tickets = later_mapped is_later (edit actor number f) c.tickets
        (λ a b. ap (λ k. nat_le (k + 1) (edit actor number f b).number) (edit_number actor number f like a) ∙ ap (λ k. nat_le (a.number + 1) k) (edit_number actor number f like b)) ∙ n.tickets;
    below = each_edited actor number f (λ u. u.number < c.next_ticket) c.tickets (λ u l. subst (λ k. k < c.next_ticket) (sym (like.number u)) l) n.below;
    objects = each_edited actor number f (λ u. IsObject c u.purpose) c.tickets (λ u is. subst (λ p. IsObject c p) (sym (like.purpose u)) is) n.objects;
    apart = later_mapped bring_others (edit actor number f) c.tickets
        (λ a b. ap (λ p. others_by p (edit actor number f b).purpose) (edit_purpose actor number f like a) ∙ ap (λ p. others_by a.purpose p) (edit_purpose actor number f like b)) ∙ n.apart;
    pools = each_edited actor number f (λ u. is_some (pool u.place.pool (inventory c)) ≡ true) c.tickets
        (λ u there. subst (λ (p : Place). is_some (pool p.pool (inventory c)) ≡ true) (sym (like.place u)) there) n.pools;
    files = each_edited actor number f (λ u. AllByRecursion (λ s. IsVolume c s.file) u.place.segments) c.tickets
        (λ u all. subst (λ (p : Place). AllByRecursion (λ s. IsVolume c s.file) p.segments) (sym (like.place u)) all) n.files;
    lying = each_edited actor number f (λ u. AllByRecursion (λ s. LiesIn c u.place.pool s.file) u.place.segments) c.tickets
        (λ u all. subst (λ (p : Place). AllByRecursion (λ s. LiesIn c p.pool s.file) p.segments) (sym (like.place u)) all) n.lying;
    none_back = n.none_back;
    next_file = n.next_file;
    next_object = n.next_object;
    bounds = n.bounds;
  }

  core_edited : (held : Held) (seats : List (ℕ × Seat)) → IsCore held c → AreSeatsOf seats (edited actor number f c.tickets) → IsCore (record held { seats = seats }) (edited_core actor number f c)
  core_edited held seats is are = record {
    base = is.base;
    journal = is.journal;
    database = is.database;
    stamps = is.stamps;
    forced = is.forced;
    tickets = are;
    space = record {
      tickets = is.space.tickets ∙ sym (claims_edited actor number f like c.tickets);
      noted = is.space.noted;
      freed = is.space.freed;
      ascending = is.space.ascending;
      next_file = is.space.next_file;
    };
    next_object = is.next_object;
    next_ticket = is.next_ticket;
    image = is.image;
    is_image = is.is_image;
    generation = is.generation;
    log_length = is.log_length;
    fault = is.fault;
  }

-- ---- the step

module _ {S : Type 0} (told : S → Option History) (moment : S → ℕ) (faults : S → ℕ → ℕ) (clock : (s : S) → IfSome (told s) (λ h. now h ≡ moment s)) (writes : WritesBeside) (lies : LiesBeside)
    (actor number : ℕ) (hall : Hall S) (store : S) (running : hall.held.vault.fault ≡ None) (counts : NoneFell (faults hall.store) (faults store)) (since : moment hall.store ≤ moment store)
    (soon : moment store ≤ moment hall.store + 2 ^ 24) (m : Machine) (is : Is told moment faults hall m) (t : Ticket) (among : StandsAmong actor number t m.core.tickets)
    (R : History → History → Type 0) (wrote : (h new : History) → R h new → WroteIn t.place.segments h new) (did : Told (told hall.store) (told store) R) where
  none : m.core.fault ≡ None
  none = is.core.fault ∙ running

  pub later_calls : (next : Machine) → next.counts ≡ faults store → next.moment ≡ moment store → Later (with_contents m.contents m) next
  later_calls next c at = record {
    counts = λ file. let a = ap (λ (f : ℕ → ℕ). f file) is.counts in let b = ap (λ (f : ℕ → ℕ). f file) c in let le = counts file in omega (arith, a, b, le);
    since = omega (arith, is.clock, at, since);
    soon = omega (arith, is.clock, at, soon);
  }

  files : AllByRecursion (λ s. 4 ≤ s.file) t.place.segments
  files = files_of actor number t m.core among is.good.numbers

  -- what is kept without the ticket, from what was kept with it
  module _ (h new : History) (at : now h ≡ moment hall.store) (r : R h new) (kept : WasSound hall.held.base hall.held.opened h → IsKept m hall.held h)
      (sound : WasSound hall.held.base hall.held.opened new) where
    was_kept : IsKept m hall.held h
    was_kept =
        let from : hall.held.opened ≤ m.moment = rise_over hall.held.opened m.moment m.core.stamps is.good.stamped.rise in
        kept (sound_back hall.held h new (omega (arith, from, is.clock, at)) (goes_in t.place.segments h new files (wrote h new r)) sound)

    still_kept : IsKept (record m { core = dropping actor number m.core }) (without_seat number hall.held) new
    still_kept = kept_without actor number writes lies m hall.held t among is.good.space is.good.numbers none is.good.stamped.few (is.good.stamped.waiting none) h new was_kept (wrote h new r)

  -- ---- it is dropped

  kept_dropped : (o n : Option History) → Told o n R → IfSome o (λ h. now h ≡ moment hall.store) → IfSome o (λ h. WasSound hall.held.base hall.held.opened h → IsKept m hall.held h)
      → IfSome n (λ h. WasSound hall.held.base hall.held.opened h → IsKept (dropped_at actor number (moment store) (faults store) m) (without_seat number hall.held) h)
  kept_dropped None None r at kept = tt
  kept_dropped None (Some new) r at kept = absurd r
  kept_dropped (Some h) None r at kept = absurd r
  kept_dropped (Some h) (Some new) r at kept = λ sound.
      kept_at (record m { core = dropping actor number m.core }) (without_seat number hall.held) (moment store) (faults store) new (still_kept h new at r kept sound)

  pub good_dropped : IsGood (told store) (dropped_at actor number (moment store) (faults store) m) (without_seat number hall.held)
  good_dropped =
      let g = good_gone actor number (told hall.store) m hall.held is.good in
      record {
        lawful = record { valid = g.lawful.valid; tied = g.lawful.tied; legal = g.lawful.legal; short = g.lawful.short };
        stamped = record {
          few = g.stamped.few;
          rise = rise_later hall.held.opened m.moment (moment store) m.core.stamps is.good.stamped.rise (omega (arith, is.clock, since));
          waiting = g.stamped.waiting;
        };
        space = g.space;
        numbers = g.numbers;
        bytes = record { sized = g.bytes.sized; fronts = g.bytes.fronts };
        listed = g.listed;
        kept = kept_dropped (told hall.store) (told store) did (clock hall.store) is.good.kept;
      }

  -- a call on one of its files failed
  pub loses : (s : Seat) (e : Refusal) (new : Held) → own_seat actor number hall.held ≡ Some s → IsSeatOf number s t → IsTicket actor number m t
      → DroppedOne number (Some s) (faults hall.store) (faults store) e hall.held new
      → DropsTicket actor number (with_contents m.contents m) e (dropped_at actor number (moment store) (faults store) m)
      × Is told moment faults (record { store = store; held = new }) (dropped_at actor number (moment store) (faults store) m)
  loses s e new mine seat found lost =
      let next : Machine = dropped_at actor number (moment store) (faults store) m in
      let file : ℕ = lost.0 in
      let rises : Rose (m.counts file) (faults store file) = subst (λ n. Rose n (faults store file)) (sym (ap (λ (f : ℕ → ℕ). f file) is.counts)) lost.3 in
      let dropped : Is told moment faults (record { store = store; held = without_seat number hall.held }) next = record {
        core = core_gone actor number hall.held m.core is.core is.good.numbers.tickets (ap is_some mine);
        clock = refl;
        counts = refl;
        good = good_dropped;
      } in (
        (t, file, found, subst (λ l. lies_in_file l file ≡ true) (segments_are number s t seat) lost.2, lost.1, rises, record { core = refl; contents = refl }),
        subst (λ h. Is told moment faults (record { store = store; held = h }) next) (sym lost.4) dropped,
      )

  -- ---- another one stands in its place

  module _ (f : Ticket → Ticket) (like : IsLike f) (filled : IsFilled (f t)) (front : IsFront m.contents (inventory m.core) (f t).purpose (f t).size (f t).bytes)
      (becomes : (h new : History) → R h new → IsKept m hall.held h → HasTaken hall.held.seats h t → HasTaken hall.held.seats new (f t)) (seats : List (ℕ × Seat))
      (less : (n : ℕ) → is_firm_at n seats ≡ true → is_firm_at n hall.held.seats ≡ true) where
    kept_replaced : (o n : Option History) → Told o n R → IfSome o (λ h. now h ≡ moment hall.store) → IfSome o (λ h. WasSound hall.held.base hall.held.opened h → IsKept m hall.held h)
        → IfSome n (λ h. WasSound hall.held.base hall.held.opened h → IsKept (replaced_at actor number f (moment store) (faults store) m) (record hall.held { seats = seats }) h)
    kept_replaced None None r at kept = tt
    kept_replaced None (Some new) r at kept = absurd r
    kept_replaced (Some h) None r at kept = absurd r
    kept_replaced (Some h) (Some new) r at kept = λ sound.
        let gone : Machine = record m { core = dropping actor number m.core } in
        let k : IsKept gone (without_seat number hall.held) new = still_kept h new at r kept sound in
        let was : IsKept m hall.held h = was_kept h new at r kept sound in
        let own : HasTaken hall.held.seats new (f t) = becomes h new r was (own_has actor number t m.core.tickets among (HasTaken hall.held.seats h) was.tickets) in
        let others : AllByRecursion (HasTaken hall.held.seats new) (without actor (number ∷ []) m.core.tickets) =
        each_both (λ u. u.number ≢ number) (HasTaken (without_seat number hall.held).seats new) (HasTaken hall.held.seats new) (without actor (number ∷ []) m.core.tickets)
        (λ u other has. has_less (without_seat number hall.held).seats hall.held.seats new u (λ firm. firm_beside number u.number hall.held.seats other firm) has)
        (others_left actor number t m.core.tickets among) k.tickets in
        kept_at (record m { core = edited_core actor number f m.core }) (record hall.held { seats = seats }) (moment store) (faults store) new
        (kept_seated (edited actor number f m.core.tickets) m.core.next_file m.core.next_object m.core.next_ticket gone (without_seat number hall.held) seats hall.held.claims hall.held.next_object
        hall.held.next_ticket new k
        (all_less hall.held.seats seats new (edited actor number f m.core.tickets) less (each_put actor number t m.core.tickets among (HasTaken hall.held.seats new) f others own)))

    good_replaced : IsGood (told store) (replaced_at actor number f (moment store) (faults store) m) (record hall.held { seats = seats })
    good_replaced = record {
      lawful = record { valid = is.good.lawful.valid; tied = is.good.lawful.tied; legal = is.good.lawful.legal; short = is.good.lawful.short };
      stamped = record {
        few = is.good.stamped.few;
        rise = rise_later hall.held.opened m.moment (moment store) m.core.stamps is.good.stamped.rise (omega (arith, is.clock, since));
        waiting = is.good.stamped.waiting;
      };
      space = space_edited actor number m.core f like t among filled is.good.space;
      numbers = numbers_edited actor number m.core f like is.good.numbers;
      listed = is.good.listed;
      bytes = record {
        sized = is.good.bytes.sized;
        fronts = each_replaced actor number t m.core.tickets among (λ u. IsFront m.contents (inventory m.core) u.purpose u.size u.bytes) f is.good.bytes.fronts front;
      };
      kept = kept_replaced (told hall.store) (told store) did (clock hall.store) is.good.kept;
    }

    -- it is held so
    pub replaces : AreSeatsOf seats (edited actor number f m.core.tickets)
        → Is told moment faults (record { store = store; held = record hall.held { seats = seats } }) (replaced_at actor number f (moment store) (faults store) m)
    replaces are = record { core = core_edited actor number m.core f like hall.held seats is.core are; clock = refl; counts = refl; good = good_replaced }
