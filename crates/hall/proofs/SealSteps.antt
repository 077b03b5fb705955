-- A ticket is sealed; or a call on one of its files fails, and it is dropped.
use Rattle.std.proofs.Common.{◌≡◌, inl, inr, ℕ, ◌+◌, ◌<◌, ◌≤◌, ◌^◌, true, ◌++◌, length, Option, Some, None, Result, Ok, Err, refl, sym, ap, subst, ◌∙◌, arith}
use Rattle.std.specs.Prelude.{◌==◌, IfErr, IfSome, OnOk}
use Rattle.std.proofs.lemmas.Bool.{and_parts, eqb-true}
use Rattle.kinds.specs.Refusals.{foremost}
use Rattle.kinds.specs.declared.refusal.Refusal.{Refusal}
use Rattle.kinds.specs.declared.refusal.Refusal.TheVariants as refusal
use Rattle.store_api.specs.Cause.{NoneFell}
use Rattle.store_api.specs.Disk.{History, now}
use Rattle.store_api.specs.Runs.{GoesOn}
use Rattle.store_api.specs.Told.{Told}
use Rattle.store_api.proofs.Runs.{told_map}
use Rattle.inventory_rows.specs.pool_tables.Rows.{row_at}
use Rattle.steps.specs.Events.{is_listed}
use Rattle.steps.specs.Events.Deed.{Seal}
use Rattle.machine.specs.Causes.{seal_refused}
use Rattle.machine.specs.Machine.{IsTicket, ended, last_moment}
use Rattle.machine.specs.State.{Machine, Ticket, is_storing, sealed, sight}
use Rattle.hall.specs.declared.seat.Seat.{Seat}
use Rattle.hall.specs.Covered.{IsFilled}
use Rattle.hall.specs.Frames.{IsSettled}
use Rattle.hall.specs.Good.{Is, IsFirm, is_firm_at}
use Rattle.hall.specs.Held.{AreSeatsOf, Hall, Held, IsSeatOf, purpose_of}
use Rattle.hall.specs.Seats.{ended_at, own_seat}
use Rattle.hall.specs.Steps.{Steps}
use Rattle.hall.specs.Taken.{DroppedOne, HasRoom, SealedOne, SyncedFor, SyncedUnless, is_settled, seal_refused_at, synced_file, unfilled}
use Rattle.hall.proofs.Behind.{filled_sealed, has_space, seat_sealed, sealed_like, synced_of}
use Rattle.hall.proofs.Dropping.{no_later}
use Rattle.hall.proofs.Edited.{StandsAmong, edited, own_has, seats_edited, some_is}
use Rattle.hall.proofs.Ended.{none_halted}
use Rattle.hall.proofs.FirmSeats.{firm_set, firm_there}
use Rattle.hall.proofs.Replacing.{dropped_at, later_calls, loses, replaced_at, replaces}
use Rattle.hall.proofs.Settling.{settles, told_behind}
use Rattle.hall.proofs.SyncedSeats.{becomes_settled, first_settled, wrote_unless}
use Rattle.hall.proofs.TicketSteps.{begins_early, both_empty, none_refuses, own_there, seal_alike, seal_has, seat_there, ticket_is, unless_holds}
use Rattle.hall.proofs.Within.{LiesBeside, WritesBeside, files_of, goes_in}

-- ---- where nothing refuses

-- What is known where nothing refuses to seal.
pub record CanSeal (actor number moment : ℕ) (held : Held) : Type 0 where
  pub early : moment < last_moment
  pub running : held.vault.fault ≡ None
  pub seat : Seat
  pub mine : own_seat actor number held ≡ Some seat
  pub there : row_at number held.seats ≡ Some seat
  pub actor_is : seat.actor ≡ actor
  pub full : seat.count ≡ seat.size

pub can_seal : (actor number moment : ℕ) (held : Held) → foremost (ended_at moment held ++ seal_refused_at actor number held) ≡ None → CanSeal actor number moment held
can_seal actor number moment held free =
    let all = both_empty (ended_at moment held) (seal_refused_at actor number held) (none_refuses (ended_at moment held ++ seal_refused_at actor number held) free) in
    let it = seat_there unfilled (own_seat actor number held) all.1 in
    let s : Seat = it.0 in
    let here = own_there actor (row_at number held.seats) s it.1 in
    record {
      early = begins_early moment held all.0;
      running = none_halted moment held (ap foremost all.0);
      seat = s;
      mine = it.1;
      there = here.0;
      actor_is = here.1;
      full = eqb-true s.count s.size (unless_holds (s.count == s.size) (refusal.Changed s.size s.count) it.2);
    }

-- ---- the step

module _ {S : Type 0} (told : S → Option History) (moment : S → ℕ) (faults : S → ℕ → ℕ) (actor number : ℕ) (hall : Hall S) where
  pub seal_refuses : (e : Refusal) → foremost (ended_at (moment hall.store) hall.held ++ seal_refused_at actor number hall.held) ≡ Some e
      → Steps told moment faults actor (Seal number (Err e)) hall hall
  seal_refuses e refuses = λ m is.
      let held : foremost (ended m ++ seal_refused number (sight actor m.core)) ≡ Some e =
      ap foremost (seal_alike actor number hall.held m is.core is.good.numbers.tickets (moment hall.store) is.clock) ∙ refuses in
      (m.contents, m, refl, record { number = refl; later = no_later m m.contents m refl refl; step = inl (inl held, record { core = refl; contents = refl }) }, is)

  module _ (free : foremost (ended_at (moment hall.store) hall.held ++ seal_refused_at actor number hall.held) ≡ None) where
    known : CanSeal actor number (moment hall.store) hall.held
    known = can_seal actor number (moment hall.store) hall.held free

    its : (m : Machine) → Is told moment faults hall m → (t : Ticket) × IsTicket actor number m t × IsSeatOf number known.seat t × StandsAmong actor number t m.core.tickets
    its m is = ticket_is actor number hall.held m is.core is.good.numbers.tickets known.seat known.mine

    did_for : {T E : Type 0} (result : Result T E) (store : S) → Told (told hall.store) (told store) (SyncedFor (row_at number hall.held.seats) result)
        → Told (told hall.store) (told store) (SyncedFor (Some known.seat) result)
    did_for result store did = subst (λ o. Told (told hall.store) (told store) (SyncedFor o result)) known.there did

    -- ---- what the calls need

    pub seal_room : ((m : Machine) × Is told moment faults hall m) → HasRoom 0 (row_at number hall.held.seats)
    seal_room good =
        let it = its good.0 good.1 in
        subst (HasRoom 0) (sym known.there)
        (has_space number known.seat it.0 it.2 (own_has actor number it.0 good.0.core.tickets it.3 IsFilled good.1.good.space.filled), (omega (arith, known.full)))

    pub seal_time : moment hall.store + 2 ^ 23 ≤ 2 ^ 62
    seal_time = omega (arith, known.early)

    -- only volumes' files change
    pub seal_files : ((m : Machine) × Is told moment faults hall m) → (store : S) (result : Result (Unit {0}) Refusal) → Told (told hall.store) (told store) (SyncedFor (row_at number hall.held.seats) result)
        → Told (told hall.store) (told store) (GoesOn (λ file. 4 ≤ file))
    seal_files good store result did =
        let it = its good.0 good.1 in
        told_map (told hall.store) (told store) (SyncedFor (Some known.seat) result) (GoesOn (λ file. 4 ≤ file))
        (λ h new w. goes_in it.0.place.segments h new (files_of actor number it.0 good.0.core it.3 good.1.good.numbers)
        (wrote_unless (is_settled known.seat) it.0 result h new (synced_of (is_settled known.seat) number known.seat it.0 result h new it.2 w))) (did_for result store did)

    -- ---- what came of them

    module _ (clock : (s : S) → IfSome (told s) (λ h. now h ≡ moment s)) (writes : WritesBeside) (lies : LiesBeside) (store : S) (counts : NoneFell (faults hall.store) (faults store))
        (since : moment hall.store ≤ moment store) (time : moment store ≤ moment hall.store + 2 ^ 23) where
      soon : moment store ≤ moment hall.store + 2 ^ 24
      soon = omega (arith, time)

      open_machine : (m : Machine) → Is told moment faults hall m → foremost (ended m ++ seal_refused number (sight actor m.core)) ≡ None
      open_machine m is = ap foremost (seal_alike actor number hall.held m is.core is.good.numbers.tickets (moment hall.store) is.clock) ∙ free

      -- the calls, as the ticket of the machine has them
      calls_for : {T E : Type 0} (result : Result T E) (t : Ticket) → IsSeatOf number known.seat t → Told (told hall.store) (told store) (SyncedFor (row_at number hall.held.seats) result)
          → Told (told hall.store) (told store) (SyncedUnless (is_settled known.seat) t.place.segments result)
      calls_for result t seat did =
          told_map (told hall.store) (told store) (SyncedFor (Some known.seat) result) (SyncedUnless (is_settled known.seat) t.place.segments result)
          (λ h new w. synced_of (is_settled known.seat) number known.seat t result h new seat w) (did_for result store did)

      -- it is firm where no call is made
      is_firm : (t : Ticket) → IsSeatOf number known.seat t → is_settled known.seat ≡ true → IsFirm hall.held.seats t
      is_firm t seat firm =
          let parts = and_parts (is_storing (purpose_of known.seat.purpose)) known.seat.is_firm firm in
          inr (ap is_storing seat.purpose ∙ parts.0, subst (λ n. is_firm_at n hall.held.seats ≡ true) (sym seat.number) (firm_there number known.seat hall.held.seats known.there parts.1))

      sealed_all : (new : Held) → (let result : Result (Unit {0}) Refusal = Ok tt in Told (told hall.store) (told store) (SyncedFor (row_at number hall.held.seats) result))
          → SealedOne number hall.held new → Steps told moment faults actor (Seal number (Ok tt)) hall (record { store = store; held = new })
      sealed_all new did more =
          subst (λ h. Steps told moment faults actor (Seal number (Ok tt)) hall (record { store = store; held = h })) (sym more.2)
          (λ m is.
          let it = its m is in
          let t : Ticket = it.0 in
          let same : known.seat ≡ more.1.0 = some_is known.seat more.1.0 (sym known.there ∙ more.1.2) in
          let last : Seat = record more.1.0 { hashed = more.1.1; is_sealed = true } in
          let filled = own_has actor number t m.core.tickets it.3 IsFilled is.good.space.filled in
          let full : length t.bytes ≡ t.size = it.2.count ∙ known.full ∙ sym it.2.size in
          let done : Result (Unit {0}) Refusal = Ok tt in
          let R : History → History → Type 0 = SyncedUnless (is_settled known.seat) t.place.segments done in
          let calls : Told (told hall.store) (told store) R = calls_for done t it.2 did in
          let wrote = λ (h : History) (after : History) (w : R h after). wrote_unless (is_settled known.seat) t done h after w in
          let next : Machine = replaced_at actor number sealed (moment store) (faults store) m in
          let are : AreSeatsOf more.0 (edited actor number sealed m.core.tickets) =
          subst (λ l. AreSeatsOf l (edited actor number sealed m.core.tickets)) (sym more.1.4)
          (seats_edited actor number sealed more.1.0 last hall.held.seats m.core.tickets is.core.tickets
          is.good.numbers.tickets more.1.2 (subst (λ (s : Seat). s.actor ≡ actor) same known.actor_is)
          (λ u of_u. seat_sealed number more.1.0 u more.1.1 more.1.3 of_u)) in
          let settled : IfSome (told store) (λ h. IfSome (synced_file more.1.0) (IsSettled h)) =
          told_behind (told hall.store) (told store) (SyncedFor (Some known.seat) done) (λ h. IfSome (synced_file more.1.0) (IsSettled h))
          (λ h after w. subst (λ (s : Seat). IfSome (synced_file s) (IsSettled after)) same (first_settled Refusal (is_settled known.seat) known.seat.places tt h after w)) (did_for done store did) in (
            m.contents,
            next,
            refl,
            record {
              number = refl;
              later = later_calls told moment faults clock writes lies actor number hall store known.running counts since soon m is t it.3 R wrote calls next refl refl;
              step = (open_machine m is, record { core = refl; contents = refl });
            },
            settles told moment faults (record { store = store; held = record hall.held { seats = more.0 } }) next (synced_file more.1.0)
                (replaces told moment faults clock writes lies actor number hall store known.running counts since soon m is t it.3 R wrote calls sealed sealed_like
                (filled_sealed t full filled) (own_has actor number t m.core.tickets it.3 _ is.good.bytes.fronts)
                (λ h after w kept has. becomes_settled Refusal (is_settled known.seat) hall.held.seats t tt full filled (is_firm t it.2) h after w has) more.0
                (λ n firm. sym (firm_set number n more.1.0 last hall.held.seats more.1.2 refl) ∙ ap (is_firm_at n) (sym more.1.4) ∙ firm) are) settled,
          ))

      lost_seal : (e : Refusal) (new : Held) → (let result : Result (Unit {0}) Refusal = Err e in Told (told hall.store) (told store) (SyncedFor (row_at number hall.held.seats) result))
          → DroppedOne number (row_at number hall.held.seats) (faults hall.store) (faults store) e hall.held new
          → Steps told moment faults actor (Seal number (Err e)) hall (record { store = store; held = new })
      lost_seal e new did lost = λ m is.
          let it = its m is in
          let t : Ticket = it.0 in
          let failed : Result (Unit {0}) Refusal = Err e in
          let R : History → History → Type 0 = SyncedUnless (is_settled known.seat) t.place.segments failed in
          let calls : Told (told hall.store) (told store) R = calls_for failed t it.2 did in
          let wrote = λ (h : History) (after : History) (w : R h after). wrote_unless (is_settled known.seat) t failed h after w in
          let next : Machine = dropped_at actor number (moment store) (faults store) m in
          let drops = loses told moment faults clock writes lies actor number hall store known.running counts since soon m is t it.3 R wrote calls known.seat e new known.mine it.2 it.1
          (subst (λ o. DroppedOne number o (faults hall.store) (faults store) e hall.held new) known.there lost) in (
            m.contents,
            next,
            refl,
            record {
              number = refl;
              later = later_calls told moment faults clock writes lies actor number hall store known.running counts since soon m is t it.3 R wrote calls next refl refl;
              step = inr (open_machine m is, drops.0);
            },
            drops.1,
          )

      -- whatever came of it
      pub seal_steps : (result : Result (Unit {0}) Refusal) (new : Held) → Told (told hall.store) (told store) (SyncedFor (row_at number hall.held.seats) result)
          → OnOk result (SealedOne number hall.held new)
          → IfErr result (λ e. DroppedOne number (row_at number hall.held.seats) (faults hall.store) (faults store) e hall.held new)
          → Steps told moment faults actor (Seal number result) hall (record { store = store; held = new })
      seal_steps (Ok done) new did ok err = sealed_all new did ok
      seal_steps (Err e) new did ok err = lost_seal e new did err

-- ---- its answers

pub seal_listed : (number : ℕ) (found : Option Seat) (before after : ℕ → ℕ) (old new : Held) (result : Result (Unit {0}) Refusal)
    → IfErr result (λ e. DroppedOne number found before after e old new) → is_listed (Seal number result) ≡ true
unfolding is_listed
seal_listed number found before after old new (Ok done) h = refl
seal_listed number None before after old new (Err e) h = absurd h
seal_listed number (Some s) before after old new (Err e) h = ap (λ x. is_listed (Seal number (Err x))) h.1

pub unsealed_listed : (moment actor number : ℕ) (h : Held) (e : Refusal) → foremost (ended_at moment h ++ seal_refused_at actor number h) ≡ Some e → is_listed (Seal number (Err e)) ≡ true
unfolding is_listed
unsealed_listed moment actor number h e is =
    seal_has (λ x. is_listed (Seal number (Err x)) ≡ true) refl (λ file k. refl) refl (λ listed read. refl) moment actor number h e is

-- the hall is still the one that was opened
pub seal_stays : (number : ℕ) (found : Option Seat) (before after : ℕ → ℕ) (old new : Held) (result : Result (Unit {0}) Refusal) → OnOk result (SealedOne number old new)
    → IfErr result (λ e. DroppedOne number found before after e old new) → (new.base ≡ old.base) × (new.opened ≡ old.opened)
seal_stays number found before after old new (Ok done) ok err = (ap (λ (h : Held). h.base) ok.2, ap (λ (h : Held). h.opened) ok.2)
seal_stays number None before after old new (Err e) ok err = absurd err
seal_stays number (Some s) before after old new (Err e) ok err = (ap (λ (h : Held). h.base) err.4, ap (λ (h : Held). h.opened) err.4)

-- as the hall's parts say it
pub said_of_seal : (actor number at moment : ℕ) (h : Held) (r o : Option Refusal) → at ≡ moment → r ≡ foremost (ended_at at h ++ seal_refused_at actor number h) → r ≡ o
    → foremost (ended_at moment h ++ seal_refused_at actor number h) ≡ o
said_of_seal actor number at moment h r o same is answer = ap (λ k. foremost (ended_at k h ++ seal_refused_at actor number h)) (sym same) ∙ sym is ∙ answer
