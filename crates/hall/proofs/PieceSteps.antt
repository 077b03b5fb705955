-- A ticket takes a piece; or a call on one of its files fails, and it is dropped.
use Rattle.std.proofs.Common.{◌≡◌, inl, inr, ℕ, ◌+◌, ◌*◌, ◌<◌, ◌≤◌, ◌^◌, Bool, true, false, not, ◌&&◌, nat_le, List, ◌++◌, length, Option, Some, None, Result, Ok, Err, refl, sym, ap, subst, ◌∙◌, arith}
use Rattle.std.specs.Prelude.{IfErr, IfOk, IfSome}
use Rattle.std.proofs.lemmas.Bool.{and_from, and_parts, false≢true, le-leb, leb-true}
use Rattle.kinds.specs.Refusals.{bad_value, foremost, unless}
use Rattle.kinds.specs.declared.refusal.Refusal.{Refusal}
use Rattle.kinds.specs.declared.refusal.Refusal.TheVariants as refusal
use Rattle.store_api.specs.Cause.{NoneFell}
use Rattle.store_api.specs.Disk.{History, now}
use Rattle.store_api.specs.Runs.{GoesOn}
use Rattle.store_api.specs.Told.{Told}
use Rattle.store_api.proofs.Runs.{told_map}
use Rattle.inventory_rows.specs.pool_tables.Rows.{row_at}
use Rattle.steps.specs.Events.{is_listed}
use Rattle.steps.specs.Events.Deed.{WritePiece}
use Rattle.machine.specs.Causes.{most_bytes, ticket_in_use, write_refused}
use Rattle.machine.specs.Machine.{IsTicket, ended, last_moment}
use Rattle.machine.specs.State.{Machine, Ticket, inventory, is_storing, object_of, sight, took}
use Rattle.hall.specs.declared.seat.Seat.{Seat}
use Rattle.hall.specs.Covered.{IsFilled}
use Rattle.hall.specs.Frames.{WroteBehind, WroteIn}
use Rattle.hall.specs.Good.{Is, is_firm_at}
use Rattle.hall.specs.Held.{AreSeatsOf, Hall, Held, IsSeatOf, purpose_of}
use Rattle.hall.specs.Seats.{ended_at, own_seat}
use Rattle.hall.specs.Steps.{Steps}
use Rattle.hall.specs.Taken.{DroppedOne, HasRoom, TookMore, WroteFor, of_seat, piece_refused, write_refused_at}
use Rattle.hall.proofs.Behind.{becomes_more, behind_of, filled_more, front_new, has_space, seat_more, segments_are, took_like}
use Rattle.hall.proofs.Dropping.{no_later}
use Rattle.hall.proofs.FirmSeats.{firm_set}
use Rattle.hall.proofs.SyncedSeats.{takes_no_more}
use Rattle.hall.proofs.Edited.{StandsAmong, edited, own_has, seats_edited, some_is}
use Rattle.hall.proofs.Ended.{none_halted}
use Rattle.hall.proofs.Replacing.{dropped_at, later_calls, loses, replaced_at, replaces}
use Rattle.hall.proofs.TicketSteps.{begins_early, both_empty, none_refuses, own_there, seat_there, ticket_is, unless_holds, write_alike, write_has}
use Rattle.hall.proofs.Within.{LiesBeside, WritesBeside, files_of, goes_in}

-- ---- where nothing refuses

-- What is known where nothing refuses a piece of so many bytes.
pub record TakesPiece (actor number count moment : ℕ) (held : Held) : Type 0 where
  pub early : moment < last_moment
  pub running : held.vault.fault ≡ None
  pub some : 1 ≤ count
  pub few : count ≤ most_bytes
  pub seat : Seat
  pub mine : own_seat actor number held ≡ Some seat
  pub there : row_at number held.seats ≡ Some seat
  pub actor_is : seat.actor ≡ actor
  pub new : is_storing (purpose_of seat.purpose) ≡ true
  pub unsealed : seat.is_sealed ≡ false
  pub room : seat.count + count ≤ seat.size

is_open : (b : Bool) → not b ≡ true → b ≡ false
is_open true h = absurd cc
is_open false h = refl

pub takes_piece : (actor number count moment : ℕ) (held : Held) → foremost (ended_at moment held ++ write_refused_at actor number count held) ≡ None → TakesPiece actor number count moment held
takes_piece actor number count moment held free =
    let all = both_empty (ended_at moment held) (write_refused_at actor number count held) (none_refuses (ended_at moment held ++ write_refused_at actor number count held) free) in
    let parts = both_empty (unless (nat_le 1 count && nat_le count most_bytes) bad_value) (of_seat (piece_refused number count) (own_seat actor number held)) all.1 in
    let sized = and_parts (nat_le 1 count) (nat_le count most_bytes) (unless_holds (nat_le 1 count && nat_le count most_bytes) bad_value parts.0) in
    let it = seat_there (piece_refused number count) (own_seat actor number held) parts.1 in
    let s : Seat = it.0 in
    let here = own_there actor (row_at number held.seats) s it.1 in
    let rule = both_empty (unless (is_storing (purpose_of s.purpose) && not s.is_sealed) (ticket_in_use number)) (unless (nat_le (s.count + count) s.size) (refusal.Changed s.size (s.count + count))) it.2 in
    let kind = and_parts (is_storing (purpose_of s.purpose)) (not s.is_sealed) (unless_holds (is_storing (purpose_of s.purpose) && not s.is_sealed) (ticket_in_use number) rule.0) in
    record {
      early = begins_early moment held all.0;
      running = none_halted moment held (ap foremost all.0);
      some = leb-true 1 count sized.0;
      few = leb-true count most_bytes sized.1;
      seat = s;
      mine = it.1;
      there = here.0;
      actor_is = here.1;
      new = kind.0;
      unsealed = is_open s.is_sealed kind.1;
      room = leb-true (s.count + count) s.size (unless_holds (nat_le (s.count + count) s.size) (refusal.Changed s.size (s.count + count)) rule.1);
    }

-- ---- the step

module _ {S : Type 0} (told : S → Option History) (moment : S → ℕ) (faults : S → ℕ → ℕ) (actor number : ℕ) (bytes : List ℕ) (hall : Hall S) where
  pub piece_refuses : (e : Refusal) → foremost (ended_at (moment hall.store) hall.held ++ write_refused_at actor number (length bytes) hall.held) ≡ Some e
      → Steps told moment faults actor (WritePiece number bytes (Err e)) hall hall
  piece_refuses e refuses = λ m is.
      let held : foremost (ended m ++ write_refused number (length bytes) (sight actor m.core)) ≡ Some e =
      ap foremost (write_alike actor number hall.held m is.core is.good.numbers.tickets (moment hall.store) (length bytes) is.clock) ∙ refuses in
      (m.contents, m, refl, record { number = refl; later = no_later m m.contents m refl refl; step = inl (inl held, record { core = refl; contents = refl }) }, is)

  module _ (free : foremost (ended_at (moment hall.store) hall.held ++ write_refused_at actor number (length bytes) hall.held) ≡ None) where
    known : TakesPiece actor number (length bytes) (moment hall.store) hall.held
    known = takes_piece actor number (length bytes) (moment hall.store) hall.held free

    its : (m : Machine) → Is told moment faults hall m → (t : Ticket) × IsTicket actor number m t × IsSeatOf number known.seat t × StandsAmong actor number t m.core.tickets
    its m is = ticket_is actor number hall.held m is.core is.good.numbers.tickets known.seat known.mine

    did_for : {T E : Type 0} (result : Result T E) (store : S) → Told (told hall.store) (told store) (WroteFor (row_at number hall.held.seats) bytes result)
        → Told (told hall.store) (told store) (WroteFor (Some known.seat) bytes result)
    did_for result store did = subst (λ o. Told (told hall.store) (told store) (WroteFor o bytes result)) known.there did

    -- ---- what the calls need

    pub piece_room : ((m : Machine) × Is told moment faults hall m) → HasRoom (length bytes) (row_at number hall.held.seats)
    piece_room good =
        let it = its good.0 good.1 in
        subst (HasRoom (length bytes)) (sym known.there)
        (has_space number known.seat it.0 it.2 (own_has actor number it.0 good.0.core.tickets it.3 IsFilled good.1.good.space.filled), known.room)

    pub piece_time : moment hall.store + 2 * length bytes ≤ 2 ^ 62
    piece_time = omega (arith, known.early, known.few)

    pub piece_brief : (after : ℕ) → after ≤ moment hall.store + 2 * length bytes → after ≤ moment hall.store + 2 ^ 17
    piece_brief after time = omega (arith, time, known.few)

    -- only volumes' files change
    pub piece_files : ((m : Machine) × Is told moment faults hall m) → (store : S) (result : Result ℕ Refusal) → Told (told hall.store) (told store) (WroteFor (row_at number hall.held.seats) bytes result)
        → Told (told hall.store) (told store) (GoesOn (λ file. 4 ≤ file))
    piece_files good store result did =
        let it = its good.0 good.1 in
        told_map (told hall.store) (told store) (WroteFor (Some known.seat) bytes result) (GoesOn (λ file. 4 ≤ file))
        (λ h new w. goes_in it.0.place.segments h new (files_of actor number it.0 good.0.core it.3 good.1.good.numbers)
        (subst (λ l. WroteIn l h new) (segments_are number known.seat it.0 it.2) w.wrote)) (did_for result store did)

    -- ---- what came of them

    module _ (clock : (s : S) → IfSome (told s) (λ h. now h ≡ moment s)) (writes : WritesBeside) (lies : LiesBeside) (store : S) (counts : NoneFell (faults hall.store) (faults store))
        (since : moment hall.store ≤ moment store) (time : moment store ≤ moment hall.store + 2 * length bytes) where
      soon : moment store ≤ moment hall.store + 2 ^ 24
      soon = omega (arith, time, known.few)

      open_machine : (m : Machine) → Is told moment faults hall m → foremost (ended m ++ write_refused number (length bytes) (sight actor m.core)) ≡ None
      open_machine m is = ap foremost (write_alike actor number hall.held m is.core is.good.numbers.tickets (moment hall.store) (length bytes) is.clock) ∙ free

      -- the calls, as the ticket of the machine has them
      calls_for : {T E : Type 0} (result : Result T E) (t : Ticket) → IsSeatOf number known.seat t → Told (told hall.store) (told store) (WroteFor (row_at number hall.held.seats) bytes result)
          → Told (told hall.store) (told store) (WroteBehind (object_of t.purpose) (length t.bytes) t.place.segments bytes result)
      calls_for result t seat did =
          told_map (told hall.store) (told store) (WroteFor (Some known.seat) bytes result) (WroteBehind (object_of t.purpose) (length t.bytes) t.place.segments bytes result)
          (λ h new w. behind_of number known.seat t bytes result h new seat w) (did_for result store did)

      took_piece : (count : ℕ) (new : Held) → (let result : Result ℕ Refusal = Ok count in Told (told hall.store) (told store) (WroteFor (row_at number hall.held.seats) bytes result))
          → TookMore number bytes count hall.held new → Steps told moment faults actor (WritePiece number bytes (Ok count)) hall (record { store = store; held = new })
      took_piece count new did more =
          subst (λ h. Steps told moment faults actor (WritePiece number bytes (Ok count)) hall (record { store = store; held = h })) (sym more.1)
          (λ m is.
          let it = its m is in
          let t : Ticket = it.0 in
          let same : known.seat ≡ more.0.0 = some_is known.seat more.0.0 (sym known.there ∙ more.0.2) in
          let seat : IsSeatOf number more.0.0 t = subst (λ s. IsSeatOf number s t) same it.2 in
          let filled = own_has actor number t m.core.tickets it.3 IsFilled is.good.space.filled in
          let unsealed : t.is_sealed ≡ false = it.2.is_sealed ∙ known.unsealed in
          let room : length t.bytes + length bytes ≤ t.size = omega (arith, known.room, it.2.count, it.2.size) in
          let done : Result ℕ Refusal = Ok count in
          let R : History → History → Type 0 = WroteBehind (object_of t.purpose) (length t.bytes) t.place.segments bytes done in
          let calls : Told (told hall.store) (told store) R = calls_for done t it.2 did in
          let wrote = λ (h : History) (after : History) (w : R h after). w.wrote in
          let next : Machine = replaced_at actor number (took bytes) (moment store) (faults store) m in
          let are : AreSeatsOf new.seats (edited actor number (took bytes) m.core.tickets) =
          subst (λ l. AreSeatsOf l (edited actor number (took bytes) m.core.tickets)) (sym more.0.5)
          (seats_edited actor number (took bytes) more.0.0 (record more.0.0 { count = more.0.0.count + length bytes; hashed = more.0.1 }) hall.held.seats m.core.tickets is.core.tickets
          is.good.numbers.tickets more.0.2 (subst (λ (s : Seat). s.actor ≡ actor) same known.actor_is)
          (λ u of_u. seat_more number more.0.0 u bytes more.0.1 (subst (λ (s : Seat). s.is_sealed ≡ false) same known.unsealed) more.0.3 of_u)) in (
            m.contents,
            next,
            refl,
            record {
              number = refl;
              later = later_calls told moment faults clock writes lies actor number hall store known.running counts since soon m is t it.3 R wrote calls next refl refl;
              step = (open_machine m is, (t, it.1, more.0.4 ∙ ap (λ n. n + length bytes) (sym seat.count), record { core = refl; contents = refl }));
            },
            replaces told moment faults clock writes lies actor number hall store known.running counts since soon m is t it.3 R wrote calls (took bytes) (took_like bytes)
                (filled_more t bytes unsealed room filled)
                (front_new m.contents (inventory m.core) t.purpose t.size (t.bytes ++ bytes) (subst (λ p. is_storing p ≡ true) (sym it.2.purpose) known.new))
                (λ h after w kept has.
                becomes_more actor number m.core t bytes count it.3 is.good.space filled hall.held.seats h after (takes_no_more hall.held.seats h t filled (omega (arith, room, known.some)) has) w has)
                new.seats
                (λ n firm.
                sym (firm_set number n more.0.0 (record more.0.0 { count = more.0.0.count + length bytes; hashed = more.0.1 }) hall.held.seats more.0.2 refl) ∙ ap (is_firm_at n) (sym more.0.5) ∙ firm)
                are,
          ))

      lost_piece : (e : Refusal) (new : Held) → (let result : Result ℕ Refusal = Err e in Told (told hall.store) (told store) (WroteFor (row_at number hall.held.seats) bytes result))
          → DroppedOne number (row_at number hall.held.seats) (faults hall.store) (faults store) e hall.held new
          → Steps told moment faults actor (WritePiece number bytes (Err e)) hall (record { store = store; held = new })
      lost_piece e new did lost = λ m is.
          let it = its m is in
          let t : Ticket = it.0 in
          let failed : Result ℕ Refusal = Err e in
          let R : History → History → Type 0 = WroteBehind (object_of t.purpose) (length t.bytes) t.place.segments bytes failed in
          let calls : Told (told hall.store) (told store) R = calls_for failed t it.2 did in
          let wrote = λ (h : History) (after : History) (w : R h after). w.wrote in
          let next : Machine = dropped_at actor number (moment store) (faults store) m in
          let drops = loses told moment faults clock writes lies actor number hall store known.running counts since soon m is t it.3 R wrote calls known.seat e new known.mine it.2 it.1
          (subst (λ o. DroppedOne number o (faults hall.store) (faults store) e hall.held new) known.there lost) in (
            m.contents,
            next,
            refl,
            record {
              number = refl;
              later = later_calls told moment faults clock writes lies actor number hall store known.running counts since soon m is t it.3 R wrote calls next refl refl;
              step = inr (open_machine m is, drops.0);
            },
            drops.1,
          )

      -- whatever came of it
      pub piece_steps : (result : Result ℕ Refusal) (new : Held) → Told (told hall.store) (told store) (WroteFor (row_at number hall.held.seats) bytes result)
          → IfOk result (λ count. TookMore number bytes count hall.held new)
          → IfErr result (λ e. DroppedOne number (row_at number hall.held.seats) (faults hall.store) (faults store) e hall.held new)
          → Steps told moment faults actor (WritePiece number bytes result) hall (record { store = store; held = new })
      piece_steps (Ok count) new did ok err = took_piece count new did ok
      piece_steps (Err e) new did ok err = lost_piece e new did err

-- ---- its answers

pub piece_listed : (number : ℕ) (bytes : List ℕ) (found : Option Seat) (before after : ℕ → ℕ) (old new : Held) (result : Result ℕ Refusal)
    → IfErr result (λ e. DroppedOne number found before after e old new) → is_listed (WritePiece number bytes result) ≡ true
unfolding is_listed
piece_listed number bytes found before after old new (Ok count) h = refl
piece_listed number bytes None before after old new (Err e) h = absurd h
piece_listed number bytes (Some s) before after old new (Err e) h = ap (λ x. is_listed (WritePiece number bytes (Err x))) h.1

pub refused_listed : (moment actor number count : ℕ) (bytes : List ℕ) (h : Held) (e : Refusal) → foremost (ended_at moment h ++ write_refused_at actor number count h) ≡ Some e → 1 ≤ count
    → count ≤ most_bytes
    → is_listed (WritePiece number bytes (Err e)) ≡ true
unfolding is_listed
refused_listed moment actor number count bytes h e is some few =
    write_has (λ x. is_listed (WritePiece number bytes (Err x)) ≡ true) refl (λ file k. refl) refl (λ listed read. refl) count
    (λ fails. absurd (false≢true (sym fails ∙ and_from (nat_le 1 count) (nat_le count most_bytes) (le-leb 1 count some) (le-leb count most_bytes few)))) (λ k. refl) moment actor number h e is

-- the hall is still the one that was opened
pub piece_stays : (number : ℕ) (bytes : List ℕ) (found : Option Seat) (before after : ℕ → ℕ) (old new : Held) (result : Result ℕ Refusal) → IfOk result (λ count. TookMore number bytes count old new)
    → IfErr result (λ e. DroppedOne number found before after e old new) → (new.base ≡ old.base) × (new.opened ≡ old.opened)
piece_stays number bytes found before after old new (Ok count) ok err = (ap (λ (h : Held). h.base) ok.1, ap (λ (h : Held). h.opened) ok.1)
piece_stays number bytes None before after old new (Err e) ok err = absurd err
piece_stays number bytes (Some s) before after old new (Err e) ok err = (ap (λ (h : Held). h.base) err.4, ap (λ (h : Held). h.opened) err.4)

-- as the hall's parts say it
pub said_of_piece : (actor number at moment count : ℕ) (h : Held) (r o : Option Refusal) → at ≡ moment → r ≡ foremost (ended_at at h ++ write_refused_at actor number count h) → r ≡ o
    → foremost (ended_at moment h ++ write_refused_at actor number count h) ≡ o
said_of_piece actor number at moment count h r o same is answer = ap (λ k. foremost (ended_at k h ++ write_refused_at actor number count h)) (sym same) ∙ sym is ∙ answer
