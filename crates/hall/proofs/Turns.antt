-- Turns on halls whose stores tell their bytes and were sound: a run of the machine, over stops of it and openings.
use Rattle.std.proofs.Common.{◌≡◌, ℕ, ◌≤◌, nat_le, List, [], ◌∷◌, length, Option, Some, None, Ok, refl, sym, ap, subst, ◌∙◌, if◌then◌else◌, arith}
use Rattle.std.specs.Prelude.{IfSome}
use Rattle.std.proofs.lemmas.Bool.{le-leb}
use Rattle.store_api.specs.Cause.{NoneFell}
use Rattle.store_api.specs.Disk.{History, ImageAt, back, now, reads}
use Rattle.store_api.specs.Told.{StopsAs, Told}
use Rattle.store_api.proofs.Runs.{back_now}
use Rattle.inventory.specs.Meaningful.{is_meaning}
use Rattle.inventory.specs.Meant.{meaning}
use Rattle.inventory_rows.specs.State.{Inv}
use Rattle.log_file.specs.Safety.{acknowledged}
use Rattle.vault.specs.Recovery.{Recovers}
use Rattle.vault.proofs.Sounding.{within_recovers}
use Rattle.vault.proofs.Unique.{one_database}
use Rattle.steps.specs.declared.step.Reply.{Reply}
use Rattle.machine.specs.State.{Machine, Ticket}
use Rattle.hall.specs.declared.seat.Seat.{Seat}
use Rattle.hall.specs.declared.turn.Turn.{Turn}
use Rattle.hall.specs.declared.turn.Turn.TheVariants.{Do, Stop}
use Rattle.hall.specs.Covered.{inv_at}
use Rattle.hall.specs.Good.{Is, IsKept, IsSafe, IsSoundWith, Rise, WasSound}
use Rattle.hall.specs.Held.{AreSeatsOf, Hall, Held}
use Rattle.hall.specs.Opening.{IsNewHall, IsSound, IsWith, OpensFiles}
use Rattle.hall.specs.Plays.{Plays, Reopens, Restarts, RunsTurns, Stopped}
use Rattle.hall.specs.Steps.{IsTrusted}
use Rattle.hall.proofs.Exact.{exact, kept_by, still_trusted}
use Rattle.hall.proofs.Imaging.{no_image}
use Rattle.hall.proofs.Stamping.{rise_over}
use Rattle.hall.proofs.Stopped.{own_image, sound_again}

-- ---- what a stop left

-- each stamp that is at most a moment is known by then
pub every_stamp : (first last moment : ℕ) (stamps : List ℕ) → Rise first last stamps → last ≤ moment → acknowledged moment stamps ≡ length stamps
every_stamp first last moment [] r l = refl
every_stamp first last moment (s ∷ stamps) r l =
    let le : s ≤ moment = (let over = rise_over s last stamps r.1 in omega (arith, over, l)) in
    let one : ◌≡◌ {A = ℕ} (if nat_le s moment then 1 else 0) 1 = ap (λ b. if b then 1 else 0) (le-leb s moment le) in
    let rest : acknowledged moment stamps ≡ length stamps = every_stamp s last moment stamps r.1 l in
    omega (arith, one, rest)

module _ (h after : History) (stops : StopsAs h after) (m : Machine) (held : Held) (k : IsKept m held h) (rise : Rise held.opened m.moment m.core.stamps) (clock : now h ≡ m.moment) where
  at_now : StopsAs (back h (now h)) after
  at_now = subst (λ (g : History). StopsAs g after) (sym (back_now h)) stops

  safe : (image : ℕ → List ℕ) → ImageAt h (now h) image → IsSafe m.contents m.core (acknowledged (now h) m.core.stamps) image
  safe image here = k.always (now h) image k.since (omega arith) here

  own_safe : IsSafe m.contents m.core (acknowledged (now h) m.core.stamps) (reads after)
  own_safe = safe (reads after) (own_image h (now h) after at_now)

  recovered : Recovers meaning (reads after) (inv_at own_safe.last m.core)
  recovered = within_recovers meaning (reads after) (inv_at own_safe.last m.core) own_safe.recovers

  all_kept : length m.core.stamps ≤ own_safe.last
  all_kept = let all = every_stamp held.opened m.moment (now h) m.core.stamps rise (omega (arith, clock)) in omega (arith, all, own_safe.durable)

  left_sound : IsSound m.contents after
  left_sound = sound_again h (now h) after at_now m.contents (λ image here. let it = safe image here in (inv_at it.last m.core, (it.recovers, it.holds)))

-- ---- a new hall

-- no count falls over a stop and an opening
none_fell : (before after a b c : ℕ → ℕ) → before ≡ a → after ≡ c → NoneFell a b → NoneFell b c → NoneFell before after
none_fell before after a b c same at first second file =
    let was = ap (λ (f : ℕ → ℕ). f file) same in
    let is = ap (λ (f : ℕ → ℕ). f file) at in
    let one = first file in
    let two = second file in
    omega (arith, was, is, one, two)

no_seats : (seats : List (ℕ × Seat)) (tickets : List Ticket) → seats ≡ [] → AreSeatsOf seats tickets → tickets ≡ []
no_seats [] [] none are = refl
no_seats [] (t ∷ tickets) none are = absurd are
no_seats (s ∷ seats) tickets none are = absurd cc

module _ {S : Type 0} (told : S → Option History) (moment : S → ℕ) (faults : S → ℕ → ℕ) (clock : (s : S) → IfSome (told s) (λ h. now h ≡ moment s)) where
  restarts : (old : Machine) (hall : Hall S) (m : Machine) (kept : ℕ) → IsNewHall (moment hall.store) hall.held → Is told moment faults hall m → length old.core.stamps ≤ kept
      → kept ≤ length old.core.journal
      → hall.held.vault.database ≡ inv_at kept old.core → m.contents ≡ old.contents → NoneFell old.counts m.counts → old.moment ≤ m.moment → Restarts old m
  restarts old hall m kept fresh is durable made database contents counts since = record {
    restarted = record {
      kept = kept;
      durable = durable;
      made = made;
      base = is.core.base ∙ fresh.base ∙ database;
      journal = is.core.journal ∙ fresh.vault.0;
      stamps = is.core.stamps ∙ fresh.stamps;
      tickets = no_seats hall.held.seats m.core.tickets fresh.seats is.core.tickets;
      next_file = sym is.core.space.next_file ∙ ap (λ c. c.next_file) fresh.claims ∙ ap (λ v. v.next_file) (sym is.core.base);
      next_object = is.core.next_object ∙ fresh.next_object ∙ ap (λ v. v.next_object) (sym is.core.base);
      next_ticket = is.core.next_ticket ∙ fresh.next_ticket;
      image = no_image m.core.image (is.core.image ∙ fresh.image);
      fault = is.core.fault ∙ fresh.vault.2;
      contents = contents;
    };
    counts = counts;
    moment = since;
  }

  -- the machine behind a stop and an opening
  abbrev Restarted : (old : Machine) → Hall S → Type 0
  Restarted old hall = (m : Machine) × Restarts old m × Is told moment faults hall m × IsTrusted (told hall.store) hall.held

  with_trust : (contents : ℕ → List ℕ) (hall : Hall S) (before after : Option History) → Told before after (OpensFiles (Ok hall.held.vault)) → ((h : History) × (before ≡ Some h))
      → IfSome after (IsSoundWith contents hall.held.base hall.held.opened) → IsTrusted after hall.held
  with_trust contents hall None after files some sound = absurd cc
  with_trust contents hall (Some h) None files some sound = absurd files
  with_trust contents hall (Some h) (Some n) files some sound = (contents, sound)

  opened_as : (hall : Hall S) (before after : Option History) (h : History) (v : Inv) → Told before after (OpensFiles (Ok hall.held.vault)) → before ≡ Some h → Recovers meaning (reads h) v
      → hall.held.vault.database ≡ v
  opened_as hall None after h v files tells is = absurd cc
  opened_as hall (Some k) None h v files tells is = absurd files
  opened_as hall (Some k) (Some n) h v files tells is =
      let same : k ≡ h = cc in
      one_database meaning is_meaning (reads h) hall.held.vault.database v (subst (λ g. Recovers meaning (reads g) hall.held.vault.database) same files.vault.opens.0) is

  stop_then_open : (old : Hall S) (m : Machine) (store : S) (next : Hall S) (h after : History) → told old.store ≡ Some h → told store ≡ Some after → StopsAs h after → Is told moment faults old m
      → WasSound old.held.base old.held.opened h
      → Stopped told moment faults old.store store → Reopens told moment faults store next → Restarted m next
  stop_then_open old m store next h after tells told_after stops is sound stopped opened =
      let k = kept_by told moment faults old m h tells is sound in
      let at : now h ≡ m.moment = subst (λ o. IfSome o (λ g. now g ≡ moment old.store)) tells (clock old.store) ∙ sym is.clock in
      let rise = is.good.stamped.rise in
      let own = own_safe h after stops m old.held k rise at in
      let with = (subst (λ o. IfSome o (λ g. (contents : ℕ → List ℕ) → IsSound contents g → IsWith told moment faults contents next)) told_after opened.opens.2) m.contents (left_sound h after stops m old.held k rise at) in
      let database : next.held.vault.database ≡ inv_at own.last m.core =
      opened_as next (told store) (told next.store) after (inv_at own.last m.core) opened.files told_after (recovered h after stops m old.held k rise at) in (
        with.0,
        restarts m next with.0 own.last opened.opens.0 with.2 (all_kept h after stops m old.held k rise at) own.made database with.1
            (none_fell m.counts with.0.counts (faults old.store) (faults store) (faults next.store) is.counts with.2.counts stopped.counts opened.counts)
            (omega (arith, is.clock, with.2.clock, stopped.clock, opened.later)),
        with.2,
        with_trust m.contents next (told store) (told next.store) opened.files (after, told_after) with.3,
      )

  reopened : (old : Hall S) (m : Machine) (store : S) (next : Hall S) (o n : Option History) → told old.store ≡ o → told store ≡ n → Told o n StopsAs → Is told moment faults old m
      → IsTrusted o old.held
      → Stopped told moment faults old.store store → Reopens told moment faults store next → Restarted m next
  reopened old m store next None n tells told_after stops is trusted stopped opened = absurd trusted
  reopened old m store next (Some h) None tells told_after stops is trusted stopped opened = absurd stops
  reopened old m store next (Some h) (Some after) tells told_after stops is trusted stopped opened = stop_then_open old m store next h after tells told_after stops is trusted stopped opened

  -- ---- turns

  pub played : (turns : List Turn) (replies : List Reply) (old new : Hall S) (m : Machine) → IsTrusted (told old.store) old.held → Is told moment faults old m
      → Plays told moment faults turns replies old new
      → (last : Machine) × RunsTurns turns replies m last × Is told moment faults new last × IsTrusted (told new.store) new.held
  played [] replies old new m trusted is plays =
      (m, (plays.0, refl), subst (λ (h : Hall S). Is told moment faults h m) (sym plays.1) is, subst (λ (h : Hall S). IsTrusted (told h.store) h.held) (sym plays.1) trusted)
  played (Do actor step ∷ turns) [] old new m trusted is plays = absurd plays
  played (Do actor step ∷ turns) (reply ∷ replies) old new m trusted is plays =
      let answer = plays.1 in
      let one = exact told moment faults actor old plays.0 m is trusted answer.0 answer.3 in
      let rest = played turns replies plays.0 new one.0 (still_trusted told moment faults clock old plays.0 m is trusted answer.4) one.2 plays.2 in
      (rest.0, (answer.0, one.0, answer.1, answer.2, one.1, rest.1), rest.2, rest.3)
  played (Stop choice ∷ turns) replies old new m trusted is plays =
      let again = reopened old m plays.0 plays.1 (told old.store) (told plays.0) refl refl plays.2.files is trusted plays.2 plays.3 in
      let rest = played turns replies plays.1 new again.0 again.3 again.2 plays.4 in
      (rest.0, (again.0, again.1, rest.1), rest.2, rest.3)
