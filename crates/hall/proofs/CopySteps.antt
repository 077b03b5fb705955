-- A ticket copies a piece of its object; or each copy has lost some of it; or a call on one of the ticket's files fails, and it is dropped.
use Rattle.std.proofs.Common.{◌≡◌, inl, inr, ℕ, ◌+◌, ◌-◌, ◌<◌, ◌≤◌, ◌^◌, Bool, true, false, not, is_some, List, [], ◌∷◌, ◌++◌, length, take, drop, Option, Some, None, Result, Ok, Err, refl, sym, ap, subst, ◌∙◌, if◌then◌else◌, arith}
use Rattle.std.specs.Prelude.{IfSome}
use Rattle.std.proofs.lemmas.List.{length-drop, length-take-le}
use Rattle.store_api.specs.Cause.{NoneFell, Rose}
use Rattle.store_api.specs.Disk.{History, now}
use Rattle.store_api.specs.Runs.{GoesOn}
use Rattle.store_api.specs.Told.{Told}
use Rattle.kinds.specs.Refusals.{foremost, unless}
use Rattle.kinds.specs.declared.refusal.Refusal.{Refusal}
use Rattle.kinds.specs.declared.refusal.Refusal.TheVariants as refusal
use Rattle.inventory_rows.specs.Search.{version, versions}
use Rattle.inventory_rows.specs.State.{Inv}
use Rattle.inventory_rows.specs.pool_tables.Rows.{row_at}
use Rattle.inventory_rows.specs.version_groups.declared.versions.Version.{Version}
use Rattle.inventory_rules.specs.Journal.{Journal}
use Rattle.inventory_rules.specs.Run.{journal_of}
use Rattle.inventory_rules.specs.Versions.{copies_of, of_version}
use Rattle.inventory_rows.specs.version_groups.declared.copies.CopyRow.{CopyRow}
use Rattle.inventory_rows.proofs.of_version_groups.Lists.{version_of-object}
use Rattle.contents.specs.Reading.{lies_in_file}
use Rattle.machine.specs.Causes.{copying_refused, most_bytes, ticket_in_use}
use Rattle.machine.specs.Machine.{CantRead, IsTicket, Later, ended, last_moment, next_count}
use Rattle.machine.specs.Pieces.{RoseAt, piece, piece_length}
use Rattle.machine.specs.State.{Machine, Purpose, Ticket, inventory, is_storing, object_of, own_tickets, sight, ticket, took}
use Rattle.steps.specs.Events.Deed.{CopyPiece}
use Rattle.hall.specs.declared.seat.Seat.{Seat}
use Rattle.hall.specs.declared.copying.Copied.{Copied}
use Rattle.hall.specs.declared.copying.Copied.TheVariants.{Unread, Lost, Written, Failed}
use Rattle.hall.specs.Copying.{BecomesCopied, Copies, CopiesFor, EndsCopied, IsCopyOf, IsFailed, ReadAndWrote, copy_refused, copying_refused_at}
use Rattle.hall.specs.Frames.{segments_of}
use Rattle.hall.specs.Covered.{IsFilled, is_later}
use Rattle.hall.specs.Good.{Is, IsFront, is_firm_at}
use Rattle.hall.specs.Held.{AreSeatsOf, Hall, Held, IsCore, IsSeatOf, purpose_of}
use Rattle.hall.specs.Seats.{ended_at, own_seat, without_seat}
use Rattle.hall.specs.Reading.{AreLost}
use Rattle.machine.specs.Alone.{with_contents}
use Rattle.hall.specs.Steps.{Steps}
use Rattle.hall.specs.Taken.{IsSomeThat, TookMore}
use Rattle.inventory_rows.specs.version_groups.Entries.{all_later}
use Rattle.hall.proofs.Behind.{has_space, segments_are}
use Rattle.hall.proofs.Having.{found_has}
use Rattle.hall.proofs.CopyTakes.{front_is, front_more, seat_copied, with_more, with_same, without_it}
use Rattle.hall.proofs.Dropping.{core_gone, no_later}
use Rattle.hall.proofs.Replacing.{dropped_at, replaced_at}
use Rattle.hall.proofs.FirmSeats.{firm_set}
use Rattle.hall.proofs.Edited.{StandsAmong, edited, own_has, seats_edited, some_is}
use Rattle.hall.proofs.Ended.{ended_is, none_halted}
use Rattle.hall.proofs.Looking.{GoesOnPending, looked_at, still_is}
use Rattle.hall.proofs.PieceReads.{as_lost, lost_as}
use Rattle.hall.proofs.Within.{LiesBeside, WritesBeside}
use Rattle.hall.proofs.TicketSteps.{begins_early, both_empty, none_refuses, of_alike, own_there, seat_there, ticket_is, unless_holds}
use Rattle.hall.proofs.Tickets.{matches}

-- ---- the hall tells the same as the machine

abbrev copy_by : (number : ℕ) → Purpose → (is_sealed : Bool) → Journal → Inv → List Refusal
copy_by number p is_sealed j v =
    if is_storing p then ticket_in_use number ∷ [] else unless (not is_sealed) (ticket_in_use number) ++ of_version j (object_of p) (λ w. []) (version (object_of p) v)

module _ (actor number : ℕ) (held : Held) (m : Machine) (is : IsCore held m.core) (rises : all_later is_later m.core.tickets ≡ true) where
  one_alike : (k : ℕ) (s : Seat) (t : Ticket) → IsSeatOf k s t
      → copy_by number t.purpose t.is_sealed (journal_of m.core.base m.core.journal) (inventory m.core) ≡ copy_refused number held s
  one_alike k s t of =
      ap (λ p. copy_by number p t.is_sealed (journal_of m.core.base m.core.journal) (inventory m.core)) of.purpose
      ∙ ap (λ b. copy_by number (purpose_of s.purpose) b (journal_of m.core.base m.core.journal) (inventory m.core)) of.is_sealed
      ∙ ap (λ b. copy_by number (purpose_of s.purpose) s.is_sealed (journal_of b m.core.journal) (inventory m.core)) is.base
      ∙ ap (λ l. copy_by number (purpose_of s.purpose) s.is_sealed (journal_of held.base l) (inventory m.core)) is.journal
      ∙ ap (λ v. copy_by number (purpose_of s.purpose) s.is_sealed (journal_of held.base held.vault.journal) v) (sym is.database)

  pub copy_alike : (moment : ℕ) → m.moment ≡ moment → ended m ++ copying_refused number (sight actor m.core) ≡ ended_at moment held ++ copying_refused_at actor number held
  copy_alike moment at =
      ap (λ (l : List Refusal). l ++ copying_refused number (sight actor m.core)) (ended_is moment held m is at)
      ∙ ap (λ (l : List Refusal). ended_at moment held ++ l)
      (of_alike number (own_seat actor number held) (ticket number (own_tickets actor m.core.tickets))
      (λ t. copy_by number t.purpose t.is_sealed (journal_of m.core.base m.core.journal) (inventory m.core)) (copy_refused number held) (matches actor number held.seats m.core.tickets is.tickets rises)
      (λ s t of. one_alike number s t of))

-- ---- where nothing refuses

-- What is known where nothing refuses to copy a piece.
pub record CopiesNow (actor number moment : ℕ) (held : Held) : Type 0 where
  pub early : moment < last_moment
  pub running : held.vault.fault ≡ None
  pub seat : Seat
  pub mine : own_seat actor number held ≡ Some seat
  pub there : row_at number held.seats ≡ Some seat
  pub actor_is : seat.actor ≡ actor
  pub further : is_storing (purpose_of seat.purpose) ≡ false
  pub unsealed : seat.is_sealed ≡ false
  pub kept : Version
  pub found : version (object_of (purpose_of seat.purpose)) held.vault.database ≡ Some kept

is_open : (b : Bool) → not b ≡ true → b ≡ false
is_open true h = absurd cc
is_open false h = refl

one_of : (b : Bool) (e : Refusal) (rest : List Refusal) → (if b then e ∷ [] else rest) ≡ [] → (b ≡ false) × (rest ≡ [])
one_of true e rest h = absurd cc
one_of false e rest h = (refl, h)

is_kept : (j : Journal) (object : ℕ) (o : Option Version) → of_version j object (λ w. []) o ≡ [] → (w : Version) × (o ≡ Some w)
is_kept j object None h = absurd cc
is_kept j object (Some w) h = (w, refl)

pub copies_now : (actor number moment : ℕ) (held : Held) → foremost (ended_at moment held ++ copying_refused_at actor number held) ≡ None → CopiesNow actor number moment held
copies_now actor number moment held free =
    let all = both_empty (ended_at moment held) (copying_refused_at actor number held) (none_refuses (ended_at moment held ++ copying_refused_at actor number held) free) in
    let it = seat_there (copy_refused number held) (own_seat actor number held) all.1 in
    let s : Seat = it.0 in
    let here = own_there actor (row_at number held.seats) s it.1 in
    let j : Journal = journal_of held.base held.vault.journal in
    let object : ℕ = object_of (purpose_of s.purpose) in
    let rule = one_of (is_storing (purpose_of s.purpose)) (ticket_in_use number) (unless (not s.is_sealed) (ticket_in_use number) ++ of_version j object (λ w. []) (version object held.vault.database)) it.2 in
    let parts = both_empty (unless (not s.is_sealed) (ticket_in_use number)) (of_version j object (λ w. []) (version object held.vault.database)) rule.1 in
    let kept = is_kept j object (version object held.vault.database) parts.1 in
    record {
      early = begins_early moment held all.0;
      running = none_halted moment held (ap foremost all.0);
      seat = s;
      mine = it.1;
      there = here.0;
      actor_is = here.1;
      further = rule.0;
      unsealed = is_open s.is_sealed (unless_holds (not s.is_sealed) (ticket_in_use number) parts.0);
      kept = kept.0;
      found = kept.1;
    }

-- ---- the step

module _ {S : Type 0} (told : S → Option History) (moment : S → ℕ) (faults : S → ℕ → ℕ) (actor number : ℕ) (hall : Hall S) where
  pub copy_refuses : (e : Refusal) → foremost (ended_at (moment hall.store) hall.held ++ copying_refused_at actor number hall.held) ≡ Some e → Steps told moment faults actor (CopyPiece number (Err e)) hall hall
  copy_refuses e refuses = λ m is.
      let held : foremost (ended m ++ copying_refused number (sight actor m.core)) ≡ Some e =
      ap foremost (copy_alike actor number hall.held m is.core is.good.numbers.tickets (moment hall.store) is.clock) ∙ refuses in
      (m.contents, m, refl, record { number = refl; later = no_later m m.contents m refl refl; step = inl (inl held, record { core = refl; contents = refl }) }, is)

  module _ (free : foremost (ended_at (moment hall.store) hall.held ++ copying_refused_at actor number hall.held) ≡ None) (known : CopiesNow actor number (moment hall.store) hall.held) where
    its : (m : Machine) → Is told moment faults hall m → (t : Ticket) × IsTicket actor number m t × IsSeatOf number known.seat t × StandsAmong actor number t m.core.tickets
    its m is = ticket_is actor number hall.held m is.core is.good.numbers.tickets known.seat known.mine

    -- what the calls need
    there_is : ((m : Machine) × Is told moment faults hall m) → IsSomeThat (row_at number hall.held.seats) (IsCopyOf hall.held.vault.database)
    there_is good =
        let m : Machine = good.0 in
        let it = its good.0 good.1 in
        let t : Ticket = it.0 in
        let found : version (object_of t.purpose) (inventory m.core) ≡ Some known.kept =
        ap (λ p. version (object_of p) (inventory m.core)) it.2.purpose ∙ ap (version (object_of (purpose_of known.seat.purpose))) (sym good.1.core.database) ∙ known.found in
        let front = own_has actor number t m.core.tickets it.3 (λ u. IsFront m.contents (inventory m.core) u.purpose u.size u.bytes) good.1.good.bytes.fronts in
        let size = (front_is m.contents (inventory m.core) t.purpose t.size t.bytes known.kept (ap is_storing it.2.purpose ∙ known.further) front found).0 in
        subst (λ o. IsSomeThat o (IsCopyOf hall.held.vault.database)) (sym known.there)
        (record {
          kept = known.kept;
          found = known.found;
          size = sym it.2.size ∙ size;
          space = has_space number known.seat t it.2 (own_has actor number t m.core.tickets it.3 IsFilled good.1.good.space.filled);
        })

    begins : moment hall.store + 2 ^ 24 ≤ 2 ^ 62
    begins = let l = known.early in omega (arith, l)

    -- ---- what came of them

    module _ (clock : (s : S) → IfSome (told s) (λ h. now h ≡ moment s)) (pends : GoesOnPending) (writes : WritesBeside) (lies : LiesBeside) (store : S) (counts : NoneFell (faults hall.store) (faults store))
        (since : moment hall.store ≤ moment store) (soon : moment store ≤ moment hall.store + 2 ^ 24) where
      open_machine : (m : Machine) → Is told moment faults hall m → foremost (ended m ++ copying_refused number (sight actor m.core)) ≡ None
      open_machine m is = ap foremost (copy_alike actor number hall.held m is.core is.good.numbers.tickets (moment hall.store) is.clock) ∙ free

      later_copy : (m next : Machine) → Is told moment faults hall m → next.counts ≡ faults store → next.moment ≡ moment store → Later (with_contents m.contents m) next
      later_copy m next is c at = record {
        counts = λ file. let a = ap (λ (f : ℕ → ℕ). f file) is.counts in let b = ap (λ (f : ℕ → ℕ). f file) c in let le = counts file in omega (arith, a, b, le);
        since = omega (arith, is.clock, at, since);
        soon = omega (arith, is.clock, at, soon);
      }

      abbrev s : Seat
      s = known.seat

      abbrev object : ℕ
      object = object_of (purpose_of s.purpose)

      -- how many bytes the ticket copies next
      next_is : (t : Ticket) → IsSeatOf number s t → next_count t ≡ piece_length most_bytes s.size s.count
      next_is t of = ap (λ n. piece_length most_bytes n (length t.bytes)) of.size ∙ ap (piece_length most_bytes s.size) of.count

      -- what is lost, as the machine says it
      abbrev LostBy : (c : ℕ → ℕ) → Inv → (o k n : ℕ) → Type 0
      LostBy c v o k n = AreLost (RoseAt c (faults store)) v 0 k n (version o v)

      to_machine : (m next : Machine) → Is told moment faults hall m → (t : Ticket) → IsSeatOf number s t → next.counts ≡ faults store → (many : ℕ) → many ≡ piece_length most_bytes s.size s.count
          → LostBy (faults hall.store) hall.held.vault.database object s.count many → CantRead (object_of t.purpose) 0 (length t.bytes) (next_count t) (with_contents m.contents m) next
      to_machine m next is t of at many long lost =
          lost_as (with_contents m.contents m) next 0 (length t.bytes) (next_count t) (version (object_of t.purpose) (inventory m.core))
          (subst (λ f. AreLost (RoseAt m.counts f) (inventory m.core) 0 (length t.bytes) (next_count t) (version (object_of t.purpose) (inventory m.core))) (sym at)
          (subst (λ n. LostBy m.counts (inventory m.core) (object_of t.purpose) (length t.bytes) n) (long ∙ sym (next_is t of))
          (subst (λ k. LostBy m.counts (inventory m.core) (object_of t.purpose) k many) (sym of.count)
          (subst (λ p. LostBy m.counts (inventory m.core) (object_of p) s.count many) (sym of.purpose)
          (subst (λ v. LostBy m.counts v object s.count many) is.core.database (subst (λ c. LostBy c hall.held.vault.database object s.count many) (sym is.counts) lost))))))

      from_machine : (m next : Machine) → Is told moment faults hall m → (t : Ticket) → IsSeatOf number s t → next.counts ≡ faults store → (many : ℕ) → many ≡ piece_length most_bytes s.size s.count
          → CantRead (object_of t.purpose) 0 (length t.bytes) (next_count t) (with_contents m.contents m) next → LostBy (faults hall.store) hall.held.vault.database object s.count many
      from_machine m next is t of at many long lost =
          subst (λ c. LostBy c hall.held.vault.database object s.count many) is.counts
          (subst (λ v. LostBy m.counts v object s.count many) (sym is.core.database)
          (subst (λ p. LostBy m.counts (inventory m.core) (object_of p) s.count many) of.purpose
          (subst (λ k. LostBy m.counts (inventory m.core) (object_of t.purpose) k many) of.count
          (subst (λ n. LostBy m.counts (inventory m.core) (object_of t.purpose) (length t.bytes) n) (sym (long ∙ sym (next_is t of)))
          (subst (λ f. AreLost (RoseAt m.counts f) (inventory m.core) 0 (length t.bytes) (next_count t) (version (object_of t.purpose) (inventory m.core))) at
          (as_lost (with_contents m.contents m) next 0 (length t.bytes) (next_count t) (version (object_of t.purpose) (inventory m.core)) lost))))))

      -- no copy was read
      unread : (many : ℕ) → many ≡ piece_length most_bytes s.size s.count → Told (told hall.store) (told store) (GoesOn (λ file. ⊥))
          → LostBy (faults hall.store) hall.held.vault.database object s.count many → Steps told moment faults actor (CopyPiece number (Err refusal.Unavailable)) hall (record { store = store; held = hall.held })
      unread many long looked lost = λ m is.
          let it = its m is in
          let next : Machine = looked_at told moment faults clock pends hall store since m in (
            m.contents,
            next,
            refl,
            record {
              number = refl;
              later = later_copy m next is refl refl;
              step = inr (open_machine m is, inl (it.0, it.1, refl, to_machine m next is it.0 it.2 refl many long lost, record { core = refl; contents = refl }));
            },
            still_is told moment faults clock pends hall store since m looked is,
          )

      -- ---- one was read, and the piece written

      abbrev found_copies : List CopyRow
      found_copies = copies_of (version object hall.held.vault.database)

      abbrev Did : List ℕ → Copied → Type 0
      Did bytes copied = ReadAndWrote told moment faults found_copies object s.count (segments_of s.places) bytes copied hall.store store

      -- the bytes that the machine's ticket takes
      abbrev part : Machine → Ticket → List ℕ
      part m t = piece (length t.bytes) (next_count t) (m.contents (object_of t.purpose))

      part_is : (m : Machine) (t : Ticket) → IsSeatOf number s t → (bytes : List ℕ) → length bytes ≡ piece_length most_bytes s.size s.count → take (length bytes) (drop s.count (m.contents object)) ≡ part m t
      part_is m t of bytes long =
          ap (λ n. take n (drop s.count (m.contents object))) (long ∙ sym (next_is t of))
          ∙ ap (λ n. take (next_count t) (drop n (m.contents object))) (sym of.count)
          ∙ ap (λ p. take (next_count t) (drop (length t.bytes) (m.contents (object_of p)))) (sym of.purpose)

      copies_are : found_copies ≡ known.kept.copies
      copies_are = ap copies_of known.found

      -- writing failed
      fails : (bytes : List ℕ) (file : ℕ) → length bytes ≡ piece_length most_bytes s.size s.count → Did bytes (Failed file) → IsFailed (segments_of s.places) (faults hall.store) (faults store) file
          → Steps told moment faults actor (CopyPiece number (Err (refusal.WriteFault file))) hall (record { store = store; held = without_seat number hall.held })
      fails bytes file long r failed = λ m is.
          let it = its m is in
          let t : Ticket = it.0 in
          let next : Machine = dropped_at actor number (moment store) (faults store) m in
          let rises : Rose (m.counts file) (faults store file) = subst (λ n. Rose n (faults store file)) (sym (ap (λ (f : ℕ → ℕ). f file) is.counts)) failed.1 in (
            m.contents,
            next,
            refl,
            record {
              number = refl;
              later = later_copy m next is refl refl;
              step = inr (
                open_machine m is,
                inr (t, file, it.1, subst (λ l. lies_in_file l file ≡ true) (segments_are number s t it.2) failed.0, refl, rises, record { core = refl; contents = refl }),
              );
            },
            record {
              core = core_gone actor number hall.held m.core is.core is.good.numbers.tickets (ap is_some known.mine);
              clock = refl;
              counts = refl;
              good = without_it told moment faults clock pends writes lies actor number hall store known.running soon found_copies object s.count (segments_of s.places) bytes (Failed file) r m is s t it.2
                  it.3 refl refl refl known.kept known.found copies_are (part m t) (part_is m t it.2 bytes long);
            },
          )

      -- it was written in vain
      lost : (bytes : List ℕ) → length bytes ≡ piece_length most_bytes s.size s.count → Did bytes Lost → LostBy (faults hall.store) hall.held.vault.database object s.count (length bytes)
          → Steps told moment faults actor (CopyPiece number (Err refusal.Unavailable)) hall (record { store = store; held = hall.held })
      lost bytes long r gone = λ m is.
          let it = its m is in
          let t : Ticket = it.0 in
          let next : Machine = record m { moment = moment store; counts = faults store } in (
            m.contents,
            next,
            refl,
            record {
              number = refl;
              later = later_copy m next is refl refl;
              step = inr (open_machine m is, inl (t, it.1, refl, to_machine m next is t it.2 refl (length bytes) long gone, record { core = refl; contents = refl }));
            },
            with_same told moment faults clock pends writes lies actor number hall store known.running soon found_copies object s.count (segments_of s.places) bytes Lost r m is s t it.2 it.3 refl refl refl
                known.kept known.found copies_are (part m t) (part_is m t it.2 bytes long) refl (it.2.is_sealed ∙ known.unsealed) (ap is_storing it.2.purpose ∙ known.further)
                (own_has actor number t m.core.tickets it.3 IsFilled is.good.space.filled),
          )

      -- the ticket took it
      module _ (m : Machine) (is : Is told moment faults hall m) (t : Ticket) (of : IsSeatOf number s t) (among : StandsAmong actor number t m.core.tickets) where
        filled : IsFilled t
        filled = own_has actor number t m.core.tickets among IsFilled is.good.space.filled

        kept_there : version (object_of t.purpose) (inventory m.core) ≡ Some known.kept
        kept_there = ap (λ q. version (object_of q) (inventory m.core)) of.purpose ∙ ap (version object) (sym is.core.database) ∙ known.found

        further : is_storing t.purpose ≡ false
        further = ap is_storing of.purpose ∙ known.further

        front : (t.size ≡ known.kept.size) × (t.bytes ≡ take (length t.bytes) (m.contents (object_of t.purpose)))
        front =
            front_is m.contents (inventory m.core) t.purpose t.size t.bytes known.kept further
            (own_has actor number t m.core.tickets among (λ u. IsFront m.contents (inventory m.core) u.purpose u.size u.bytes) is.good.bytes.fronts) kept_there

        sized : length (m.contents (object_of t.purpose)) ≡ known.kept.size
        sized =
            subst (λ k. length (m.contents k) ≡ known.kept.size) (version_of-object (object_of t.purpose) (versions (inventory m.core)) known.kept kept_there)
            (found_has (λ y. length (m.contents y.object) ≡ y.size) (object_of t.purpose) (versions (inventory m.core)) known.kept is.good.bytes.sized kept_there)

        as_long : length (part m t) ≡ next_count t
        as_long =
            length-take-le (next_count t) (drop (length t.bytes) (m.contents (object_of t.purpose)))
            (let d = length-drop (length t.bytes) (m.contents (object_of t.purpose)) in let e = front.0 in let z = sized in omega (arith, d, z, e))

        room : length t.bytes + length (part m t) ≤ t.size
        room = let e = as_long in let within : length t.bytes ≤ t.size = filled.within in omega (arith, e, within)

        more_front : IsFront m.contents (inventory m.core) t.purpose t.size (t.bytes ++ part m t)
        more_front = front_more m.contents (inventory m.core) t.purpose t.size t.bytes (part m t) (next_count t) known.kept further kept_there front.0 front.1 refl as_long

        seats_are : (bytes : List ℕ) (count : ℕ) (held : Held) → length bytes ≡ piece_length most_bytes s.size s.count → TookMore number bytes count hall.held held
            → AreSeatsOf held.seats (edited actor number (took (part m t)) m.core.tickets)
        seats_are bytes count held long more =
            let same : s ≡ more.0.0 = some_is s more.0.0 (sym known.there ∙ more.0.2) in
            let alike : length (part m t) ≡ length bytes = as_long ∙ next_is t of ∙ sym long in
            subst (λ l. AreSeatsOf l (edited actor number (took (part m t)) m.core.tickets)) (sym more.0.5)
            (seats_edited actor number (took (part m t)) more.0.0 (record more.0.0 { count = more.0.0.count + length bytes; hashed = more.0.1 }) hall.held.seats m.core.tickets is.core.tickets
            is.good.numbers.tickets more.0.2 (subst (λ (x : Seat). x.actor ≡ actor) same known.actor_is)
            (λ u of_u. seat_copied number more.0.0 u bytes (part m t) more.0.1 alike (subst (λ (x : Seat). is_storing (purpose_of x.purpose) ≡ false) same known.further)
            (subst (λ (x : Seat). x.is_sealed ≡ false) same known.unsealed) more.0.3 of_u))

        counted : (bytes : List ℕ) (count : ℕ) (held : Held) → length bytes ≡ piece_length most_bytes s.size s.count → TookMore number bytes count hall.held held → count ≡ length t.bytes + next_count t
        counted bytes count held long more =
            let same : s ≡ more.0.0 = some_is s more.0.0 (sym known.there ∙ more.0.2) in
            more.0.4 ∙ ap (λ n. n + length bytes) (ap (λ (x : Seat). x.count) (sym same) ∙ sym of.count) ∙ ap (λ n. length t.bytes + n) (long ∙ sym (next_is t of))

      takes : (bytes : List ℕ) → length bytes ≡ piece_length most_bytes s.size s.count → Did bytes Written → ¬ LostBy (faults hall.store) hall.held.vault.database object s.count (length bytes)
          → (count : ℕ) (next : Held) → TookMore number bytes count hall.held next → Steps told moment faults actor (CopyPiece number (Ok count)) hall (record { store = store; held = next })
      takes bytes long r clear count held more =
          subst (λ h. Steps told moment faults actor (CopyPiece number (Ok count)) hall (record { store = store; held = h })) (sym more.1)
          (λ m is.
          let it = its m is in
          let t : Ticket = it.0 in
          let next : Machine = replaced_at actor number (took (part m t)) (moment store) (faults store) m in (
            m.contents,
            next,
            refl,
            record {
              number = refl;
              later = later_copy m next is refl refl;
              step = (
                open_machine m is,
                (
                  t,
                  it.1,
                  counted m is t it.2 it.3 bytes count held long more,
                  (λ gone. clear (from_machine m next is t it.2 refl (length bytes) long gone), record { core = refl; contents = refl }),
                ),
              );
            },
            with_more told moment faults clock pends writes lies actor number hall store known.running soon found_copies object s.count (segments_of s.places) bytes Written r m is s t it.2 it.3 refl refl refl
                known.kept known.found copies_are (part m t) (part_is m t it.2 bytes long) refl (it.2.is_sealed ∙ known.unsealed) (ap is_storing it.2.purpose ∙ known.further) (filled m is t it.2 it.3)
                held.seats
                (λ n firm.
                sym (firm_set number n more.0.0 (record more.0.0 { count = more.0.0.count + length bytes; hashed = more.0.1 }) hall.held.seats more.0.2 refl) ∙ ap (is_firm_at n) (sym more.0.5) ∙ firm)
                (seats_are m is t it.2 it.3 bytes count held long more) (room m is t it.2 it.3) (more_front m is t it.2 it.3),
          ))

      -- ---- whatever came of it

      by_copied : (bytes : List ℕ) (copied : Copied) (result : Result ℕ Refusal) (next : Held) → length bytes ≡ piece_length most_bytes s.size s.count
          → Copies told moment faults (copies_of (version object hall.held.vault.database)) object s.count (segments_of s.places) bytes copied hall.store store
          → EndsCopied (LostBy (faults hall.store) hall.held.vault.database object s.count (length bytes)) (segments_of s.places) (faults hall.store) (faults store) copied
          → BecomesCopied number bytes copied result hall.held next → Steps told moment faults actor (CopyPiece number result) hall (record { store = store; held = next })
      by_copied bytes Unread (Ok count) next long calls ends becomes = absurd becomes
      by_copied bytes Unread (Err e) next long calls ends becomes =
          subst (λ h. Steps told moment faults actor (CopyPiece number (Err e)) hall (record { store = store; held = h })) (sym becomes.1)
          (subst (λ x. Steps told moment faults actor (CopyPiece number (Err x)) hall (record { store = store; held = hall.held })) (sym becomes.0) (unread (length bytes) long calls ends))
      by_copied bytes Lost (Ok count) next long calls ends becomes = absurd becomes
      by_copied bytes Lost (Err e) next long calls ends becomes =
          subst (λ h. Steps told moment faults actor (CopyPiece number (Err e)) hall (record { store = store; held = h })) (sym becomes.1)
          (subst (λ x. Steps told moment faults actor (CopyPiece number (Err x)) hall (record { store = store; held = hall.held })) (sym becomes.0) (lost bytes long calls ends))
      by_copied bytes Written (Ok count) next long calls ends becomes = takes bytes long calls ends count next becomes
      by_copied bytes Written (Err e) next long calls ends becomes = absurd becomes
      by_copied bytes (Failed file) (Ok count) next long calls ends becomes = absurd becomes
      by_copied bytes (Failed file) (Err e) next long calls ends becomes =
          subst (λ h. Steps told moment faults actor (CopyPiece number (Err e)) hall (record { store = store; held = h })) (sym becomes.1)
          (subst (λ x. Steps told moment faults actor (CopyPiece number (Err x)) hall (record { store = store; held = without_seat number hall.held })) (sym becomes.0)
          (fails bytes file long calls ends))

      steps_by : (result : Result ℕ Refusal) (next : Held) → CopiesFor told moment faults number (row_at number hall.held.seats) result hall.store store hall.held next
          → Steps told moment faults actor (CopyPiece number result) hall (record { store = store; held = next })
      steps_by result next did =
          let c = subst (λ o. CopiesFor told moment faults number o result hall.store store hall.held next) known.there did in
          by_copied c.bytes c.copied result next c.long c.calls c.ends c.becomes

  -- ---- as the calls need and say it

  module _ (free : foremost (ended_at (moment hall.store) hall.held ++ copying_refused_at actor number hall.held) ≡ None) where
    pub copy_there : ((m : Machine) × Is told moment faults hall m) → IsSomeThat (row_at number hall.held.seats) (IsCopyOf hall.held.vault.database)
    copy_there good = there_is free (copies_now actor number (moment hall.store) hall.held free) good

    pub copy_begins : moment hall.store + 2 ^ 24 ≤ 2 ^ 62
    copy_begins = begins free (copies_now actor number (moment hall.store) hall.held free)

    pub copy_steps : (clock : (s : S) → IfSome (told s) (λ h. now h ≡ moment s)) → GoesOnPending → WritesBeside → LiesBeside → (store : S) → NoneFell (faults hall.store) (faults store)
        → moment hall.store ≤ moment store → moment store ≤ moment hall.store + 2 ^ 24 → (result : Result ℕ Refusal) (next : Held)
        → CopiesFor told moment faults number (row_at number hall.held.seats) result hall.store store hall.held next
        → Steps told moment faults actor (CopyPiece number result) hall (record { store = store; held = next })
    copy_steps clock pends writes lies store counts since soon result next did =
        steps_by free (copies_now actor number (moment hall.store) hall.held free) clock pends writes lies store counts since soon result next did
