-- What a copy's ticket holds behind a piece that was read and written: of one state of the machine.
use Rattle.std.proofs.Common.{append_assoc, ◌≡◌, inl, inr, ℕ, ◌+◌, ◌-◌, ◌≤◌, ◌^◌, zero, suc, true, false, List, [], ◌∷◌, ◌++◌, length, take, drop, Option, Some, None, Ok, refl, sym, ap, subst, ◌∙◌, arith}
use Rattle.std.specs.Prelude.{IfSome}
use Rattle.std.specs.List.{AllByRecursion}
use Rattle.std.proofs.Math.Seq.{take-add}
use Rattle.std.proofs.Math.Path.{fun_ext}
use Rattle.std.proofs.lemmas.Bool.{false≢true}
use Rattle.std.proofs.lemmas.List.{length-append}
use Rattle.kinds.specs.declared.segment.Segment.{Segment}
use Rattle.store_api.specs.Disk.{History, now, reads}
use Rattle.store_api.specs.Runs.{GoesOn, Stands}
use Rattle.store_api.specs.Told.{Told}
use Rattle.store_api.proofs.Pieces.{stands_left}
use Rattle.store_api.proofs.Runs.{told_map}
use Rattle.volume_frames.specs.Frames.{frame_header}
use Rattle.volume_frames.proofs.Copies.{length-frame_header}
use Rattle.contents.specs.Contents.{FramesHave, HasAll, HasVersion, InImage, InStore, TookHave}
use Rattle.contents.proofs.Kept.{kept_reads}
use Rattle.contents.proofs.Looking.{looked_reads}
use Rattle.inventory_rows.specs.Search.{version, versions}
use Rattle.inventory_rows.specs.State.{Inv}
use Rattle.inventory_rows.specs.version_groups.declared.copies.CopyRow.{CopyRow}
use Rattle.inventory_rows.specs.version_groups.declared.versions.Version.{Version}
use Rattle.inventory_rows.proofs.of_version_groups.Lists.{version_of-object}
use Rattle.machine.specs.Machine.{with_tickets}
use Rattle.machine.specs.State.{Machine, Purpose, Ticket, copying, inventory, is_storing, object_of, storing, took}
use Rattle.hall.specs.declared.copying.Copied.{Copied}
use Rattle.hall.specs.declared.seat.Hashed.{Hashed}
use Rattle.hall.specs.declared.seat.Hashed.TheVariants.{Done, Taking, Unhashed}
use Rattle.hall.specs.declared.seat.Purpose.{Purpose as Use}
use Rattle.hall.specs.declared.seat.Purpose.TheVariants.{Copying, Storing}
use Rattle.hall.specs.declared.seat.Seat.{Seat}
use Rattle.hall.specs.Copying.{ReadAndWrote, written}
use Rattle.hall.specs.Covered.{IsFilled}
use Rattle.hall.specs.Frames.{WroteBehind, WroteIn, segments_of}
use Rattle.hall.specs.Good.{HasTaken, Is, IsFirm, IsFront, IsGood, IsKept, is_firm_at}
use Rattle.hall.specs.Held.{AreSeatsOf, Hall, IsHashed, IsSeatOf, purpose_of}
use Rattle.hall.specs.Reading.{ReadsAny}
use Rattle.hall.specs.Seats.{without_seat}
use Rattle.hall.specs.Taken.{MoreHashed}
use Rattle.hall.proofs.Behind.{becomes_more, behind_of, filled_more, took_like}
use Rattle.hall.proofs.Covering.{all_each}
use Rattle.hall.proofs.Databases.{last_left}
use Rattle.hall.proofs.Edited.{IsLike, StandsAmong, by_edit, edited, own_has}
use Rattle.hall.proofs.Having.{found_has}
use Rattle.hall.proofs.Looking.{GoesOnPending, looked_at, still_is}
use Rattle.hall.proofs.Replacing.{dropped_at, good_dropped, replaced_at, replaces}
use Rattle.hall.proofs.Within.{LiesBeside, WritesBeside}

-- a copy's ticket is as long as its object, of which it took the front
pub front_is : (contents : ℕ → List ℕ) (v : Inv) (p : Purpose) (size : ℕ) (bytes : List ℕ) (w : Version) → is_storing p ≡ false → IsFront contents v p size bytes → version (object_of p) v ≡ Some w
    → (size ≡ w.size) × (bytes ≡ take (length bytes) (contents (object_of p)))
front_is contents v (storing object) size bytes w further front found = absurd cc
front_is contents v (copying object aim) size bytes w further front found = subst (λ o. IfSome o (λ x. (size ≡ x.size) × (bytes ≡ take (length bytes) (contents object)))) found front

-- ---- tickets that copy

-- the front of what was taken
take_both : (n : ℕ) (xs ys : List ℕ) → take n (xs ++ ys) ≡ take n xs ++ take (n - length xs) ys
take_both zero [] ys = refl
take_both zero (x ∷ xs) ys = let e : zero - length (x ∷ xs) ≡ zero = omega arith in sym (ap (λ k. take k ys) e)
take_both (suc n) [] ys = let e : suc n ≡ suc n - 0 = omega arith in ap (λ k. take k ys) e
take_both (suc n) (x ∷ xs) ys =
    let e : n - length xs ≡ suc n - length (x ∷ xs) = omega arith in
    ap (λ (l : List ℕ). x ∷ l) (take_both n xs ys) ∙ ap (λ k. x ∷ (take n xs ++ take k ys)) e

drop_both : (n : ℕ) (xs ys : List ℕ) → drop n (xs ++ ys) ≡ drop n xs ++ drop (n - length xs) ys
drop_both zero [] ys = refl
drop_both zero (x ∷ xs) ys = let e : zero - length (x ∷ xs) ≡ zero = omega arith in sym (ap (λ k. x ∷ (xs ++ drop k ys)) e)
drop_both (suc n) [] ys = let e : suc n ≡ suc n - 0 = omega arith in ap (λ k. drop k ys) e
drop_both (suc n) (x ∷ xs) ys =
    let e : n - length xs ≡ suc n - length (x ∷ xs) = omega arith in
    drop_both n xs ys ∙ ap (λ k. drop n xs ++ drop k ys) e

took_prefix : (f : ℕ → List ℕ) (object n : ℕ) (segments : List Segment) (xs ys : List ℕ) → TookHave (InImage f) object n segments (xs ++ ys) → TookHave (InImage f) object n segments xs
took_prefix f object n [] [] ys t = refl
took_prefix f object n (s ∷ segments) [] ys t = tt
took_prefix f object n [] (x ∷ xs) ys t = absurd cc
took_prefix f object n (s ∷ segments) (x ∷ xs) ys t =
    let header : List ℕ = frame_header object n s.len in
    let front : List ℕ = take s.len (x ∷ xs) in
    let back : List ℕ = take (s.len - length (x ∷ xs)) ys in
    let head : length header ≡ 32 = length-frame_header object n s.len in
    let some : length (header ++ front) ≡ length header + length front = length-append header front in
    let whole : Stands (f s.file) s.offset ((header ++ front) ++ back) =
    subst (Stands (f s.file) s.offset) (sym (append_assoc header front back)) (subst (λ l. Stands (f s.file) s.offset (header ++ l)) (take_both s.len (x ∷ xs) ys) t.0) in (
      stands_left (f s.file) s.offset (header ++ front) back (omega (arith, head, some)) whole,
      took_prefix f object (suc n) segments (drop s.len (x ∷ xs)) (drop (s.len - length (x ∷ xs)) ys) (subst (TookHave (InImage f) object (suc n) segments) (drop_both s.len (x ∷ xs) ys) t.1),
    )

-- a ticket that stays
same_like : IsLike (λ u. u)
same_like = record { number = λ t. refl; actor = λ t. refl; place = λ t. refl; purpose = λ t. refl; claim = λ t. refl }

edited_same : (actor k : ℕ) (ts : List Ticket) → edited actor k (λ u. u) ts ≡ ts
edited_same actor k [] = refl
edited_same actor k (t ∷ ts) = ap (λ u. u ∷ edited actor k (λ u. u) ts) (by_edit actor k (λ u. u) (λ u. u ≡ t) t refl refl) ∙ ap (λ (l : List Ticket). t ∷ l) (edited_same actor k ts)

-- of a copy no digest is made, whatever its bytes are
unhashed : (p : Use) (state : Hashed) (xs ys : List ℕ) → is_storing (purpose_of p) ≡ false → IsHashed p false state xs → IsHashed p false state ys
unhashed (Storing object) state xs ys further h = absurd cc
unhashed (Copying object aim) (Taking hasher) xs ys further h = h
unhashed (Copying object aim) (Done digest) xs ys further h = h
unhashed (Copying object aim) Unhashed xs ys further h = h

pub seat_copied : (k : ℕ) (s : Seat) (t : Ticket) (bytes part : List ℕ) (hashed : Hashed) → length part ≡ length bytes → is_storing (purpose_of s.purpose) ≡ false → s.is_sealed ≡ false
    → MoreHashed bytes s.hashed hashed → IsSeatOf k s t → IsSeatOf k (record s { count = s.count + length bytes; hashed = hashed }) (took part t)
seat_copied k s t bytes part hashed alike further unsealed more is = record {
  number = is.number;
  actor = is.actor;
  purpose = is.purpose;
  size = is.size;
  pool = is.pool;
  places = is.places;
  count = (let all = length-append t.bytes part in omega (arith, all, alike, is.count));
  is_sealed = is.is_sealed;
  hashed = subst (λ b. IsHashed s.purpose b hashed (t.bytes ++ part)) (sym unsealed)
      (unhashed s.purpose hashed (t.bytes ++ bytes) (t.bytes ++ part) further (more s.purpose t.bytes (subst (λ b. IsHashed s.purpose b s.hashed t.bytes) unsealed is.hashed)));
}

-- a copy's ticket with the next piece has the front of its object's bytes
pub front_more : (contents : ℕ → List ℕ) (v : Inv) (p : Purpose) (size : ℕ) (bytes part : List ℕ) (n : ℕ) (w : Version) → is_storing p ≡ false → version (object_of p) v ≡ Some w → size ≡ w.size
    → bytes ≡ take (length bytes) (contents (object_of p)) → part ≡ take n (drop (length bytes) (contents (object_of p))) → length part ≡ n → IsFront contents v p size (bytes ++ part)
front_more contents v (storing object) size bytes part n w further found sized front next long = absurd cc
front_more contents v (copying object aim) size bytes part n w further found sized front next long =
    let c : List ℕ = contents object in
    let all : length (bytes ++ part) ≡ length bytes + length part = length-append bytes part in
    let joined : bytes ++ part ≡ take (length (bytes ++ part)) c =
    ap (λ (l : List ℕ). l ++ part) front ∙ ap (λ (l : List ℕ). take (length bytes) c ++ l) next ∙ sym (take-add (length bytes) n c) ∙ ap (λ k. take k c) (ap (λ k. length bytes + k) (sym long) ∙ sym all) in
    subst (λ o. IfSome o (λ x. (size ≡ x.size) × (bytes ++ part ≡ take (length (bytes ++ part)) c))) (sym found) (sized, joined)

-- ---- a piece was read, and then written

module _ {S : Type 0} (told : S → Option History) (moment : S → ℕ) (faults : S → ℕ → ℕ) (clock : (s : S) → IfSome (told s) (λ h. now h ≡ moment s)) (pends : GoesOnPending) (writes : WritesBeside)
    (lies : LiesBeside) (actor number : ℕ) (hall : Hall S) (store : S) (running : hall.held.vault.fault ≡ None) (soon : moment store ≤ moment hall.store + 2 ^ 24) (copies : List CopyRow)
    (object count : ℕ) (segments : List Segment) (bytes : List ℕ) (copied : Copied) (r : ReadAndWrote told moment faults copies object count segments bytes copied hall.store store) where
  -- the hall between the two
  abbrev middle : Hall S
  middle = record { store = r.mid; held = hall.held }

  abbrev at_middle : Machine → Machine
  at_middle m = looked_at told moment faults clock pends hall r.mid r.before m

  soon_after : moment store ≤ moment r.mid + 2 ^ 24
  soon_after = let b = r.before in omega (arith, soon, b)

  module _ (m : Machine) (is : Is told moment faults hall m) (s : Seat) (t : Ticket) (of : IsSeatOf number s t) (among : StandsAmong actor number t m.core.tickets)
      (object_is : object ≡ object_of (purpose_of s.purpose)) (count_is : count ≡ s.count) (segments_is : segments ≡ segments_of s.places) (w : Version)
      (found : version object hall.held.vault.database ≡ Some w) (copies_is : copies ≡ w.copies) (p : List ℕ) (p_is : take (length bytes) (drop count (m.contents object)) ≡ p) where
    is_middle : Is told moment faults middle (at_middle m)
    is_middle =
        still_is told moment faults clock pends hall r.mid r.before m
        (told_map (told hall.store) (told r.mid) (ReadsAny copies count bytes true) (GoesOn (λ f. ⊥)) (λ h n one. one.goes) r.read) is

    -- over a store that was sound the bytes that were read are the machine's
    same_bytes : (o x : History) → ReadsAny copies count bytes true o x → IsKept (at_middle m) hall.held x → bytes ≡ p
    same_bytes o x a k =
        let all : HasAll (InStore x) m.contents (inventory m.core) = last_left (HasAll (InStore x) m.contents) m.core (all_each (InStore x) m.contents _ k.firm) in
        let stands = kept_reads m.contents x (inventory m.core) all in
        let there : version object (inventory m.core) ≡ Some w = ap (version object) (sym is.core.database) ∙ found in
        let has : HasVersion (InImage (reads x)) (m.contents w.object) w = found_has (λ y. HasVersion (InImage (reads x)) (m.contents y.object) y) object (versions (inventory m.core)) w stands there in
        let own : w.object ≡ object = version_of-object object (versions (inventory m.core)) w there in
        let frames : AllByRecursion (λ (c : CopyRow). FramesHave (InImage (reads o)) object 0 c.segments (m.contents object)) w.copies =
        subst (λ f. AllByRecursion (λ (c : CopyRow). FramesHave (InImage f) object 0 c.segments (m.contents object)) w.copies) (fun_ext (λ file. looked_reads o x file a.goes))
        (subst (λ k. AllByRecursion (λ (c : CopyRow). FramesHave (InImage (reads x)) k 0 c.segments (m.contents k)) w.copies) own has.copies) in
        a.bytes refl object (m.contents object)
        (subst (AllByRecursion (λ (c : CopyRow). FramesHave (InImage (reads o)) object 0 c.segments (m.contents object))) (sym copies_is) frames)
        ∙ p_is

    -- what the calls were behind the read, as the ticket of the machine has them
    abbrev Wrote : History → History → Type 0
    Wrote x n = WroteBehind (object_of t.purpose) (length t.bytes) t.place.segments bytes (written copied) x n × (IsKept (at_middle m) hall.held x → bytes ≡ p)

    of_seat : (x n : History) → WroteBehind object count segments bytes (written copied) x n → WroteBehind (object_of t.purpose) (length t.bytes) t.place.segments bytes (written copied) x n
    of_seat x n b =
        behind_of number s t bytes (written copied) x n of
        (subst (λ l. WroteBehind (object_of (purpose_of s.purpose)) s.count l bytes (written copied) x n) segments_is
        (subst (λ c. WroteBehind (object_of (purpose_of s.purpose)) c segments bytes (written copied) x n) count_is
        (subst (λ o. WroteBehind o count segments bytes (written copied) x n) object_is b)))

    wrote_joined : (o x n : Option History) → Told o x (ReadsAny copies count bytes true) → Told x n (WroteBehind object count segments bytes (written copied)) → Told x n Wrote
    wrote_joined o None None a b = tt
    wrote_joined o None (Some n) a b = absurd b
    wrote_joined o (Some x) None a b = absurd b
    wrote_joined None (Some x) (Some n) a b = absurd a
    wrote_joined (Some o) (Some x) (Some n) a b = (of_seat x n b, λ k. same_bytes o x a k)

    wrote_at : Told (told r.mid) (told store) Wrote
    wrote_at = wrote_joined (told hall.store) (told r.mid) (told store) r.read r.wrote

    wrote_in : (x n : History) → Wrote x n → WroteIn t.place.segments x n
    wrote_in x n w = w.0.wrote

    -- without the ticket
    pub without_it : IsGood (told store) (dropped_at actor number (moment store) (faults store) m) (without_seat number hall.held)
    without_it =
        good_dropped told moment faults clock writes lies actor number middle store running r.rose r.since soon_after (at_middle m) is_middle t among Wrote wrote_in wrote_at

    -- with another one in its place
    with_other : (f : Ticket → Ticket) (like : IsLike f) (filled : IsFilled (f t)) (front : IsFront m.contents (inventory m.core) (f t).purpose (f t).size (f t).bytes)
        (becomes : (x n : History) → Wrote x n → IsKept (at_middle m) hall.held x → HasTaken hall.held.seats x t → HasTaken hall.held.seats n (f t)) (seats : List (ℕ × Seat))
        (less : (n : ℕ) → is_firm_at n seats ≡ true → is_firm_at n hall.held.seats ≡ true) → AreSeatsOf seats (edited actor number f m.core.tickets)
        → Is told moment faults (record { store = store; held = record hall.held { seats = seats } }) (replaced_at actor number f (moment store) (faults store) m)
    with_other f like filled front becomes seats less are =
        replaces told moment faults clock writes lies actor number middle store running r.rose r.since soon_after (at_middle m) is_middle t among Wrote wrote_in wrote_at f like filled front becomes seats less are

    module _ (whole : written copied ≡ Ok tt) (unsealed : t.is_sealed ≡ false) (further : is_storing t.purpose ≡ false) (filled : IsFilled t) where
      -- it is no new object's
      loose : IsFirm hall.held.seats t → ⊥
      loose (inl sealed) = false≢true (sym unsealed ∙ sealed)
      loose (inr (new, firm)) = false≢true (sym further ∙ new)

      has_more : (x n : History) → Wrote x n → HasTaken hall.held.seats x t → HasTaken hall.held.seats n (took bytes t)
      has_more x n w has =
          becomes_more {T = Unit {0}} {E = ℕ} actor number m.core t bytes tt among is.good.space filled hall.held.seats x n loose
          (subst (λ k. WroteBehind (object_of t.purpose) (length t.bytes) t.place.segments bytes k x n) whole w.0) has

      -- it took the bytes
      pub with_more : (seats : List (ℕ × Seat)) → ((n : ℕ) → is_firm_at n seats ≡ true → is_firm_at n hall.held.seats ≡ true) → AreSeatsOf seats (edited actor number (took p) m.core.tickets) → length t.bytes + length p ≤ t.size
          → IsFront m.contents (inventory m.core) t.purpose t.size (t.bytes ++ p)
          → Is told moment faults (record { store = store; held = record hall.held { seats = seats } }) (replaced_at actor number (took p) (moment store) (faults store) m)
      with_more seats less are room front =
          with_other (took p) (took_like p) (filled_more t p unsealed room filled) front (λ x n w k has. subst (λ b. HasTaken hall.held.seats n (took b t)) (w.1 k) (has_more x n w has)) seats less are

      -- they were written in vain
      kept_front : (x n : History) → Wrote x n → HasTaken hall.held.seats x t → HasTaken hall.held.seats n t
      kept_front x n w has = record {
        stands = took_prefix (reads n) (object_of t.purpose) 0 t.place.segments t.bytes bytes (has_more x n w has).stands;
        firm = λ is. absurd (loose is);
      }

      pub with_same : Is told moment faults (record { store = store; held = hall.held }) (record m { moment = moment store; counts = faults store })
      with_same =
          subst (λ ts. Is told moment faults (record { store = store; held = hall.held }) (record m { core = with_tickets ts m.core; moment = moment store; counts = faults store }))
          (edited_same actor number m.core.tickets)
          (with_other (λ u. u) same_like filled (own_has actor number t m.core.tickets among (λ u. IsFront m.contents (inventory m.core) u.purpose u.size u.bytes) is.good.bytes.fronts)
          (λ x n w k has. kept_front x n w has) hall.held.seats (λ n firm. firm) (subst (AreSeatsOf hall.held.seats) (sym (edited_same actor number m.core.tickets)) is.core.tickets))
