-- Tickets behind a sync: a ticket that is firm takes no more, one that is sealed is so, and others that lie on a file that was synced.
use Rattle.std.proofs.Common.{◌≡◌, ◌⊎◌, inl, inr, ℕ, ◌<◌, Bool, true, false, ◌&&◌, ◌||◌, List, [], ◌∷◌, length, Option, Some, None, Result, Ok, refl, sym, ap, subst, ◌∙◌, if◌then◌else◌, arith}
use Rattle.std.specs.Prelude.{◌==◌, IfSome}
use Rattle.std.specs.List.{AllByRecursion, list_all}
use Rattle.std.proofs.lemmas.Bool.{and_parts, eqb-true, false≢true, ne_eqb}
use Rattle.kinds.specs.declared.segment.Segment.{Segment}
use Rattle.store_api.specs.Disk.{History}
use Rattle.contents.specs.Contents.{FramesHave, InStore}
use Rattle.contents.proofs.Parts.{frames_long}
use Rattle.contents.proofs.Taking.{took_sealed}
use Rattle.inventory_laws.proofs.Lists.{each_both}
use Rattle.inventory_rows.specs.pool_tables.Rows.{row_at}
use Rattle.inventory_rows.specs.version_groups.Entries.{all_later}
use Rattle.space.specs.declared.places.Placed.{Placed}
use Rattle.machine.specs.State.{Ticket, is_storing, object_of, sealed}
use Rattle.hall.specs.declared.seat.Seat.{Seat}
use Rattle.hall.specs.Covered.{IsFilled, is_later}
use Rattle.hall.specs.Frames.{IsSettled, SyncedAll, WroteIn, segments_of}
use Rattle.hall.specs.Good.{HasTaken, IsFirm, is_firm_at}
use Rattle.hall.specs.Held.{AreSeatsOf, Held, IsSeatOf}
use Rattle.hall.specs.Taken.{SealedAt, SealedOne, SyncedUnless, firm_on, first_file, lies_on, synced_file}
use Rattle.hall.proofs.Behind.{becomes_sealed, segments_are, sums}
use Rattle.hall.proofs.Edited.{some_is}
use Rattle.hall.proofs.FirmSeats.{or_later}
use Rattle.hall.proofs.Tickets.{AreBehind, behind}

-- ---- all was taken

pub takes_no_more : (seats : List (ℕ × Seat)) (h : History) (t : Ticket) → IsFilled t → length t.bytes < t.size → HasTaken seats h t → IsFirm seats t → ⊥
takes_no_more seats h t f room has firm =
    let long = frames_long (InStore h) (object_of t.purpose) 0 t.place.segments t.bytes (has.firm firm) in
    let sum = sums t.place.segments in
    let whole = f.room in
    omega (arith, long, sum, whole, room)

-- ---- a ticket is sealed

pub wrote_unless : {T E : Type 0} (b : Bool) (t : Ticket) (result : Result T E) (h new : History) → SyncedUnless b t.place.segments result h new → WroteIn t.place.segments h new
wrote_unless true t result h new w = (0, w)
wrote_unless false t result h new w = w.wrote

pub becomes_settled : {T : Type 0} (E : Type 0) (b : Bool) (seats : List (ℕ × Seat)) (t : Ticket) (done : T) → length t.bytes ≡ t.size → IsFilled t → (b ≡ true → IsFirm seats t) → (h new : History)
    → (let result : Result T E = Ok done in SyncedUnless b t.place.segments result h new) → HasTaken seats h t → HasTaken seats new (sealed t)
becomes_settled E true seats t done whole f firm h new w taken = subst (λ n. HasTaken seats n (sealed t)) (sym w) (record { stands = taken.stands; firm = λ is. taken.firm (firm refl) })
becomes_settled E false seats t done whole f firm h new w taken = becomes_sealed {E = E} t done seats whole f h new w taken

-- as the call itself says it
pub synced_not : {T E : Type 0} (b : Bool) (segments : List Segment) (result : Result T E) (h : History) → b ≡ true → SyncedUnless b segments result h h
synced_not true segments result h is = refl
synced_not false segments result h is = absurd (false≢true is)

pub synced_so : {T E : Type 0} (b : Bool) (segments : List Segment) (result : Result T E) (h new : History) → b ≡ false → SyncedAll segments result h new → SyncedUnless b segments result h new
synced_so true segments result h new isnt w = absurd (false≢true (sym isnt))
synced_so false segments result h new isnt w = w

-- the first of its files is settled then
pub first_settled : {T : Type 0} (E : Type 0) (b : Bool) (places : List Placed) (done : T) (h new : History)
    → (let result : Result T E = Ok done in SyncedUnless b (segments_of places) result h new) → IfSome (if b then None else first_file places) (IsSettled new)
first_settled E true places done h new w = tt
first_settled E false [] done h new w = tt
first_settled E false (p ∷ places) done h new w = w.firm.0

-- what is held then
pub sealed_one : (number : ℕ) (old held : Held) (s : Seat) (seats next : List (ℕ × Seat)) (file : Option ℕ) → held ≡ old → row_at number held.seats ≡ Some s → SealedAt number held.seats seats
    → file ≡ synced_file s → next ≡ firm_on file seats → SealedOne number old (record held { seats = next })
sealed_one number old held s seats next file same there at is becomes =
    subst (λ (h : Held). SealedOne number h (record held { seats = next })) same
    (seats, at, ap (λ (l : List (ℕ × Seat)). record held { seats = l }) (becomes ∙ ap (λ (f : Option ℕ). firm_on f seats) (is ∙ ap synced_file (some_is s at.0 (sym there ∙ at.2)))))

-- ---- behind a sync of a file

pub seats_firm : (o : Option ℕ) (seats : List (ℕ × Seat)) (ts : List Ticket) → AreSeatsOf seats ts → AreSeatsOf (firm_on o seats) ts
seats_firm None seats ts are = are
seats_firm (Some file) [] [] are = tt
seats_firm (Some file) [] (t ∷ ts) are = absurd are
seats_firm (Some file) (e ∷ seats) [] are = absurd are
seats_firm (Some file) (e ∷ seats) (t ∷ ts) are = (
  record {
    number = are.0.number;
    actor = are.0.actor;
    purpose = are.0.purpose;
    size = are.0.size;
    pool = are.0.pool;
    places = are.0.places;
    count = are.0.count;
    is_sealed = are.0.is_sealed;
    hashed = are.0.hashed;
  },
  seats_firm (Some file) seats ts are.1,
)

none_behind : (n : ℕ) (seats : List (ℕ × Seat)) (ts : List Ticket) → AreSeatsOf seats ts → AreBehind n ts → is_firm_at n seats ≡ false
none_behind n [] ts are after = refl
none_behind n (e ∷ seats) [] are after = absurd are
none_behind n (e ∷ seats) (t ∷ ts) are after =
    ap (λ b. b && e.1.is_firm || is_firm_at n seats) (ne_eqb e.0 n (λ (same : e.0 ≡ n). omega (arith, same, are.0.number, after.0))) ∙ none_behind n seats ts are.1 after.1

-- it was firm before, or lies on the file with all that it is for
abbrev WasFirm : ℕ → List (ℕ × Seat) → Ticket → Type 0
WasFirm file seats t = (is_firm_at t.number seats ≡ true) ⊎ ((s : Seat) × IsSeatOf t.number s t × (lies_on file s ≡ true))

of_one : (a f l rest : Bool) → rest ≡ false → (a && (f || l) || rest) ≡ true → ((a ≡ true) × (f ≡ true)) ⊎ (l ≡ true)
of_one true true l rest none h = inl (refl, refl)
of_one true false true rest none h = inr refl
of_one true false false rest none h = absurd (false≢true (sym none ∙ h))
of_one false f l rest none h = absurd (false≢true (sym none ∙ h))

module _ (file : ℕ) where
  first_was : (e : ℕ × Seat) (seats : List (ℕ × Seat)) (t : Ticket) (ts : List Ticket) → IsSeatOf e.0 e.1 t → AreSeatsOf seats ts → AreBehind t.number ts
      → is_firm_at t.number (firm_on (Some file) (e ∷ seats)) ≡ true → WasFirm file (e ∷ seats) t
  first_was e seats t ts seat are after firm =
      by (of_one (e.0 == t.number) e.1.is_firm (lies_on file e.1) (is_firm_at t.number (firm_on (Some file) seats))
      (none_behind t.number (firm_on (Some file) seats) ts (seats_firm (Some file) seats ts are) after) firm)
    where
      by : (((e.0 == t.number) ≡ true) × (e.1.is_firm ≡ true)) ⊎ (lies_on file e.1 ≡ true) → WasFirm file (e ∷ seats) t
      by (inl (at, was)) = inl (ap (λ b. b && e.1.is_firm || is_firm_at t.number seats) at ∙ ap (λ b. b || is_firm_at t.number seats) was)
      by (inr lies) = inr (e.1, subst (λ n. IsSeatOf n e.1 t) (sym seat.number) seat, lies)

  further_was : (e : ℕ × Seat) (seats : List (ℕ × Seat)) (u : Ticket) → (e.0 ≡ u.number → ⊥) → (is_firm_at u.number (firm_on (Some file) seats) ≡ true → WasFirm file seats u)
      → is_firm_at u.number (firm_on (Some file) (e ∷ seats)) ≡ true → WasFirm file (e ∷ seats) u
  further_was e seats u other rest firm =
      by (rest (sym (ap (λ b. b && (e.1.is_firm || lies_on file e.1) || is_firm_at u.number (firm_on (Some file) seats)) (ne_eqb e.0 u.number other)) ∙ firm))
    where
      by : WasFirm file seats u → WasFirm file (e ∷ seats) u
      by (inl was) = inl (or_later (e.0 == u.number && e.1.is_firm) (is_firm_at u.number seats) was)
      by (inr s) = inr s

  all_were : (seats : List (ℕ × Seat)) (ts : List Ticket) → AreSeatsOf seats ts → all_later is_later ts ≡ true
      → AllByRecursion (λ t. is_firm_at t.number (firm_on (Some file) seats) ≡ true → WasFirm file seats t) ts
  all_were [] [] are rises = tt
  all_were [] (t ∷ ts) are rises = absurd are
  all_were (e ∷ seats) [] are rises = absurd are
  all_were (e ∷ seats) (t ∷ ts) are rises =
      let parts = and_parts (list_all (is_later t) ts) (all_later is_later ts) rises in
      let after : AreBehind t.number ts = behind t.number t ts refl parts.0 in (
        first_was e seats t ts are.0 are.1 after,
        each_both (λ u. t.number < u.number) (λ u. is_firm_at u.number (firm_on (Some file) seats) ≡ true → WasFirm file seats u)
            (λ u. is_firm_at u.number (firm_on (Some file) (e ∷ seats)) ≡ true → WasFirm file (e ∷ seats) u) ts
            (λ u lt rest. further_was e seats u (λ (same : e.0 ≡ u.number). omega (arith, same, are.0.number, lt)) rest) after (all_were seats ts are.1 parts.1),
      )

  module _ (h : History) (settled : IsSettled h file) where
    all_settled : (places : List Placed) → list_all (λ p. p.segment.file == file) places ≡ true → AllByRecursion (λ s. IsSettled h s.file) (segments_of places)
    all_settled [] lie = tt
    all_settled (p ∷ places) lie =
        let parts = and_parts (p.segment.file == file) (list_all (λ (q : Placed). q.segment.file == file) places) lie in
        (subst (IsSettled h) (sym (eqb-true p.segment.file file parts.0)) settled, all_settled places parts.1)

    lying_has : (seats : List (ℕ × Seat)) (t : Ticket) → IsFilled t → (is_firm_at t.number (firm_on (Some file) seats) ≡ true → WasFirm file seats t) → HasTaken seats h t
        → HasTaken (firm_on (Some file) seats) h t
    lying_has seats t f was has = record { stands = has.stands; firm = λ is. now is }
      where
        by : is_storing t.purpose ≡ true → WasFirm file seats t → FramesHave (InStore h) (object_of t.purpose) 0 t.place.segments t.bytes
        by new (inl firm) = has.firm (inr (new, firm))
        by new (inr (s, of, lies)) =
            let parts = and_parts (s.count == s.size) (list_all (λ (p : Placed). p.segment.file == file) s.places) lies in
            let full : length t.bytes ≡ t.size = of.count ∙ eqb-true s.count s.size parts.0 ∙ sym of.size in
            took_sealed h (object_of t.purpose) 0 t.place.segments t.bytes f.some (full ∙ sym f.room ∙ sym (sums t.place.segments))
            (subst (AllByRecursion (λ r. IsSettled h r.file)) (segments_are t.number s t of) (all_settled s.places parts.1)) has.stands

        now : IsFirm (firm_on (Some file) seats) t → FramesHave (InStore h) (object_of t.purpose) 0 t.place.segments t.bytes
        now (inl sealed) = has.firm (inl sealed)
        now (inr (new, firm)) = by new (was firm)

pub all_firm_on : (o : Option ℕ) (h : History) (seats : List (ℕ × Seat)) (ts : List Ticket) → AreSeatsOf seats ts → all_later is_later ts ≡ true → AllByRecursion IsFilled ts → IfSome o (IsSettled h)
    → AllByRecursion (HasTaken seats h) ts → AllByRecursion (HasTaken (firm_on o seats) h) ts
all_firm_on None h seats ts are rises filled settled all = all
all_firm_on (Some file) h seats ts are rises filled settled all =
    each_both IsFilled (λ t. HasTaken seats h t × (is_firm_at t.number (firm_on (Some file) seats) ≡ true → WasFirm file seats t)) (HasTaken (firm_on (Some file) seats) h) ts
    (λ t f both. lying_has file h settled seats t f both.1 both.0) filled
    (each_both (HasTaken seats h) (λ t. is_firm_at t.number (firm_on (Some file) seats) ≡ true → WasFirm file seats t)
    (λ t. HasTaken seats h t × (is_firm_at t.number (firm_on (Some file) seats) ≡ true → WasFirm file seats t)) ts (λ t has was. (has, was)) all (all_were file seats ts are rises))
