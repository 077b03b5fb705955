-- Bytes more in a ticket, and a ticket that is sealed: what holds of each.
use Rattle.std.proofs.Common.{◌≡◌, ℕ, ◌+◌, ◌≤◌, Bool, true, false, cond, List, [], ◌∷◌, ◌++◌, map, length, Some, Result, Ok, refl, sym, ap, subst, ◌∙◌, arith}
use Rattle.std.specs.Prelude.{IfSome}
use Rattle.std.specs.List.{AllByRecursion, sum_by}
use Rattle.std.specs.BTreeMap.{is_at}
use Rattle.std.specs.Ordering.{nat_cmp}
use Rattle.std.proofs.lemmas.Bool.{false≢true}
use Rattle.std.proofs.lemmas.List.{length-append, length-map}
use Rattle.std.proofs.lemmas.List.Sums.{sum_by-cons}
use Rattle.kinds.specs.declared.segment.Segment.{Segment}
use Rattle.store_api.specs.Disk.{History, reads}
use Rattle.volume_frames.specs.Frames.{bytes_len}
use Rattle.contents.specs.Contents.{InImage, TookHave}
use Rattle.contents.proofs.Taking.{took_same, took_sealed}
use Rattle.inventory_laws.proofs.Lists.{each_any}
use Rattle.inventory_rows.specs.State.{Inv}
use Rattle.inventory_rows.specs.pool_tables.Rows.{row_at}
use Rattle.space.specs.declared.places.Placed.{Placed}
use Rattle.machine.specs.State.{Core, Purpose, Ticket, copying, inventory, is_storing, object_of, sealed, storing, took}
use Rattle.hall.specs.declared.seat.Hashed.{Hashed}
use Rattle.hall.specs.declared.seat.Seat.{Seat}
use Rattle.hall.specs.Covered.{IsFilled, SpaceIsClear}
use Rattle.hall.specs.Frames.{SyncedAll, WroteBehind, segments_of}
use Rattle.hall.specs.Good.{HasTaken, IsFirm, IsFront}
use Rattle.hall.specs.Held.{AreSeatsOf, IsHashed, IsSeatOf, purpose_of}
use Rattle.hall.specs.Taken.{HasSpace, MoreHashed, SyncedUnless, WholeHashed}
use Rattle.hall.proofs.Edited.{IsLike, StandsAmong}
use Rattle.hall.proofs.Flagged.{in_pool, own_clear}

-- ---- the two changes

pub took_like : (bytes : List ℕ) → IsLike (took bytes)
took_like bytes = record { number = λ t. refl; actor = λ t. refl; place = λ t. refl; purpose = λ t. refl; claim = λ t. refl }

pub sealed_like : IsLike sealed
sealed_like = record { number = λ t. refl; actor = λ t. refl; place = λ t. refl; purpose = λ t. refl; claim = λ t. refl }

-- ---- segments

pub sums : (segments : List Segment) → bytes_len segments ≡ sum_by (λ (s : Segment). s.len) segments
sums [] = refl
sums (s ∷ segments) = ap (λ n. s.len + n) (sums segments) ∙ sym (sum_by-cons (λ (r : Segment). r.len) s segments)

placed_back : (pool : ℕ) (segments : List Segment) → segments_of (map (λ s. record { pool = pool; segment = s }) segments) ≡ segments
placed_back pool [] = refl
placed_back pool (s ∷ segments) = ap (λ (l : List Segment). s ∷ l) (placed_back pool segments)

pub segments_are : (k : ℕ) (s : Seat) (t : Ticket) → IsSeatOf k s t → segments_of s.places ≡ t.place.segments
segments_are k s t is = ap segments_of (sym is.places) ∙ placed_back t.place.pool t.place.segments

-- a ticket that is held has space
pub has_space : (k : ℕ) (s : Seat) (t : Ticket) → IsSeatOf k s t → IsFilled t → HasSpace s
has_space k s t is f = record {
  within = omega (arith, is.count, is.size, f.within);
  small = omega (arith, is.size, f.small);
  room = ap bytes_len (segments_are k s t is) ∙ sums t.place.segments ∙ f.room ∙ is.size;
  few = (let e : length s.places ≡ length t.place.segments = ap length (sym is.places) ∙ length-map t.place.segments (λ s. let p : Placed = record { pool = t.place.pool; segment = s } in p) in
      omega (arith, e, f.few));
}

pub seats_have_space : (k : ℕ) (seats : List (ℕ × Seat)) (ts : List Ticket) → AreSeatsOf seats ts → AllByRecursion IsFilled ts → IfSome (row_at k seats) HasSpace
seats_have_space k [] ts are filled = tt
seats_have_space k (e ∷ seats) [] are filled = absurd are
seats_have_space k (e ∷ seats) (t ∷ ts) are filled =
    elim (is_at (nat_cmp k) e.0) as (λ b. IfSome (cond b (Some e.1) (row_at k seats)) HasSpace) [
      | true ↦ has_space e.0 e.1 t are.0 filled.0
      | false ↦ seats_have_space k seats ts are.1 filled.1
    ]

-- ---- bytes more

-- what was written for the seat was written for its ticket
pub behind_of : {T E : Type 0} (k : ℕ) (s : Seat) (t : Ticket) (bytes : List ℕ) (result : Result T E) (h new : History) → IsSeatOf k s t
    → WroteBehind (object_of (purpose_of s.purpose)) s.count (segments_of s.places) bytes result h new → WroteBehind (object_of t.purpose) (length t.bytes) t.place.segments bytes result h new
behind_of k s t bytes result h new is w =
    subst (λ l. WroteBehind (object_of t.purpose) (length t.bytes) l bytes result h new) (segments_are k s t is)
    (subst (λ n. WroteBehind (object_of t.purpose) n (segments_of s.places) bytes result h new) (sym is.count)
    (subst (λ p. WroteBehind (object_of p) s.count (segments_of s.places) bytes result h new) (sym is.purpose) w))

pub filled_more : (t : Ticket) (bytes : List ℕ) → t.is_sealed ≡ false → length t.bytes + length bytes ≤ t.size → IsFilled t → IsFilled (took bytes t)
filled_more t bytes unsealed room f = record {
  small = f.small;
  few = f.few;
  within = (let all = length-append t.bytes bytes in omega (arith, all, room));
  whole = λ is. absurd (false≢true (sym unsealed ∙ is));
  room = f.room;
  some = f.some;
}

pub becomes_more : {T E : Type 0} (actor number : ℕ) (c : Core) (t : Ticket) (bytes : List ℕ) (done : T) → StandsAmong actor number t c.tickets → SpaceIsClear c → IsFilled t → (seats : List (ℕ × Seat)) → (h new : History)
    → (IsFirm seats t → ⊥) → (let result : Result T E = Ok done in WroteBehind (object_of t.purpose) (length t.bytes) t.place.segments bytes result h new) → HasTaken seats h t → HasTaken seats new (took bytes t)
becomes_more actor number c t bytes done among space f seats h new loose w taken = record {
  stands = w.took (in_pool t.place.pool t.place.segments (inventory c)) t.bytes (own_clear actor number c t among space) f.some refl taken.stands;
  firm = λ is. absurd (loose is);
}

pub seat_more : (k : ℕ) (s : Seat) (t : Ticket) (bytes : List ℕ) (after : Hashed) → s.is_sealed ≡ false → MoreHashed bytes s.hashed after → IsSeatOf k s t
    → IsSeatOf k (record s { count = s.count + length bytes; hashed = after }) (took bytes t)
seat_more k s t bytes after unsealed more is = record {
  number = is.number;
  actor = is.actor;
  purpose = is.purpose;
  size = is.size;
  pool = is.pool;
  places = is.places;
  count = (let all = length-append t.bytes bytes in omega (arith, all, is.count));
  is_sealed = is.is_sealed;
  hashed = subst (λ b. IsHashed s.purpose b after (t.bytes ++ bytes)) (sym unsealed) (more s.purpose t.bytes (subst (λ b. IsHashed s.purpose b s.hashed t.bytes) unsealed is.hashed));
}

-- of a new object nothing is said by its front
pub front_new : (contents : ℕ → List ℕ) (v : Inv) (p : Purpose) (size : ℕ) (bytes : List ℕ) → is_storing p ≡ true → IsFront contents v p size bytes
front_new contents v (storing object) size bytes new = tt
front_new contents v (copying object aim) size bytes new = absurd (false≢true new)

-- ---- sealed

pub synced_of : {T E : Type 0} (b : Bool) (k : ℕ) (s : Seat) (t : Ticket) (result : Result T E) (h new : History) → IsSeatOf k s t → SyncedUnless b (segments_of s.places) result h new
    → SyncedUnless b t.place.segments result h new
synced_of b k s t result h new is w = subst (λ l. SyncedUnless b l result h new) (segments_are k s t is) w

pub filled_sealed : (t : Ticket) → length t.bytes ≡ t.size → IsFilled t → IsFilled (sealed t)
filled_sealed t whole f = record { small = f.small; few = f.few; within = f.within; whole = λ is. whole; room = f.room; some = f.some }

pub becomes_sealed : {T E : Type 0} (t : Ticket) (done : T) (seats : List (ℕ × Seat)) → length t.bytes ≡ t.size → IsFilled t → (h new : History)
    → (let result : Result T E = Ok done in SyncedAll t.place.segments result h new) → HasTaken seats h t → HasTaken seats new (sealed t)
becomes_sealed t done seats whole f h new w taken =
    let segments : List Segment = t.place.segments in
    let stands : TookHave (InImage (reads new)) (object_of t.purpose) 0 segments t.bytes =
    took_same h new (object_of t.purpose) 0 segments t.bytes (each_any (λ (s : Segment). reads new s.file ≡ reads h s.file) segments (λ s. w.same s.file)) taken.stands in
    record {
      stands = stands;
      firm = λ is. took_sealed new (object_of t.purpose) 0 segments t.bytes f.some (whole ∙ sym f.room ∙ sym (sums segments)) w.firm stands;
    }

pub seat_sealed : (k : ℕ) (s : Seat) (t : Ticket) (after : Hashed) → WholeHashed s.is_sealed s.hashed after → IsSeatOf k s t
    → IsSeatOf k (record s { hashed = after; is_sealed = true }) (sealed t)
seat_sealed k s t after whole is = record {
  number = is.number;
  actor = is.actor;
  purpose = is.purpose;
  size = is.size;
  pool = is.pool;
  places = is.places;
  count = is.count;
  is_sealed = refl;
  hashed = whole s.purpose t.bytes is.hashed;
}
