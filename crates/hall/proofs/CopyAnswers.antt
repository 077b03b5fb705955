-- What is answered of a piece that is copied, and what it leaves.
use Rattle.std.proofs.Common.{◌≡◌, ℕ, ◌≤◌, Bool, true, false, not, List, [], ◌∷◌, ◌++◌, Option, Some, None, Result, Ok, Err, refl, sym, ap, subst, ◌∙◌, if◌then◌else◌, arith}
use Rattle.std.specs.List.{AllByRecursion}
use Rattle.kinds.specs.Refusals.{foremost, place_of, unless}
use Rattle.kinds.specs.declared.refusal.Refusal.{Refusal}
use Rattle.kinds.specs.declared.refusal.Refusal.TheVariants as refusal
use Rattle.kinds.specs.declared.segment.Segment.{Segment}
use Rattle.store_api.specs.Disk.{History}
use Rattle.store_api.specs.Runs.{GoesOn}
use Rattle.store_api.specs.Told.{Told}
use Rattle.store_api.proofs.Runs.{goes_then, goes_weaker, told_map, told_then}
use Rattle.inventory_rows.specs.Search.{version}
use Rattle.inventory_rows.specs.pool_tables.Rows.{row_at}
use Rattle.inventory_rows.specs.version_groups.declared.copies.CopyRow.{CopyRow}
use Rattle.inventory_rows.specs.version_groups.declared.versions.Version.{Version}
use Rattle.inventory_rules.specs.Journal.{Journal}
use Rattle.inventory_rules.specs.Run.{journal_of}
use Rattle.inventory_rules.specs.Versions.{gone_or_unknown, of_version}
use Rattle.steps.specs.Events.{is_listed}
use Rattle.steps.specs.Events.Deed.{CopyPiece}
use Rattle.machine.specs.Causes.{object_gone, ticket_in_use}
use Rattle.machine.specs.State.{Machine, is_storing, object_of}
use Rattle.machine.proofs.Elsewhere.{append-all, foremost-all, unless-all}
use Rattle.hall.specs.declared.copying.Copied.{Copied}
use Rattle.hall.specs.declared.copying.Copied.TheVariants.{Unread, Lost, Written, Failed}
use Rattle.hall.specs.declared.seat.Seat.{Seat}
use Rattle.hall.specs.Copying.{BecomesCopied, Copies, CopiesFor, CopiesInto, ReadAndWrote, copy_refused, copying_refused_at, written}
use Rattle.hall.specs.Frames.{WroteBehind, segments_of}
use Rattle.hall.specs.Good.{Is}
use Rattle.hall.specs.Held.{Hall, Held, purpose_of}
use Rattle.hall.specs.Reading.{ReadsAny, seen_by_all}
use Rattle.hall.specs.Seats.{ended_at, own_seat}
use Rattle.hall.specs.Taken.{of_seat}
use Rattle.hall.proofs.Behind.{segments_are}
use Rattle.hall.proofs.CopySteps.{copies_now}
use Rattle.hall.proofs.Ended.{ended_all, ended_first, next_answers, none_halted, said_at}
use Rattle.hall.proofs.TicketSteps.{ticket_is}
use Rattle.hall.proofs.Within.{files_of, goes_in}

-- ---- its refusals

module _ (P : Refusal → Type 0) (none : P refusal.NotFound) (used : (number : ℕ) → P (ticket_in_use number)) (gone : (n : ℕ) → P (refusal.Gone n)) where
  each_gone : (o : Option ℕ) → P (gone_or_unknown o)
  each_gone None = none
  each_gone (Some n) = gone n

  each_of : (j : Journal) (object : ℕ) (o : Option Version) → AllByRecursion P (of_version j object (λ w. []) o)
  each_of j object None = (each_gone (j.removed object), tt)
  each_of j object (Some w) = tt

  each_if : (b : Bool) (number : ℕ) (rest : List Refusal) → AllByRecursion P rest → AllByRecursion P (if b then ticket_in_use number ∷ [] else rest)
  each_if true number rest all = (used number, tt)
  each_if false number rest all = all

  each_seat : (number : ℕ) (h : Held) (o : Option Seat) → AllByRecursion P (of_seat (copy_refused number h) o)
  each_seat number h None = (none, tt)
  each_seat number h (Some s) =
      let object : ℕ = object_of (purpose_of s.purpose) in
      each_if (is_storing (purpose_of s.purpose)) number (unless (not s.is_sealed) (ticket_in_use number) ++ object_gone object (seen_by_all h))
      (append-all P (unless (not s.is_sealed) (ticket_in_use number)) (object_gone object (seen_by_all h)) (unless-all P (not s.is_sealed) (ticket_in_use number) (used number))
      (each_of (journal_of h.base h.vault.journal) object (version object h.vault.database)))

  each_copying : (actor number : ℕ) (h : Held) → AllByRecursion P (copying_refused_at actor number h)
  each_copying actor number h = each_seat number h (own_seat actor number h)

-- as the hall's parts say them, one after the other
pub ended_copying : (at moment actor number : ℕ) (h : Held) (r : Option Refusal) (e : Refusal) → at ≡ moment → r ≡ foremost (ended_at at h) → r ≡ Some e
    → foremost (ended_at moment h ++ copying_refused_at actor number h) ≡ Some e
ended_copying at moment actor number h r e same is answer =
    ended_first moment h (copying_refused_at actor number h) e (said_at at moment h r (Some e) same is answer)
    (each_copying (λ y. 1 ≤ place_of y) (omega arith) (λ n. omega arith) (λ n. omega arith) actor number h)

pub then_copying : (at moment actor number : ℕ) (h : Held) (r q o : Option Refusal) → at ≡ moment → r ≡ foremost (ended_at at h) → r ≡ None → q ≡ foremost (copying_refused_at actor number h) → q ≡ o
    → foremost (ended_at moment h ++ copying_refused_at actor number h) ≡ o
then_copying at moment actor number h r q o same is answer said so =
    next_answers (ended_at moment h) (copying_refused_at actor number h) (said_at at moment h r None same is answer) ∙ sym said ∙ so

pub copying_runs : (at : ℕ) (h : Held) (r : Option Refusal) → r ≡ foremost (ended_at at h) → r ≡ None → h.vault.fault ≡ None
copying_runs at h r is answer = none_halted at h (sym is ∙ answer)

pub copying_listed : (moment actor number : ℕ) (h : Held) (e : Refusal) → foremost (ended_at moment h ++ copying_refused_at actor number h) ≡ Some e → is_listed (CopyPiece number (Err e)) ≡ true
unfolding is_listed
copying_listed moment actor number h e is =
    foremost-all (λ y. is_listed (CopyPiece number (Err y)) ≡ true) (ended_at moment h ++ copying_refused_at actor number h)
    (append-all (λ y. is_listed (CopyPiece number (Err y)) ≡ true) (ended_at moment h) (copying_refused_at actor number h)
    (ended_all (λ y. is_listed (CopyPiece number (Err y)) ≡ true) refl (λ file count. refl) moment h)
    (each_copying (λ y. is_listed (CopyPiece number (Err y)) ≡ true) refl (λ n. refl) (λ n. refl) actor number h)) e is

-- ---- what came of a piece

became_listed : (number : ℕ) (bytes : List ℕ) (copied : Copied) (result : Result ℕ Refusal) (old new : Held) → BecomesCopied number bytes copied result old new → is_listed (CopyPiece number result) ≡ true
unfolding is_listed
became_listed number bytes copied (Ok count) old new b = refl
became_listed number bytes Unread (Err e) old new b = ap (λ x. is_listed (CopyPiece number (Err x))) b.0
became_listed number bytes Lost (Err e) old new b = ap (λ x. is_listed (CopyPiece number (Err x))) b.0
became_listed number bytes Written (Err e) old new b = absurd b
became_listed number bytes (Failed file) (Err e) old new b = ap (λ x. is_listed (CopyPiece number (Err x))) b.0

became_stays : (number : ℕ) (bytes : List ℕ) (copied : Copied) (result : Result ℕ Refusal) (old new : Held) → BecomesCopied number bytes copied result old new
    → (new.base ≡ old.base) × (new.opened ≡ old.opened)
became_stays number bytes Unread (Ok count) old new b = absurd b
became_stays number bytes Unread (Err e) old new b = (ap (λ (h : Held). h.base) b.1, ap (λ (h : Held). h.opened) b.1)
became_stays number bytes Lost (Ok count) old new b = absurd b
became_stays number bytes Lost (Err e) old new b = (ap (λ (h : Held). h.base) b.1, ap (λ (h : Held). h.opened) b.1)
became_stays number bytes Written (Ok count) old new b = (ap (λ (h : Held). h.base) b.1, ap (λ (h : Held). h.opened) b.1)
became_stays number bytes Written (Err e) old new b = absurd b
became_stays number bytes (Failed file) (Ok count) old new b = absurd b
became_stays number bytes (Failed file) (Err e) old new b = (ap (λ (h : Held). h.base) b.1, ap (λ (h : Held). h.opened) b.1)

module _ {S : Type 0} (told : S → Option History) (moment : S → ℕ) (faults : S → ℕ → ℕ) (number : ℕ) (result : Result ℕ Refusal) (old new : S) (held next : Held) where
  pub copied_listed : (found : Option Seat) → CopiesFor told moment faults number found result old new held next → is_listed (CopyPiece number result) ≡ true
  copied_listed None did = absurd did
  copied_listed (Some s) did = became_listed number did.bytes did.copied result held next did.becomes

  pub copied_stays : (found : Option Seat) → CopiesFor told moment faults number found result old new held next → (next.base ≡ held.base) × (next.opened ≡ held.opened)
  copied_stays None did = absurd did
  copied_stays (Some s) did = became_stays number did.bytes did.copied result held next did.becomes

-- ---- its calls

looked_goes : (o n : Option History) → Told o n (GoesOn (λ file. ⊥)) → Told o n (GoesOn (λ file. 4 ≤ file))
looked_goes o n looked = told_map o n (GoesOn (λ file. ⊥)) (GoesOn (λ file. 4 ≤ file)) (λ h k goes. goes_weaker (λ file. ⊥) (λ file. 4 ≤ file) h k (λ file none. absurd none) goes) looked

module _ {S : Type 0} (told : S → Option History) (moment : S → ℕ) (faults : S → ℕ → ℕ) (copies : List CopyRow) (object count : ℕ) (segments : List Segment)
    (files : AllByRecursion (λ (s : Segment). 4 ≤ s.file) segments) (bytes : List ℕ) (old new : S) where
  wrote_goes : (copied : Copied) → ReadAndWrote told moment faults copies object count segments bytes copied old new → Told (told old) (told new) (GoesOn (λ file. 4 ≤ file))
  wrote_goes copied r =
      told_then (told old) (told r.mid) (told new) (GoesOn (λ file. 4 ≤ file)) (GoesOn (λ file. 4 ≤ file)) (GoesOn (λ file. 4 ≤ file))
      (λ h m n one two. goes_then (λ file. 4 ≤ file) h m n one two)
      (looked_goes (told old) (told r.mid) (told_map (told old) (told r.mid) (ReadsAny copies count bytes true) (GoesOn (λ file. ⊥)) (λ h n a. a.goes) r.read))
      (told_map (told r.mid) (told new) (WroteBehind object count segments bytes (written copied)) (GoesOn (λ file. 4 ≤ file)) (λ h n w. goes_in segments h n files w.wrote) r.wrote)

  copies_goes : (copied : Copied) → Copies told moment faults copies object count segments bytes copied old new → Told (told old) (told new) (GoesOn (λ file. 4 ≤ file))
  copies_goes Unread c = looked_goes (told old) (told new) c
  copies_goes Lost c = wrote_goes Lost c
  copies_goes Written c = wrote_goes Written c
  copies_goes (Failed file) c = wrote_goes (Failed file) c

-- only volumes' files change
pub copied_files : {S : Type 0} (told : S → Option History) (moment : S → ℕ) (faults : S → ℕ → ℕ) (actor number : ℕ) (hall : Hall S) (free : foremost (ended_at (moment hall.store) hall.held ++ copying_refused_at actor number hall.held) ≡ None)
    → ((m : Machine) × Is told moment faults hall m) → (result : Result ℕ Refusal) (store : S) (next : Held)
    → CopiesFor told moment faults number (row_at number hall.held.seats) result hall.store store hall.held next → Told (told hall.store) (told store) (GoesOn (λ file. 4 ≤ file))
copied_files told moment faults actor number hall free good result store next did =
    let known = copies_now actor number (moment hall.store) hall.held free in
    let s : Seat = known.seat in
    let m : Machine = good.0 in
    let it = ticket_is actor number hall.held m good.1.core good.1.good.numbers.tickets s known.mine in
    let files : AllByRecursion (λ (x : Segment). 4 ≤ x.file) (segments_of s.places) =
    subst (AllByRecursion (λ (x : Segment). 4 ≤ x.file)) (sym (segments_are number s it.0 it.2)) (files_of actor number it.0 m.core it.3 good.1.good.numbers) in
    let c : CopiesInto told moment faults number s result hall.store store hall.held next = subst (λ o. CopiesFor told moment faults number o result hall.store store hall.held next) known.there did in
    copies_goes told moment faults _ (object_of (purpose_of s.purpose)) s.count (segments_of s.places) files c.bytes hall.store store c.copied c.calls
