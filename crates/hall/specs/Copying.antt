-- How a piece of an object is copied into a ticket: read from the first of its copies that can be read, and written behind what the ticket took.
use Rattle.std.specs.Prelude.{◌≡◌, ℕ, ◌*◌, ◌≤◌, ◌++◌, not, List, [], ◌∷◌, length, Option, None, Some, Result, Ok, Err, if◌then◌else◌, Bool, true}
use Rattle.store_api.specs.Cause.{NoneFell, Rose}
use Rattle.store_api.specs.Disk.{History}
use Rattle.store_api.specs.Runs.{GoesOn}
use Rattle.store_api.specs.Told.{Told}
use Rattle.kinds.specs.Refusals.{unless}
use Rattle.kinds.specs.declared.refusal.Refusal.{Refusal}
use Rattle.kinds.specs.declared.refusal.Refusal.TheVariants as refusal
use Rattle.kinds.specs.declared.segment.Segment.{Segment}
use Rattle.inventory_rows.specs.Search.{version}
use Rattle.inventory_rows.specs.State.{Inv}
use Rattle.inventory_rows.specs.version_groups.declared.copies.CopyRow.{CopyRow}
use Rattle.inventory_rows.specs.version_groups.declared.versions.Version.{Version}
use Rattle.inventory_rules.specs.Versions.{copies_of}
use Rattle.contents.specs.Reading.{lies_in_file}
use Rattle.machine.specs.Causes.{most_bytes, object_gone, ticket_in_use}
use Rattle.machine.specs.Pieces.{RoseAt, piece_length}
use Rattle.machine.specs.State.{is_storing, object_of}
use Rattle.hall.specs.declared.copying.Copied.{Copied}
use Rattle.hall.specs.declared.copying.Copied.TheVariants.{Unread, Lost, Written, Failed}
use Rattle.hall.specs.declared.seat.Seat.{Seat}
use Rattle.hall.specs.Frames.{WroteBehind, segments_of}
use Rattle.hall.specs.Held.{Held, purpose_of}
use Rattle.hall.specs.Reading.{AreLost, ReadsAny, seen_by_all}
use Rattle.hall.specs.Seats.{own_seat, without_seat}
use Rattle.hall.specs.Taken.{HasSpace, TookMore, of_seat}

-- ---- refusals

-- what refuses to copy a piece into a ticket
abbrev pub copy_refused : (number : ℕ) → Held → Seat → List Refusal
copy_refused number h s =
    if is_storing (purpose_of s.purpose) then ticket_in_use number ∷ []
    else unless (not s.is_sealed) (ticket_in_use number) ++ object_gone (object_of (purpose_of s.purpose)) (seen_by_all h)

abbrev pub copying_refused_at : (actor number : ℕ) → Held → List Refusal
copying_refused_at actor number h = of_seat (copy_refused number h) (own_seat actor number h)

-- ---- what came of a piece

-- what came of writing it, where it was read
abbrev pub written : Copied → Result (Unit {0}) ℕ
written (Failed file) = Err file
written _ = Ok tt

-- what was written is copied where one copy is clear
abbrev pub or_clear : Copied → (clear : Bool) → Copied
or_clear Lost true = Written
or_clear copied clear = copied

-- how many calls writing so many bytes makes at most
abbrev pub writing : Copied → (count : ℕ) → ℕ
writing Unread count = 0
writing _ count = 2 * count

-- Writing failed: a call on a file of these segments did.
abbrev pub IsFailed : List Segment → (before after : ℕ → ℕ) → (file : ℕ) → Type 0
IsFailed segments before after file = (lies_in_file segments file ≡ true) × Rose (before file) (after file)

-- How one copy was tried: it is lost where it wasn't read.
abbrev pub EndsOne : (lost : Type 0) → List Segment → (before after : ℕ → ℕ) → Copied → Type 0
EndsOne lost segments before after Unread = lost
EndsOne lost segments before after Lost = Unit {0}
EndsOne lost segments before after Written = ⊥
EndsOne lost segments before after (Failed file) = IsFailed segments before after file

-- How all were: each is lost, or one isn't, or writing failed.
abbrev pub EndsCopied : (lost : Type 0) → List Segment → (before after : ℕ → ℕ) → Copied → Type 0
EndsCopied lost segments before after Unread = lost
EndsCopied lost segments before after Lost = lost
EndsCopied lost segments before after Written = ¬ lost
EndsCopied lost segments before after (Failed file) = IsFailed segments before after file

-- A piece was read from one of these copies, which changed nothing, and then written into these segments behind as many bytes of the object.
pub record ReadAndWrote {S : Type 0} (told : S → Option History) (moment : S → ℕ) (faults : S → ℕ → ℕ) (copies : List CopyRow) (object offset : ℕ) (segments : List Segment) (buffer : List ℕ)
    (copied : Copied) (old new : S) : Type 0 where
  pub mid : S
  pub read : Told (told old) (told mid) (ReadsAny copies offset buffer true)
  pub wrote : Told (told mid) (told new) (WroteBehind object offset segments buffer (written copied))
  pub before : moment old ≤ moment mid
  pub since : moment mid ≤ moment new
  pub grew : NoneFell (faults old) (faults mid)
  pub rose : NoneFell (faults mid) (faults new)

-- so it was, or no copy was read and nothing changed
abbrev pub Copies : {S : Type 0} → (told : S → Option History) → (moment : S → ℕ) → (faults : S → ℕ → ℕ) → List CopyRow → (object offset : ℕ) → List Segment → (buffer : List ℕ) → Copied → S → S → Type 0
Copies told moment faults copies object offset segments buffer Unread old new = Told (told old) (told new) (GoesOn (λ file. ⊥))
Copies told moment faults copies object offset segments buffer copied old new = ReadAndWrote told moment faults copies object offset segments buffer copied old new

-- ---- a ticket

-- it is for a copy of an object that is kept, as long as that, and has space
pub record IsCopyOf (v : Inv) (s : Seat) : Type 0 where
  pub kept : Version
  pub found : version (object_of (purpose_of s.purpose)) v ≡ Some kept
  pub size : s.size ≡ kept.size
  pub space : HasSpace s

-- what is answered, and what becomes of what is held
abbrev pub BecomesCopied : (number : ℕ) → (bytes : List ℕ) → Copied → Result ℕ Refusal → Held → Held → Type 0
BecomesCopied number bytes Written (Ok count) old new = TookMore number bytes count old new
BecomesCopied number bytes Unread (Err e) old new = (e ≡ refusal.Unavailable) × (new ≡ old)
BecomesCopied number bytes Lost (Err e) old new = (e ≡ refusal.Unavailable) × (new ≡ old)
BecomesCopied number bytes (Failed file) (Err e) old new = (e ≡ refusal.WriteFault file) × (new ≡ without_seat number old)
BecomesCopied number bytes _ _ old new = ⊥

-- A piece was copied into the ticket, or why it wasn't.
pub record CopiesInto {S : Type 0} (told : S → Option History) (moment : S → ℕ) (faults : S → ℕ → ℕ) (number : ℕ) (s : Seat) (result : Result ℕ Refusal) (old new : S) (held next : Held) : Type 0 where
  pub bytes : List ℕ
  pub copied : Copied
  pub long : length bytes ≡ piece_length most_bytes s.size s.count
  pub calls : Copies told moment faults (copies_of (version (object_of (purpose_of s.purpose)) held.vault.database)) (object_of (purpose_of s.purpose)) s.count (segments_of s.places) bytes copied old new
  pub ends : EndsCopied (AreLost (RoseAt (faults old) (faults new)) held.vault.database 0 s.count (length bytes) (version (object_of (purpose_of s.purpose)) held.vault.database)) (segments_of s.places)
      (faults old) (faults new) copied
  pub becomes : BecomesCopied number bytes copied result held next

abbrev pub CopiesFor : {S : Type 0} → (told : S → Option History) → (moment : S → ℕ) → (faults : S → ℕ → ℕ) → (number : ℕ) → Option Seat → Result ℕ Refusal → S → S → Held → Held → Type 0
CopiesFor told moment faults number None result old new held next = ⊥
CopiesFor told moment faults number (Some s) result old new held next = CopiesInto told moment faults number s result old new held next
