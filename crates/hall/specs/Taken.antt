-- What a ticket takes and seals: what refuses that, and what becomes of what is held.
use Rattle.std.specs.Prelude.{◌≡◌, ℕ, ◌+◌, ◌<◌, ◌≤◌, ◌^◌, ◌==◌, ◌&&◌, ◌||◌, nat_le, if◌then◌else◌, map, Bool, true, false, not, List, [], ◌∷◌, ◌++◌, length, Option, None, Some, Result}
use Rattle.std.specs.List.{list_all}
use Rattle.kinds.specs.Refusals.{bad_value, unless}
use Rattle.kinds.specs.declared.refusal.Refusal.{Refusal}
use Rattle.kinds.specs.declared.refusal.Refusal.TheVariants as refusal
use Rattle.sha2.specs.Hashers.{Holds256}
use Rattle.sha2.specs.declared.Sha256.{Sha256}
use Rattle.store_api.specs.Cause.{Rose}
use Rattle.store_api.specs.Disk.{History}
use Rattle.inventory_rows.specs.pool_tables.Rows.{row_at, set_row}
use Rattle.volume_frames.specs.Frames.{bytes_len}
use Rattle.contents.specs.Reading.{lies_in_file}
use Rattle.kinds.specs.declared.segment.Segment.{Segment}
use Rattle.space.specs.declared.places.Placed.{Placed}
use Rattle.machine.specs.Causes.{most_bytes, ticket_in_use}
use Rattle.machine.specs.State.{is_storing, object_of}
use Rattle.hall.specs.declared.seat.Hashed.{Hashed}
use Rattle.hall.specs.declared.seat.Hashed.TheVariants.{Done, Taking, Unhashed}
use Rattle.hall.specs.declared.seat.Purpose.{Purpose as Use}
use Rattle.hall.specs.declared.seat.Seat.{Seat}
use Rattle.hall.specs.Frames.{SyncedAll, WroteBehind, segments_of}
use Rattle.hall.specs.Held.{Held, IsHashed, purpose_of}
use Rattle.hall.specs.Seats.{own_seat, without_seat}

-- ---- refusals

-- of a ticket that has to be held
abbrev pub of_seat : (Seat → List Refusal) → Option Seat → List Refusal
of_seat rule None = refusal.NotFound ∷ []
of_seat rule (Some s) = rule s

-- what refuses a piece of so many bytes to a ticket
abbrev pub piece_refused : (number count : ℕ) → Seat → List Refusal
piece_refused number count s =
    unless (is_storing (purpose_of s.purpose) && not s.is_sealed) (ticket_in_use number)
    ++ unless (nat_le (s.count + count) s.size) (refusal.Changed s.size (s.count + count))

abbrev pub write_refused_at : (actor number count : ℕ) → Held → List Refusal
write_refused_at actor number count h = unless (nat_le 1 count && nat_le count most_bytes) bad_value ++ of_seat (piece_refused number count) (own_seat actor number h)

-- what refuses to seal a ticket
abbrev pub unfilled : Seat → List Refusal
unfilled s = unless (s.count == s.size) (refusal.Changed s.size s.count)

abbrev pub seal_refused_at : (actor number : ℕ) → Held → List Refusal
seal_refused_at actor number h = of_seat unfilled (own_seat actor number h)

-- ---- what is held

-- A ticket took no more bytes than it is for, and its segments have room for exactly these; they are few enough to be numbered, and to be synced within a step.
pub record HasSpace (s : Seat) : Type 0 where
  pub within : s.count ≤ s.size
  pub small : s.size < 2 ^ 44
  pub room : bytes_len (segments_of s.places) ≡ s.size
  pub few : length s.places ≤ 2 ^ 23

-- the digest goes on over these bytes
abbrev pub MoreHashed : List ℕ → Hashed → Hashed → Type 0
MoreHashed bytes old new = (purpose : Use) (taken : List ℕ) → IsHashed purpose false old taken → IsHashed purpose false new (taken ++ bytes)

-- a hasher holds whatever the one of a ticket holds, and these bytes behind it; where the ticket has none there is nothing to say
abbrev pub HoldsBehind : List ℕ → Sha256 → Hashed → Type 0
HoldsBehind bytes hasher (Taking old) = (taken : List ℕ) → Holds256 old taken → Holds256 hasher (taken ++ bytes)
HoldsBehind bytes hasher (Done digest) = Unit {0}
HoldsBehind bytes hasher Unhashed = Unit {0}

-- Where the ticket is a new object's that takes more, some list is what its hasher holds, and this hasher holds that list with these bytes behind it.
abbrev pub IsAhead : List ℕ → Sha256 → Seat → Type 0
IsAhead bytes hasher s =
    is_storing (purpose_of s.purpose) ≡ true → s.is_sealed ≡ false → (taken : List ℕ) × IsHashed s.purpose false s.hashed taken × Holds256 hasher (taken ++ bytes)

-- the digest is whole
abbrev pub WholeHashed : (is_sealed : Bool) → Hashed → Hashed → Type 0
WholeHashed is_sealed old new = (purpose : Use) (taken : List ℕ) → IsHashed purpose is_sealed old taken → IsHashed purpose true new taken

-- there is one, and this holds of it
abbrev pub IsSomeThat : {A : Type 0} → Option A → (A → Type 0) → Type 0
IsSomeThat None P = ⊥
IsSomeThat (Some x) P = P x

-- the ticket is held, and has room for so many bytes more
abbrev pub HasRoom : (more : ℕ) → Option Seat → Type 0
HasRoom more found = IsSomeThat found (λ s. HasSpace s × (s.count + more ≤ s.size))

-- the ticket under this number took these bytes, and has so many then
abbrev pub TookAt : (number : ℕ) → List ℕ → (count : ℕ) → (old new : List (ℕ × Seat)) → Type 0
TookAt number bytes count old new =
    (s : Seat) × (hashed : Hashed) × (row_at number old ≡ Some s) × MoreHashed bytes s.hashed hashed × (count ≡ s.count + length bytes)
    × (new ≡ set_row number (record s { count = s.count + length bytes; hashed = hashed }) old)

-- nothing else changed
abbrev pub TookMore : (number : ℕ) → List ℕ → (count : ℕ) → Held → Held → Type 0
TookMore number bytes count old new = TookAt number bytes count old.seats new.seats × (new ≡ record old { seats = new.seats })

-- ---- firm tickets

-- a new object's ticket is sealed without a device call where it is firm
abbrev pub is_settled : Seat → Bool
is_settled s = is_storing (purpose_of s.purpose) && s.is_firm

abbrev pub first_file : List Placed → Option ℕ
first_file [] = None
first_file (p ∷ places) = Some p.segment.file

-- the first of the ticket's files, where these are synced when it is sealed
abbrev pub synced_file : Seat → Option ℕ
synced_file s = if is_settled s then None else first_file s.places

-- the ticket took all that it is for, and lies on this file alone
abbrev pub lies_on : (file : ℕ) → Seat → Bool
lies_on file s = s.count == s.size && list_all (λ p. p.segment.file == file) s.places

-- behind a sync of the file the ticket is firm where that holds
abbrev pub made_firm : (file : ℕ) → Seat → Seat
made_firm file s = record s { is_firm = s.is_firm || lies_on file s }

-- so are all, where a file was synced
abbrev pub firm_on : Option ℕ → List (ℕ × Seat) → List (ℕ × Seat)
firm_on None seats = seats
firm_on (Some file) seats = map (λ e. (e.0, made_firm file e.1)) seats

-- ---- sealed

-- the ticket under this number is sealed
abbrev pub SealedAt : (number : ℕ) → (old new : List (ℕ × Seat)) → Type 0
SealedAt number old new =
    (s : Seat) × (hashed : Hashed) × (row_at number old ≡ Some s) × WholeHashed s.is_sealed s.hashed hashed × (new ≡ set_row number (record s { hashed = hashed; is_sealed = true }) old)

-- and the others are firm that its syncs made so; nothing else changed
abbrev pub SealedOne : (number : ℕ) → Held → Held → Type 0
SealedOne number old new = (seats : List (ℕ × Seat)) × (at : SealedAt number old.seats seats) × (new ≡ record old { seats = firm_on (synced_file at.0) seats })

-- ---- dropped, and the calls

-- a call on a file of the ticket failed, whose count rose, and the ticket is dropped
abbrev pub DroppedOne : (number : ℕ) → Option Seat → (before after : ℕ → ℕ) → Refusal → Held → Held → Type 0
DroppedOne number None before after e old new = ⊥
DroppedOne number (Some s) before after e old new =
    (file : ℕ) × (e ≡ refusal.WriteFault file) × (lies_in_file (segments_of s.places) file ≡ true) × Rose (before file) (after file) × (new ≡ without_seat number old)

-- bytes were written behind those of the ticket
abbrev pub WroteFor : {T E : Type 0} → Option Seat → List ℕ → Result T E → History → History → Type 0
WroteFor None bytes result old new = ⊥
WroteFor (Some s) bytes result old new = WroteBehind (object_of (purpose_of s.purpose)) s.count (segments_of s.places) bytes result old new

-- the files of these segments were synced, unless what stands in them is settled: no call was made then
abbrev pub SyncedUnless : {T E : Type 0} → (settled : Bool) → List Segment → Result T E → History → History → Type 0
SyncedUnless true segments result old new = new ≡ old
SyncedUnless false segments result old new = SyncedAll segments result old new

-- so were the ticket's
abbrev pub SyncedFor : {T E : Type 0} → Option Seat → Result T E → History → History → Type 0
SyncedFor None result old new = ⊥
SyncedFor (Some s) result old new = SyncedUnless (is_settled s) (segments_of s.places) result old new
