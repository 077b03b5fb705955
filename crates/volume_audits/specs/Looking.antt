-- How a copy on a volume is looked at: it is read from its pool, from its first byte to its last, and the SHA-256 of what was read compared with the one that is kept.
use Rattle.std.specs.Prelude.{◌≡◌, ◌≢◌, ◌⊎◌, ℕ, ◌+◌, ◌<◌, ◌≤◌, Bool, List, [], ◌∷◌, ◌++◌, length, take, if◌then◌else◌, Result, Ok, Err}
use Rattle.sha2.specs.Sha256.{sha256}
use Rattle.kinds.specs.ValueForms.{digest_with}
use Rattle.kinds.specs.declared.refusal.Refusal.{Refusal}
use Rattle.kinds.specs.declared.refusal.Refusal.TheVariants as refused
use Rattle.kinds.specs.declared.segment.Digest.{Digest}
use Rattle.client_files.specs.Restoring.{read_by, read_in}
use Rattle.copy_attempts.specs.Attempts.{stopping}
use Rattle.inventory_work.specs.declared.lines.CopyLine.{CopyLine}
use Rattle.steps.specs.Calls.{Made}
use Rattle.steps.specs.Events.{Deed, Event, has_number}
use Rattle.steps.specs.Events.Deed.{ReadPiece}
use Rattle.volume_audits.specs.declared.looking.Found.{Found}
use Rattle.volume_audits.specs.declared.looking.Found.TheVariants as found

-- ---- what refusals lead to

-- a copy is left unread: its pool has none of the object any more, the object went, or no piece of the copy can be read
abbrev pub is_unread : Refusal → Bool
is_unread e = has_number (10 ∷ 23 ∷ 24 ∷ []) e

abbrev pub unread : Refusal → Result Found Refusal
unread e = if is_unread e then Ok found.Unread else Err (stopping e)

-- ---- bytes

-- this step read some bytes of the object from the offset on, from its copy in the copy's pool
abbrev pub ReadsAt : CopyLine → (offset : ℕ) → Deed → Type 0
ReadsAt line at deed = (wanted : ℕ) × (bytes : List ℕ) × (deed ≡ ReadPiece line.object line.digest line.pool at wanted (Ok bytes)) × (0 < length bytes)

-- these steps read pieces of it, each where the one before it ended
abbrev pub ReadOn : CopyLine → (offset : ℕ) → List Event → Type 0
ReadOn line at [] = Unit {0}
ReadOn line at (e ∷ events) = ReadsAt line at e.deed × ReadOn line (at + length (read_by e.deed)) events

-- why the next piece wasn't read: it was refused, or gave no byte
abbrev pub Misses : CopyLine → (offset : ℕ) → Refusal → List Event → Type 0
Misses line at e events =
    ((wanted : ℕ) × Made (ReadPiece line.object line.digest line.pool at wanted (Err e)) events)
    ⊎ ((wanted : ℕ) × Made (ReadPiece line.object line.digest line.pool at wanted (Ok [])) events × (e ≡ refused.Memory))

-- so many bytes of the buffer are the next ones, or they weren't read
abbrev pub ReadsNext : CopyLine → (offset : ℕ) → List ℕ → List Event → Result ℕ Refusal → Type 0
ReadsNext line at buffer events (Ok count) = ReadOn line at events × (read_in events ≡ take count buffer) × (0 < count) × (count ≤ length buffer)
ReadsNext line at buffer events (Err e) = Misses line at e events

-- The copy was read from its first byte on, as many bytes as the object has, and this is their SHA-256; or not all of it was.
abbrev pub ReadsAll : CopyLine → List Event → Result Digest Refusal → Type 0
ReadsAll line events (Ok digest) = ReadOn line 0 events × (length (read_in events) ≡ line.size) × (digest ≡ digest_with (sha256 (read_in events)))
ReadsAll line events (Err e) =
    (xs : List Event) × (ys : List Event) × (events ≡ xs ++ ys) × ReadOn line 0 xs × (length (read_in xs) < line.size) × Misses line (length (read_in xs)) e ys

-- ---- a copy

-- It has the bytes that were stored; or others, with this SHA-256; or it wasn't read.
abbrev pub Looks : CopyLine → List Event → Result Found Refusal → Type 0
Looks line events result =
    (ReadsAll line events (Ok line.digest) × (result ≡ Ok found.Sound))
    ⊎ ((digest : Digest) × ReadsAll line events (Ok digest) × (line.digest ≢ digest) × (result ≡ Ok (found.Damaged digest)))
    ⊎ ((e : Refusal) × ReadsAll line events (Err e) × (result ≡ unread e))
