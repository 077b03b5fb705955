-- How a stored object goes back into a client's tree: which steps, in which order, what each answer leads to, and what the tree has then.
use Rattle.std.specs.Prelude.{◌≡◌, ◌≢◌, ◌⊎◌, ℕ, ◌+◌, ◌<◌, ◌≤◌, Bool, List, [], ◌∷◌, ◌++◌, length, take, Option, None, Some, if◌then◌else◌, Result, Ok, Err}
use Rattle.std.specs.List.{flat_map}
use Rattle.std.specs.Option.{option_map}
use Rattle.sha2.specs.Sha256.{sha256}
use Rattle.kinds.specs.ValueForms.{digest_with}
use Rattle.kinds.specs.declared.refusal.Refusal.{Refusal}
use Rattle.kinds.specs.declared.refusal.Refusal.TheVariants as refused
use Rattle.kinds.specs.declared.segment.Digest.{Digest}
use Rattle.tree_api.specs.Cause.{Rose}
use Rattle.client_trees.specs.Files.{Files, appended, file_at, others}
use Rattle.steps.specs.Calls.{Made}
use Rattle.steps.specs.Events.{Deed, Event, has_number}
use Rattle.steps.specs.Events.Deed.{ReadPiece}
use Rattle.client_files.specs.Reading.{TreeFails}
use Rattle.client_files.specs.Sending.{stopping}
use Rattle.client_files.specs.declared.outcome.Gave.{Gave}
use Rattle.client_files.specs.declared.outcome.Gave.TheVariants as gave
use Rattle.client_files.specs.declared.restoring.Stored.{Stored}

-- ---- what refusals lead to

-- the file isn't restored: its object went, none of its copies can be read, a call on the tree failed, or its bytes have another digest than the kept one
abbrev pub is_unrestored : Refusal → Bool
is_unrestored e = has_number (23 ∷ 24 ∷ 26 ∷ 28 ∷ []) e

-- what comes of a file that isn't restored for this cause
abbrev pub given_up : Refusal → Result Gave Refusal
given_up e = if is_unrestored e then Ok (gave.Failed e) else Err (stopping e)

-- ---- bytes

abbrev pub bytes_in : Result (List ℕ) Refusal → List ℕ
bytes_in (Ok bytes) = bytes
bytes_in (Err e) = []

abbrev pub read_by : Deed → List ℕ
read_by (ReadPiece object kept from offset wanted answer) = bytes_in answer
read_by _ = []

-- what these steps read, one piece behind another
abbrev pub read_in : List Event → List ℕ
read_in events = flat_map (λ e. read_by e.deed) events

-- this step read some bytes of the object from the offset on, wherever it has a copy
abbrev pub ReadsAt : Stored → (offset : ℕ) → Deed → Type 0
ReadsAt s at deed = (wanted : ℕ) × (bytes : List ℕ) × (deed ≡ ReadPiece s.object s.digest 0 at wanted (Ok bytes)) × (0 < length bytes)

-- these steps read pieces of the object, each where the one before it ended
abbrev pub ReadOn : Stored → (offset : ℕ) → List Event → Type 0
ReadOn s at [] = Unit {0}
ReadOn s at (e ∷ events) = ReadsAt s at e.deed × ReadOn s (at + length (read_by e.deed)) events

-- What kept the next piece from the file: its reading was refused, or gave no byte; or it was read, and a call on the tree failed.
abbrev pub Misses : Stored → (offset : ℕ) → (before after : ℕ) → Refusal → List Event → Type 0
Misses s at before after e events =
    ((wanted : ℕ) × Made (ReadPiece s.object s.digest 0 at wanted (Err e)) events)
    ⊎ ((wanted : ℕ) × Made (ReadPiece s.object s.digest 0 at wanted (Ok [])) events × (e ≡ refused.Memory))
    ⊎ (ReadOn s at events × TreeFails before after e)

-- The object was read from its first byte on, as many bytes as it has, and this is their SHA-256; or it wasn't, or not all of it came into the file.
abbrev pub ReadsAll : Stored → (before after : ℕ) → List Event → Result Digest Refusal → Type 0
ReadsAll s before after events (Ok digest) = ReadOn s 0 events × (length (read_in events) ≡ s.size) × (digest ≡ digest_with (sha256 (read_in events)))
ReadsAll s before after events (Err e) =
    (xs : List Event) × (ys : List Event) × (events ≡ xs ++ ys) × ReadOn s 0 xs × (length (read_in xs) < s.size) × Misses s (length (read_in xs)) before after e ys

-- ---- a file

-- Why the file isn't restored: not all of its bytes came, those that came have another digest than the kept one, or the tree failed at its beginning or its end.
abbrev pub Breaks : Stored → (before after : ℕ) → Refusal → List Event → Type 0
Breaks s before after e events =
    ReadsAll s before after events (Err e)
    ⊎ ((digest : Digest) × ReadsAll s before after events (Ok digest) × (s.digest ≢ digest) × (e ≡ refused.DigestDiffers s.digest digest))
    ⊎ (ReadsAll s before after events (Ok s.digest) × TreeFails before after e)
    ⊎ ((events ≡ []) × TreeFails before after e)

-- The object was read, and the file has its bytes; or it isn't restored, for this cause.
abbrev pub Restores : Stored → (before after : ℕ) → List Event → Result Gave Refusal → Type 0
Restores s before after events result =
    (ReadsAll s before after events (Ok s.digest) × (result ≡ Ok gave.Restored))
    ⊎ ((e : Refusal) × Breaks s before after e events × (result ≡ given_up e))

-- ---- the tree

-- a tree that tells its files still does, and this holds of those before and behind
abbrev pub Leads : (Files → Files → Type 0) → Option Files → Option Files → Type 0
Leads Q None new = Unit {0}
Leads Q (Some old) None = ⊥
Leads Q (Some old) (Some new) = Q old new

-- at the path stands a file with these bytes and this time, and all other files are as they were
abbrev pub HasFile : (path bytes : List ℕ) → (mtime : ℕ) → Files → Files → Type 0
HasFile path bytes mtime old new = (others path new ≡ others path old) × (file_at path new ≡ Some (record { bytes = bytes; mtime = mtime }))

-- no file stands at the path, or a call on the tree failed; all others are as they were
abbrev pub HasNone : (path : List ℕ) → (before after : ℕ) → Files → Files → Type 0
HasNone path before after old new = (others path new ≡ others path old) × ((file_at path new ≡ None) ⊎ Rose before after)

-- all other files are as they were
abbrev pub HasOthers : (path : List ℕ) → Files → Files → Type 0
HasOthers path old new = others path new ≡ others path old

-- ---- the parts

-- So many bytes of the buffer were read at this place and put behind those of the file; or they weren't.
abbrev pub Moves : Stored → (path : List ℕ) → (at before after : ℕ) → (old new : Option Files) → List ℕ → List Event → Result ℕ Refusal → Type 0
Moves s path at before after old new buffer events (Ok count) =
    ReadOn s at events × (read_in events ≡ take count buffer) × (0 < count) × (count ≤ length buffer) × (at + count ≤ s.size)
    × (new ≡ option_map (appended path (take count buffer)) old)
Moves s path at before after old new buffer events (Err e) = Misses s at before after e events × Leads (HasOthers path) old new

-- the file has all bytes, and these are their SHA-256; or it hasn't
abbrev pub Written : Stored → (path : List ℕ) → (before after : ℕ) → (old new : Option Files) → List Event → Result Digest Refusal → Type 0
Written s path before after old new events (Ok digest) = ReadsAll s before after events (Ok digest) × Leads (HasFile path (read_in events) 0) old new
Written s path before after old new events (Err e) = ReadsAll s before after events (Err e) × Leads (HasOthers path) old new

-- the file has the bytes that were stored, and their time; or it hasn't
abbrev pub CopiesOut : Stored → (path : List ℕ) → (before after : ℕ) → (old new : Option Files) → List Event → Result (Unit {0}) Refusal → Type 0
CopiesOut s path before after old new events (Ok done) = ReadsAll s before after events (Ok s.digest) × Leads (HasFile path (read_in events) s.mtime) old new
CopiesOut s path before after old new events (Err e) = Breaks s before after e events × Leads (HasOthers path) old new

-- ---- all of it

abbrev pub LeavesTree : Stored → (path : List ℕ) → (before after : ℕ) → List Event → Option Files → Option Files → Result Gave Refusal → Type 0
LeavesTree s path before after events old new (Ok gave.Restored) = Leads (HasFile path (read_in events) s.mtime) old new
LeavesTree s path before after events old new _ = Leads (HasNone path before after) old new

-- An object was restored by these steps, in their order, and this is what the tree has, whose count of faults didn't fall.
pub record Restoring (s : Stored) (path : List ℕ) (before after : ℕ) (old new : Option Files) (events : List Event) (result : Result Gave Refusal) : Type 0 where
  pub order : Restores s before after events result
  pub tree : LeavesTree s path before after events old new result
  pub rises : before ≤ after
