-- How a piece of an object is read: from the first of its copies that has all of it.
use Rattle.std.specs.Prelude.{◌≡◌, ◌⊎◌, ℕ, ◌+◌, ◌-◌, ◌^◌, ◌≤◌, ◌<◌, ◌&&◌, nat_lt, nat_le, Bool, true, false, List, [], ◌∷◌, length, take, drop, Option, None, Some, IfOk, IfSome, Result, Ok, Err, if◌then◌else◌}
use Rattle.std.specs.List.{AllByRecursion, sum_by}
use Rattle.std.specs.Option.{option_map_or}
use Rattle.store_api.specs.Disk.{History, reads}
use Rattle.store_api.specs.Runs.{GoesOn}
use Rattle.kinds.specs.Refusals.{foremost}
use Rattle.kinds.specs.declared.refusal.Refusal.{Refusal}
use Rattle.kinds.specs.declared.refusal.Refusal.TheVariants as refusal
use Rattle.kinds.specs.declared.segment.Segment.{Segment}
use Rattle.volume_frames.specs.Frames.{bytes_len}
use Rattle.inventory_rows.specs.version_groups.declared.copies.CopyRow.{CopyRow}
use Rattle.inventory_rows.specs.version_groups.declared.versions.Version.{Version}
use Rattle.inventory_rows.specs.pool_tables.Rows.{row_at}
use Rattle.inventory_rows.specs.Search.{version}
use Rattle.inventory_rows.specs.State.{Inv}
use Rattle.inventory_rules.specs.Run.{journal_of}
use Rattle.contents.specs.Contents.{FramesHave, InImage}
use Rattle.contents.specs.Reading.{segments_in}
use Rattle.placing.specs.Placing.{is_readable}
use Rattle.machine.specs.Machine.{read_count}
use Rattle.machine.specs.Pieces.{IsUnavailable}
use Rattle.machine.specs.State.{Sight}
use Rattle.hall.specs.Held.{Held}

-- what every actor sees alike: the database, and what the journal tells
abbrev pub seen_by_all : Held → Sight
seen_by_all h = record { first = h.base.number; next_file = h.claims.next_file; journal = journal_of h.base h.vault.journal; inventory = h.vault.database; tickets = []; image = None }

-- ---- counts of faults

-- how often calls on the file have failed, where its volume may be read and the count can still rise
abbrev pub count_of : (faults : ℕ → ℕ) → Inv → (file : ℕ) → Option ℕ
count_of faults v file = if is_readable file v && nat_lt (faults file) (2 ^ 64 - 1) then Some (faults file) else None

-- the sum, where there are both
abbrev pub both : Option ℕ → Option ℕ → Option ℕ
both None other = None
both (Some a) None = None
both (Some a) (Some b) = Some (a + b)

-- How often calls on the files of these segments have failed, together. No count falls, so the sum is the same exactly where each is.
abbrev pub tally : (faults : ℕ → ℕ) → Inv → List Segment → Option ℕ
tally faults v [] = Some 0
tally faults v (s ∷ segments) = both (count_of faults v s.file) (tally faults v segments)

-- ---- copies

-- the segment's frame, its header of 32 bytes and its data, lies within its volume
abbrev pub lies_within : Inv → Segment → Bool
lies_within v s = option_map_or (λ volume. nat_le (s.offset + 32 + s.len) volume.capacity) (row_at s.file v.stores.volumes) false

-- a copy has all bytes of the piece, fewer than 2^64 bytes in all, and each of its frames lies within its volume
pub record HasPiece (v : Inv) (offset count : ℕ) (copy : CopyRow) : Type 0 where
  pub room : offset + count ≤ bytes_len copy.segments
  pub long : bytes_len copy.segments < 2 ^ 64
  pub within : AllByRecursion (λ s. lies_within v s ≡ true) copy.segments

-- how many segments of these copies have bytes of the piece: so many calls are made at most
abbrev pub calls_for : (offset count : ℕ) → List CopyRow → ℕ
calls_for offset count copies = sum_by (λ c. length (segments_in 0 offset count c.segments)) copies

-- something was found, or each of them is lost
abbrev pub EndsBy : (lost : Type 0) → (found : Bool) → Type 0
EndsBy lost true = ¬ lost
EndsBy lost false = lost

-- Some copies were read, which changed nothing. Where one was found, and they all stand in the frames of an object's bytes, the buffer has as many of these as it holds, from `offset` on.
pub record ReadsAny (copies : List CopyRow) (offset : ℕ) (buffer : List ℕ) (found : Bool) (old new : History) : Type 0 where
  pub goes : GoesOn (λ file. ⊥) old new
  pub bytes : found ≡ true → (object : ℕ) (bytes : List ℕ) → AllByRecursion (λ c. FramesHave (InImage (reads old)) object 0 c.segments bytes) copies
      → buffer ≡ take (length buffer) (drop offset bytes)

-- ---- an object

-- the copies that are asked of what is kept of an object are lost
abbrev pub AreLost : (rose : ℕ → Type 0) → Inv → (from offset count : ℕ) → Option Version → Type 0
AreLost rose v from offset count None = ⊥
AreLost rose v from offset count (Some w) = IsUnavailable rose v from offset count w

-- How a read of an object ended: with the foremost refusal that held; with so many bytes, of a copy that isn't lost; or all that are asked are lost.
abbrev pub EndsRead : (rose : ℕ → Type 0) → (refused : List Refusal) → Inv → (object from offset wanted : ℕ) → Result ℕ Refusal → Type 0
EndsRead rose refused v object from offset wanted (Ok count) =
    (foremost refused ≡ None) × (count ≡ read_count object wanted offset v) × ¬ AreLost rose v from offset (read_count object wanted offset v) (version object v)
EndsRead rose refused v object from offset wanted (Err e) =
    (foremost refused ≡ Some e)
    ⊎ ((foremost refused ≡ None) × (e ≡ refusal.Unavailable) × AreLost rose v from offset (read_count object wanted offset v) (version object v))

-- An object was read, which changed nothing. Where each of its copies stands in the frames of some bytes, the front of the buffer has those from `offset` on.
pub record ReadsObject (found : Option Version) (offset : ℕ) (buffer : List ℕ) (result : Result ℕ Refusal) (old new : History) : Type 0 where
  pub goes : GoesOn (λ file. ⊥) old new
  pub bytes : IfOk result (λ count. IfSome found (λ w. (object : ℕ) (bytes : List ℕ) → AllByRecursion (λ c. FramesHave (InImage (reads old)) object 0 c.segments bytes) w.copies
      → take count buffer ≡ take count (drop offset bytes)))
