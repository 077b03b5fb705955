-- Reading a copy back from its frames.
use Rattle.std.specs.Prelude.{◌≡◌, ℕ, ◌+◌, ◌-◌, ◌^◌, ◌≤◌, ◌<◌, ◌==◌, ◌&&◌, min, nat_lt, Bool, true, if◌then◌else◌, List, [], ◌∷◌, ◌++◌, length, take, drop, Result, OnOk}
use Rattle.std.specs.List.{list_any}
use Rattle.kinds.specs.declared.segment.Segment.{Segment}
use Rattle.store_api.specs.Cause.{Rose}
use Rattle.store_api.specs.Disk.{History, reads}
use Rattle.store_api.specs.Runs.{Stands, GoesOn}
use Rattle.volume_frames.specs.Frames.{data_place}
use Rattle.contents.specs.Contents.{FramesHave, InImage}
use Rattle.contents.specs.declared.frames.Unread.{Unread}
use Rattle.contents.specs.declared.frames.Unread.TheVariants.{Fault, RunFull}

-- one of the segments lies in the file
abbrev pub lies_in_file : List Segment → ℕ → Bool
lies_in_file segments file = list_any (λ s. s.file == file) segments

-- the segments, the first of which begins at this byte of the object, that have bytes of the piece: `count` bytes from `offset` on
abbrev pub segments_in : (start offset count : ℕ) → List Segment → List Segment
segments_in start offset count [] = []
segments_in start offset count (s ∷ segments) =
    (if nat_lt start (offset + count) && nat_lt offset (start + s.len) then s ∷ [] else []) ++ segments_in (start + s.len) offset count segments

-- at which byte of the object the first segment begins that ends behind this byte
abbrev pub begins_at : (start offset : ℕ) → List Segment → ℕ
begins_at start offset [] = start
begins_at start offset (s ∷ segments) = if nat_lt offset (start + s.len) then start else begins_at (start + s.len) offset segments

-- Why segments weren't read: the count of faults of a file in which one of them lies rose, or the moment is all but the last.
abbrev pub MayLack : List Segment → (before after : ℕ → ℕ) → (moment : ℕ) → Unread → Type 0
MayLack segments before after moment (Fault file) = (lies_in_file segments file ≡ true) × Rose (before file) (after file)
MayLack segments before after moment RunFull = 2 ^ 62 - 2 ^ 24 ≤ moment

-- Why segments weren't read where there was time for it: the count of faults of a file in which one of them lies rose.
abbrev pub Lacks : List Segment → (before after : ℕ → ℕ) → Unread → Type 0
Lacks segments before after (Fault file) = (lies_in_file segments file ≡ true) × Rose (before file) (after file)
Lacks segments before after RunFull = ⊥

-- A part of a segment's data was read, which changed nothing. On Ok the buffer has what stands behind the header's place, from this byte
-- of the data on, where that is as long.
pub record ReadData {T : Type 0} (segment : Segment) (from : ℕ) (buffer : List ℕ) (result : Result T Unread) (old new : History) : Type 0 where
  pub goes : GoesOn (λ f. ⊥) old new
  pub bytes : OnOk result ((piece : List ℕ) → length piece ≡ length buffer → Stands (reads old segment.file) (data_place segment + from) piece → buffer ≡ piece)

-- how many bytes of a piece, `count` bytes from `offset` on, stand in front of this byte of the object
abbrev pub filled : (offset count place : ℕ) → ℕ
filled offset count place = min count (place - offset)

-- What a segment, whose data begins at this byte of the object, has of a piece was read into its place in the buffer, which is that of the
-- piece; and that changed nothing.
pub record ReadOver {T : Type 0} (segment : Segment) (start offset : ℕ) (buffer : List ℕ) (result : Result T Unread) (old new : History) : Type 0 where
  pub goes : GoesOn (λ f. ⊥) old new
  pub bytes : OnOk result (
      let at = filled offset (length buffer) start in
      let count = filled offset (length buffer) (start + segment.len) - at in
      (piece : List ℕ) → 0 < count → length piece ≡ count → Stands (reads old segment.file) (data_place segment + (offset + at - start)) piece → take count (drop at buffer) ≡ piece)

-- The segments of a copy were read, which changed nothing. On Ok, where they stand in the frames of an object's bytes, the
-- buffer has those bytes.
pub record ReadCopy {T : Type 0} (segments : List Segment) (buffer : List ℕ) (result : Result T Unread) (old new : History) : Type 0 where
  pub goes : GoesOn (λ f. ⊥) old new
  pub bytes : OnOk result ((object number : ℕ) (bytes : List ℕ) → FramesHave (InImage (reads old)) object number segments bytes → buffer ≡ bytes)

-- A piece of a copy was read, which changed nothing. On Ok, where the copy stands in the frames of an object's bytes, the buffer has as
-- many of these as it holds, from `offset` on.
pub record ReadPiece {T : Type 0} (segments : List Segment) (offset : ℕ) (buffer : List ℕ) (result : Result T Unread) (old new : History) : Type 0 where
  pub goes : GoesOn (λ f. ⊥) old new
  pub bytes : OnOk result ((object number : ℕ) (bytes : List ℕ) → FramesHave (InImage (reads old)) object number segments bytes → buffer ≡ take (length buffer) (drop offset bytes))
