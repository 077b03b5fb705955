-- Segments of stored objects in their frames, over whole files.
use Rattle.std.specs.Prelude.{◌≡◌, ◌⊎◌, ℕ, ◌+◌, ◌≤◌, ◌^◌, suc, codes, List, [], ◌∷◌, ◌++◌, length, take, drop, ◌<◌}
use Rattle.std.specs.List.{slice_index_or}
use Rattle.std.specs.Int.{w32, w64, to_be_bytes}
use Rattle.kinds.specs.declared.segment.Segment.{Segment}

-- The header of a segment's frame: `TSMFRAM2`, the object, the segment's number, 4 bytes 0, and the length of its data in 8 bytes.
unfoldable pub frame_header : ℕ → ℕ → ℕ → List ℕ
frame_header object number len = codes "TSMFRAM2" ++ (to_be_bytes w64 object ++ (to_be_bytes w32 number ++ (to_be_bytes w32 0 ++ to_be_bytes w64 len)))

-- The header as it was written before: `TSMFRAME`, the object, the segment's number, the length of its data in 4 bytes, and 8 bytes 0.
unfoldable pub first_header : ℕ → ℕ → ℕ → List ℕ
first_header object number len = codes "TSMFRAME" ++ (to_be_bytes w64 object ++ (to_be_bytes w32 number ++ (to_be_bytes w32 len ++ to_be_bytes w64 0)))

-- Bytes are the header of a segment's frame, in one of the two forms. The first has no lengths from 2^32 on.
abbrev pub IsHeader : List ℕ → ℕ → ℕ → ℕ → Type 0
IsHeader bytes object number len = (bytes ≡ frame_header object number len) ⊎ ((len < 2 ^ 32) × (bytes ≡ first_header object number len))

-- so many bytes of a file, from a place on
abbrev pub piece : List ℕ → ℕ → ℕ → List ℕ
piece file at len = take len (drop at file)

-- where a segment's data begins in its file: behind the 32 bytes of its header
abbrev pub data_place : Segment → ℕ
data_place segment = segment.offset + 32

-- where its data ends
abbrev pub data_end : Segment → ℕ
data_end segment = data_place segment + segment.len

-- the bytes that stand in the place of a segment's data
abbrev pub data_of : List ℕ → Segment → List ℕ
data_of file segment = piece file (data_place segment) segment.len

-- The frame of an object's segment stands in a file: a header stands at the segment's place, and all of the data behind it.
pub record FramedAt (file : List ℕ) (object number : ℕ) (segment : Segment) : Type 0 where
  pub header : IsHeader (piece file segment.offset 32) object number segment.len
  pub within : data_end segment ≤ length file

-- segments of a copy, numbered from there on, are framed in an image, which has the bytes of each file
abbrev pub FramedFrom : (ℕ → List ℕ) → ℕ → ℕ → List Segment → Type 0
FramedFrom image object number [] = Unit {0}
FramedFrom image object number (segment ∷ segments) = FramedAt (image segment.file) object number segment × FramedFrom image object (suc number) segments

-- a copy is framed in an image: each of its segments, numbered from 0, stands in its frame
abbrev pub Framed : (ℕ → List ℕ) → ℕ → List Segment → Type 0
Framed image object segments = FramedFrom image object 0 segments

-- the bytes of a copy in an image: the data of its segments, one after the other
abbrev pub bytes_of : (ℕ → List ℕ) → List Segment → List ℕ
bytes_of image [] = []
bytes_of image (segment ∷ segments) = data_of (image segment.file) segment ++ bytes_of image segments

-- how many bytes a copy has: the sum of its segments' lengths
abbrev pub bytes_len : List Segment → ℕ
bytes_len [] = 0
bytes_len (segment ∷ segments) = segment.len + bytes_len segments

-- The other file has each byte of a segment's frame as the file has it.
pub record KeepsFrame (file other : List ℕ) (segment : Segment) : Type 0 where
  pub long : data_end segment ≤ length other
  pub same : (place : ℕ) → segment.offset ≤ place → place < data_end segment → slice_index_or other place 0 ≡ slice_index_or file place 0

-- the other image has each byte of the frames of a copy as the image has it
abbrev pub KeepsFrames : (ℕ → List ℕ) → (ℕ → List ℕ) → List Segment → Type 0
KeepsFrames image other [] = Unit {0}
KeepsFrames image other (segment ∷ segments) = KeepsFrame (image segment.file) (other segment.file) segment × KeepsFrames image other segments
