-- Whether a copy of an object stands on volumes: in its frames, with as many bytes as the object has and their digest.
use Rattle.std.specs.Prelude.{ℕ, ◌^◌, suc, Bool, true, ◌&&◌, ◌||◌, ◌==◌, nat_eq, nat_le, nat_lt, List, [], ◌∷◌, length}
use Rattle.std.specs.Cmp.Lexicographic.{pointwise}
use Rattle.sha2.specs.Sha256.{sha256}
use Rattle.kinds.specs.declared.segment.Segment.{Segment}
use Rattle.volume_frames.specs.Frames.{frame_header, first_header, piece, data_end, bytes_of, bytes_len}

-- the bytes are the same
abbrev pub is_same : List ℕ → List ℕ → Bool
is_same a b = pointwise nat_eq a b

-- the bytes are a header, of either form, that names this object, this segment's number and this length
abbrev pub is_header : List ℕ → (object number len : ℕ) → Bool
is_header bytes object number len = is_same bytes (frame_header object number len) || (nat_lt len (2 ^ 32) && is_same bytes (first_header object number len))

-- the frame of an object's segment stands in a file: such a header at the segment's place, and all of the data behind it
abbrev pub is_framed : List ℕ → (object number : ℕ) → Segment → Bool
is_framed file object number s = nat_le (data_end s) (length file) && is_header (piece file s.offset 32) object number s.len

-- so do the frames of a copy's segments, numbered from there on, in an image, which has the bytes of each file
abbrev pub are_framed : (ℕ → List ℕ) → (object number : ℕ) → List Segment → Bool
are_framed image object number [] = true
are_framed image object number (s ∷ segments) = is_framed (image s.file) object number s && are_framed image object (suc number) segments

-- A copy stands in an image: its segments, numbered from 0, have as many bytes as its object, stand in their frames, and the SHA-256 of their data, one after the other, is the digest.
abbrev pub is_there : (ℕ → List ℕ) → (object size : ℕ) → (digest : List ℕ) → List Segment → Bool
is_there image object size digest segments = (bytes_len segments == size) && (are_framed image object 0 segments && is_same digest (sha256 (bytes_of image segments)))
