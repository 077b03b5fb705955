-- Which bytes the objects of a database have, and where they stand on the volumes.
use Rattle.std.specs.Prelude.{◌≡◌, ◌⊎◌, ℕ, ◌<◌, ◌≤◌, ◌^◌, suc, ◌==◌, if◌then◌else◌, List, [], ◌∷◌, ◌++◌, length, take, drop}
use Rattle.std.specs.List.{AllByRecursion}
use Rattle.sha2.specs.Sha256.{sha256}
use Rattle.kinds.specs.declared.segment.Segment.{Segment}
use Rattle.store_api.specs.Disk.{History, standing}
use Rattle.store_api.specs.Runs.{Stands, Firm}
use Rattle.inventory_laws.specs.entries.declared.change.Change.{Change}
use Rattle.volume_frames.specs.Frames.{frame_header, first_header}
use Rattle.inventory_laws.specs.inventory_rows.version_groups.declared.versions.Version.{Version}
use Rattle.inventory_laws.specs.inventory_rows.Search.{versions}
use Rattle.inventory_laws.specs.inventory_rows.State.{Inv}
use Rattle.inventory_laws.specs.Origins.{new_objects, placed_segments}

-- a segment's frame: the header, which names the object, the segment's number and the length, and the data
unfoldable pub frame : ℕ → ℕ → List ℕ → List ℕ
frame object number bytes = frame_header object number (length bytes) ++ bytes

-- the frame as it was written before, with a header of the first form
unfoldable pub first_frame : ℕ → ℕ → List ℕ → List ℕ
first_frame object number bytes = first_header object number (length bytes) ++ bytes

-- P of a segment's frame, in one of the two forms, at a place of a file; the first has no lengths from 2^32 on
abbrev pub HasFrame : (ℕ → ℕ → List ℕ → Type 0) → ℕ → ℕ → ℕ → ℕ → List ℕ → Type 0
HasFrame P file at object number bytes = P file at (frame object number bytes) ⊎ ((length bytes < 2 ^ 32) × P file at (first_frame object number bytes))

-- Of the segments of a copy, numbered from there on, over which these bytes are spread one after the other: P of each
-- one's file, its place and its frame. P says that a piece stands in a file at a place.
abbrev pub FramesHave : (ℕ → ℕ → List ℕ → Type 0) → ℕ → ℕ → List Segment → List ℕ → Type 0
FramesHave P object number [] bytes = bytes ≡ []
FramesHave P object number (s ∷ segments) bytes =
    (s.len ≤ length bytes) × HasFrame P s.file s.offset object number (take s.len bytes) × FramesHave P object (suc number) segments (drop s.len bytes)

-- Of segments, numbered from there on, over which these bytes are spread: P of each one's file, its place and what was taken of it, its header and the bytes behind it; of segments that
-- have taken nothing yet nothing is said.
abbrev pub TookHave : (ℕ → ℕ → List ℕ → Type 0) → (object number : ℕ) → List Segment → List ℕ → Type 0
TookHave P object number [] bytes = bytes ≡ []
TookHave P object number (s ∷ segments) [] = Unit {0}
TookHave P object number (s ∷ segments) (byte ∷ bytes) =
    P s.file s.offset (frame_header object number s.len ++ take s.len (byte ∷ bytes)) × TookHave P object (suc number) segments (drop s.len (byte ∷ bytes))

-- a version's object has these bytes: as many as its size says, with its digest, and P of the frames of each of its copies
pub record HasVersion (P : ℕ → ℕ → List ℕ → Type 0) (bytes : List ℕ) (version : Version) : Type 0 where
  pub size : length bytes ≡ version.size
  pub digest : version.digest.0 ≡ sha256 bytes
  pub copies : AllByRecursion (λ c. FramesHave P version.object 0 c.segments bytes) version.copies

-- each of some versions has the bytes that `contents` gives its object
abbrev pub HaveAll : (ℕ → ℕ → List ℕ → Type 0) → (ℕ → List ℕ) → List Version → Type 0
HaveAll P contents list = AllByRecursion (λ version. HasVersion P (contents version.object) version) list

-- each version of a database has the bytes that `contents` gives its object
abbrev pub HasAll : (ℕ → ℕ → List ℕ → Type 0) → (ℕ → List ℕ) → Inv → Type 0
HasAll P contents v = HaveAll P contents (versions v)

-- a piece stands in an image, which has the bytes of each file
abbrev pub InImage : (ℕ → List ℕ) → ℕ → ℕ → List ℕ → Type 0
InImage image file at piece = Stands (image file) at piece

-- a piece stands in a store's file, and no stop takes it away
abbrev pub InStore : History → ℕ → ℕ → List ℕ → Type 0
InStore h file at piece = Firm (standing h file) at piece

-- an image of the files holds a database: every copy of every version stands in its frames there
abbrev pub Holds : (ℕ → List ℕ) → (ℕ → List ℕ) → Inv → Type 0
Holds contents image v = HasAll (InImage image) contents v

-- a store in use holds a database, and no stop takes any of it away
abbrev pub IsKept : (ℕ → List ℕ) → History → Inv → Type 0
IsKept contents h v = HasAll (InStore h) contents v

-- What a transaction brings has these contents: each new object has as many bytes as its size says, with its digest, and P of the frames of each copy that is placed.
pub record BringsHave (P : ℕ → ℕ → List ℕ → Type 0) (contents : ℕ → List ℕ) (c : Change) : Type 0 where
  pub objects : AllByRecursion (λ o. (length (contents o.object) ≡ o.size) × (o.digest.0 ≡ sha256 (contents o.object))) (new_objects c)
  pub copies : AllByRecursion (λ e. FramesHave P e.0 0 e.1 (contents e.0)) (placed_segments c)

-- the contents with those of one object more
abbrev pub with_content : ℕ → List ℕ → (ℕ → List ℕ) → ℕ → List ℕ
with_content object bytes contents other = if other == object then bytes else contents other
