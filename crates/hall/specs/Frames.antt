-- How bytes come into the frames of segments, and how these are made firm.
use Rattle.std.specs.Prelude.{◌≡◌, ℕ, ◌+◌, ◌<◌, true, List, [], ◌∷◌, ◌++◌, map, length, take, Option, IfSome, Result, OnOk}
use Rattle.std.specs.List.{AllByRecursion}
use Rattle.kinds.specs.declared.segment.Segment.{Segment}
use Rattle.store_api.specs.Disk.{History, reads, settled, standing}
use Rattle.store_api.specs.Runs.{Stands, WroteWithin}
use Rattle.inventory_rows.specs.State.{Inv}
use Rattle.inventory_rules.specs.Segments.{are_all_clear}
use Rattle.volume_frames.specs.Frames.{bytes_len}
use Rattle.contents.specs.Contents.{InImage, TookHave}
use Rattle.contents.specs.Reading.{filled}
use Rattle.space.specs.declared.places.Placed.{Placed}

-- ---- segments

-- the segments of places
abbrev pub segments_of : List Placed → List Segment
segments_of places = map (λ p. p.segment) places

-- each has room for a byte
abbrev pub AreSome : List Segment → Type 0
AreSome segments = AllByRecursion (λ s. 0 < s.len) segments

-- calls were made within the frame of each of these segments, one after the other; or none was
abbrev pub WroteEach : List Segment → History → History → Type 0
WroteEach [] old new = new ≡ old
WroteEach (s ∷ segments) old new = (mid : History) × WroteWithin s.file s.offset (32 + s.len) old mid × WroteEach segments mid new

-- calls were made within the frames of the first of these segments alone
abbrev pub WroteIn : List Segment → History → History → Type 0
WroteIn segments old new = (count : ℕ) × WroteEach (take count segments) old new

-- what a ticket took stands in its segments
abbrev pub Took : (object : ℕ) → List Segment → List ℕ → History → Type 0
Took object segments bytes h = TookHave (InImage (reads h)) object 0 segments bytes

-- ---- writing

-- Bytes were written behind so many bytes of a segment's data.
pub record WroteData {T E : Type 0} (s : Segment) (from : ℕ) (part : List ℕ) (result : Result T E) (old new : History) : Type 0 where
  pub within : WroteWithin s.file s.offset (32 + s.len) old new
  pub behind : OnOk result (WroteWithin s.file (s.offset + 32 + from) (length part) old new)
  pub there : OnOk result (0 < length part → Stands (reads new s.file) (s.offset + 32 + from) part)

-- where the segments in front are full, and this one has so many bytes, it takes these behind them
abbrev pub TakesPart : (object number : ℕ) → Segment → (from : ℕ) → List ℕ → History → History → Type 0
TakesPart object number s from part old new =
    (v : Inv) (front back : List Segment) (taken : List ℕ) → are_all_clear v (front ++ s ∷ back) ≡ true → AreSome front → length front ≡ number → length taken ≡ bytes_len front + from
    → Took object (front ++ s ∷ back) taken old → Took object (front ++ s ∷ back) (taken ++ part) new

-- Bytes came into a segment's frame, whose header is written with the first of them.
pub record WrotePart {T E : Type 0} (object number : ℕ) (s : Segment) (from : ℕ) (part : List ℕ) (result : Result T E) (old new : History) : Type 0 where
  pub within : WroteWithin s.file s.offset (32 + s.len) old new
  pub took : OnOk result (TakesPart object number s from part old new)

-- what a segment whose data begins at this byte of the object takes of a piece, which begins at byte `count`
abbrev pub TakesOver : (object number : ℕ) → Segment → (start count : ℕ) → List ℕ → History → History → Type 0
TakesOver object number s start count bytes old new =
    (v : Inv) (front back : List Segment) (taken : List ℕ) → are_all_clear v (front ++ s ∷ back) ≡ true → AreSome front → length front ≡ number → bytes_len front ≡ start → length taken ≡ count
    → Took object (front ++ s ∷ back) (taken ++ take (filled count (length bytes) start) bytes) old
    → Took object (front ++ s ∷ back) (taken ++ take (filled count (length bytes) (start + s.len)) bytes) new

-- That part of the piece came into the segment's frame.
pub record WroteOver {T E : Type 0} (object number : ℕ) (s : Segment) (start count : ℕ) (bytes : List ℕ) (result : Result T E) (old new : History) : Type 0 where
  pub within : WroteWithin s.file s.offset (32 + s.len) old new
  pub took : OnOk result (TakesOver object number s start count bytes old new)

-- Bytes were written behind the `count` that stand in these segments. Whatever came of it, nothing but these segments' frames was written to.
pub record WroteBehind {T E : Type 0} (object count : ℕ) (segments : List Segment) (bytes : List ℕ) (result : Result T E) (old new : History) : Type 0 where
  pub wrote : WroteIn segments old new
  pub took : OnOk result ((v : Inv) (taken : List ℕ) → are_all_clear v segments ≡ true → AreSome segments → length taken ≡ count → Took object segments taken old
      → Took object segments (taken ++ bytes) new)

-- ---- making firm

-- all of a file is on the disk
abbrev pub IsSettled : History → ℕ → Type 0
IsSettled h file = standing h file ≡ settled (reads h file)

-- A file was synced, unless it is the one that was synced last.
pub record SyncedOnce {T E : Type 0} (last : Option ℕ) (file : ℕ) (result : Result T E) (old new : History) : Type 0 where
  pub within : WroteWithin file 0 0 old new
  pub same : reads new file ≡ reads old file
  pub firm : OnOk result (IfSome last (IsSettled old) → IsSettled new file)

-- The files of these segments were synced, and read as before.
pub record SyncedAll {T E : Type 0} (segments : List Segment) (result : Result T E) (old new : History) : Type 0 where
  pub wrote : WroteIn segments old new
  pub same : (file : ℕ) → reads new file ≡ reads old file
  pub firm : OnOk result (AllByRecursion (λ s. IsSettled new s.file) segments)
