-- What looking at volumes does and finds.
use Rattle.std.specs.Prelude.{◌≡◌, ℕ, ◌+◌, ◌-◌, ◌<◌, ◌≤◌, ◌^◌, Bool, true, List, ◌++◌, length, Result, IfOk}
use Rattle.store_api.specs.Cause.{Rose}
use Rattle.store_api.specs.Disk.{History, reads}
use Rattle.store_api.specs.Runs.{GoesOn}
use Rattle.sha2.specs.Hashers.{Holds256}
use Rattle.sha2.specs.declared.Sha256.{Sha256}
use Rattle.kinds.specs.declared.refusal.OpenRefused.{OpenRefused}
use Rattle.kinds.specs.declared.refusal.OpenRefused.TheVariants as refused
use Rattle.kinds.specs.declared.segment.Segment.{Segment}
use Rattle.volume_frames.specs.Frames.{piece, data_place, data_end, data_of, bytes_of}
use Rattle.copy_checks.specs.Copies.{is_framed, are_framed}

-- Files were looked at, which changed nothing, and this holds of what they read as.
abbrev pub Saw : ((ℕ → List ℕ) → Type 0) → History → History → Type 0
Saw Holds old new = GoesOn (λ file. ⊥) old new × Holds (reads old)

-- Files were looked at, which changed nothing. What was found is right of what they read as.
abbrev pub Looks : {T E : Type 0} → ((ℕ → List ℕ) → T → Type 0) → Result T E → History → History → Type 0
Looks Right result old new = Saw (λ image. IfOk result (Right image)) old new

-- Why files weren't looked at: calls on one failed, the moment is all but the last, or want of memory.
abbrev pub MayStop : (before after : ℕ → ℕ) (moment : ℕ) → OpenRefused → Type 0
MayStop before after moment (refused.ReadFault file) = Rose (before file) (after file)
MayStop before after moment refused.NotFormatted = ⊥
MayStop before after moment (refused.Damaged file at) = ⊥
MayStop before after moment refused.RunFull = 2 ^ 62 - 2 ^ 24 ≤ moment
MayStop before after moment refused.Memory = Unit {0}

-- a hasher took more bytes: what it held before, it holds with these behind
abbrev pub Takes : (bytes : List ℕ) → (old new : Sha256) → Type 0
Takes bytes old new = (message : List ℕ) → Holds256 old message → Holds256 new (message ++ bytes)

-- the bytes of a file from a place on, for which there was this room, were taken: all of them where so many are there
abbrev pub TakesPiece : (file : List ℕ) (at room count : ℕ) → (old new : Sha256) → Type 0
TakesPiece file at room count old new = at + room ≤ length file → (count ≡ room) × Takes (piece file at count) old new

-- of a segment's data, of which all is there, so many bytes were taken, behind those that were before
abbrev pub TakesNext : (file : List ℕ) → Segment → (done count : ℕ) → (old new : Sha256) → Type 0
TakesNext file s done count old new = data_end s ≤ length file → (0 < count) × Takes (piece file (data_place s + done) count) old new

-- a segment's data was taken, where all of it is there
abbrev pub TakesData : (file : List ℕ) → Segment → (old new : Sha256) → Bool → Type 0
TakesData file s old new found = data_end s ≤ length file → (found ≡ true) × Takes (data_of file s) old new

-- whether a segment stands in its frame, and then its data was taken
abbrev pub TakesSegment : (file : List ℕ) (object number : ℕ) → Segment → (old new : Sha256) → Bool → Type 0
TakesSegment file object number s old new found = (found ≡ is_framed file object number s) × (found ≡ true → Takes (data_of file s) old new)

-- whether the segments of a copy do, and then their data was taken, one after the other
abbrev pub TakesCopy : (ℕ → List ℕ) → (object number : ℕ) → List Segment → (old new : Sha256) → Bool → Type 0
TakesCopy image object number segments old new found = (found ≡ are_framed image object number segments) × (found ≡ true → Takes (bytes_of image segments) old new)
