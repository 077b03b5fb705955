-- What stands in a file, what a stop can't take away, and what a run of calls did and left alone.
use Rattle.std.specs.Prelude.{◌≡◌, ◌⊎◌, ℕ, ◌+◌, ◌<◌, ◌≤◌, List, [], ◌∷◌, ◌++◌, length, take, drop, Result, OnOk, IfOk}
use Rattle.std.specs.List.{slice_index_or}
use Rattle.store_api.specs.declared.store.Failed.{Failed}
use Rattle.store_api.specs.Disk.{Standing, IsLoose, Leaves, Call, on, idle, History, standing, reads, now, settled, overwritten, ImageAt}
use Rattle.store_api.specs.Told.{ReadsFrom}

-- The piece, which isn't empty, stands there.
pub record Stands (bytes : List ℕ) (at : ℕ) (piece : List ℕ) : Type 0 where
  pub some : 0 < length piece
  pub same : take (length piece) (drop at bytes) ≡ piece

-- Whatever a stop leaves of the file has the piece there: it stands below the stable length, and none of it was
-- written since the last sync.
pub record Firm (file : Standing) (at : ℕ) (piece : List ℕ) : Type 0 where
  pub stands : Stands file.bytes at piece
  pub below : at + length piece ≤ file.stable
  pub clear : (place : ℕ) → at ≤ place → place < at + length piece → ¬ IsLoose file.loose place

-- each of the calls had no effect or is on one of these files
abbrev pub OnlyOn : (ℕ → Type 0) → List Call → Type 0
OnlyOn mine [] = Unit {0}
OnlyOn mine (idle ∷ calls) = OnlyOn mine calls
OnlyOn mine (on file change ∷ calls) = mine file × OnlyOn mine calls

-- the history with more calls, newest first
abbrev pub with_calls : List Call → History → History
with_calls calls h = record { first = h.first; began = h.began; calls = calls ++ h.calls }

-- Calls were added, which change only files of `mine`.
pub record GoesOn (mine : ℕ → Type 0) (old new : History) : Type 0 where
  pub calls : List Call
  pub grew : new ≡ with_calls calls old
  pub only : OnlyOn mine calls

-- each image of each moment from `since` to now has P
abbrev pub EachImage : ℕ → History → ((ℕ → List ℕ) → Type 0) → Type 0
EachImage since h P = (moment : ℕ) (image : ℕ → List ℕ) → since ≤ moment → moment ≤ now h → ImageAt h moment image → P image

-- of the files of `mine` the image has what a stop right now may leave
abbrev pub LeftNow : (ℕ → Type 0) → History → (ℕ → List ℕ) → Type 0
LeftNow mine h image = (file : ℕ) → mine file → Leaves (standing h file) (image file)

-- the piece lies before the range or behind it
abbrev pub IsOutside : ℕ → ℕ → ℕ → List ℕ → Type 0
IsOutside at len place piece = (place + length piece ≤ at) ⊎ (at + len ≤ place)

-- Calls were added that change only this file, and of it no more than this range. What was firm outside the range is
-- firm, and stands in each image of each moment since. What stood outside it, synced or not, still stands.
pub record WroteWithin (file at len : ℕ) (old new : History) : Type 0 where
  pub goes : GoesOn (λ other. other ≡ file) old new
  pub firm : (place : ℕ) (piece : List ℕ) → IsOutside at len place piece → Firm (standing old file) place piece → Firm (standing new file) place piece
  pub since : (place : ℕ) (piece : List ℕ) → IsOutside at len place piece → Firm (standing old file) place piece → EachImage (now old) new (λ image. Stands (image file) place piece)
  pub stands : (place : ℕ) (piece : List ℕ) → IsOutside at len place piece → Stands (reads old file) place piece → Stands (reads new file) place piece

-- One write within a range. On Ok the file reads as with the bytes written there.
pub record Wrote {T : Type 0} (file at : ℕ) (bytes : List ℕ) (result : Result T Failed) (old new : History) : Type 0 where
  pub within : WroteWithin file at (length bytes) old new
  pub gives : OnOk result (reads new file ≡ overwritten (reads old file) at bytes)
  pub there : OnOk result (0 < length bytes → Stands (reads new file) at bytes)

-- One sync. The file reads as before; on Ok all of it is on the disk, and what stood in it is firm.
pub record Synced {T : Type 0} (file : ℕ) (result : Result T Failed) (old new : History) : Type 0 where
  pub within : WroteWithin file 0 0 old new
  pub same : reads new file ≡ reads old file
  pub durable : OnOk result (standing new file ≡ settled (reads old file))
  pub firm : OnOk result ((place : ℕ) (piece : List ℕ) → Stands (reads old file) place piece → Firm (standing new file) place piece)

-- A write and a sync. On Ok the file reads as with the bytes written there, all of it is on the disk, and the bytes are firm.
pub record WroteSynced {T : Type 0} (file at : ℕ) (bytes : List ℕ) (result : Result T Failed) (old new : History) : Type 0 where
  pub within : WroteWithin file at (length bytes) old new
  pub durable : OnOk result (standing new file ≡ settled (overwritten (reads old file) at bytes))
  pub firm : OnOk result (0 < length bytes → Firm (standing new file) at bytes)

-- A read, which changed nothing. A piece of the buffer's length that stands there is what was read.
pub record ReadWithin (file offset : ℕ) (buffer : List ℕ) (result : Result ℕ Failed) (old new : History) : Type 0 where
  pub goes : GoesOn (λ other. ⊥) old new
  pub bytes : IfOk result (λ count. ReadsFrom (reads old file) offset buffer count)
  pub piece : IfOk result (λ count. (piece : List ℕ) → length piece ≡ length buffer → Stands (reads old file) offset piece → (count ≡ length buffer) × (buffer ≡ piece))

-- The bytes are at least `stable` long, and below that length they are as they were, outside the range.
pub record AgreesOutside (at len stable : ℕ) (before after : List ℕ) : Type 0 where
  pub long : stable ≤ length after
  pub same : (place : ℕ) → place < stable → (place < at) ⊎ (at + len ≤ place) → slice_index_or after place 0 ≡ slice_index_or before place 0
