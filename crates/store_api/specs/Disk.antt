-- Files on a disk: what they read as, what calls do to them, and what a stop of the machine may leave of them.
use Rattle.std.specs.Prelude.{◌≡◌, ◌⊎◌, ℕ, ◌+◌, ◌-◌, ◌<◌, ◌≤◌, ◌==◌, if◌then◌else◌, min, List, [], ◌∷◌, ◌++◌, length, take, drop, replicate}
use Rattle.std.specs.List.{slice_index_or}

-- One file. `bytes` is what it reads as, `stable` the least length that it had since its last successful sync, and
-- `loose` the ranges that were written since: where each begins, and its length.
pub record Standing : Type 0 where
  pub bytes : List ℕ
  pub stable : ℕ
  pub loose : List (ℕ × ℕ)

-- the place lies in one of the ranges
abbrev pub IsLoose : List (ℕ × ℕ) → ℕ → Type 0
IsLoose [] place = ⊥
IsLoose (range ∷ ranges) place = ((range.0 ≤ place) × (place < range.0 + range.1)) ⊎ IsLoose ranges place

-- A stop may leave these bytes of the file: they agree with what it reads as at each place below the stable length that
-- wasn't written since the last sync. Written places may hold anything, and past the stable length anything may stand.
pub record Leaves (file : Standing) (left : List ℕ) : Type 0 where
  pub long : file.stable ≤ length left
  pub same : (place : ℕ) → place < file.stable → ¬ IsLoose file.loose place → slice_index_or left place 0 ≡ slice_index_or file.bytes place 0

-- What a call does to its file: a write from a place on, over a span, after which the file reads as these bytes there; a cut
-- to a length that was asked for, which left that length or another; or a sync.
pub data Change : Type 0 where
  write : (at span : ℕ) (bytes : List ℕ) → Change
  cut : (asked left : ℕ) → Change
  settle : Change

-- The file's bytes with others written from a place on. Past the old end the bytes between are 0. Writing nothing changes nothing.
abbrev pub overwritten : List ℕ → ℕ → List ℕ → List ℕ
overwritten bytes at [] = bytes
overwritten bytes at (b ∷ piece) = take at bytes ++ replicate (at - length bytes) 0 ++ (b ∷ piece) ++ drop (at + length (b ∷ piece)) bytes

-- a file all of which is on the disk
unfoldable pub settled : List ℕ → Standing
settled bytes = record { bytes = bytes; stable = length bytes; loose = [] }

-- the file after a change
unfoldable pub changed : Change → Standing → Standing
changed (write at span bytes) file = record { bytes = overwritten file.bytes at bytes; stable = file.stable; loose = (at, span) ∷ file.loose }
changed (cut asked left) file = record { bytes = take left file.bytes; stable = min (min asked left) file.stable; loose = file.loose }
changed settle file = settled file.bytes

-- a call that changed a file, or one that only looked or had no effect
pub data Call : Type 0 where
  on : (file : ℕ) (change : Change) → Call
  idle : Call

-- A store's history: what its files had at the start, all of it on the disk; the moment then; and the calls since, newest first.
pub record History : Type 0 where
  pub first : ℕ → List ℕ
  pub began : ℕ
  pub calls : List Call

-- a file after the calls
abbrev pub standing_after : (ℕ → List ℕ) → List Call → ℕ → Standing
standing_after first [] file = settled (first file)
standing_after first (idle ∷ calls) file = standing_after first calls file
standing_after first (on changed_file change ∷ calls) file = if changed_file == file then changed change (standing_after first calls file) else standing_after first calls file

-- the file as it stands now
abbrev pub standing : History → ℕ → Standing
standing h file = standing_after h.first h.calls file

-- what the file reads as
abbrev pub reads : History → ℕ → List ℕ
reads h file = (standing h file).bytes

-- the moment, which each call moves by one
abbrev pub now : History → ℕ
now h = h.began + length h.calls

-- the history with one more call
abbrev pub with_call : Call → History → History
with_call call h = record { first = h.first; began = h.began; calls = call ∷ h.calls }

-- the history as it was at a moment
abbrev pub back : History → ℕ → History
back h moment = record { first = h.first; began = h.began; calls = drop (now h - moment) h.calls }

-- a stop at that moment may leave this image, which has the bytes of each file
abbrev pub ImageAt : History → ℕ → (ℕ → List ℕ) → Type 0
ImageAt h moment image = (file : ℕ) → Leaves (standing (back h moment) file) (image file)
