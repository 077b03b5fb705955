-- Places in the buffer of a reader of lines.
use Rattle.std.specs.Prelude.{◌≡◌, ◌≢◌, ℕ, ◌+◌, ◌<◌, ◌≤◌, List, length, slice_index, slice_range, Option, Result, Ok, Err}
use Rattle.std.specs.Io.KnownBytes.{Keeps, Consumes, IsAtEnd}
use Rattle.tree_api.specs.declared.streams.Failed.{Failed}

-- The bytes from `from` to `to` are held, those before `scanned` have no LF, and the line given last has its place.
pub record IsSound (buffer : List ℕ) (from scanned to line_from line_to : ℕ) : Type 0 where
  pub size : length buffer ≡ 16384
  pub low : from ≤ scanned
  pub middle : scanned ≤ to
  pub high : to ≤ 16384
  pub plain : (k : ℕ) → from ≤ k → k < scanned → slice_index buffer k ≢ 10
  pub line_low : line_from ≤ line_to
  pub line_high : line_to ≤ 16384

-- A piece of the source stands in the buffer from the place on, none only at the source's end.
abbrev pub TakesBehind : Result ℕ Failed → List ℕ → ℕ → Option (List ℕ) → Option (List ℕ) → Type 0
TakesBehind (Ok count) buffer to before after = Consumes before after (slice_range buffer to (to + count)) × (count ≡ 0 → IsAtEnd after)
TakesBehind (Err failed) buffer to before after = Keeps before after
