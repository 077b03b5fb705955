-- What a reader of lines holds, and what one call of it gives.
use Rattle.std.specs.Prelude.{◌≡◌, ◌≢◌, ℕ, ◌+◌, ◌^◌, ◌<◌, ◌≤◌, ◌==◌, if◌then◌else◌, List, [], ◌∷◌, ◌++◌, length, take, All, Option, None, Some, IfSome, Result, Ok, Err}
use Rattle.std.specs.Str.Lines.{lines, strip_carriage_return}
use Rattle.std.specs.Io.KnownBytes.{Keeps, Consumes, IsAtEnd}
use Rattle.tree_api.specs.declared.streams.Failed.{Failed}
use Rattle.script_loop.specs.declared.reader.Next.{Next}
use Rattle.script_loop.specs.declared.reader.Next.TheVariants.{Line, End, TooLong}
use Rattle.script_loop.specs.declared.reader.Found.{Found}
use Rattle.script_loop.specs.declared.reader.Found.TheVariants.{Ended, Long, Open}
use Rattle.script_loop.specs.Limit.{excess_from}

-- the first line of a text, which is short, and the text after it
pub record StartsWithLine (before line after : List ℕ) : Type 0 where
  pub first : lines before ≡ line ∷ lines after
  pub short : (n : ℕ) → excess_from n before ≡ (if n == 2 ^ 20 then Some n else excess_from (n + 1) after)

-- The next line was taken from what was to come, where that is told.
abbrev pub TakesLine : Option (List ℕ) → Option (List ℕ) → List ℕ → Type 0
TakesLine None after line = Unit {0}
TakesLine (Some before) None line = ⊥
TakesLine (Some before) (Some after) line = StartsWithLine before line after

-- whatever number the next line has, it is too long
abbrev pub IsTooLong : Option (List ℕ) → Type 0
IsTooLong before = IfSome before (λ text. (n : ℕ) → excess_from n text ≡ Some n)

-- What a call of the reader gave, where `before` was to come and `after` is to come now.
abbrev pub Gives : Result Next Failed → Option (List ℕ) → Option (List ℕ) → List ℕ → Type 0
Gives (Ok Line) before after line = TakesLine before after line
Gives (Ok End) before after line = IsAtEnd before
Gives (Ok TooLong) before after line = IsTooLong before
Gives (Err failed) before after line = Keeps before after

-- at the end the source has nothing left
abbrev pub EndsAt : Result Next Failed → Option (List ℕ) → Type 0
EndsAt (Ok Line) left = Unit {0}
EndsAt (Ok End) left = IsAtEnd left
EndsAt (Ok TooLong) left = Unit {0}
EndsAt (Err failed) left = Unit {0}

-- What a reader of lines has: the bytes that it took from its source and didn't give yet, the line that it gave last, and
-- the room for further bytes behind those that it holds.
pub record Held : Type 0 where
  pub held : List ℕ
  pub line : List ℕ
  pub room : ℕ

-- no byte is LF
abbrev pub IsPlain : List ℕ → Type 0
IsPlain bytes = All (λ b. b ≢ 10) bytes

-- What stands at the front of the bytes that are held: a short line with its LF, which is taken; the 4,096 bytes of a line
-- that is too long; or less than that, with no LF.
abbrev pub Finds : Found → List ℕ → List ℕ → List ℕ → Type 0
Finds Ended before after line = (part : List ℕ) × IsPlain part × (length part < 4096) × (before ≡ part ++ 10 ∷ after) × (line ≡ strip_carriage_return part)
Finds Long before after line = (after ≡ before) × (4096 ≤ length before) × IsPlain (take 4096 before)
Finds Open before after line = (after ≡ before) × (length before < 4096) × IsPlain before

-- A piece of the source came behind the bytes that are held, none only at the source's end.
abbrev pub Fills : Result ℕ Failed → List ℕ → List ℕ → Option (List ℕ) → Option (List ℕ) → Type 0
Fills (Ok count) before after left_before left_after = (piece : List ℕ) × (length piece ≡ count) × (after ≡ before ++ piece) × Consumes left_before left_after piece × (count ≡ 0 → IsAtEnd left_after)
Fills (Err failed) before after left_before left_after = (after ≡ before) × Keeps left_before left_after

-- What is held at the source's end is the last line, where it isn't empty.
abbrev pub GivesRest : Next → List ℕ → List ℕ → List ℕ → Type 0
GivesRest Line before after line = (0 < length before) × (line ≡ before) × (after ≡ [])
GivesRest End before after line = before ≡ []
GivesRest TooLong before after line = ⊥
