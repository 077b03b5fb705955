-- The words of a line, with their columns and their quotes.
use Rattle.std.specs.Prelude.{ℕ, ◌+◌, ◌-◌, Bool, true, false, ◌==◌, ◌||◌, ◌++◌, List, [], ◌∷◌, take, drop, if◌then◌else◌, Option, Some, None}
use Rattle.std.specs.Borrow.{Bor}
use Rattle.command_words.specs.declared.words.Spot.{Spot}
use Rattle.command_words.specs.declared.words.Spot.TheVariants.{Between, Plain, Equals, Bare, Quoted, Closed, Torn}

-- a word of a line: the column of its first byte, counted from 1, or its place in a file; its bytes with their quotes; and
-- whether the quotes are closed and end the word
pub record Word : Type 0 where
  pub column : ℕ
  pub text : List ℕ
  pub sound : Bool

-- a word as the code has it
abbrev pub word_view : ℕ × Bor (List ℕ) × Bool → Word
word_view w = record { column = w.0; text = w.1.now; sound = w.2 }

-- words are separated by spaces and tabs, the bytes 32 and 9
abbrev pub is_blank : ℕ → Bool
is_blank b = b == 32 || b == 9

-- a double quote, in which a value may stand
abbrev pub is_quote : ℕ → Bool
is_quote b = b == 34

-- the sign between a keyword and its value
abbrev pub is_equals : ℕ → Bool
is_equals b = b == 61

-- where a byte stands that is no blank, by where the byte before it stands outside quotes. Quotes count at a word's start and
-- right behind its first equals sign alone
abbrev pub spot_in_word : Spot → ℕ → Spot
spot_in_word Between b = if is_quote b then Quoted else (if is_equals b then Equals else Plain)
spot_in_word Plain b = if is_equals b then Equals else Plain
spot_in_word Equals b = if is_quote b then Quoted else Bare
spot_in_word Bare b = Bare
spot_in_word Quoted b = Quoted
spot_in_word Closed b = Torn
spot_in_word Torn b = Torn

-- where a byte stands, by where the byte before it stands
abbrev pub spot_after : Spot → ℕ → Spot
spot_after Quoted b = if is_quote b then Closed else Quoted
spot_after s b = if is_blank b then Between else spot_in_word s b

-- no word stands there
abbrev pub is_between : Spot → Bool
is_between Between = true
is_between s = false

-- a word may end there: its quotes are closed, and nothing stands behind them
abbrev pub is_sound : Spot → Bool
is_sound Quoted = false
is_sound Torn = false
is_sound s = true

-- the word that ends before byte `at` of a line that begins behind `first` bytes of its file, where one began at `start`
abbrev pub ended : ℕ → List ℕ → Spot → ℕ → ℕ → List Word
ended first line spot start at =
    if is_between spot then [] else record { column = first + start + 1; text = take (at - start) (drop start line); sound = is_sound spot } ∷ []

-- the words that end at byte `at` of the line or behind it, where these bytes are left, and a word began at `start` if the
-- byte before stands in one
abbrev pub words_from : ℕ → List ℕ → Spot → ℕ → ℕ → List ℕ → List Word
words_from first line spot start at [] = ended first line spot start at
words_from first line spot start at (b ∷ bs) =
    if is_between (spot_after spot b)
    then ended first line spot start at ++ words_from first line (spot_after spot b) start (at + 1) bs
    else words_from first line (spot_after spot b) (if is_between spot then at else start) (at + 1) bs

-- the words of a line that begins behind `first` bytes of its file
abbrev pub words_behind : ℕ → List ℕ → List Word
words_behind first line = words_from first line Between 0 0 line

-- the words of a line
abbrev pub words : List ℕ → List Word
words line = words_behind 0 line

-- the column of the first word whose quotes are open, or that goes on behind them
abbrev pub torn_at : List Word → Option ℕ
torn_at [] = None
torn_at (w ∷ ws) = if w.sound then torn_at ws else Some w.column
