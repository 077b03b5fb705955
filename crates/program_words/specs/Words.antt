-- What the words behind the program's name ask.
use Rattle.std.specs.Prelude.{◌≡◌, ℕ, if◌then◌else◌, List, [], ◌∷◌, codes, Option, None, Some}
use Rattle.std.specs.Str.{bytes_eq}
use Rattle.command_words.specs.Fields.{number_of}
use Rattle.program_words.specs.declared.numbers.Wanted.{Wanted}
use Rattle.program_words.specs.declared.words.Asked.{Asked}
use Rattle.program_words.specs.declared.words.Asked.TheVariants.{Format, Fresh, Restore, Run}

-- the number of a file that a word is: 1 to 10 decimal digits, below 2^32
abbrev pub file_of : List ℕ → Option ℕ
file_of word = number_of 4294967295 (Some word)

-- the day that a word is: 1 to 10 decimal digits, below 2^31
abbrev pub day_of : List ℕ → Option ℕ
day_of word = number_of 2147483647 (Some word)

-- a number in front of others, where there are both
abbrev pub in_front : Option ℕ → Option (List ℕ) → Option (List ℕ)
in_front None numbers = None
in_front (Some number) None = None
in_front (Some number) (Some numbers) = Some (number ∷ numbers)

-- the numbers of files that all of these words are
abbrev pub files_of : List (List ℕ) → Option (List ℕ)
files_of [] = Some []
files_of (word ∷ words) = in_front (file_of word) (files_of words)

-- the three of them, where each is there
abbrev pub all_of : Option ℕ → Option ℕ → Option (List ℕ) → Option (ℕ × ℕ × List ℕ)
all_of None day files = None
all_of (Some file) None files = None
all_of (Some file) (Some day) None = None
all_of (Some file) (Some day) (Some files) = Some (file, day, files)

-- what the words behind the name ask
abbrev pub numbers_of : List (List ℕ) → Option (ℕ × ℕ × List ℕ)
numbers_of [] = None
numbers_of (file ∷ []) = None
numbers_of (file ∷ day ∷ files) = all_of (file_of file) (day_of day) (files_of files)

-- the file of the backup that is to be restored, the day on which, and the files that are passed over; none where the words ask something else, or nothing
abbrev pub wanted : List (List ℕ) → Option (ℕ × ℕ × List ℕ)
wanted [] = None
wanted (name ∷ numbers) = if bytes_eq name (codes "restoredb") then numbers_of numbers else None

-- the same as it was read
abbrev pub as_wanted : Option Wanted → Option (ℕ × ℕ × List ℕ)
as_wanted None = None
as_wanted (Some w) = Some (w.file, w.day, w.skipped.items)

-- the words ask nothing
pub record AskNothing (words : List (List ℕ)) : Type 0 where
  pub no_format : words ≡ codes "format" ∷ [] → ⊥
  pub no_run : words ≡ codes "run" ∷ [] → ⊥
  pub no_fresh : words ≡ codes "fresh" ∷ [] → ⊥
  pub no_restore : wanted words ≡ None

-- what was read is what the words ask
abbrev pub Reads : Option Asked → List (List ℕ) → Type 0
Reads None words = AskNothing words
Reads (Some Format) words = words ≡ codes "format" ∷ []
Reads (Some Run) words = words ≡ codes "run" ∷ []
Reads (Some Fresh) words = words ≡ codes "fresh" ∷ []
Reads (Some (Restore w)) words = wanted words ≡ Some (w.file, w.day, w.skipped.items)
