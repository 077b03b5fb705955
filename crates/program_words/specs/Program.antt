-- The program's command, as the kit's parser of command lines takes it.
use Rattle.std.specs.Prelude.{◌≡◌, ◌⊎◌, ◌==◌, ℕ, Bool, not, true, false, codes, List, [], ◌∷◌, Option, Some, None, unwrap_or}
use Rattle.std.specs.List.{list_all}
use Rattle.clap.specs.Words.{App, Row, Rule, Text, new_app, new_rule, subcommand_of, with_rule, with_subcommand}
use Rattle.clap.specs.Simple.{new_shape}
use Rattle.program_words.specs.Words.{all_of, day_of, file_of, files_of}
use Rattle.clap.specs.declared.builder.action.ArgAction.TheVariants.{Append}

-- a word that has to be there
abbrev pub wanted_word : Text → Rule
wanted_word name = record (new_rule name) { required = true }

-- the files that are passed over
abbrev pub further_words : Rule
further_words = record (new_rule (codes "FILES")) { action = Some Append }

-- `restoredb FILE DAY` and any number of files
abbrev pub restoring : App
restoring = with_rule (with_rule (with_rule (new_app (codes "restoredb")) (wanted_word (codes "FILE"))) (wanted_word (codes "DAY"))) further_words

-- no word is the program's name, and none asks for help
abbrev pub bare : App
bare = record { top = record (new_shape (codes "tsm")) { no_binary_name = true; disable_help_flag = true; disable_help_subcommand = true; subcommand_required = true }; subs = [] }

-- `format`, `run`, `fresh` and `restoredb`
abbrev pub program : App
program = with_subcommand (with_subcommand (with_subcommand (with_subcommand bare (new_shape (codes "format"))) (new_shape (codes "run"))) (new_shape (codes "fresh"))) restoring.top

-- the word isn't empty, and begins with no hyphen, which is 45
abbrev pub is_plain : Text → Bool
is_plain [] = false
is_plain (x ∷ xs) = not (x == 45)

-- the words have the shape of a command
abbrev pub IsShaped : List Text → Type 0
IsShaped words = (words ≡ codes "format" ∷ []) ⊎ (words ≡ codes "run" ∷ []) ⊎ (words ≡ codes "fresh" ∷ [])
    ⊎ ((file : Text) × (day : Text) × (files : List Text) × (words ≡ codes "restoredb" ∷ file ∷ day ∷ files))

-- the words are a command's, and the parser hands on this name and these values
pub record IsGiven (words : List Text) (name : Text) (rows : List Row) : Type 0 where
  pub plain : list_all is_plain words ≡ true
  pub shaped : IsShaped words
  pub found : subcommand_of program words ≡ Some (name, rows)

-- the words are a command's, and the parser met this one
pub record IsTaken (words : List Text) (met : Option (Text × List Row)) : Type 0 where
  pub plain : list_all is_plain words ≡ true
  pub shaped : IsShaped words
  pub found : met ≡ subcommand_of program words

-- what the values of FILE, DAY and FILES ask
abbrev pub given : Option Text → Option Text → Option (List Text) → Option (ℕ × ℕ × List ℕ)
given None day files = None
given (Some file) None files = None
given (Some file) (Some day) files = all_of (file_of file) (day_of day) (files_of (unwrap_or files []))
