-- What is sure of the values of a line that was read as a command.
use Rattle.std.specs.Prelude.{ℕ, ◌+◌, Bool, List, length, IfOk, IsTrue}
use Rattle.command_words.specs.Fit.{PlacesFit, KeywordsFit, SidesApart}
use Rattle.command_words.specs.Rows.{Given, is_complete, row_values}
use Rattle.command_words.specs.Words.{Word, words}
use Rattle.admin_words.specs.Line.{row_for}
use Rattle.admin_words.specs.Rows.{Row, verbs}

-- what was given for a row: each value is one of its kind, what must be there was given, and of the sides of a row all of one
-- where one must be, and nothing of two
pub record IsFit (r : Row) (given : List Given × List Given) : Type 0 where
  pub places : PlacesFit r.places given.0
  pub keywords : KeywordsFit r.slots given.1
  pub complete : IsTrue (is_complete r.slots given.1 0 r.slots)
  pub apart : SidesApart r.slots given.1

-- what the words behind a command's own give for its row fits it
abbrev pub IsRead : ℕ → Row × List Word → Type 0
IsRead end r = IfOk (row_values r.0.places r.0.slots end r.1) (λ given. IsFit r.0 given)

-- what a line gives for the row that it names fits it
abbrev pub LineIsRead : Bool → List ℕ → Type 0
LineIsRead in_block line =
    IfOk (row_for (length line + 1) (verbs in_block) (words line)) (λ r. IsRead (length line + 1) r)
