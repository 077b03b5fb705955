-- What a line is answered by.
use Rattle.std.specs.Prelude.{ℕ, List}
use Rattle.script_loop.specs.declared.tally.Tally.{Tally}

-- An answer: the printed lines that the line causes, each with its number and LF, and what it counts.
pub record Answer : Type 0 where
  pub text : List ℕ
  pub tally : Tally
