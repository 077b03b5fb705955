-- Lines that say nothing.
use Rattle.std.specs.Prelude.{ℕ, Bool, nat_eq, List, codes, ◌&&◌, ◌||◌}
use Rattle.std.specs.List.{list_all, starts_with, ends_with}
use Rattle.command_words.specs.Words.{is_blank}

-- a line that begins with `/*` and ends with `*/`
abbrev pub is_marked : List ℕ → Bool
is_marked line = starts_with nat_eq line (codes "/*") && ends_with nat_eq line (codes "*/")

-- a comment: a line of blanks, or one that is marked so
abbrev pub is_comment : List ℕ → Bool
is_comment line = list_all is_blank line || is_marked line
