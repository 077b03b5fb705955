-- What a line of the script asks.
use Rattle.std.specs.Prelude.{Bool, true, false, if◌then◌else◌, List, ℕ, Result, Ok, Err}
use Rattle.kinds.specs.declared.refusal.Refusal.{Refusal}
use Rattle.kinds.specs.declared.refusal.Refusal.TheVariants.{UnknownWord}
use Rattle.command_words.specs.Comments.{is_comment}
use Rattle.admin_words.specs.Line.{command}
use Rattle.admin_words.specs.declared.command.Command.{Command}
use Rattle.admin_words.specs.declared.command.Command.TheVariants as commands
use Rattle.admin_words.specs.declared.command.FileCommand.{FileCommand}
use Rattle.admin_words.specs.declared.command.FileCommand.TheVariants.{ArchiveFiles, RetrieveFiles}

-- the commands on a client's files that the server does so far
abbrev pub does_file : FileCommand → Bool
does_file (ArchiveFiles a) = false
does_file (RetrieveFiles r) = false
does_file _ = true

-- whether the server does a command so far; every other one is refused like an unknown word
abbrev pub is_done : Command → Bool
is_done (commands.Policy c) = true
is_done (commands.Class c) = true
is_done (commands.Node c) = true
is_done (commands.Pool c) = true
is_done (commands.Volume c) = true
is_done (commands.File c) = does_file c
is_done (commands.Database c) = true
is_done (commands.Block c) = false

-- what a line is: a comment; a line that is refused as it stands; or a command that is to be done
pub data Line : Type 0 where
  comment : Line
  refused : (why : Refusal) → Line
  asks : (command : Command) → Line

-- the line of a command that was read, or was not
abbrev pub read_as : Result Command Refusal → Line
read_as (Ok c) = if is_done c then asks c else refused (UnknownWord 1)
read_as (Err why) = refused why

-- what a line is that stands in a block, or in none
abbrev pub line_in : (in_block : Bool) → List ℕ → Line
line_in in_block line = if is_comment line then comment else read_as (command line in_block)

-- what a line outside blocks is
abbrev pub line_of : List ℕ → Line
line_of line = line_in false line
