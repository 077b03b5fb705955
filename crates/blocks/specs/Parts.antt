-- What a line is to a block.
use Rattle.std.specs.Prelude.{ℕ, Bool, true, false, List, Option, None, Some, Result, Ok, Err}
use Rattle.kinds.specs.declared.refusal.Refusal.{Refusal}
use Rattle.admin_words.specs.Line.{command}
use Rattle.admin_words.specs.declared.command.Command.{Command}
use Rattle.admin_words.specs.declared.command.Command.TheVariants as commands
use Rattle.admin_words.specs.declared.command.FileCommand.{FileCommand}
use Rattle.admin_words.specs.declared.command.FileCommand.TheVariants.{ArchiveFiles, Erase, Get, Incremental, Put, RestoreFiles, RetrieveFiles, Write}
use Rattle.admin_words.specs.declared.table.BlockForm.{BlockForm}
use Rattle.admin_words.specs.declared.table.BlockForm.TheVariants as forms
use Rattle.blocks.specs.declared.part.Part.{Part}
use Rattle.blocks.specs.declared.part.Part.TheVariants.{And, End, Other}

-- the number of the tree that a command of files names
abbrev pub tree_of : FileCommand → Option ℕ
tree_of (ArchiveFiles c) = Some c.tree
tree_of (Erase c) = Some c.tree
tree_of (Get c) = None
tree_of (Incremental c) = Some c.tree
tree_of (Put c) = None
tree_of (RestoreFiles c) = Some c.tree
tree_of (RetrieveFiles c) = Some c.tree
tree_of (Write c) = Some c.tree

-- what a line is to a block that is read as this
abbrev pub part_of : Result Command Refusal → Part
part_of (Ok (commands.Block forms.And)) = And
part_of (Ok (commands.Block forms.End)) = End
part_of (Ok (commands.File c)) = Other (tree_of c)
part_of _ = Other None

-- what a line is to a block in which it stands
abbrev pub part : List ℕ → Part
part line = part_of (command line true)

abbrev pub is_parallel : Result Command Refusal → Bool
is_parallel (Ok (commands.Block forms.Parallel)) = true
is_parallel _ = false

-- a line that stands in no block begins one
abbrev pub begins : List ℕ → Bool
begins line = is_parallel (command line false)
