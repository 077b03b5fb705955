-- What a line leaves in the client's tree that it names.
use Rattle.std.specs.Prelude.{Option, None}
use Rattle.kinds.specs.declared.refusal.Refusal.{Refusal}
use Rattle.client_files.specs.Restoring.{HasFile}
use Rattle.admin_words.specs.declared.command.Command.TheVariants as commands
use Rattle.admin_words.specs.declared.command.FileCommand.{FileCommand}
use Rattle.admin_words.specs.declared.command.FileCommand.TheVariants.{Erase, Write}
use Rattle.block_results.specs.command_steps.Clients.{Client}
use Rattle.block_results.specs.command_steps.Leaving.{TreeHas}
use Rattle.block_results.specs.command_steps.Lines.{Line, asks}
use Rattle.block_results.specs.command_steps.Writing.{IsWithout, bytes_of}

-- Where the tree that it names tells its files: a WRITE left the named file with its bytes and its time, and an ERASE none; all other files of the tree are as they were.
abbrev pub DidInTree : FileCommand → Client → Type 0
DidInTree (Write w) k = TreeHas w.tree (HasFile w.path (bytes_of w.contents) w.mtime) k
DidInTree (Erase e) k = TreeHas e.tree (IsWithout e.path) k
DidInTree c k = Unit {0}

-- the same of a line that was answered OK; of one that was refused nothing
abbrev pub LeavesFile : Line → (why : Option Refusal) → Client → Type 0
LeavesFile (asks (commands.File c)) None k = DidInTree c k
LeavesFile line why k = Unit {0}
