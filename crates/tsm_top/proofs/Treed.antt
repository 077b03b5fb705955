-- No tree changes in a line but the one that it names, and in that a WRITE and an ERASE do what they say.
use Rattle.std.specs.Prelude.{ℕ, List, Option, None, Some, Result, Ok, Err}
use Rattle.kinds.specs.declared.refusal.Refusal.{Refusal}
use Rattle.steps.specs.Events.{Event}
use Rattle.client_files.specs.Restoring.{HasFile}
use Rattle.admin_words.specs.declared.command.Command.{Command}
use Rattle.admin_words.specs.declared.command.Command.TheVariants as commands
use Rattle.admin_words.specs.declared.command.FileCommand.{FileCommand}
use Rattle.admin_words.specs.declared.command.FileCommand.TheVariants.{ArchiveFiles, Erase, Get, Incremental, Put, RestoreFiles, RetrieveFiles, Write}
use Rattle.admin_words.specs.declared.files.FileErase.{FileErase}
use Rattle.admin_words.specs.declared.files.FileWrite.{FileWrite}
use Rattle.script_loop.specs.Reply.{Answer}
use Rattle.script_loop.specs.declared.ends.Halt.{Halt}
use Rattle.block_results.specs.command_steps.Answering.{AnswersLine}
use Rattle.block_results.specs.command_steps.Clients.{Client}
use Rattle.block_results.specs.command_steps.Leaving.{ChangesOnly, TreeHas, tree_named}
use Rattle.block_results.specs.command_steps.Lines.{Line, asks, comment, refused}
use Rattle.block_results.specs.command_steps.Writing.{IsWithout, bytes_of}
use Rattle.tsm_top.specs.Trees.{LeavesFile}

-- what a line does to the trees
pub record ChangeTheirTree : Type 0 where
  pub only : (k : Client) (n : ℕ) (line : Line) (events : List Event) (result : Result (Answer × Option Refusal) Halt) → AnswersLine k n line events result → ChangesOnly (tree_named line) k
  pub written : (k : Client) (n : ℕ) (w : FileWrite) (events : List Event) (answer : Answer) → AnswersLine k n (asks (commands.File (Write w))) events (Ok (answer, None))
      → TreeHas w.tree (HasFile w.path (bytes_of w.contents) w.mtime) k
  pub erased : (k : Client) (n : ℕ) (e : FileErase) (events : List Event) (answer : Answer) → AnswersLine k n (asks (commands.File (Erase e))) events (Ok (answer, None)) → TreeHas e.tree (IsWithout e.path) k

module _ (changes : ChangeTheirTree) (k : Client) (n : ℕ) where
  did_file : (c : FileCommand) (events : List Event) (answer : Answer) → AnswersLine k n (asks (commands.File c)) events (Ok (answer, None)) → LeavesFile (asks (commands.File c)) None k
  did_file (Write w) events answer said = changes.written k n w events answer said
  did_file (Erase e) events answer said = changes.erased k n e events answer said
  did_file (ArchiveFiles a) events answer said = tt
  did_file (Get g) events answer said = tt
  did_file (Incremental i) events answer said = tt
  did_file (Put p) events answer said = tt
  did_file (RestoreFiles r) events answer said = tt
  did_file (RetrieveFiles r) events answer said = tt

  did_command : (c : Command) (events : List Event) (answer : Answer) (why : Option Refusal) → AnswersLine k n (asks c) events (Ok (answer, why)) → LeavesFile (asks c) why k
  did_command (commands.File c) events answer None said = did_file c events answer said
  did_command (commands.File c) events answer (Some e) said = tt
  did_command (commands.Policy c) events answer why said = tt
  did_command (commands.Class c) events answer why said = tt
  did_command (commands.Node c) events answer why said = tt
  did_command (commands.Pool c) events answer why said = tt
  did_command (commands.Volume c) events answer why said = tt
  did_command (commands.Database c) events answer why said = tt
  did_command (commands.Block c) events answer why said = tt

  pub leaves_file : (line : Line) (events : List Event) (answer : Answer) (why : Option Refusal) → AnswersLine k n line events (Ok (answer, why)) → LeavesFile line why k
  leaves_file comment events answer why said = tt
  leaves_file (refused given) events answer why said = tt
  leaves_file (asks c) events answer why said = did_command c events answer why said
