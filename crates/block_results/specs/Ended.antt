-- What holds of the line of a job at which the run ended, by a fault, since it was full, or for want of memory: which transactions it made. It isn't answered. It stands in a history as an answered line does.
use Rattle.std.specs.Prelude.{◌≡◌, ◌⊎◌, ℕ, true, List, [], ◌∷◌, ◌++◌, Option, None, Some, Ok}
use Rattle.std.specs.List.{AllByRecursion}
use Rattle.blocks.specs.declared.block.Fate.{Fate}
use Rattle.blocks.specs.declared.block.Fate.TheVariants.{Beyond, Done}
use Rattle.admin_words.specs.declared.command.Command.{Command}
use Rattle.admin_commands.specs.declared.work.Work.{Work}
use Rattle.script_loop.specs.declared.ends.Halt.{Halt}
use Rattle.steps.specs.Events.{Event}
use Rattle.steps.specs.Receipts.{made}
use Rattle.machine.specs.Fits.{Fits, History, Own as Holding}
use Rattle.line_results.specs.incrementals.Orders.{AreQuestions}
use Rattle.line_results.specs.command_steps.Clients.{Client}
use Rattle.line_results.specs.command_steps.Lines.{Line, asks, comment, line_in, refused}
use Rattle.line_jobs.specs.Jobs.{JobLine}
use Rattle.block_results.specs.Clauses.{orders}
use Rattle.block_results.specs.Standing.{IsEntered, WorkAt}

-- ---- a command

-- What holds of a command whose work had begun. First its look-ups were asked, by which its work is this; and each transaction by a step that was answered is one that it orders, whether it ended in its work or behind it. Of one that a
-- fault left in doubt that isn't said.
pub record HasBegun (w : History) (actor : ℕ) (k : Client) (c : Command) (old : Holding) (events : List Event) (new : Holding) : Type 0 where
  pub looks : List Event
  pub works : List Event
  pub parts : events ≡ looks ++ works
  pub asked : Holding
  pub looked : Fits w actor old looks asked
  pub worked : Fits w actor asked works new
  pub work : Work
  pub found : WorkAt w old.reached asked.reached c (Ok work)
  pub journal : AllByRecursion (IsEntered w actor (orders w asked.reached new.reached k c (Ok work))) (made events)

-- the command did nothing but ask, or its work had begun
abbrev pub CommandEnded : History → (actor : ℕ) → Client → Command → Holding → List Event → Holding → Type 0
CommandEnded w actor k c old events new = AreQuestions events ⊎ HasBegun w actor k c old events new

-- a command whose tree an earlier job of the block has does nothing but ask
abbrev pub AsksEnded : Option ℕ → History → (actor : ℕ) → Client → Command → Holding → List Event → Holding → Type 0
AsksEnded (Some number) w actor k c old events new = AreQuestions events
AsksEnded None w actor k c old events new = CommandEnded w actor k c old events new

-- ---- a line

-- a comment and a line that is refused as it stands make no step
abbrev pub LineEnded : Option ℕ → History → (actor : ℕ) → Client → Line → Holding → List Event → Holding → Type 0
LineEnded in_use w actor k comment old events new = events ≡ []
LineEnded in_use w actor k (refused why) old events new = events ≡ []
LineEnded in_use w actor k (asks c) old events new = AsksEnded in_use w actor k c old events new

-- a line that is one too many makes none either
abbrev pub FateEnded : History → (actor : ℕ) → Client → Fate → JobLine → Holding → List Event → Holding → Type 0
FateEnded w actor k Beyond l old events new = events ≡ []
FateEnded w actor k (Done tree) l old events new = LineEnded l.in_use w actor k (line_in true l.line.text) old events new

-- ---- behind the answered lines of a job

-- of the next of these lines this holds
abbrev pub IsNext : List JobLine → (JobLine → Type 0) → Type 0
IsNext [] Of = ⊥
IsNext (l ∷ lines) Of = Of l

-- Of the steps of a job behind its answered lines: there are none; or the run ended at the next of these lines, which made them, and of which this holds.
abbrev pub EndsWith : (ended : Option Halt) → List JobLine → List Event → (JobLine → Type 0) → Type 0
EndsWith None lines events Of = events ≡ []
EndsWith (Some how) lines events Of = IsNext lines Of
