-- What a line of a script comes to where one actor has the machine alone.
use Rattle.std.specs.Prelude.{◌≡◌, ◌⊎◌, ℕ, ◌+◌, ◌^◌, ◌<◌, ◌≤◌, max, true, List, [], length, Option, None, Some, Result, Ok, Err}
use Rattle.kinds.specs.declared.refusal.Refusal.{Refusal}
use Rattle.entries.specs.declared.entry.Entry.{Entry}
use Rattle.script_loop.specs.Reply.{Answer}
use Rattle.script_loop.specs.declared.ends.Halt.{Halt}
use Rattle.script_loop.specs.declared.ends.Halt.TheVariants as halt
use Rattle.machine.specs.Machine.{Places}
use Rattle.machine.specs.State.{Machine}
use Rattle.command_steps.specs.Answering.{long_log}
use Rattle.command_steps.specs.Answers.{Ends, nothing, refusal}
use Rattle.command_steps.specs.Behind.{Behind, behind, no_more}
use Rattle.command_steps.specs.Clients.{Client, IsKept}
use Rattle.command_steps.specs.Lines.{Line, asks, comment, refused}
use Rattle.command_steps.specs.declared.outcome.Outcome.{Outcome}
use Rattle.line_results.specs.Commands.{Comes}
use Rattle.line_results.specs.Resting.{Adds, IsAtRest, IsLate, LogEnds, Onward, RoseFrom, SameBytes, SameImage, has_broken}

-- Behind a line a checkpoint is made where the log is long, by which the newest image has the next generation and its log is empty; none is made where it is short, and none can be where the
-- moment is all but the last, or the newest image of the last generation.
pub record Follows (old new : Machine) : Type 0 where
  pub bytes : SameBytes old new
  pub added : Adds [] old new
  pub image : ((long_log ≤ old.core.log_length) × (new.core.generation ≡ old.core.generation + 1) × (new.core.log_length ≡ 0))
      ⊎ (((old.core.log_length < long_log) ⊎ (IsLate new ⊎ (2 ^ 62 ≤ old.core.generation + 1))) × SameImage old new × (new.core.log_length ≡ old.core.log_length))

-- What line n is answered by, why it is refused, and which transactions it adds, oldest first.
abbrev pub Says : (trusted : Type 0) → Places → Client → (n : ℕ) → Line → (old : Machine) → Answer → (why : Option Refusal) → (added : List Entry) → (new : Machine) → Type 0
Says trusted places k n comment old answer why added new = IsKept k × (answer ≡ nothing) × (why ≡ None) × (added ≡ []) × (new ≡ old)
Says trusted places k n (refused given) old answer why added new = IsKept k × (answer ≡ refusal n given) × (why ≡ Some given) × (added ≡ []) × (new ≡ old)
Says trusted places k n (asks c) old answer why added new = (said : Result Outcome Refusal) × Comes trusted places k c old new said added × Ends n said (Ok (answer, why))

-- A line may be answered so. Behind it the machine is at rest again: each transaction is durable, and nothing is in progress.
pub record Replies (trusted : Type 0) (places : Places) (k : Client) (n : ℕ) (line : Line) (old : Machine) (answer : Answer) (why : Option Refusal) (new : Machine) : Type 0 where
  pub added : List Entry
  pub mid : Machine
  pub says : Says trusted places k n line old answer why added mid
  pub adds : Adds added old mid
  pub log : LogEnds added old mid
  pub first : Onward old mid
  pub follows : Follows mid new
  pub behind : Onward mid new
  pub rests : IsAtRest new.core

-- the run ended by the fault of an image or a log whose count rose, where it became full, or for want of memory
abbrev pub EndsBehind : (old new : Machine) → Halt → Type 0
EndsBehind old new (halt.LogFault file) = (file < 4) × RoseFrom old new file
EndsBehind old new halt.RunFull = IsLate new
EndsBehind old new halt.Memory = Unit {0}

-- What follows a line ended the run, for want of memory or where the log was long, so that a checkpoint was to be made: none was, and the objects' bytes, the newest image and its log are what they
-- were behind the line.
pub record EndsFollowing (old new : Machine) (how : Halt) : Type 0 where
  pub onward : Onward old new
  pub bytes : SameBytes old new
  pub image : SameImage old new
  pub log : new.core.log_length ≡ old.core.log_length
  pub cause : EndsBehind old new how
  pub due : (how ≡ halt.Memory) ⊎ (long_log ≤ old.core.log_length)

-- How a line ended the run. Memory was wanted before it was known what the line is, and nothing changed; what it asks ended the run, by its result; or it was answered, and what follows it ended the run.
abbrev pub EndsAt : (trusted : Type 0) → Places → Client → (n : ℕ) → Line → (old : Machine) → Halt → (added : List Entry) → (new : Machine) → Type 0
EndsAt trusted places k n (asks c) old how added new =
    (IsKept k × (how ≡ halt.Memory) × (added ≡ []) × (new ≡ old))
    ⊎ ((said : Result Outcome Refusal) × (mid : Machine) × Comes trusted places k c old mid said added × (((new ≡ mid) × Ends n said (Err how)) ⊎ EndsFollowing mid new how))
EndsAt trusted places k n comment old how added new = IsKept k × (added ≡ []) × EndsFollowing old new how
EndsAt trusted places k n (refused given) old how added new = IsKept k × (added ≡ []) × EndsFollowing old new how

-- how many of a line's transactions may be in doubt behind it where it ended the run: the newest; of a command behind whose work all is forced together all of them
abbrev pub in_doubt : Behind → List Entry → ℕ
in_doubt no_more added = 1
in_doubt b added = max 1 (length added)

abbrev pub doubtful : Line → List Entry → ℕ
doubtful (asks c) added = in_doubt (behind c) added
doubtful line added = 1

-- A line may end the run so, and which transactions it adds. But for those in doubt each transaction is durable. Where the run ended for want of memory, each is, unless it was wanted behind one
-- that was made, or for the answer to a command that a fault or a full run ended. A fault and a full run have their cause.
pub record Halts (trusted : Type 0) (places : Places) (k : Client) (n : ℕ) (line : Line) (old : Machine) (how : Halt) (new : Machine) : Type 0 where
  pub added : List Entry
  pub ends : EndsAt trusted places k n line old how added new
  pub adds : Adds added old new
  pub log : LogEnds added old new
  pub onward : Onward old new
  pub cause : EndsBehind old new how
  pub nearly : length new.core.journal ≤ length new.core.stamps + doubtful line added
  pub durable : how ≡ halt.Memory
      → (length new.core.stamps ≡ length new.core.journal) ⊎ ((added ≡ [] → ⊥) ⊎ ((said : Result Outcome Refusal) × (has_broken said ≡ true) × Ends n said (Err how)))
