-- What a line of a job does, step by step, and how it is answered.
use Rattle.std.specs.Prelude.{◌≡◌, ◌⊎◌, ℕ, ◌^◌, ◌&&◌, nat_lt, Bool, true, false, if◌then◌else◌, List, [], length, Option, None, Some, Result, Ok, Err}
use Rattle.kinds.specs.declared.refusal.By.TheVariants.{Tree}
use Rattle.kinds.specs.declared.refusal.Refusal.{Refusal}
use Rattle.kinds.specs.declared.refusal.Refusal.TheVariants.{InUse, Memory, NotFound}
use Rattle.inventory_answers.specs.declared.reply.Answer as rows
use Rattle.admin_words.specs.declared.command.Command.{Command}
use Rattle.admin_commands.specs.Orders.{needs, work_of}
use Rattle.admin_commands.specs.declared.work.Work.{Work}
use Rattle.script_loop.specs.Reply.{Answer}
use Rattle.script_loop.specs.declared.ends.Halt.{Halt}
use Rattle.script_loop.specs.declared.ends.Halt.TheVariants as halt
use Rattle.sessions.specs.InTurn.{OrMemory}
use Rattle.steps.specs.Events.{Event}
use Rattle.command_steps.specs.Answering.{DoesLine}
use Rattle.command_steps.specs.Answers.{Ends}
use Rattle.command_steps.specs.Clients.{Client, IsKept}
use Rattle.command_steps.specs.Doing.{AsksAll}
use Rattle.command_steps.specs.Lines.{Line, asks, comment, refused}
use Rattle.command_steps.specs.declared.outcome.Outcome.{Outcome}

-- why the tree with this number, which an earlier job of the block has, can't be had: it is in use; or, of so many trees, which have numbers below 2^32, none has that one
abbrev pub withheld : (count number : ℕ) → Refusal
withheld count number = if nat_lt number (2 ^ 32) && nat_lt number count then InUse (Tree number) else NotFound

-- why a command is refused whose tree is withheld: what refuses it before its work comes first
abbrev pub refused_for : (count number : ℕ) → Result Work Refusal → Refusal
refused_for count number (Err why) = why
refused_for count number (Ok work) = withheld count number

-- A command whose tree, the one with this number, is withheld asks its look-ups, and is refused: by one of them, by what their answers say of its words, or since it can't have the tree. Or memory was wanted.
abbrev pub Withholds : Client → (number : ℕ) → Command → List Event → Result Outcome Refusal → Type 0
Withholds k number c events result =
    (e : Refusal) × IsKept k × (result ≡ Err e)
    × (OrMemory (AsksAll (needs c)) events (Err e)
    ⊎ ((answers : List rows.Answer) × OrMemory (AsksAll (needs c)) events (Ok answers) × ((e ≡ Memory) ⊎ (e ≡ refused_for (length k.old) number (work_of c answers)))))

-- What a line of a job is is done and answered, or ends the run. Where a tree is given, the line names it and an earlier job of the block has it.
abbrev pub DoesInJob : Client → (in_use : Option ℕ) → (n : ℕ) → Line → List Event → Result (Answer × Option Refusal) Halt → Type 0
DoesInJob k (Some number) n (asks c) events result = (said : Result Outcome Refusal) × Withholds k number c events said × Ends n said result
DoesInJob k (Some number) n comment events result = DoesLine k n comment events result
DoesInJob k (Some number) n (refused why) events result = DoesLine k n (refused why) events result
DoesInJob k None n line events result = DoesLine k n line events result

-- the same, or memory was wanted before it was known what the line is
abbrev pub AnswersInJob : Client → (in_use : Option ℕ) → (n : ℕ) → Line → List Event → Result (Answer × Option Refusal) Halt → Type 0
AnswersInJob k in_use n line events result = DoesInJob k in_use n line events result ⊎ (IsKept k × (events ≡ []) × (result ≡ Err halt.Memory))
