-- What a job of a block does: its lines, one after the other.
use Rattle.std.specs.Prelude.{◌≡◌, ◌⊎◌, ℕ, ◌==◌, Bool, true, false, if◌then◌else◌, List, [], ◌∷◌, ◌++◌, Option, None, Some, Result, Ok, Err, IfOk}
use Rattle.kinds.specs.declared.refusal.Refusal.{Refusal}
use Rattle.kinds.specs.declared.refusal.Refusal.TheVariants.{Busy, Syntax}
use Rattle.choosers.specs.declared.rule.Rule.{Rule}
use Rattle.client_trees.specs.Files.{Files}
use Rattle.script_loop.specs.Reply.{Answer}
use Rattle.script_loop.specs.declared.ends.Halt.{Halt}
use Rattle.steps.specs.Calls.{Then}
use Rattle.steps.specs.Events.{Event}
use Rattle.command_steps.specs.Answers.{IsRefused}
use Rattle.command_steps.specs.Clients.{Client, IsKept, Known, all_seen}
use Rattle.command_steps.specs.Jobs.{AnswersInJob}
use Rattle.command_steps.specs.Lines.{line_in}
use Rattle.blocks.specs.declared.block.Fate.{Fate}
use Rattle.blocks.specs.declared.block.Fate.TheVariants.{Beyond, Done}
use Rattle.blocks.specs.Shapes.{Placed}
use Rattle.blocks.specs.Trees.{in_use}
use Rattle.line_jobs.specs.declared.job.Said.{Said}
use Rattle.line_jobs.specs.declared.lent.Lent.{Lent}

-- a line of a job, with the number of the tree that it names, where an earlier job of the block has that tree
pub record JobLine : Type 0 where
  pub line : Placed
  pub in_use : Option ℕ

-- of these lines of a block, which are all or some of them, those of the job at this place
abbrev pub lines_of : (all : List Placed) → (job : ℕ) → List Placed → List JobLine
lines_of all job [] = []
lines_of all job (l ∷ lines) = if l.job == job then record { line = l; in_use = in_use all l } ∷ lines_of all job lines else lines_of all job lines

-- the clients between two states of the trees
abbrev pub between : List Rule → (old new : List Known) → Client
between choice old new = record { choice = choice; old = old; new = new }

-- another actor holds what is wanted
abbrev pub is_held : Option Refusal → Bool
is_held (Some (Busy holder)) = true
is_held why = false

-- A line was answered so, by these steps and by what they did on the tree that it names; or it ended the run so. None is refused for what another actor holds: a job waits for that and tries again, and a wait that is
-- refused ends the run. A line that is one too many is refused.
abbrev pub AnswersFate : Client → Fate → JobLine → List Event → Result (Answer × Option Refusal) Halt → Type 0
AnswersFate k Beyond l events result = IsKept k × (events ≡ []) × IsRefused l.line.number (Syntax 1) result
AnswersFate k (Done tree) l events result = AnswersInJob k l.in_use l.line.number (line_in true l.line.text) events result × IfOk result (λ reply. is_held reply.1 ≡ false)

abbrev pub AnswersOne : Client → JobLine → List Event → Result (Answer × Option Refusal) Halt → Type 0
AnswersOne k l events result = AnswersFate k l.line.fate l events result

-- what is said of a line that was answered so
abbrev pub said_of : JobLine → (Answer × Option Refusal) → Said
said_of l reply = record { job = l.line.job; number = l.line.number; reply = reply.0; why = reply.1 }

-- These lines were answered one after the other, from the one state of the trees to the other, and this is said of them.
abbrev pub AreAnswered : List Rule → List JobLine → (old : List Known) → List Event → List Said → (new : List Known) → Type 0
AreAnswered choice [] old events said new = (events ≡ []) × (said ≡ []) × (new ≡ old)
AreAnswered choice (l ∷ lines) old events said new =
    (reply : Answer × Option Refusal) × (mid : List Known) × (others : List Said) × (said ≡ said_of l reply ∷ others)
    × Then (λ xs. AnswersOne (between choice old mid) l xs (Ok reply)) (λ ys. AreAnswered choice lines mid ys others new) events

-- A line of the block was taken by the job at this place: one of another job is passed over; one of its own is answered, and this is said of it, or it ended the run so, and nothing is said.
abbrev pub Takes : List Rule → (all : List Placed) → (job : ℕ) → Placed → (old : List Known) → List Event → (was now : List Said) → Result (Unit {0}) Halt → (new : List Known) → Type 0
Takes choice all job l old events was now (Ok done) new =
    ((l.job == job ≡ false) × (events ≡ []) × (now ≡ was) × (new ≡ old))
    ⊎ ((l.job == job ≡ true) × (reply : Answer × Option Refusal) × AnswersOne (between choice old new) (record { line = l; in_use = in_use all l }) events (Ok reply)
    × (now ≡ was ++ (said_of (record { line = l; in_use = in_use all l }) reply ∷ [])))
Takes choice all job l old events was now (Err how) new = (l.job == job ≡ true) × AnswersOne (between choice old new) (record { line = l; in_use = in_use all l }) events (Err how) × (now ≡ was)

-- A job did its lines: all were answered; or those before one that ended the run so, of which nothing is said.
abbrev pub DoesLines : List Rule → List JobLine → (old : List Known) → List Event → List Said → (ended : Option Halt) → (new : List Known) → Type 0
DoesLines choice lines old events said None new = AreAnswered choice lines old events said new
DoesLines choice lines old events said (Some how) new =
    (front : List JobLine) × (l : JobLine) × (back : List JobLine) × (mid : List Known) × (lines ≡ front ++ (l ∷ back))
    × Then (λ xs. AreAnswered choice front old xs said mid) (λ ys. AnswersOne (between choice mid new) l ys (Err how)) events

-- A job: the include-exclude list of the clients' files, the lines of its block and its place there, the clients' trees as it has them, what is said of the lines that were answered, and how one of them ended the
-- run, if one did.
pub record Job (T : Type 0) : Type 0 where
  pub choice : List Rule
  pub lines : List Placed
  pub job : ℕ
  pub trees : List (Lent T)
  pub said : List Said
  pub ended : Option Halt

-- A job did its lines, whose trees are known so, by these steps.
abbrev pub Did : {T : Type 0} → (files : Lent T → Option Files) → (faults : Lent T → ℕ) → Job T → List Event → Job T → Type 0
Did files faults old events new =
    (new.choice ≡ old.choice) × (new.lines ≡ old.lines) × (new.job ≡ old.job) × (said : List Said) × (new.said ≡ old.said ++ said)
    × DoesLines old.choice (lines_of old.lines old.job old.lines) (all_seen files faults old.trees) events said new.ended (all_seen files faults new.trees)
