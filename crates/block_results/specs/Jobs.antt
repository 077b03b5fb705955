-- What holds of each answered line of a job, and of one at which the run ended, and of each job of a block.
use Rattle.std.specs.Prelude.{◌≡◌, true, ℕ, ◌+◌, List, [], ◌∷◌, ◌++◌, Option, None}
use Rattle.choosers.specs.declared.rule.Rule.{Rule}
use Rattle.blocks.specs.Shapes.{Placed}
use Rattle.blocks.specs.declared.block.Fate.{Fate}
use Rattle.blocks.specs.declared.block.Fate.TheVariants.{Beyond, Done}
use Rattle.kinds.specs.declared.refusal.Refusal.TheVariants.{Syntax}
use Rattle.script_loop.specs.Reply.{Answer}
use Rattle.script_loop.specs.declared.ends.Halt.{Halt}
use Rattle.steps.specs.Events.{Event}
use Rattle.machine.specs.Fits.{Fits, History, Own as Holding}
use Rattle.machine.specs.Turns.{Turn, events_of}
use Rattle.line_results.specs.command_steps.Answers.{refusal}
use Rattle.line_results.specs.command_steps.Clients.{Client, IsKept, Known}
use Rattle.line_results.specs.command_steps.Lines.{line_in}
use Rattle.line_jobs.specs.Jobs.{JobLine, between, lines_of}
use Rattle.line_jobs.specs.Shares.{Came}
use Rattle.line_jobs.specs.declared.job.Said.{Said}
use Rattle.block_results.specs.Clauses.{Holds}
use Rattle.block_results.specs.Ended.{EndsWith, FateEnded}

-- a line that is one too many is refused; of another one holds what holds of a line of its words
abbrev pub FateHolds : History → (actor : ℕ) → Client → Fate → JobLine → Holding → List Event → Answer → Holding → Type 0
FateHolds w actor k Beyond l old events answer new = IsKept k × (events ≡ []) × (new ≡ old) × (answer ≡ refusal l.line.number (Syntax 1))
FateHolds w actor k (Done tree) l old events answer new = Holds w actor k l.in_use l.line.number (line_in true l.line.text) old events answer new

-- These lines, of which this is said, were answered one after the other, from the one state of the trees on, by these steps, and so each holds. Behind them the job made no step; or the run ended at the next line, which left the trees so, and what holds
-- of it is said in Ended.
abbrev pub AreHeld : History → (actor : ℕ) → List Rule → List JobLine → (trees left : List Known) → Holding → List Event → List Said → (ended : Option Halt) → Type 0
AreHeld w actor choice lines trees left old events [] ended =
    EndsWith ended lines events (λ l. (new : Holding) × Fits w actor old events new × FateEnded w actor (between choice trees left) l.line.fate l old events new)
AreHeld w actor choice [] trees left old events (s ∷ said) ended = ⊥
AreHeld w actor choice (l ∷ lines) trees left old events (s ∷ said) ended =
    (mid : List Known) × (next : Holding) × (xs : List Event) × (ys : List Event) × (events ≡ xs ++ ys)
    × FateHolds w actor (between choice trees mid) l.line.fate l old xs s.reply next × AreHeld w actor choice lines mid left next ys said ended

-- what an actor has that has reached this number, with no ticket and no image in progress
abbrev pub nothing_at : ℕ → Holding
nothing_at reached = record { reached = reached; tickets = []; image = None }

-- Of each job, from the one at this place on, each line that was answered holds, and what is said of one at which the run ended (`FateEnded`). The actors have numbers in the order of the jobs, from `first` on, and each has reached this number, and
-- has nothing, where the block begins.
abbrev pub JobsHold : History → List Rule → (all : List Placed) → (job first reached : ℕ) → List Turn → (trees : List (List Known)) → List Came → Type 0
JobsHold w choice all job first reached turns [] came = Unit {0}
JobsHold w choice all job first reached turns trees [] = Unit {0}
JobsHold w choice all job first reached turns (own ∷ trees) (c ∷ came) =
    AreHeld w (first + job) choice (lines_of all job all) own c.left (nothing_at reached) (events_of (first + job) turns) c.said c.ended
    × JobsHold w choice all (job + 1) first reached turns trees came
