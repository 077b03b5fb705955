-- How the clients' trees are shared out among the jobs of a block, and what comes of its lines.
use Rattle.std.specs.Prelude.{ℕ, zero, suc, ◌+◌, ◌==◌, Bool, false, if◌then◌else◌, List, [], ◌∷◌, ◌++◌, replicate, Option, None, Some}
use Rattle.choosers.specs.declared.rule.Rule.{Rule}
use Rattle.script_loop.specs.Reply.{Answer}
use Rattle.script_loop.specs.Tally.{added}
use Rattle.script_loop.specs.declared.ends.Halt.{Halt}
use Rattle.script_loop.specs.declared.ends.Halt.TheVariants.{LogFault, Memory, RunFull}
use Rattle.machine.specs.Turns.{Turn, events_of}
use Rattle.command_steps.specs.Clients.{Known}
use Rattle.blocks.specs.Shapes.{Placed}
use Rattle.blocks.specs.Trees.{first_job}
use Rattle.line_jobs.specs.Jobs.{DoesLines, Job, lines_of}
use Rattle.line_jobs.specs.declared.job.Said.{Said}
use Rattle.line_jobs.specs.declared.lent.Lent.{Lent}

-- ---- trees

-- nothing is known of a tree that another job has, and no call on it failed so far
abbrev pub away : Known
away = record { files = None; faults = 0 }

abbrev pub is_job : (job : ℕ) → Option ℕ → Bool
is_job job None = false
is_job job (Some first) = first == job

-- the job at this place has the tree with this number: it is the first of the block to name it
abbrev pub has : (all : List Placed) → (job number : ℕ) → Bool
has all job number = is_job job (first_job number all)

-- Of two lists of trees, from the one with this number on: where the job has the tree the other list's, and else the first one's.
abbrev pub exchanged : {X : Type 0} → (all : List Placed) → (job number : ℕ) → (own other : List X) → List X
exchanged all job number [] other = []
exchanged all job number (x ∷ own) [] = x ∷ own
exchanged all job number (x ∷ own) (y ∷ other) = (if has all job number then y else x) ∷ exchanged all job (number + 1) own other

-- What is left of so many trees when as many jobs, from the one at this place on, one after the other, have taken those that they have: what stands for a tree that is away is in its place.
abbrev pub kept : {X : Type 0} → (absent : X) → (many : ℕ) → (all : List Placed) → (jobs job : ℕ) → List X → List X
kept absent many all zero job trees = trees
kept absent many all (suc jobs) job trees = kept absent many all jobs (job + 1) (exchanged all job 0 trees (replicate many absent))

-- the trees that each of these jobs has then
abbrev pub taken : {X : Type 0} → (absent : X) → (many : ℕ) → (all : List Placed) → (jobs job : ℕ) → List X → List (List X)
taken absent many all zero job trees = []
taken absent many all (suc jobs) job trees =
    exchanged all job 0 (replicate many absent) trees ∷ taken absent many all jobs (job + 1) (exchanged all job 0 trees (replicate many absent))

-- what the trees are when the jobs, from the one at this place on, one after the other, have given back those that they have
abbrev pub given_back : {X : Type 0} → (all : List Placed) → (job : ℕ) → (left : List (List X)) → List X → List X
given_back all job [] trees = trees
given_back all job (own ∷ left) trees = given_back all (job + 1) left (exchanged all job 0 trees own)

-- ---- what came of each job

-- What is said of a job's lines that were answered, how one of them ended the run, if one did, and how the job left the trees that it has.
pub record Came : Type 0 where
  pub said : List Said
  pub ended : Option Halt
  pub left : List Known

-- Each job, from the one at this place on, did its lines over the trees that it has, by the steps of its actor. The actors have numbers in the order of the jobs, from `first` on.
abbrev pub AreDone : List Rule → (all : List Placed) → (job first : ℕ) → List Turn → (trees : List (List Known)) → List Came → Type 0
AreDone choice all job first turns [] [] = Unit {0}
AreDone choice all job first turns (own ∷ trees) (c ∷ came) =
    DoesLines choice (lines_of all job all) own (events_of (first + job) turns) c.said c.ended c.left × AreDone choice all (job + 1) first turns trees came
AreDone choice all job first turns _ _ = ⊥

-- the jobs of a block at its beginning, from the one at this place on, where they have these trees
abbrev pub begun_jobs : {T : Type 0} → List Rule → (all : List Placed) → (job : ℕ) → List (List (Lent T)) → List (Job T)
begun_jobs choice all job [] = []
begun_jobs choice all job (own ∷ trees) = record { choice = choice; lines = all; job = job; trees = own; said = []; ended = None } ∷ begun_jobs choice all (job + 1) trees

-- ---- what is answered

-- what is said of all lines, the first job's first
abbrev pub all_said : List (List Said) → List Said
all_said [] = []
all_said (own ∷ said) = own ++ all_said said

-- to an answer the printed lines of these are added, one after the other, and what they count
abbrev pub with_said : Answer → List Said → Answer
with_said a [] = a
with_said a (s ∷ said) = with_said (record { text = a.text ++ s.reply.text; tally = added a.tally s.reply.tally }) said

-- ---- how a block ends the run

-- the weightier of two ways in which jobs ended the run: a fault of a log or an image before a full run, and both before want of memory; of two faults the first job's
abbrev pub weightier : Halt → Halt → Halt
weightier (LogFault file) how = LogFault file
weightier RunFull (LogFault file) = LogFault file
weightier RunFull RunFull = RunFull
weightier RunFull Memory = RunFull
weightier Memory how = how

abbrev pub or_weightier : Option Halt → Option Halt → Option Halt
or_weightier None other = other
or_weightier (Some how) None = Some how
or_weightier (Some how) (Some other) = Some (weightier how other)

-- how the jobs that ended so ended the run, behind what came of those before them
abbrev pub ends_by : Option Halt → List (Option Halt) → Option Halt
ends_by how [] = how
ends_by how (one ∷ ended) = ends_by (or_weightier how one) ended
