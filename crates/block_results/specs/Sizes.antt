-- How many bytes the versions have that the lines of a block's jobs stored: as many as the client gave.
use Rattle.std.specs.Prelude.{◌≡◌, true, ℕ, ◌+◌, List, [], ◌∷◌, ◌++◌, length, Option, None, Some}
use Rattle.std.specs.List.{AllByRecursion}
use Rattle.choosers.specs.declared.rule.Rule.{Rule}
use Rattle.blocks.specs.Shapes.{Placed}
use Rattle.blocks.specs.declared.block.Fate.{Fate}
use Rattle.blocks.specs.declared.block.Fate.TheVariants.{Beyond, Done}
use Rattle.entries.specs.declared.change.Change.{Change}
use Rattle.admin_words.specs.declared.command.Command.{Command}
use Rattle.admin_words.specs.declared.command.Command.TheVariants as commands
use Rattle.admin_words.specs.declared.command.FileCommand.{FileCommand}
use Rattle.admin_words.specs.declared.command.FileCommand.TheVariants as files
use Rattle.admin_words.specs.declared.files.FilePut.{FilePut}
use Rattle.admin_words.specs.declared.files.IncrementalBackup.{IncrementalBackup}
use Rattle.line_results.specs.incrementals.declared.planning.Begun.{Begun}
use Rattle.script_loop.specs.declared.ends.Halt.{Halt}
use Rattle.steps.specs.Events.{Event}
use Rattle.steps.specs.Receipts.{made}
use Rattle.machine.specs.Fits.{Fits, History, Own as Holding}
use Rattle.machine.specs.Turns.{Turn, events_of}
use Rattle.line_results.specs.command_steps.Clients.{Client, Known, Turns}
use Rattle.line_results.specs.command_steps.Lines.{Line, asks, comment, line_in, refused}
use Rattle.line_jobs.specs.Jobs.{JobLine, between, lines_of}
use Rattle.line_jobs.specs.Shares.{Came}
use Rattle.line_jobs.specs.declared.job.Said.{Said}
use Rattle.line_results.specs.Trees.{IsOrdered, new_versions}
use Rattle.block_results.specs.Ended.{EndsWith}
use Rattle.block_results.specs.Jobs.{nothing_at}
use Rattle.block_results.specs.Standing.{IsEntered}
use Rattle.block_results.specs.Works.{IsPlannedAt}

-- ---- a transaction

-- each version that it brings has as many bytes as the text
abbrev pub HasTextSize : FilePut → Change → Type 0
HasTextSize p c = AllByRecursion (λ item. item.size ≡ length p.text) (new_versions c)

-- It is one that a backup of the tree makes outside blocks too, by a plan that was asked at these numbers: each version that it brings has as many bytes as were listed of its file, and as many as the file has where the tree tells it.
abbrev pub HasListedSizes : History → (since until : ℕ) → Client → IncrementalBackup → Change → Type 0
HasListedSizes w since until k i c =
    (before : Known) × (after : Known) × Turns i.tree before after k × (b : Begun) × IsPlannedAt w since until k.choice i before.files b × IsOrdered b.node i.filespace before.files b.plan c

-- ---- a line

-- Each transaction by which a PUT or a backup of a tree joined the history, and that was answered, has such sizes, whatever the line was answered then, or whether it ended the run.
abbrev pub FileSized : History → (actor : ℕ) → Client → FileCommand → (since until : ℕ) → List Event → Type 0
FileSized w actor k (files.Put p) since until events = AllByRecursion (IsEntered w actor (λ n c. HasTextSize p c)) (made events)
FileSized w actor k (files.Incremental i) since until events = AllByRecursion (IsEntered w actor (λ n c. HasListedSizes w since until k i c)) (made events)
FileSized w actor k c since until events = Unit {0}

abbrev pub CommandSized : History → (actor : ℕ) → Client → Command → (since until : ℕ) → List Event → Type 0
CommandSized w actor k (commands.File c) since until events = FileSized w actor k c since until events
CommandSized w actor k c since until events = Unit {0}

-- a command whose tree an earlier job of the block has makes no transaction
abbrev pub AsksSized : Option ℕ → History → (actor : ℕ) → Client → Command → (since until : ℕ) → List Event → Type 0
AsksSized (Some number) w actor k c since until events = Unit {0}
AsksSized None w actor k c since until events = CommandSized w actor k c since until events

abbrev pub LineSized : Option ℕ → History → (actor : ℕ) → Client → Line → (since until : ℕ) → List Event → Type 0
LineSized in_use w actor k comment since until events = Unit {0}
LineSized in_use w actor k (refused why) since until events = Unit {0}
LineSized in_use w actor k (asks c) since until events = AsksSized in_use w actor k c since until events

-- ---- a job, and all of a block

abbrev pub FateSized : History → (actor : ℕ) → Client → Fate → JobLine → (since until : ℕ) → List Event → Type 0
FateSized w actor k Beyond l since until events = Unit {0}
FateSized w actor k (Done tree) l since until events = LineSized l.in_use w actor k (line_in true l.line.text) since until events

-- These lines, of which this is said, were answered one after the other, from the one state of the trees on, by these steps, and so each has such sizes, and so has the line at which the run ended, where it did.
abbrev pub AreSized : History → (actor : ℕ) → List Rule → List JobLine → (trees left : List Known) → Holding → List Event → List Said → (ended : Option Halt) → Type 0
AreSized w actor choice lines trees left old events [] ended =
    EndsWith ended lines events (λ l. (new : Holding) × Fits w actor old events new × FateSized w actor (between choice trees left) l.line.fate l old.reached new.reached events)
AreSized w actor choice [] trees left old events (s ∷ said) ended = ⊥
AreSized w actor choice (l ∷ lines) trees left old events (s ∷ said) ended =
    (mid : List Known) × (next : Holding) × (xs : List Event) × (ys : List Event) × (events ≡ xs ++ ys) × Fits w actor old xs next
    × FateSized w actor (between choice trees mid) l.line.fate l old.reached next.reached xs × AreSized w actor choice lines mid left next ys said ended

-- So it is of each job, from the one at this place on. The actors have numbers in the order of the jobs, from `first` on, and each has reached this number, and has nothing, where the block begins.
abbrev pub JobsSized : History → List Rule → (all : List Placed) → (job first reached : ℕ) → List Turn → (trees : List (List Known)) → List Came → Type 0
JobsSized w choice all job first reached turns [] came = Unit {0}
JobsSized w choice all job first reached turns trees [] = Unit {0}
JobsSized w choice all job first reached turns (own ∷ trees) (c ∷ came) =
    AreSized w (first + job) choice (lines_of all job all) own c.left (nothing_at reached) (events_of (first + job) turns) c.said c.ended
    × JobsSized w choice all (job + 1) first reached turns trees came
