-- What a block does to a session: its jobs are run side by side, and what they said is its answer.
use Rattle.std.specs.Prelude.{◌≡◌, ◌⊎◌, ℕ, ◌+◌, ◌-◌, ◌^◌, ◌<◌, ◌≤◌, true, false, Option, None, Some, List, [], ◌++◌, Result, Ok, Err}
use Rattle.store_api.specs.Cause.{Rose}
use Rattle.store_api.specs.Disk.{History}
use Rattle.client_trees.specs.Files.{Files}
use Rattle.script_loop.specs.Reply.{Answer}
use Rattle.script_loop.specs.declared.ends.Halt.{Halt}
use Rattle.script_loop.specs.declared.ends.Halt.TheVariants.{LogFault, Memory, RunFull}
use Rattle.hall.specs.Rest.{Rests}
use Rattle.block_results.specs.command_steps.Answers.{nothing}
use Rattle.block_results.specs.command_steps.Clients.{all_seen}
use Rattle.blocks.specs.Parts.{begins, part}
use Rattle.blocks.specs.Shapes.{Gathered, begun, is_end, with_line}
use Rattle.block_results.specs.line_jobs.Ran.{EndsLines, RanLines}
use Rattle.block_results.specs.line_jobs.Shares.{with_said}
use Rattle.block_results.specs.line_jobs.declared.job.Said.{Said}
use Rattle.tsm_top.specs.Notes.{notes_of}
use Rattle.tsm_top.specs.Sessions.{HaltsLine, ServesLine, number_of}
use Rattle.tsm_top.specs.declared.server.Taken.{Taken}
use Rattle.tsm_top.specs.declared.server.Taken.TheVariants.{Inside, Last, Outside}
use Rattle.tsm_top.specs.declared.session.Session.{Session}

-- A line was taken: outside a block one that begins one opens it; in a block each joins it, up to the one that ends it, which leaves it as it is. Or memory was wanted, and nothing changed.
abbrev pub Took : {E : Type 0} → (n : ℕ) → List ℕ → Result Taken E → (old new : Option Gathered) → Type 0
Took n line (Ok Outside) None new = (begins line ≡ false) × (new ≡ None)
Took n line (Ok Inside) None new = (begins line ≡ true) × (new ≡ Some begun)
Took n line (Ok Last) None new = ⊥
Took n line (Ok Outside) (Some b) new = ⊥
Took n line (Ok Inside) (Some b) new = (is_end (part line) ≡ false) × (new ≡ Some (with_line b n line))
Took n line (Ok Last) (Some b) new = (is_end (part line) ≡ true) × (new ≡ Some b)
Took n line (Err e) old new = new ≡ old

-- The run may be said to have ended so: of a file of the vault the count of faults rose from the one to the other, or the moment is all but the last.
abbrev pub IsCause : (old new : ℕ → ℕ) → (moment : ℕ) → Halt → Type 0
IsCause old new moment (LogFault file) = (file < 4) × Rose (old file) (new file)
IsCause old new moment RunFull = 2 ^ 62 - 2 ^ 24 ≤ moment
IsCause old new moment Memory = Unit {0}

module _ {S T : Type 0} (told : S → Option History) (moment : S → ℕ) (faults : S → ℕ → ℕ) (files : T → Option Files) (tree_faults : T → ℕ) where
  -- The jobs of the block, the first of whose actors has this number, did their lines, of which this is said, and left the session so: what was noted is as it was.
  pub record JobsRan (b : Gathered) (first : ℕ) (old : Session S T) (said : List Said) (mid : Session S T) : Type 0 where
    pub ran : RanLines told moment faults old.binder b.lines (b.job + 1) first old.hall mid.hall (all_seen files tree_faults old.trees.items) said (all_seen files tree_faults mid.trees.items)
    pub binder : mid.binder ≡ old.binder
    pub notes : mid.notes.items ≡ old.notes.items

  -- What was said of a block's lines is the answer, and is noted; and a checkpoint is made where the log is long, as behind a line without words. `before` is the number of the last transaction before the block.
  pub record IsAnswered (mid : Session S T) (said : List Said) (first before n : ℕ) (answer : Answer) (new : Session S T) : Type 0 where
    pub answered : answer ≡ with_said nothing said
    pub behind : Session S T
    pub follow : Answer
    pub follows : ServesLine told moment faults files tree_faults mid n [] follow behind
    pub hall : new.hall ≡ behind.hall
    pub trees : new.trees.items ≡ behind.trees.items
    pub binder : new.binder ≡ behind.binder
    pub notes : new.notes.items ≡ mid.notes.items ++ notes_of first before (number_of mid.hall) said

  -- so it is behind jobs that left the session so, where nothing is in progress
  abbrev pub BlockAnswered : (mid : Session S T) → (said : List Said) → (first before n : ℕ) → Answer → Session S T → Type 0
  BlockAnswered mid said first before n answer new = Rests mid.hall.held × IsAnswered mid said first before n answer new

  -- or the run ended there: something is in progress, which is answered like want of memory, or what is done behind the jobs ended it
  abbrev pub BlockHalted : (mid : Session S T) → (n : ℕ) → Halt → Session S T → Type 0
  BlockHalted mid n how new = ((new ≡ mid) × (how ≡ Memory)) ⊎ (Rests mid.hall.held × HaltsLine told moment faults files tree_faults mid n [] how new)

  -- The block was run, by jobs of so many actors from the one with this number on, and answered so.
  abbrev pub BlockRan : (b : Gathered) → (first n : ℕ) → Session S T → Answer → Session S T → Type 0
  BlockRan b first n old answer new = (mid : Session S T) × (said : List Said) × JobsRan b first old said mid × BlockAnswered mid said first (number_of old.hall) n answer new

  -- The jobs ended the run: so it is said, or it is answered like want of memory where nothing bears that out.
  pub record JobsEnd (b : Gathered) (first : ℕ) (old : Session S T) (how : Halt) (new : Session S T) : Type 0 where
    pub said : Halt
    pub ended : EndsLines told moment faults old.binder b.lines (b.job + 1) first old.hall new.hall (all_seen files tree_faults old.trees.items) said (all_seen files tree_faults new.trees.items)
    pub answered : (how ≡ said) ⊎ (how ≡ Memory)
    pub cause : IsCause (faults old.hall.store) (faults new.hall.store) (moment new.hall.store) how
    pub binder : new.binder ≡ old.binder
    pub notes : new.notes.items ≡ old.notes.items

  -- or what is done behind them did
  abbrev pub BlockEnds : (b : Gathered) → (first n : ℕ) → Session S T → Halt → Session S T → Type 0
  BlockEnds b first n old how new = JobsEnd b first old how new ⊎ ((mid : Session S T) × (said : List Said) × JobsRan b first old said mid × BlockHalted mid n how new)
