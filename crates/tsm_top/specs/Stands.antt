-- A script's run with its blocks, as a machine beside the clients' trees: what each line, and the script's end, makes of both.
use Rattle.std.specs.Prelude.{◌≡◌, ◌⊎◌, ℕ, ◌+◌, ◌≤◌, ◌<◌, Bool, true, false, Option, None, Some, List, [], ◌++◌, map}
use Rattle.std.specs.List.{AllByRecursion}
use Rattle.store_api.specs.Disk.{History}
use Rattle.choosers.specs.declared.rule.Rule.{Rule}
use Rattle.entries.specs.declared.entry.Entry.{Entry}
use Rattle.script_loop.specs.Reply.{Answer}
use Rattle.script_loop.specs.declared.ends.Halt.{Halt}
use Rattle.script_loop.specs.declared.ends.Halt.TheVariants.{Memory}
use Rattle.machine.specs.Fits.{History as Run}
use Rattle.machine.specs.State.{Machine, inventory}
use Rattle.machine.specs.Turns.{Turn}
use Rattle.hall.specs.Alone.{Continues}
use Rattle.hall.specs.Placed.{hall_places}
use Rattle.block_results.specs.command_steps.Answers.{nothing}
use Rattle.block_results.specs.command_steps.Clients.{Known}
use Rattle.block_results.specs.line_results.Resting.{Adds, IsAtRest, Onward}
use Rattle.block_results.specs.line_results.Trees.{HaveBytes}
use Rattle.blocks.specs.Parts.{begins, part}
use Rattle.blocks.specs.Shapes.{Gathered, begun, is_end, with_line}
use Rattle.crew.specs.Knowing.{IsWithin}
use Rattle.crew.specs.Ran.{EachFits, Turned}
use Rattle.block_results.specs.line_jobs.Ran.{IsEnding, ending, shared, trees_behind}
use Rattle.block_results.specs.line_jobs.Shares.{AreDone, Came, all_said, with_said}
use Rattle.block_results.specs.line_jobs.declared.job.Said.{Said}
use Rattle.block_results.specs.Jobs.{JobsHold}
use Rattle.block_results.specs.Joining.{AreBySteps}
use Rattle.block_results.specs.Legal.{JobsComplete}
use Rattle.block_results.specs.Refusing.{HaveCauses}
use Rattle.block_results.specs.Room.{JobsUnfailed}
use Rattle.block_results.specs.Sizes.{JobsSized}
use Rattle.tsm_top.specs.InBlock.{IsCause}
use Rattle.tsm_top.specs.Notes.{notes_of, number_in}
use Rattle.tsm_top.specs.Sites.{IsInOrder, IsTimely, RepliesAt, Site, StopsAt, site}

-- What a run has made so far, the block that is open, and how many jobs were run.
pub record Stand : Type 0 where
  pub site : Site
  pub block : Option Gathered
  pub jobs : ℕ

-- where no block was begun yet
abbrev pub standing : Site → Stand
standing site = record { site = site; block = None; jobs = 0 }

-- what is said of the lines of all jobs, the first job's first
abbrev pub said_by : List Came → List Said
said_by came = all_said (map (λ c. c.said) came)

-- the trees as the jobs left them that have them
abbrev pub left_by : Gathered → List Known → List Came → List Known
left_by block trees came = trees_behind block.lines (block.job + 1) trees came

-- a run ends so for a cause that is there: of a file of the vault the count of faults rose, or the moment is all but the last
abbrev pub HasCause : (old new : Machine) → Halt → Type 0
HasCause old new how = IsCause old.counts new.counts new.moment how

-- a transaction of an actor with a number from the one up to the other
abbrev pub IsBy : (least most : ℕ) → Entry → Type 0
IsBy least most e = (least ≤ e.actor) × (e.actor < most)

-- `trusted` says that the store was sound when it was opened, and tells its bytes; `told` is what it tells at the return.
module _ (trusted : Type 0) (choice : List Rule) where
  -- The jobs of a block, the first of whose actors has this number, did what they did: their steps, in one order, are a run of the machine, and nobody else made one; and this came of each of them, over the trees that it
  -- has. Over a trusted store what each actor did fits every history that goes on from behind the block: each of its steps was made on the database of its number, and what joined by it stands there; so each line that was
  -- answered holds there, clause by clause (`Holds` of block_results), at numbers from that of the database before the block on, and what it stored has as many bytes as the client gave (`JobsSized`). Over whatever store each step that was refused has its cause at the state that it met
  -- (`HaveCauses`), a line that is legal at each state that its turns pass isn't refused (`JobsComplete`), and in one that has room no file fails (`JobsUnfailed`). The block's transactions stand behind those that were there, each made by the actor of one of the jobs, and by
  -- a step of its own (`AreBySteps`); and each version that they bring says how many bytes its object has, and their digest (`HaveBytes`). No count fell, no stamp changed, and the database is in order.
  pub record JobsTurned (block : Gathered) (first : ℕ) (old new : Machine) (trees : List Known) (came : List Came) : Type 0 where
    pub turns : List Turn
    pub turned : Turned trusted hall_places turns old new
    pub nobody : AllByRecursion (IsWithin first (first + (block.job + 1))) turns
    pub done : AreDone choice block.lines 0 first turns (shared block.lines (block.job + 1) trees) came
    pub fits : trusted → EachFits turns old new
    pub hold : trusted → (w : Run) → Continues new w → JobsHold w choice block.lines 0 first (inventory old.core).number turns (shared block.lines (block.job + 1) trees) came
    pub sizes : trusted → (w : Run) → Continues new w → JobsSized w choice block.lines 0 first (inventory old.core).number turns (shared block.lines (block.job + 1) trees) came
    pub causes : HaveCauses trusted hall_places turns old new
    pub complete : JobsComplete trusted hall_places choice block.lines 0 first turns old new (shared block.lines (block.job + 1) trees) came
    pub none_fails : JobsUnfailed trusted hall_places choice block.lines 0 first turns old new (shared block.lines (block.job + 1) trees) came
    pub added : List Entry
    pub adds : Adds added old new
    pub by_jobs : AllByRecursion (IsBy first (first + (block.job + 1))) added
    pub by_steps : AreBySteps trusted hall_places turns old new (inventory old.core).number added
    pub items : HaveBytes new added
    pub onward : Onward old new
    pub timely : IsTimely old new
    pub in_order : IsInOrder new

  module _ (told : Option History) where
    -- What a block leaves whose lines were all answered: the answer is what was said of them, the first job's first, and so they are noted; the trees are as the jobs left them that have them; nothing is in progress;
    -- and then what follows is what follows a line without words: a checkpoint where the log is long.
    pub record RunsBlock (block : Gathered) (first : ℕ) (old : Site) (n : ℕ) (answer : Answer) (new : Site) : Type 0 where
      pub mid : Machine
      pub came : List Came
      pub ran : JobsTurned block first old.machine mid old.trees came
      pub ended : ending came ≡ None
      pub rests : IsAtRest mid.core
      pub answered : answer ≡ with_said nothing (said_by came)
      pub follow : Answer
      pub follows : RepliesAt trusted choice told (site mid (left_by block old.trees came) old.notes) n [] follow (site new.machine new.trees old.notes)
      pub noted : new.notes ≡ old.notes ++ notes_of first (number_in old.machine) (number_in mid) (said_by came)

    -- The jobs of a block ended the run, for a cause that is there, and so the trees are left. Where want of memory ended it nothing is said of the trees.
    pub record JobsEnd (block : Gathered) (first : ℕ) (old : Site) (how : Halt) (new : Site) : Type 0 where
      pub came : List Came
      pub ran : JobsTurned block first old.machine new.machine old.trees came
      pub cause : HasCause old.machine new.machine how
      pub ended : (IsEnding (ending came) how × (new.trees ≡ left_by block old.trees came)) ⊎ (how ≡ Memory)
      pub noted : new.notes ≡ old.notes

    -- Or memory was wanted before the first of them, and none was run. Or all their lines were answered, and what follows them ended the run. Nothing of the block is noted.
    abbrev pub EndsInBlock : (block : Gathered) → (first : ℕ) → (old : Site) → (n : ℕ) → Halt → (new : Site) → Type 0
    EndsInBlock block first old n how new =
        JobsEnd block first old how new
        ⊎ ((new.machine ≡ old.machine) × (how ≡ Memory) × (new.notes ≡ old.notes))
        ⊎ ((mid : Machine) × (came : List Came) × JobsTurned block first old.machine mid old.trees came × (ending came ≡ None) × IsAtRest mid.core
        × StopsAt trusted choice told (site mid (left_by block old.trees came) old.notes) n [] how new)

    -- Outside blocks a line begins a block, and nothing else changes; or it is answered so, and no block is open.
    abbrev pub AnswersHere : Bool → Stand → (n : ℕ) → List ℕ → Answer → Stand → Type 0
    AnswersHere true old n line answer new = (answer ≡ nothing) × (new ≡ record { site = old.site; block = Some begun; jobs = old.jobs })
    AnswersHere false old n line answer new = RepliesAt trusted choice told old.site n line answer new.site × (new.block ≡ None) × (new.jobs ≡ old.jobs)

    -- The block is run and answered so, and no block is open.
    abbrev pub AnswersBlock : Gathered → Stand → (n : ℕ) → Answer → Stand → Type 0
    AnswersBlock block old n answer new = RunsBlock block (old.jobs + 1) old.site n answer new.site × (new.block ≡ None) × (new.jobs ≡ old.jobs + (block.job + 1))

    -- In a block a line is kept, and nothing else changes; or it ends the block, which is run.
    abbrev pub AnswersInside : Bool → Gathered → Stand → (n : ℕ) → List ℕ → Answer → Stand → Type 0
    AnswersInside true block old n line answer new = AnswersBlock block old n answer new
    AnswersInside false block old n line answer new = (answer ≡ nothing) × (new ≡ record { site = old.site; block = Some (with_line block n line); jobs = old.jobs })

    abbrev pub AnswersIn : Option Gathered → Stand → (n : ℕ) → Option (List ℕ) → Answer → Stand → Type 0
    AnswersIn None old n (Some line) answer new = AnswersHere (begins line) old n line answer new
    AnswersIn (Some block) old n (Some line) answer new = AnswersInside (is_end (part line)) block old n line answer new
    AnswersIn None old n None answer new = (answer ≡ nothing) × (new ≡ old)
    AnswersIn (Some block) old n None answer new = AnswersBlock block old n answer new

    -- What is given may be answered so: a line; or the script's end, at which a block that is open is run.
    abbrev pub AnswersAt : Stand → (n : ℕ) → Option (List ℕ) → Answer → Stand → Type 0
    AnswersAt old n given answer new = AnswersIn old.block old n given answer new

    -- memory was wanted before it was known what a line is to a block, and nothing changed
    abbrev pub Wants : Stand → Halt → Stand → Type 0
    Wants old how new = (how ≡ Memory) × (new ≡ old)

    abbrev pub EndsHere : Bool → Stand → (n : ℕ) → List ℕ → Halt → Stand → Type 0
    EndsHere true old n line how new = ⊥
    EndsHere false old n line how new = StopsAt trusted choice told old.site n line how new.site

    abbrev pub EndsInside : Bool → Gathered → Stand → (n : ℕ) → Halt → Stand → Type 0
    EndsInside true block old n how new = EndsInBlock block (old.jobs + 1) old.site n how new.site
    EndsInside false block old n how new = ⊥

    abbrev pub EndsIn : Option Gathered → Stand → (n : ℕ) → Option (List ℕ) → Halt → Stand → Type 0
    EndsIn None old n (Some line) how new = EndsHere (begins line) old n line how new ⊎ Wants old how new
    EndsIn (Some block) old n (Some line) how new = EndsInside (is_end (part line)) block old n how new ⊎ Wants old how new
    EndsIn None old n None how new = ⊥
    EndsIn (Some block) old n None how new = EndsInBlock block (old.jobs + 1) old.site n how new.site

    -- A line may end the run so, and the script's end where a block is open.
    abbrev pub EndsAt : Stand → (n : ℕ) → Option (List ℕ) → Halt → Stand → Type 0
    EndsAt old n given how new = EndsIn old.block old n given how new
