-- What came of the lines of a block on a hall.
use Rattle.std.specs.Prelude.{◌≡◌, ◌⊎◌, ℕ, ◌+◌, List, length, map, Option, None, Some}
use Rattle.std.specs.List.{AllByRecursion}
use Rattle.store_api.specs.Disk.{History}
use Rattle.choosers.specs.declared.rule.Rule.{Rule}
use Rattle.hall.specs.Held.{Hall}
use Rattle.machine.specs.Turns.{Turn}
use Rattle.script_loop.specs.declared.ends.Halt.{Halt}
use Rattle.script_loop.specs.declared.ends.Halt.TheVariants.{Memory}
use Rattle.command_steps.specs.Clients.{Known}
use Rattle.blocks.specs.Shapes.{Placed}
use Rattle.crew.specs.Knowing.{IsWithin}
use Rattle.crew.specs.Ran.{RanFrom, began}
use Rattle.line_jobs.specs.Shares.{AreDone, Came, all_said, away, ends_by, given_back, kept, taken}
use Rattle.line_jobs.specs.declared.job.Said.{Said}

-- the trees that each job has, where they were shared out
abbrev pub shared : (lines : List Placed) → (jobs : ℕ) → List Known → List (List Known)
shared lines jobs trees = taken away (length trees) lines jobs 0 trees

-- what the trees are once the jobs have given them back, as they left them
abbrev pub trees_behind : (lines : List Placed) → (jobs : ℕ) → List Known → List Came → List Known
trees_behind lines jobs trees came = given_back lines 0 (map (λ c. c.left) came) (kept away (length trees) lines jobs 0 trees)

-- how the jobs ended the run, if they did
abbrev pub ending : List Came → Option Halt
ending came = ends_by None (map (λ c. c.ended) came)

-- the jobs ended the run so, or memory was wanted for what is said of their lines
abbrev pub IsEnding : Option Halt → Halt → Type 0
IsEnding (Some it) how = how ≡ it
IsEnding None how = how ≡ Memory

module _ {S : Type 0} (told : S → Option History) (moment : S → ℕ) (faults : S → ℕ → ℕ) (choice : List Rule) (lines : List Placed) (jobs first : ℕ) (old new : Hall S) (trees : List Known) where
  -- These turns, each of them a step of the actor of one of the jobs, led from the one hall to the other, and this came of each job.
  pub record Worked (came : List Came) : Type 0 where
    pub turns : List Turn
    pub ran : RanFrom told moment faults (Some (began told moment faults old)) turns new
    pub nobody : AllByRecursion (IsWithin first (first + jobs)) turns
    pub done : AreDone choice lines 0 first turns (shared lines jobs trees) came

  -- None of the jobs ended the run. This is said of their lines, and so the trees are left.
  abbrev pub RanLines : (said : List Said) → (left : List Known) → Type 0
  RanLines said left = (came : List Came) × Worked came × (ending came ≡ None) × (said ≡ all_said (map (λ c. c.said) came)) × (left ≡ trees_behind lines jobs trees came)

  -- The lines ended the run so, and so the trees are left, of which nothing is said where want of memory ended it. Or memory was wanted before the first job, and none was run.
  abbrev pub EndsLines : (how : Halt) → (left : List Known) → Type 0
  EndsLines how left =
      ((came : List Came) × Worked came × ((IsEnding (ending came) how × (left ≡ trees_behind lines jobs trees came)) ⊎ (how ≡ Memory)))
      ⊎ ((new ≡ old) × (how ≡ Memory))
