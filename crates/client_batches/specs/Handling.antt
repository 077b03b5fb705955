-- How the lists of a plan are handled whole, and what that comes to: the transactions have exactly the lines that are committed.
use Rattle.std.specs.Prelude.{ℕ, List, [], ◌∷◌, Option, IfOk, Result}
use Rattle.kinds.specs.declared.refusal.Refusal.{Refusal}
use Rattle.client_plan.specs.declared.lines.GoneLine.{GoneLine}
use Rattle.client_plan.specs.declared.lines.RebindLine.{RebindLine}
use Rattle.client_plan.specs.declared.lines.SendLine.{SendLine}
use Rattle.client_trees.specs.Files.{Files}
use Rattle.inventory_work.specs.declared.lines.Rules.{Rules}
use Rattle.steps.specs.Events.{Event}
use Rattle.client_batches.specs.Items.{IsExact, Stored, kept}
use Rattle.client_batches.specs.Listings.{ending, named, rebinding, rebound}
use Rattle.client_batches.specs.Rounds.{InRuns, SendsAll}

-- the file of a line, as it is stored
abbrev pub file_in : SendLine → Stored
file_in line = (line.file.path, line.class, line.file.mtime)

-- Files were sent by these steps, in their order; and where it answers, the files that became versions are exactly those of which it says so.
pub record SendsFiles (rules : Rules) (told : Option Files) (filespace : ℕ) (lines : List SendLine) (before after : ℕ) (events : List Event) (result : Result (List (Option Refusal)) Refusal) : Type 0 where
  pub order : SendsAll rules told filespace lines before after events result
  pub exact : IfOk result (λ outs. IsExact lines outs (kept (λ l. file_in l ∷ []) lines outs) [] [] events)

-- Paths were bound anew so.
pub record BindsPaths (filespace : ℕ) (lines : List RebindLine) (events : List Event) (result : Result (List (Option Refusal)) Refusal) : Type 0 where
  pub order : InRuns (rebinding filespace) lines events result
  pub exact : IfOk result (λ outs. IsExact lines outs [] (kept (λ l. rebound l ∷ []) lines outs) [] events)

-- Versions were ended so.
pub record EndsVersions (filespace : ℕ) (lines : List GoneLine) (events : List Event) (result : Result (List (Option Refusal)) Refusal) : Type 0 where
  pub order : InRuns (ending filespace) lines events result
  pub exact : IfOk result (λ outs. IsExact lines outs [] [] (kept (λ l. named l ∷ []) lines outs) events)
