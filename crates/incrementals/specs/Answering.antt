-- What an incremental backup answers, by what came of the lines of its plan.
use Rattle.std.specs.Prelude.{ℕ, ◌+◌, List, [], ◌∷◌, ◌++◌, map, Option, None, Some}
use Rattle.kinds.specs.declared.refusal.Refusal.{Refusal}
use Rattle.kinds.specs.declared.refusal.Refusal.TheVariants as refused
use Rattle.client_plan.specs.Plans.{Lists}
use Rattle.client_plan.specs.declared.lines.GoneLine.{GoneLine}
use Rattle.client_plan.specs.declared.lines.RebindLine.{RebindLine}
use Rattle.client_plan.specs.declared.lines.SendLine.{SendLine}
use Rattle.incrementals.specs.declared.answering.Failure.{Failure}
use Rattle.incrementals.specs.declared.answering.Outs.{Outs}
use Rattle.incrementals.specs.declared.answering.Sent.{Sent}

-- 1 for one that is committed
abbrev pub weight : Option Refusal → ℕ
weight None = 1
weight (Some e) = 0

-- how many are committed
abbrev pub committed : List (Option Refusal) → ℕ
committed [] = 0
committed (out ∷ outs) = weight out + committed outs

-- a path whose class has no copy group
abbrev pub unbound : List ℕ → Failure
unbound path = record { path = path; refusal = refused.NoBackupGroup }

-- a path that isn't committed for this cause
abbrev pub failures_of : List ℕ → Option Refusal → List Failure
failures_of path None = []
failures_of path (Some e) = record { path = path; refusal = e } ∷ []

-- the paths of those lines that aren't
abbrev pub failures : {L : Type 0} → (L → List ℕ) → List L → List (Option Refusal) → List Failure
failures path [] outs = []
failures path (l ∷ lines) [] = []
failures path (l ∷ lines) (out ∷ outs) = failures_of (path l) out ++ failures path lines outs

-- the paths of a plan for which nothing is committed
abbrev pub failed_of : Lists → Outs → List Failure
failed_of plan outs =
    ((map unbound plan.failed ++ failures (λ (l : SendLine). l.file.path) plan.send outs.sent) ++ failures (λ (l : RebindLine). l.path) plan.rebind outs.rebound) ++ failures (λ (l : GoneLine). l.path) plan.gone outs.gone

abbrev pub sent_of : Lists → Outs → Sent
sent_of plan outs = record {
  sent = committed outs.sent;
  rebound = committed outs.rebound;
  gone = committed outs.gone;
  skipped = plan.skip;
  failed = failed_of plan outs;
}
