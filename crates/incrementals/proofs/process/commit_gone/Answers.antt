use Rattle.std.proofs.Common.{List, subst}
use Rattle.client_plan.specs.declared.lines.GoneLine.{GoneLine}
use Rattle.steps.specs.Calls.{Call}
use Rattle.client_batches.specs.Handling.{EndsVersions}
use Rattle.incrementals.proofs.process.commit_gone.Goals as goal

pub returns : goal.returns
returns g c =
    subst (λ (ls : List GoneLine). Call g.P.Stepper.did c.args.p.now c.end_all.new.p (λ events. EndsVersions c.args.filespace ls events c.end_all.result)) c.gone.ensures c.end_all.ensures
