use Rattle.std.proofs.Common.{List, subst}
use Rattle.client_plan.specs.declared.lines.RebindLine.{RebindLine}
use Rattle.steps.specs.Calls.{Call}
use Rattle.client_batches.specs.Handling.{BindsPaths}
use Rattle.incrementals.proofs.process.commit_rebound.Goals as goal

pub returns : goal.returns
returns g c =
    subst (λ (ls : List RebindLine). Call g.P.Stepper.did c.args.p.now c.rebind_all.new.p (λ events. BindsPaths c.args.filespace ls events c.rebind_all.result)) c.rebind.ensures c.rebind_all.ensures
