use Rattle.std.proofs.Common.{List, [], refl, subst}
use Rattle.steps.specs.declared.asked.Asked.{Asked}
use Rattle.steps.specs.Calls.{Does}
use Rattle.steps.specs.Events.Deed.{Commit}
use Rattle.deletions.proofs.Trying.{tries-nothing, tries-one}
use Rattle.volume_audits.specs.Mending.{dropped_as, dropping}
use Rattle.volume_audits.proofs.mending.drop_copy.Goals as goal

pub returns-in-Err : goal.returns-in-Err
returns-in-Err g c = tries-nothing g.P.Stepper.did c.args.p.now dropped_as (dropping c.args.file c.args.line.now c.args.found) c.in-Err.refusal (g.met.P.Stepper.stays c.args.p.now) c.in-Err.ensures

pub returns : goal.returns
returns g c =
    tries-one g.P.Stepper.did c.args.p.now c.commit-answer.new.self dropped_as (dropping c.args.file c.args.line.now c.args.found) c.commit-answer.result c.dropped_as.result refl
    (subst (λ (a : Asked). Does g.P.Stepper.did c.args.p.now c.commit-answer.new.self (Commit a [] c.commit-answer.result)) c.in-Ok.ensures c.commit-answer.ensures) c.dropped_as.ensures
