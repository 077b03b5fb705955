use Rattle.std.proofs.Common.{List, [], refl, subst}
use Rattle.steps.specs.declared.asked.Asked.{Asked}
use Rattle.steps.specs.Calls.{Does}
use Rattle.steps.specs.Events.Deed.{Commit}
use Rattle.deletions.proofs.Trying.{tries-nothing, tries-one}
use Rattle.volume_audits.specs.Mending.{discarded_as, discarding}
use Rattle.volume_audits.proofs.mending.discard_object.Goals as goal

pub returns-in-Err-clause-discards : goal.returns-in-Err-clause-discards
returns-in-Err-clause-discards g c = tries-nothing g.P.Stepper.did c.args.p.now discarded_as (discarding c.args.file c.args.line.now c.args.found) c.in-Err.refusal (g.met.P.Stepper.stays c.args.p.now) c.in-Err.ensures

pub returns-clause-discards : goal.returns-clause-discards
returns-clause-discards g c =
    tries-one g.P.Stepper.did c.args.p.now c.commit-answer.new.self discarded_as (discarding c.args.file c.args.line.now c.args.found) c.commit-answer.result c.discarded_as.result refl
    (subst (λ (a : Asked). Does g.P.Stepper.did c.args.p.now c.commit-answer.new.self (Commit a [] c.commit-answer.result)) c.in-Ok.ensures c.commit-answer.ensures) c.discarded_as.ensures.is
