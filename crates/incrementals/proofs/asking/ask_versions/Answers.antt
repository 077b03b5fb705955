use Rattle.incrementals.proofs.Questions.{versions-answered, versions-none, versions-refused}
use Rattle.incrementals.proofs.asking.ask_versions.Goals as goal

pub returns-in-Err : goal.returns-in-Err
returns-in-Err g c =
    versions-none g.P.Stepper.did c.args.p.now c.args.node.now c.args.filespace.now c.in-Err.refusal (g.met.P.Stepper.stays c.args.p.now) c.in-Err.ensures

pub returns-in-Ok-ask : goal.returns-in-Ok-ask
returns-in-Ok-ask g c =
    versions-answered g.P.Stepper.did c.args.p.now c.ask.new.p c.args.node.now c.args.filespace.now c.in-Ok.query c.in-Ok-ask.answer c.versions_of.result c.in-Ok.ensures c.in-Ok-ask.ensures c.versions_of.ensures.ok c.versions_of.ensures.err

pub returns-in-Err-ask : goal.returns-in-Err-ask
returns-in-Err-ask g c =
    versions-refused g.P.Stepper.did c.args.p.now c.ask.new.p c.args.node.now c.args.filespace.now c.in-Ok.query c.in-Err-ask.refusal c.unlisted.result c.in-Ok.ensures c.in-Err-ask.ensures c.unlisted.ensures
