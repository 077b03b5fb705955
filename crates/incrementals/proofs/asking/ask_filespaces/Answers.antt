use Rattle.std.proofs.Common.{Some}
use Rattle.inventory_answers.specs.declared.query.Query.TheVariants as query
use Rattle.incrementals.specs.Asking.{HasFilespaces}
use Rattle.incrementals.proofs.Questions.{asks-answered, asks-none, asks-refused}
use Rattle.incrementals.proofs.asking.ask_filespaces.Goals as goal

pub returns-in-Err : goal.returns-in-Err
returns-in-Err g c =
    asks-none g.P.Stepper.did c.args.p.now (query.Filespaces (Some c.args.node.now)) HasFilespaces c.in-Err.refusal (g.met.P.Stepper.stays c.args.p.now) c.in-Err.ensures

pub returns-in-Ok-ask : goal.returns-in-Ok-ask
returns-in-Ok-ask g c =
    asks-answered g.P.Stepper.did c.args.p.now c.ask.new.p (query.Filespaces (Some c.args.node.now)) c.in-Ok.query HasFilespaces c.in-Ok-ask.answer c.filespaces_of.result c.in-Ok.ensures c.in-Ok-ask.ensures c.filespaces_of.ensures.ok c.filespaces_of.ensures.err

pub returns-in-Err-ask : goal.returns-in-Err-ask
returns-in-Err-ask g c =
    asks-refused g.P.Stepper.did c.args.p.now c.ask.new.p (query.Filespaces (Some c.args.node.now)) c.in-Ok.query HasFilespaces c.in-Err-ask.refusal c.unasked.result c.in-Ok.ensures c.in-Err-ask.ensures c.unasked.ensures
