use Rattle.inventory_answers.specs.declared.query.Query.TheVariants as query
use Rattle.inventory_work.specs.declared.search.Named.TheVariants as thing
use Rattle.incrementals.specs.Asking.{HasNumber}
use Rattle.incrementals.proofs.Questions.{asks-answered, asks-none, asks-refused}
use Rattle.incrementals.proofs.asking.ask_node.Goals as goal

pub returns-in-Err : goal.returns-in-Err
returns-in-Err g c =
    asks-none g.P.Stepper.did c.args.p.now (query.Lookup (thing.Node c.args.node.now)) HasNumber c.in-Err.refusal (g.met.P.Stepper.stays c.args.p.now) c.in-Err.ensures

pub returns-in-Ok-ask : goal.returns-in-Ok-ask
returns-in-Ok-ask g c =
    asks-answered g.P.Stepper.did c.args.p.now c.ask.new.p (query.Lookup (thing.Node c.args.node.now)) c.in-Ok.query HasNumber c.in-Ok-ask.answer c.number_of.result c.in-Ok.ensures c.in-Ok-ask.ensures c.number_of.ensures.ok c.number_of.ensures.err

pub returns-in-Err-ask : goal.returns-in-Err-ask
returns-in-Err-ask g c =
    asks-refused g.P.Stepper.did c.args.p.now c.ask.new.p (query.Lookup (thing.Node c.args.node.now)) c.in-Ok.query HasNumber c.in-Err-ask.refusal c.unasked.result c.in-Ok.ensures c.in-Err-ask.ensures c.unasked.ensures
