use Rattle.std.proofs.Common.{refl}
use Rattle.inventory_answers.specs.declared.query.Query.TheVariants as query
use Rattle.incrementals.specs.Asking.{HasRules}
use Rattle.incrementals.proofs.Questions.{asks-answered, asks-refused}
use Rattle.incrementals.proofs.asking.ask_rules.Goals as goal

pub returns-in-Ok : goal.returns-in-Ok
returns-in-Ok g c =
    asks-answered g.P.Stepper.did c.args.p.now c.ask.new.p (query.Rules c.args.node) (query.Rules c.args.node) (HasRules c.args.node) c.in-Ok.answer c.rules_of.result refl c.in-Ok.ensures c.rules_of.ensures.ok c.rules_of.ensures.err

pub returns-in-Err : goal.returns-in-Err
returns-in-Err g c =
    asks-refused g.P.Stepper.did c.args.p.now c.ask.new.p (query.Rules c.args.node) (query.Rules c.args.node) (HasRules c.args.node) c.in-Err.refusal c.unasked.result refl c.in-Err.ensures c.unasked.ensures
