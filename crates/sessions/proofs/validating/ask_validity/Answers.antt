use Rattle.inventory_answers.specs.declared.query.Query.TheVariants as query
use Rattle.inventory_answers.specs.declared.reply.Rows.TheVariants as rows
use Rattle.sessions.proofs.Got.{asks-refused}
use Rattle.sessions.proofs.validating.ask_validity.Goals as goal

pub returns-in-Err : goal.returns-in-Err
returns-in-Err g c =
    asks-refused g.P.Stepper.did c.args.p.now c.ask-answer.new.self (query.Validated c.args.domain c.args.set) rows.Validated c.in-Err.refusal c.unasked.result c.in-Err.ensures c.unasked.ensures
