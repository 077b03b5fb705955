use Rattle.inventory_answers.specs.declared.query.Query.TheVariants as query
use Rattle.inventory_answers.specs.declared.reply.Rows.TheVariants as rows
use Rattle.sessions.proofs.Got.{asks-refused}
use Rattle.sessions.proofs.asking.ask_path.Goals as goal

pub returns-in-Err : goal.returns-in-Err
returns-in-Err g c =
    asks-refused g.P.Stepper.did c.args.p.now c.ask-answer.new.self (query.Path c.args.node c.args.filespace c.args.path) rows.Versions c.in-Err.refusal c.unasked.result c.in-Err.ensures c.unasked.ensures
