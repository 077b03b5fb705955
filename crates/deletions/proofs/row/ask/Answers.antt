use Rattle.deletions.proofs.Removing.{asked-refused}
use Rattle.deletions.proofs.row.ask.Goals as goal

pub returns-in-Err : goal.returns-in-Err
returns-in-Err g c = asked-refused g.P.Stepper.did c.args.p.now c.ask.new.self c.args.query.now c.in-Err.refusal c.unlisted.result c.unlisted.ensures c.in-Err.ensures
