use Rattle.deletions.proofs.Whole.{asks-refused-by}
use Rattle.deletions.proofs.filespace.ask.Goals as goal

pub returns-in-Err : goal.returns-in-Err
returns-in-Err g c = asks-refused-by g.P.Stepper.did c.args.p.now c.ask.new.self c.args.filespace c.args.query.now c.in-Err.refusal c.unlisted.result c.unlisted.ensures c.in-Err.ensures
