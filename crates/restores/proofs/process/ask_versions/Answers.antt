use Rattle.restores.proofs.Asking.{asks-refused}
use Rattle.restores.proofs.process.ask_versions.Goals as goal

pub returns-in-Err : goal.returns-in-Err
returns-in-Err g c = asks-refused g.P.Stepper.did c.args.p.now c.ask-answer.new.self c.args.node c.args.filespace c.in-Err.refusal c.unasked.result c.in-Err.ensures c.unasked.ensures
