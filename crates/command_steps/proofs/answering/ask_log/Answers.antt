use Rattle.command_steps.proofs.Answered.{log-refused}
use Rattle.command_steps.proofs.answering.ask_log.Goals as goal

pub returns-in-Err : goal.returns-in-Err
returns-in-Err g c = log-refused g.P.Stepper.did c.args.p.now c.ask-answer.new.self c.in-Err.refusal c.unasked.result c.in-Err.ensures c.unasked.ensures
