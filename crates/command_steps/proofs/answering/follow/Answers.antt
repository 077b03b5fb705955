use Rattle.command_steps.proofs.Answered.{follows-asked, follows-refused}
use Rattle.command_steps.proofs.answering.follow.Goals as goal

pub returns-in-Ok : goal.returns-in-Ok
returns-in-Ok g c = follows-asked g.P.Stepper.did g.met.P.Stepper.goes_on c.args.p.now c.ask_log.new.p c.checkpoint_if_long.new.p c.in-Ok.count c.checkpoint_if_long.result c.in-Ok.ensures c.checkpoint_if_long.ensures

pub returns-in-Err : goal.returns-in-Err
returns-in-Err g c = follows-refused g.P.Stepper.did c.args.p.now c.ask_log.new.p c.in-Err.refusal c.unless_full.result c.in-Err.ensures c.unless_full.ensures
