use Rattle.command_steps.proofs.Answered.{long-log, short-log}
use Rattle.std.proofs.Common.{rules}
use Rattle.command_steps.proofs.answering.checkpoint_if_long.Goals as goal

pub returns-then-is_short : goal.returns-then-is_short
returns-then-is_short g c = short-log g.P.Stepper.did c.args.p.now c.args.count (g.met.P.Stepper.stays c.args.p.now) (search rules)

pub returns-else-is_short : goal.returns-else-is_short
returns-else-is_short g c = long-log g.P.Stepper.did c.args.p.now c.checkpoint.new.p c.args.count c.checkpoint.result c.done.result (search rules) c.checkpoint.ensures c.done.ensures
