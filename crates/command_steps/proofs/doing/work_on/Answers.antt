use Rattle.std.proofs.Common.{refl}
use Rattle.command_steps.specs.Clients.{client}
use Rattle.command_steps.proofs.Worked.{declined, worked}
use Rattle.admin_commands.specs.Orders.{work_of}
use Rattle.command_steps.proofs.doing.work_on.Goals as goal

pub returns-in-Ok-clause-does : goal.returns-in-Ok-clause-does
returns-in-Ok-clause-does g c = worked g.P.Stepper.did c.args.p.now c.do_all.new.p (client g.T.Tree.files g.T.Tree.fault_count c.args.binder.now c.args.trees.now c.do_all.new.trees) c.args.command.now c.in-Ok.work (work_of c.args.command.now c.args.answers.now) c.do_all.result c.in-Ok.ensures.value c.do_all.ensures.does

pub returns-in-Err-clause-does : goal.returns-in-Err-clause-does
returns-in-Err-clause-does g c = declined g.P.Stepper.did c.args.p.now (client g.T.Tree.files g.T.Tree.fault_count c.args.binder.now c.args.trees.now c.args.trees.now) c.args.command.now (work_of c.args.command.now c.args.answers.now) c.in-Err.refusal (g.met.P.Stepper.stays c.args.p.now) refl c.in-Err.ensures.value
