use Rattle.std.proofs.Common.{List, refl, subst}
use Rattle.inventory_answers.specs.declared.reply.Answer.{Answer}
use Rattle.admin_commands.specs.Orders.{work_of}
use Rattle.steps.specs.Calls.{Call}
use Rattle.command_steps.proofs.Worked.{doing-asked, doing-refused}
use Rattle.command_steps.specs.Clients.{client}
use Rattle.command_steps.specs.Doing.{WorksOrWants}
use Rattle.command_steps.proofs.doing.do_command.Goals as goal

pub returns-in-Ok-clause-does : goal.returns-in-Ok-clause-does
returns-in-Ok-clause-does g c =
    doing-asked g.P.Stepper.did g.met.P.Stepper.goes_on c.args.p.now c.look_up.new.p c.work_on-outcome.new.p (client g.T.Tree.files g.T.Tree.fault_count c.args.binder.now c.args.trees.now c.work_on-outcome.new.trees) c.args.command.now c.in-Ok.answers c.work_on-outcome.result c.in-Ok.ensures
    (subst (λ (answers : List Answer). Call g.P.Stepper.did c.look_up.new.p c.work_on-outcome.new.p (λ events. WorksOrWants (client g.T.Tree.files g.T.Tree.fault_count c.args.binder.now c.args.trees.now c.work_on-outcome.new.trees) c.args.command.now (work_of c.args.command.now answers) events c.work_on-outcome.result))
    c.as_slice.ensures c.work_on-outcome.ensures.does)

pub returns-in-Err-clause-does : goal.returns-in-Err-clause-does
returns-in-Err-clause-does g c = doing-refused g.P.Stepper.did c.args.p.now c.look_up.new.p (client g.T.Tree.files g.T.Tree.fault_count c.args.binder.now c.args.trees.now c.args.trees.now) c.args.command.now c.in-Err.refusal refl c.in-Err.ensures
