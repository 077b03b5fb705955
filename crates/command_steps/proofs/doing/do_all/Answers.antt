use Rattle.command_steps.proofs.Worked.{done-with}
use Rattle.command_steps.specs.Clients.{client}
use Rattle.command_steps.specs.Reading.{behind_view}
use Rattle.command_steps.proofs.doing.do_all.Goals as goal

pub returns-clause-does : goal.returns-clause-does
returns-clause-does g c = done-with g.P.Stepper.did g.met.P.Stepper.goes_on c.args.p.now c.do_work-said.new.p c.end_work.new.p (client g.T.Tree.files g.T.Tree.fault_count c.args.binder.now c.args.trees.now c.do_work-said.new.trees) c.args.command.now c.args.work (behind_view c.behind_of.result) c.do_work-said.result c.end_work.result c.behind_of.ensures c.do_work-said.ensures.does c.end_work.ensures
