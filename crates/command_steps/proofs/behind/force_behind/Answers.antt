use Rattle.command_steps.proofs.Worked.{forced}
use Rattle.command_steps.proofs.behind.force_behind.Goals as goal

pub returns : goal.returns
returns g c = forced g.P.Stepper.did c.args.p.now c.force-forced.new.self c.args.said c.behind_force.result c.force-forced.result c.force-forced.ensures c.behind_force.ensures
