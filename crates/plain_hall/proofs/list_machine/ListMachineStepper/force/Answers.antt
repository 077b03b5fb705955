use Rattle.steps.specs.Events.Deed.{Force}
use Rattle.plain_hall.proofs.Stepping.{noted}
use Rattle.plain_hall.proofs.list_machine.ListMachineStepper.force.Goals as goal

pub returns : goal.returns
returns g c = noted c.args.self.now.trace c.begin.new.self.trace c.end.new.self (Force c.end.result) c.begin.ensures c.end.ensures.ended
