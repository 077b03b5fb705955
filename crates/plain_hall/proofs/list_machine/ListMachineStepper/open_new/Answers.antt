use Rattle.steps.specs.Events.Deed.{OpenNew}
use Rattle.plain_hall.proofs.Stepping.{noted}
use Rattle.plain_hall.proofs.list_machine.ListMachineStepper.open_new.Goals as goal

pub returns : goal.returns
returns g c = noted c.args.self.now.trace c.begin.new.self.trace c.end.new.self (OpenNew c.args.pool c.args.size c.args.prefer c.end.result) c.begin.ensures c.end.ensures.ended
