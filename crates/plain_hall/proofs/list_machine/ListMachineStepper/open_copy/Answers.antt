use Rattle.steps.specs.Events.Deed.{OpenCopy}
use Rattle.plain_hall.proofs.Stepping.{noted}
use Rattle.plain_hall.proofs.list_machine.ListMachineStepper.open_copy.Goals as goal

pub returns : goal.returns
returns g c = noted c.args.self.now.trace c.begin.new.self.trace c.end.new.self (OpenCopy c.args.object c.args.aim c.args.avoid c.end.result) c.begin.ensures c.end.ensures.ended
