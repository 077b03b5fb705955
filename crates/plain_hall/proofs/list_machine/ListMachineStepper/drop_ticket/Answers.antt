use Rattle.plain_hall.proofs.Stepping.{dropped}
use Rattle.plain_hall.proofs.list_machine.ListMachineStepper.drop_ticket.Goals as goal

pub returns : goal.returns
returns g c = dropped c.args.self.now.trace c.end_drop.new.self _ c.args.ticket c.end_drop.result c.end_drop.ensures
