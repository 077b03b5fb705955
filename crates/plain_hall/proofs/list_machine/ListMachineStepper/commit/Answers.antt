use Rattle.steps.specs.Events.Deed.{Commit}
use Rattle.plain_hall.proofs.Stepping.{noted}
use Rattle.plain_hall.proofs.list_machine.ListMachineStepper.commit.Goals as goal

pub returns : goal.returns
returns g c = noted c.args.self.now.trace c.begin.new.self.trace c.end.new.self (Commit c.args.asked.now c.args.tickets.now c.end.result) c.begin.ensures c.end.ensures.ended
