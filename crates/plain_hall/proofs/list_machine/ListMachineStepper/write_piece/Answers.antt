use Rattle.steps.specs.Events.Deed.{WritePiece}
use Rattle.plain_hall.proofs.Stepping.{noted}
use Rattle.plain_hall.proofs.list_machine.ListMachineStepper.write_piece.Goals as goal

pub returns : goal.returns
returns g c = noted c.args.self.now.trace c.begin.new.self.trace c.end.new.self (WritePiece c.args.ticket c.args.bytes.now c.end.result) c.begin.ensures c.end.ensures.ended
