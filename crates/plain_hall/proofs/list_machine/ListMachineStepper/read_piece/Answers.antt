use Rattle.std.specs.Prelude.{length}
use Rattle.plain_hall.proofs.Stepping.{noted_read}
use Rattle.plain_hall.proofs.list_machine.ListMachineStepper.read_piece.Goals as goal

pub returns-clause-does : goal.returns-clause-does
returns-clause-does g c =
    noted_read c.args.self.now.trace c.begin.new.self.trace c.end.new.self c.args.object c.args.kept.now c.args.from c.args.offset (length c.args.into.now)
    c.end.result c.read_into-answer.new.into c.begin.ensures c.end.ensures.ended
