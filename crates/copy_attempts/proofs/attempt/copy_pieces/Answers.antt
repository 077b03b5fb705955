use Rattle.std.proofs.Common.{arith}
use Rattle.copy_attempts.proofs.Making.{pieces-more, pieces-refused}
use Rattle.copy_attempts.proofs.attempt.copy_pieces.Goals as goal

pub pieces-preserved : goal.pieces-preserved
pieces-preserved g c = record {
  pieces = pieces-more g.P.Stepper.did g.met.P.Stepper.goes_on c.args.p.now c.pieces.p c.copy_piece.new.self c.args.ticket c.pieces.copied c.in-Ok.field-0 c.pieces.invariant.pieces c.in-Ok.ensures;
  within = omega (arith, c.pieces-test.true);
}

pub returns-in-Err : goal.returns-in-Err
returns-in-Err g c =
    pieces-refused g.P.Stepper.did g.met.P.Stepper.goes_on c.args.p.now c.pieces.p c.copy_piece.new.self c.args.ticket c.pieces.copied c.args.count c.in-Err.refusal c.pieces.invariant.pieces
    (omega (arith, c.pieces-test.true)) c.in-Err.ensures
