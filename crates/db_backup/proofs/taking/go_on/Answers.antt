use Rattle.std.proofs.Common.{arith}
use Rattle.sessions.proofs.Checkpointed.{told-as, written-more}
use Rattle.db_backup.proofs.Pieced.{continues-begun, continues-done, continues-refused, continues-used}
use Rattle.db_backup.proofs.taking.go_on.Goals as goal

pub pieces-preserved : goal.pieces-preserved
pieces-preserved g c = record {
  more = written-more g.P.Stepper.did g.met.P.Stepper.goes_on c.args.p.now c.pieces.p c.image.new.self c.pieces.pieces c.pieces.invariant.more (told-as g.P.Stepper.did c.pieces.p c.image.new.self c.in-Ok-More.field-0 _ c.in-Ok-More.field-0-is c.in-Ok-More.ensures);
  within = omega (arith, c.pieces-test.true);
}

pub returns-in-Ok-Done : goal.returns-in-Ok-Done
returns-in-Ok-Done g c = continues-done g.P.Stepper.did g.met.P.Stepper.goes_on c.args.p.now c.pieces.p c.image.new.self c.pieces.pieces c.in-Ok-Done.seq c.pieces.invariant.more (told-as g.P.Stepper.did c.pieces.p c.image.new.self c.in-Ok-Done.field-0 _ c.in-Ok-Done.field-0-is c.in-Ok-Done.ensures)

pub returns-in-Ok-Begun : goal.returns-in-Ok-Begun
returns-in-Ok-Begun g c =
    continues-begun g.P.Stepper.did g.met.P.Stepper.goes_on c.args.p.now c.pieces.p c.image.new.self c.pieces.pieces c.in-Ok-Begun.field-0-0 c.in-Ok-Begun.field-0-1 c.pieces.invariant.more (told-as g.P.Stepper.did c.pieces.p c.image.new.self c.in-Ok-Begun.field-0 _ c.in-Ok-Begun.field-0-is c.in-Ok-Begun.ensures)

pub returns-in-Err : goal.returns-in-Err
returns-in-Err g c =
    continues-refused g.P.Stepper.did g.met.P.Stepper.goes_on c.args.p.now c.pieces.p c.image.new.self c.pieces.pieces c.in-Err.refusal c.unwritten.result c.pieces.invariant.more c.in-Err.ensures
    c.unwritten.ensures

pub returns : goal.returns
returns g c =
    continues-used g.P.Stepper.did g.met.P.Stepper.goes_on c.args.p.now c.pieces.p c.pieces.pieces (g.met.P.Stepper.stays c.pieces.p) (omega (arith, c.pieces-test.false, c.pieces.invariant.within))
    c.pieces.invariant.more
