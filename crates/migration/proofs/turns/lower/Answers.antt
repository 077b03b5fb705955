use Rattle.std.proofs.Common.{Some, None}
use Rattle.migration.specs.Turns.{rest_of}
use Rattle.migration.proofs.Turning.{going-breaks, going-ends, going-on, going-over, going-start, going-too-far, turning-as}
use Rattle.migration.proofs.turns.lower.Goals as goal

pub turns-init : goal.turns-init
turns-init g c = record {
  going = going-start g.P.Stepper.did g.met.P.Stepper.stays c.args.p.now (g.C.Chooser.picks c.args.chooser.now) c.args.pool c.args.low (rest_of c.unasked-left.result) c.unasked-left.ensures.none;
  same = c.unasked-left.ensures.same;
}

pub turns-preserved : goal.turns-preserved
turns-preserved g c = record {
  going = going-on g.P.Stepper.did g.met.P.Stepper.goes_on c.args.p.now c.turns.p c.turn.new.p (g.C.Chooser.picks c.args.chooser.now) c.args.pool c.args.low (rest_of c.turns.left) (rest_of c.turn.new.left)
      c.turns.so_far c.in-Ok-Some.more c.in-Some.sum c.in-Some.ensures c.turns.invariant.going
      (turning-as g.P.Stepper.did c.turns.p c.turn.new.p (g.C.Chooser.picks c.args.chooser.now) c.args.pool c.args.low (rest_of c.turns.left) (rest_of c.turn.new.left) c.in-Ok-Some.field-0
      (Some c.in-Ok-Some.more) c.in-Ok-Some.field-0-is c.in-Ok-Some.ensures.turning);
  same = c.in-Ok-Some.ensures.same;
}

pub returns-in-None : goal.returns-in-None
returns-in-None g c =
    going-too-far g.P.Stepper.did g.met.P.Stepper.goes_on c.args.p.now c.turns.p c.turn.new.p (g.C.Chooser.picks c.args.chooser.now) c.args.pool c.args.low (rest_of c.turns.left) (rest_of c.turn.new.left)
    c.turns.so_far c.in-Ok-Some.more c.turns.invariant.going
    (turning-as g.P.Stepper.did c.turns.p c.turn.new.p (g.C.Chooser.picks c.args.chooser.now) c.args.pool c.args.low (rest_of c.turns.left) (rest_of c.turn.new.left) c.in-Ok-Some.field-0
    (Some c.in-Ok-Some.more) c.in-Ok-Some.field-0-is c.in-Ok-Some.ensures.turning)

pub returns-in-Ok-None : goal.returns-in-Ok-None
returns-in-Ok-None g c =
    going-over g.P.Stepper.did g.met.P.Stepper.goes_on c.args.p.now c.turns.p c.turn.new.p (g.C.Chooser.picks c.args.chooser.now) c.args.pool c.args.low (rest_of c.turns.left) (rest_of c.turn.new.left)
    c.turns.so_far c.turns.invariant.going
    (turning-as g.P.Stepper.did c.turns.p c.turn.new.p (g.C.Chooser.picks c.args.chooser.now) c.args.pool c.args.low (rest_of c.turns.left) (rest_of c.turn.new.left) c.in-Ok-None.field-0
    None c.in-Ok-None.field-0-is c.in-Ok-None.ensures.turning)

pub returns-in-Err : goal.returns-in-Err
returns-in-Err g c =
    going-breaks g.P.Stepper.did g.met.P.Stepper.goes_on c.args.p.now c.turns.p c.turn.new.p (g.C.Chooser.picks c.args.chooser.now) c.args.pool c.args.low (rest_of c.turns.left) (rest_of c.turn.new.left)
    c.turns.so_far c.in-Err.refusal c.turns.invariant.going c.in-Err.ensures.turning

pub returns : goal.returns
returns g c =
    going-ends g.P.Stepper.did c.args.p.now c.turns.p (g.C.Chooser.picks c.args.chooser.now) c.args.pool c.args.low (rest_of c.turns.left) c.turns.so_far c.turns.invariant.going
