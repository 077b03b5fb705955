use Rattle.std.proofs.Common.{refl, rules, [], ◌∷◌, Ok, Err}
use Rattle.migration.specs.Turns.{rest_of}
use Rattle.migration.proofs.Turning.{to-some, turn-made, turn-tried, turn-unfilled, turn-unlooked}
use Rattle.migration.proofs.turns.turn.Goals as goal

pub returns-in-Err-clause-turning : goal.returns-in-Err-clause-turning
returns-in-Err-clause-turning g c =
    turn-unlooked g.P.Stepper.did c.args.p.now c.look.new.p (g.C.Chooser.picks c.args.chooser.now) c.args.pool c.args.low (rest_of c.args.left.now) (rest_of c.args.left.now) c.in-Err.refusal c.in-Err.ensures

pub returns-in-Err-fill-clause-turning : goal.returns-in-Err-fill-clause-turning
returns-in-Err-fill-clause-turning g c =
    turn-unfilled g.P.Stepper.did g.met.P.Stepper.goes_on c.args.p.now c.look.new.p c.fill.new.p (g.C.Chooser.picks c.args.chooser.now) c.args.pool c.args.low c.in-Ok-Some.to (rest_of c.args.left.now)
    (rest_of c.fill.new.left) (rest_of c.fill.new.left) c.in-Err-fill.refusal
    (to-some g.P.Stepper.did c.args.p.now c.look.new.p c.args.pool c.args.low c.in-Ok-Some.to c.in-Ok-Some.field-0 c.in-Ok-Some.field-0-is c.in-Ok-Some.ensures) c.in-Err-fill.ensures.fills

pub returns-then-is_empty-clause-turning : goal.returns-then-is_empty-clause-turning
returns-then-is_empty-clause-turning g c =
    turn-tried g.P.Stepper.did g.met.P.Stepper.goes_on c.args.p.now c.look.new.p c.fill.new.p (g.C.Chooser.picks c.args.chooser.now) c.args.pool c.args.low c.in-Ok-Some.to (rest_of c.args.left.now)
    (rest_of c.fill.new.left) (rest_of c.fill.new.left) (search rules)
    (to-some g.P.Stepper.did c.args.p.now c.look.new.p c.args.pool c.args.low c.in-Ok-Some.to c.in-Ok-Some.field-0 c.in-Ok-Some.field-0-is c.in-Ok-Some.ensures) c.in-Ok.ensures.fills

pub returns-in-Ok-copy_all-clause-turning : goal.returns-in-Ok-copy_all-clause-turning
returns-in-Ok-copy_all-clause-turning g c =
    turn-made g.P.Stepper.did g.met.P.Stepper.goes_on c.args.p.now c.look.new.p c.fill.new.p c.copy_all.new.p (g.C.Chooser.picks c.args.chooser.now) c.args.pool c.args.low c.in-Ok-Some.to
    (rest_of c.args.left.now) (rest_of c.fill.new.left) (rest_of c.take-wanted.new.left) c.take-wanted.result (c.take-wanted.result ∷ []) (Ok c.in-Ok-copy_all.moved) refl c.take-wanted.ensures.picked
    (to-some g.P.Stepper.did c.args.p.now c.look.new.p c.args.pool c.args.low c.in-Ok-Some.to c.in-Ok-Some.field-0 c.in-Ok-Some.field-0-is c.in-Ok-Some.ensures) c.in-Ok.ensures.fills c.in-Ok-copy_all.ensures

pub returns-in-Err-copy_all-clause-turning : goal.returns-in-Err-copy_all-clause-turning
returns-in-Err-copy_all-clause-turning g c =
    turn-made g.P.Stepper.did g.met.P.Stepper.goes_on c.args.p.now c.look.new.p c.fill.new.p c.copy_all.new.p (g.C.Chooser.picks c.args.chooser.now) c.args.pool c.args.low c.in-Ok-Some.to
    (rest_of c.args.left.now) (rest_of c.fill.new.left) (rest_of c.take-wanted.new.left) c.take-wanted.result (c.take-wanted.result ∷ []) (Err c.in-Err-copy_all.refusal) refl c.take-wanted.ensures.picked
    (to-some g.P.Stepper.did c.args.p.now c.look.new.p c.args.pool c.args.low c.in-Ok-Some.to c.in-Ok-Some.field-0 c.in-Ok-Some.field-0-is c.in-Ok-Some.ensures) c.in-Ok.ensures.fills c.in-Err-copy_all.ensures
