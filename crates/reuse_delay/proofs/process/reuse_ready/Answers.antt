-- That the end was made is looked for, and not cited: a body that makes none is refused for want of that fact.
use Rattle.std.proofs.Common.{Ok, Err, rules}
use Rattle.reuse_delay.proofs.Working.{all-done, list-broke, reuse-broke}
use Rattle.reuse_delay.proofs.process.reuse_ready.Goals as goal

pub returns-in-Err : goal.returns-in-Err
returns-in-Err g c = list-broke g.P.Stepper.did c.args.p.now c.list.new.p c.in-Err.refusal c.in-Err.ensures

pub returns-in-Err-reuse_all : goal.returns-in-Err-reuse_all
returns-in-Err-reuse_all g c =
    reuse-broke g.P.Stepper.did g.met.P.Stepper.goes_on c.args.p.now c.list.new.p c.reuse_all.new.p c.in-Ok.files c.as_slice.result.now c.in-Err-reuse_all.refusal
    c.as_slice.ensures c.in-Ok.ensures c.in-Err-reuse_all.ensures

pub returns-in-Ok-ask_today : goal.returns-in-Ok-ask_today
returns-in-Ok-ask_today g c =
    all-done g.P.Stepper.did g.met.P.Stepper.goes_on c.args.p.now c.list.new.p c.reuse_all.new.p _ c.in-Ok.files c.as_slice.result.now c.in-Ok-reuse_all.count (Ok tt)
    c.as_slice.ensures c.in-Ok.ensures c.in-Ok-reuse_all.ensures (search rules)

pub returns : goal.returns
returns g c =
    all-done g.P.Stepper.did g.met.P.Stepper.goes_on c.args.p.now c.list.new.p c.reuse_all.new.p _ c.in-Ok.files c.as_slice.result.now c.in-Ok-reuse_all.count (Err c.in-Err-ask_today.refusal)
    c.as_slice.ensures c.in-Ok.ensures c.in-Ok-reuse_all.ensures (search rules)
