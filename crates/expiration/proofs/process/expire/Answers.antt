use Rattle.std.proofs.Common.{Ok, Err}
use Rattle.expiration.proofs.Working.{expire-breaks, expires}
use Rattle.expiration.proofs.process.expire.Goals as goal

pub returns-in-Err-remove_all : goal.returns-in-Err-remove_all
returns-in-Err-remove_all g c =
    expire-breaks g.P.Stepper.did g.met.P.Stepper.goes_on c.args.p.now c.list.new.p c.remove_all.new.p c.in-Ok.lines c.in-Err-remove_all.refusal c.in-Ok.ensures c.in-Err-remove_all.ensures

pub returns-in-Ok-finish : goal.returns-in-Ok-finish
returns-in-Ok-finish g c =
    expires g.P.Stepper.did g.met.P.Stepper.goes_on c.args.p.now c.list.new.p c.remove_all.new.p c.finish.new.p c.in-Ok.lines c.as_slice.result.now c.in-Ok-remove_all.count (Ok tt)
    c.as_slice.ensures c.in-Ok.ensures c.in-Ok-remove_all.ensures c.in-Ok-finish.ensures

pub returns : goal.returns
returns g c =
    expires g.P.Stepper.did g.met.P.Stepper.goes_on c.args.p.now c.list.new.p c.remove_all.new.p c.finish.new.p c.in-Ok.lines c.as_slice.result.now c.in-Ok-remove_all.count
    (Err c.in-Err-finish.refusal) c.as_slice.ensures c.in-Ok.ensures c.in-Ok-remove_all.ensures c.in-Err-finish.ensures
