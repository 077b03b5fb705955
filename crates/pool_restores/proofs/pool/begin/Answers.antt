use Rattle.pool_restores.proofs.Beginning.{begin-full, begin-unchecked, begins}
use Rattle.pool_restores.proofs.pool.begin.Goals as goal

pub returns-in-Err-check : goal.returns-in-Err-check
returns-in-Err-check g c =
    begin-unchecked g.P.Stepper.did g.met.P.Stepper.goes_on c.args.p.now c.ask_volumes.new.p c.check.new.p c.args.pool c.in-Ok.volumes c.in-Err-check.refusal c.in-Ok.ensures c.in-Err-check.ensures

pub returns-in-Ok-destroyed_of : goal.returns-in-Ok-destroyed_of
returns-in-Ok-destroyed_of g c =
    begins g.P.Stepper.did g.met.P.Stepper.goes_on c.args.p.now c.ask_volumes.new.p c.check.new.p c.collect.new.p c.args.pool c.in-Ok.volumes c.as_slice.result.now c.in-Ok-destroyed_of.files.items
    c.as_slice-in-Ok-destroyed_of.result.now c.collect.result c.as_slice.ensures c.in-Ok-destroyed_of.ensures c.as_slice-in-Ok-destroyed_of.ensures.value c.in-Ok.ensures c.in-Ok-check.ensures c.collect.ensures

pub returns : goal.returns
returns g c =
    begin-full g.P.Stepper.did g.met.P.Stepper.goes_on c.args.p.now c.ask_volumes.new.p c.check.new.p c.args.pool c.in-Ok.volumes c.in-Err-destroyed_of.refusal c.in-Err-destroyed_of.ensures c.in-Ok.ensures
    c.in-Ok-check.ensures
