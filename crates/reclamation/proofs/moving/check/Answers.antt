use Rattle.reclamation.proofs.Beginning.{checks, checks-unpooled}
use Rattle.reclamation.proofs.moving.check.Goals as goal

pub returns-in-Ok-ask_pools : goal.returns-in-Ok-ask_pools
returns-in-Ok-ask_pools g c =
    checks g.P.Stepper.did g.met.P.Stepper.goes_on c.args.p.now c.ask_volumes.new.p c.ask_pools.new.p c.args.file c.args.to c.in-Ok.volumes c.as_slice.result.now c.in-Ok-ask_pools.pools
    c.as_slice-in-Ok-ask_pools.result.now c.goes.result c.as_slice.ensures c.as_slice-in-Ok-ask_pools.ensures c.goes.ensures c.in-Ok.ensures c.in-Ok-ask_pools.ensures

pub returns : goal.returns
returns g c =
    checks-unpooled g.P.Stepper.did g.met.P.Stepper.goes_on c.args.p.now c.ask_volumes.new.p c.ask_pools.new.p c.args.file c.args.to c.in-Ok.volumes c.in-Err-ask_pools.refusal c.in-Ok.ensures
    c.in-Err-ask_pools.ensures
