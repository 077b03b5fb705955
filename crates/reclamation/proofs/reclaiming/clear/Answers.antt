use Rattle.reclamation.proofs.Clearing.{clears, clears-memory, clears-unlisted}
use Rattle.reclamation.proofs.reclaiming.clear.Goals as goal

pub returns-in-Err : goal.returns-in-Err
returns-in-Err g c = clears-unlisted g.P.Stepper.did c.args.p.now c.list_there.new.p c.args.pool c.args.tried.now.keys c.args.tried.now.keys c.args.file c.in-Err.refusal c.in-Err.ensures

pub returns-in-Ok-untried : goal.returns-in-Ok-untried
returns-in-Ok-untried g c =
    clears g.P.Stepper.did g.met.P.Stepper.goes_on c.args.p.now c.list_there.new.p c.copy_all.new.p c.args.pool c.args.tried.now.keys c.untried.new.tried.keys c.args.file c.in-Ok.lines c.as_slice.result.now
    c.in-Ok-untried.wanted c.as_slice-in-Ok-untried.result.now c.copy_all.result c.as_slice.ensures c.in-Ok-untried.ensures.seen c.in-Ok-untried.ensures.wanted c.as_slice-in-Ok-untried.ensures
    c.in-Ok.ensures c.copy_all.ensures

pub returns : goal.returns
returns g c =
    clears-memory g.P.Stepper.did c.args.p.now c.list_there.new.p c.args.pool c.args.tried.now.keys c.args.tried.now.keys c.args.file c.in-Ok.lines c.in-Err-untried.refusal
    c.in-Err-untried.ensures.wanted c.in-Ok.ensures
