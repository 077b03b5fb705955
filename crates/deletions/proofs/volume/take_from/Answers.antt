use Rattle.std.proofs.Common.{ap, ◌∙◌}
use Rattle.deletions.proofs.Removing.{pools-unasked, takes-from}
use Rattle.deletions.proofs.volume.take_from.Goals as goal
use Rattle.deletions.specs.Volumes.{is_copy_kind, is_copy_pool}

pub returns : goal.returns
returns g c =
    takes-from g.P.Stepper.did g.met.P.Stepper.goes_on c.args.p.now c.ask_pools.new.p c.take.new.p c.args.pool c.args.file c.args.lines.now c.in-Ok.pools c.is_copy_kind.result c.take.result
    (c.is_copy_kind.ensures ∙ ap is_copy_kind c.kind_of-kind.ensures ∙ ap (is_copy_pool c.args.pool) c.as_slice.ensures) c.in-Ok.ensures c.take.ensures

pub returns-in-Err : goal.returns-in-Err
returns-in-Err g c = pools-unasked g.P.Stepper.did c.args.p.now c.ask_pools.new.p c.args.pool c.args.file c.args.lines.now c.in-Err.refusal c.in-Err.ensures
