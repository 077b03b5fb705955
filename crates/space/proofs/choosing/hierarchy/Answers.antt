use Rattle.std.proofs.Common.{◌-◌, arith}
use Rattle.space.specs.Placing.{hierarchy}
use Rattle.space.proofs.Lists.{chain_more, chain_ended}
use Rattle.space.proofs.choosing.hierarchy.Goals as goal

pub steps-preserved : goal.steps-preserved
steps-preserved c =
    chain_more c.len-end.result c.steps.counter c.in-Some.pool c.steps.next c.next_of-next.result c.args.pools.now.pools c.steps.out.items c.push.new.self.items (hierarchy c.args.start c.args.pools.now) (omega arith) c.in-Some.is c.next_of-next.ensures c.in_ok-push.ensures.items c.steps.invariant

pub returns-in-None : goal.returns-in-None
returns-in-None c =
    chain_ended (c.len-end.result - c.steps.counter) c.steps.next c.args.pools.now.pools c.steps.out.items (hierarchy c.args.start c.args.pools.now) c.in-None.is c.steps.invariant
