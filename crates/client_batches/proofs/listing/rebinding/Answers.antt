use Rattle.std.proofs.Common.{arith}
use Rattle.client_batches.proofs.Lengths.{few_of, mapped_more}
use Rattle.client_batches.specs.Listings.{rebound}
use Rattle.client_batches.proofs.listing.rebinding.Goals as goal

pub push-requires : goal.push-requires
push-requires c = (omega arith, few_of rebound c.lines.items c.args.lines.now c.lines.line-index c.lines.invariant (omega arith) c.requires)

pub lines-preserved : goal.lines-preserved
lines-preserved c =
    mapped_more rebound c.lines.items c.push.new.self c.args.lines.now c.lines.line-index c.line-item.result c.in-Ok.item c.in-Ok-push.ensures.ok c.in-Ok.ensures c.lines.invariant c.line-item.is
    (omega (arith, c.lines-test.true))
