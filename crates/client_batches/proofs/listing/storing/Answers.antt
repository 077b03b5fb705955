use Rattle.std.proofs.Common.{arith}
use Rattle.client_batches.proofs.Lengths.{mapped_more}
use Rattle.client_batches.specs.Listings.{stored}
use Rattle.client_batches.proofs.listing.storing.Goals as goal

pub lines-preserved : goal.lines-preserved
lines-preserved c =
    mapped_more stored c.lines.items.items c.push.new.self.items c.args.lines.now c.lines.line-index c.line-item.result c.in-Ok.item c.in-Ok-push.ensures.items c.in-Ok.ensures c.lines.invariant c.line-item.is
    (omega (arith, c.lines-test.true))
