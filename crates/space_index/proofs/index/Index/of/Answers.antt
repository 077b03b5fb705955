use Rattle.space_index.proofs.Claiming.{tails_at}
use Rattle.space_index.proofs.index.Index.of.Goals as goal

pub returns : goal.returns
returns c = record { random = c.in_ok-random.ensures; tails = tails_at c.in_ok-tails.tails c.args.pools.now c.args.space.now.tickets c.in_ok-tails.ensures; held = c.in_ok-tails.ensures.held }
