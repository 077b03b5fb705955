use Rattle.space.specs.Placing.{random_among}
use Rattle.space.proofs.Lists.{random_more}
use Rattle.space.proofs.choosing.random_among.Goals as goal

pub walked-preserved : goal.walked-preserved
walked-preserved c =
    random_more c.args.pools.now c.args.walked.now c.walked.number-index c.walked.out.items c.push_random.new.out.items (random_among c.args.walked.now c.args.pools.now) c.walked-test.true c.in_ok-push_random.ensures c.walked.invariant
