use Rattle.benches.proofs.spaces.take.Goals as goal

pub returns : goal.returns
returns c = λ claims is. c.in_ok-take_copy_in.ensures c.args.pools.now claims c.args.object c.args.today is c.in_ok-take_segment.ensures
