use Rattle.benches.proofs.spaces.put.Goals as goal

pub returns : goal.returns
returns c = λ claims is. c.in_ok-put_copy_in.ensures c.args.pools.now claims c.args.object is c.in_ok-put_segment.ensures.put
