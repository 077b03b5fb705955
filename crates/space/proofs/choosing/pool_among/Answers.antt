use Rattle.std.proofs.Common.{◌∙◌, sym}
use Rattle.std.specs.List.{find}
use Rattle.space.specs.Placing.{has_place}
use Rattle.space.proofs.Lists.{find_more}
use Rattle.space.proofs.choosing.pool_among.Goals as goal

pub walked-preserved : goal.walked-preserved
walked-preserved c =
    find_more (has_place c.args.request.now c.args.next_file c.args.counted.now c.args.pools.now) c.args.walked.now c.walked.number-index (find (has_place c.args.request.now c.args.next_file c.args.counted.now c.args.pools.now) c.args.walked.now)
    c.walked-test.true (sym c.in_ok-has.ensures ∙ c.if-has.false) c.walked.invariant
