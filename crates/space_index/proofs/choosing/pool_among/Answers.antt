use Rattle.std.proofs.Common.{◌∙◌, sym}
use Rattle.std.specs.List.{find}
use Rattle.space.specs.Claims.{counted}
use Rattle.space.specs.Placing.{has_place}
use Rattle.space.proofs.Lists.{find_more}
use Rattle.space_index.proofs.choosing.pool_among.Goals as goal

pub numbers-preserved : goal.numbers-preserved
numbers-preserved c =
    let r = c.args.request.now in
    let s = c.args.space.now in
    find_more (has_place r s.next_file (counted r.actor s) c.args.pools.now) c.args.numbers.now c.numbers.number-index (find (has_place r s.next_file (counted r.actor s) c.args.pools.now) c.args.numbers.now)
    c.numbers-test.true (sym c.in_ok-has.ensures ∙ c.if-has.false) c.numbers.invariant
