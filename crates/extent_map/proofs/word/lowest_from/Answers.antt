use Rattle.extent_map.proofs.Words.{none_from, lowest_after}
use Rattle.extent_map.proofs.word.lowest_from.Goals as goal

pub returns-then-rest-eq0 : goal.returns-then-rest-eq0
returns-then-rest-eq0 c = none_from c.args.word c.args.low c.if-rest-eq0.true

pub returns-else-rest-eq0 : goal.returns-else-rest-eq0
returns-else-rest-eq0 c = lowest_after c.args.word c.args.low c.lowest.result c.ranges.word.fits c.lowest.ensures
