use Rattle.extent_map.proofs.Words.{lowest_is}
use Rattle.extent_map.proofs.word.lowest.Goals as goal

pub returns : goal.returns
returns c = lowest_is c.args.word c.requires c.ranges.word.fits
