use Rattle.extent_map.proofs.Members.{zeros_empty}
use Rattle.extent_map.proofs.block_set.BlockSet.new.Goals as goal

pub returns : goal.returns
returns c = zeros_empty c.in_ok-words.words.items c.div_ceil.result c.loop-base.base c.args.count c.in_ok-words.ensures
