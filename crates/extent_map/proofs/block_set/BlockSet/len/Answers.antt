use Rattle.std.proofs.Common.{sym}
use Rattle.extent_map.proofs.Members.{length_members}
use Rattle.extent_map.proofs.block_set.BlockSet.len.Goals as goal

pub returns : goal.returns
returns c = sym (length_members c.self.inside.words.items c.self.inside.base c.self.inside.count c.args.self.now c.self.view_is)
