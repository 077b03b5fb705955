use Rattle.std.proofs.Common.{◌∙◌}
use Rattle.object_rows.proofs.spaces.named.Goals as goal

pub returns : goal.returns
returns c = c.get.ensures ∙ (c.requires.index c.args.node).found c.args.name.now
