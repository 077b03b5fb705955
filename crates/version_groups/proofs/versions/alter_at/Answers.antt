use Rattle.version_groups.proofs.Altered.{Alters-place}
use Rattle.version_groups.proofs.versions.alter_at.Goals as goal

pub returns : goal.returns
returns c = Alters-place c.args.change c.change.result c.args.versions.now c.args.i c.index-versions-i.result c.change.new.self c.requires.within c.change.ensures
