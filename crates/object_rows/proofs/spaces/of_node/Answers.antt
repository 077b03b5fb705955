use Rattle.object_rows.proofs.NamedSpaces.{no_filespace}
use Rattle.object_rows.proofs.spaces.of_node.Goals as goal

pub returns-then-has_none : goal.returns-then-has_none
returns-then-has_none c = no_filespace c.args.spaces.now.entries c.args.filespaces.now.entries c.args.node c.requires (c.has_none.ensures.0 c.if-has_none.true)
