use Rattle.std.proofs.Common.{◌∙◌}
use Rattle.inventory_rows.specs.State.{inv_of}
use Rattle.inventory_sizes.proofs.Paths.{path_more, path_stop}
use Rattle.inventory_sizes.proofs.added.left_by_paths.Goals as goal

pub returns-in-None : goal.returns-in-None
returns-in-None c =
    path_stop c.args.filespace (inv_of c.args.tables.now) c.args.items.now c.items.i c.index-items-i.result c.items-test.true c.is_new_path-comes.result c.is_new_path-comes.ensures c.items.rest c.in-None.ensures ∙ c.items.invariant

pub items-preserved : goal.items-preserved
items-preserved c =
    path_more c.args.filespace (inv_of c.args.tables.now) c.args.items.now c.items.i c.index-items-i.result c.items-test.true c.is_new_path-comes.result c.is_new_path-comes.ensures c.items.rest c.in-Some.less c.in-Some.ensures ∙ c.items.invariant
