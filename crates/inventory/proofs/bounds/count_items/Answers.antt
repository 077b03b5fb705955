use Rattle.std.proofs.Common.{◌∙◌}
use Rattle.inventory_rows.specs.State.{inv_of}
use Rattle.inventory.proofs.Within.{items_counted}
use Rattle.inventory.proofs.bounds.count_items.Goals as goal

pub returns : goal.returns
returns c = c.count_items.ensures ∙ items_counted (inv_of c.args.tables.now) c.requires
