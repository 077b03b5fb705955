use Rattle.std.proofs.Common.{◌∙◌}
use Rattle.inventory_rows.specs.State.{inv_of}
use Rattle.inventory_check.proofs.Joined.{valid_together}
use Rattle.inventory_check.proofs.valid.is_valid.Goals as goal

pub returns : goal.returns
returns c =
    c.together.ensures
    ∙ valid_together (inv_of c.args.tables.now) c.in_ok-numbered.numbered c.are_named-named.result c.is_small.result c.in_ok-numbered.ensures c.are_named-named.ensures c.is_small.ensures
