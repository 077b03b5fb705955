use Rattle.std.proofs.Common.{◌∙◌, sym}
use Rattle.std.specs.List.{find}
use Rattle.inventory_rows.specs.pool_tables.Rows.{row_at}
use Rattle.space.specs.Placing.{may_take}
use Rattle.space.proofs.Lists.{find_more}
use Rattle.hall.proofs.drawing.first_to_take.Goals as goal

pub numbers-preserved : goal.numbers-preserved
numbers-preserved c =
    find_more (λ n. may_take c.args.size (row_at n c.args.pools.now.pools)) c.args.numbers.now c.numbers.number-index (find (λ n. may_take c.args.size (row_at n c.args.pools.now.pools)) c.args.numbers.now)
    c.numbers-test.true (sym c.may_take.ensures ∙ c.if-may_take.false) c.numbers.invariant
