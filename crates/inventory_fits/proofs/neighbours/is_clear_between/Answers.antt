use Rattle.inventory_fits.specs.Frames.{start_of}
use Rattle.inventory_fits.proofs.Ahead.{then_above, not_below}
use Rattle.inventory_fits.proofs.neighbours.is_clear_between.Goals as goal

pub returns-then-is_clear_below : goal.returns-then-is_clear_below
returns-then-is_clear_below c =
    then_above c.args.moved.now c.args.number c.args.sequential c.args.segment.now (start_of c.args.segment.now) c.args.held.now.entries c.is_clear_below.result c.is_clear_above.result c.is_clear_below.ensures c.if-is_clear_below.true c.is_clear_above.ensures

pub returns-else-is_clear_below : goal.returns-else-is_clear_below
returns-else-is_clear_below c = not_below c.args.moved.now c.args.number c.args.sequential c.args.segment.now (start_of c.args.segment.now) c.args.held.now.entries c.is_clear_below.result c.is_clear_below.ensures c.if-is_clear_below.false
