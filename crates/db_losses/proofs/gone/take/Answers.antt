use Rattle.std.proofs.Common.{List, refl}
use Rattle.kinds.specs.declared.segment.Segment.{Segment}
use Rattle.inventory_rows.specs.pool_rows.PoolRows.{PoolRows}
use Rattle.inventory_rows.specs.pool_rows.Segments.{take_segment}
use Rattle.inventory_rules.specs.Common.{or_same}
use Rattle.inventory_effects.specs.Volumes.{taken}
use Rattle.inventory_effects.proofs.Loops.{next_at, last}
use Rattle.db_losses.proofs.gone.take.Goals as goal

pub segments-preserved : goal.segments-preserved
segments-preserved c =
    next_at (λ (x : Segment) (s : PoolRows). or_same s (take_segment c.args.object x c.args.day s)) (λ (xs : List Segment) (s : PoolRows). taken c.args.object xs c.args.day s) (λ x xs s. refl) c.args.segments.now c.segments.segment-index _ c.segments.pools c.take_one.new.pools _ c.segments-test.true c.take_one.ensures c.segments.invariant

pub returns : goal.returns
returns c =
    last (λ (x : Segment) (s : PoolRows). or_same s (take_segment c.args.object x c.args.day s)) (λ (xs : List Segment) (s : PoolRows). taken c.args.object xs c.args.day s) (λ s. refl) c.args.segments.now c.segments.segment-index c.segments.pools _ c.segments-test.false c.segments.invariant
