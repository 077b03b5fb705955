use Rattle.std.proofs.Common.{List, refl, ap, ◌∙◌}
use Rattle.kinds.specs.declared.segment.Segment.{Segment}
use Rattle.inventory_rows.specs.version_groups.declared.copies.CopyRow.{CopyRow}
use Rattle.inventory_rows.specs.pool_rows.PoolRows.{PoolRows}
use Rattle.inventory_effects.specs.Volumes.{taken, all_taken}
use Rattle.inventory_effects.proofs.Loops.{next, last}
use Rattle.inventory_effects.proofs.segments.take_all.Goals as goal

pub copies-preserved : goal.copies-preserved
copies-preserved c =
    next (λ (x : CopyRow) (s : PoolRows). taken c.args.object x.segments c.args.today s) (λ (xs : List CopyRow) (s : PoolRows). all_taken c.args.object xs c.args.today s) (λ x xs s. refl) c.args.copies.now c.copies.copy-index c.copy-item.result c.copies.pools c.take.new.pools _ c.copies-test.true c.copy-item.is
    (c.take.ensures ∙ ap (λ (xs : List Segment). taken c.args.object xs c.args.today c.copies.pools) c.as_slice.ensures.value) c.copies.invariant

pub returns : goal.returns
returns c =
    last (λ (x : CopyRow) (s : PoolRows). taken c.args.object x.segments c.args.today s) (λ (xs : List CopyRow) (s : PoolRows). all_taken c.args.object xs c.args.today s) (λ s. refl) c.args.copies.now c.copies.copy-index c.copies.pools _ c.copies-test.false c.copies.invariant
