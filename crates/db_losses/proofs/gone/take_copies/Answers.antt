use Rattle.std.proofs.Common.{List, [], ◌∷◌, refl}
use Rattle.inventory_rows.specs.version_groups.declared.copies.CopyRow.{CopyRow}
use Rattle.inventory_rows.specs.pool_rows.PoolRows.{PoolRows}
use Rattle.inventory_effects.proofs.Loops.{next, last}
use Rattle.db_losses.specs.Losses.{all_gone, lost_of_copies}
use Rattle.db_losses.proofs.Going.{copy_first}
use Rattle.db_losses.proofs.gone.take_copies.Goals as goal

pub copies-preserved : goal.copies-preserved
copies-preserved c =
    next (λ (x : CopyRow) (s : PoolRows). all_gone (lost_of_copies c.args.losses.now c.args.object (x ∷ [])) c.args.day s) (λ (xs : List CopyRow) (s : PoolRows). all_gone (lost_of_copies c.args.losses.now c.args.object xs) c.args.day s) (λ x xs s. copy_first c.args.losses.now c.args.day c.args.object x xs s)
    c.args.copies.now c.copies.copy-index c.copy-item.result c.copies.pools c.take_copy.new.pools _ c.copies-test.true c.copy-item.is c.take_copy.ensures c.copies.invariant

pub returns : goal.returns
returns c =
    last (λ (x : CopyRow) (s : PoolRows). all_gone (lost_of_copies c.args.losses.now c.args.object (x ∷ [])) c.args.day s) (λ (xs : List CopyRow) (s : PoolRows). all_gone (lost_of_copies c.args.losses.now c.args.object xs) c.args.day s) (λ s. refl) c.args.copies.now c.copies.copy-index c.copies.pools _ c.copies-test.false c.copies.invariant
