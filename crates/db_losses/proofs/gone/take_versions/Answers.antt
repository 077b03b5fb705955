use Rattle.std.proofs.Common.{List, ap, ◌∙◌, refl}
use Rattle.inventory_rows.specs.version_groups.declared.copies.CopyRow.{CopyRow}
use Rattle.inventory_rows.specs.version_groups.declared.versions.Version.{Version}
use Rattle.inventory_rows.specs.pool_rows.PoolRows.{PoolRows}
use Rattle.inventory_effects.proofs.Loops.{next, last}
use Rattle.db_losses.specs.Losses.{all_gone, lost_of, lost_of_copies}
use Rattle.db_losses.proofs.Going.{version_first}
use Rattle.db_losses.proofs.gone.take_versions.Goals as goal

pub versions-preserved : goal.versions-preserved
versions-preserved c =
    next (λ (x : Version) (s : PoolRows). all_gone (lost_of_copies c.args.losses.now x.object x.copies) c.args.day s) (λ (xs : List Version) (s : PoolRows). all_gone (lost_of c.args.losses.now xs) c.args.day s) (λ x xs s. version_first c.args.losses.now c.args.day x xs s)
    c.args.versions.now c.versions.version-index c.version-item.result c.versions.pools c.take_copies.new.pools _ c.versions-test.true c.version-item.is
    (c.take_copies.ensures ∙ ap (λ (xs : List CopyRow). all_gone (lost_of_copies c.args.losses.now c.version-item.result.object xs) c.args.day c.versions.pools) c.as_slice.ensures.value) c.versions.invariant

pub returns : goal.returns
returns c =
    last (λ (x : Version) (s : PoolRows). all_gone (lost_of_copies c.args.losses.now x.object x.copies) c.args.day s) (λ (xs : List Version) (s : PoolRows). all_gone (lost_of c.args.losses.now xs) c.args.day s) (λ s. refl) c.args.versions.now c.versions.version-index c.versions.pools _ c.versions-test.false c.versions.invariant
