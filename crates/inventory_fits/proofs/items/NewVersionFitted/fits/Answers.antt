use Rattle.std.proofs.Common.{[], ap, ◌∙◌}
use Rattle.inventory_rows.specs.State.{inv_of}
use Rattle.inventory_fits.specs.Fitting.{copy_fits_at}
use Rattle.inventory_fits.proofs.Seen.{copy_seen}
use Rattle.inventory_fits.proofs.items.NewVersionFitted.fits.Goals as goal

pub returns : goal.returns
returns c =
    c.new_object_fits.ensures
    ∙ ap (copy_fits_at [] c.args.scratch.now (inv_of c.args.tables.now) c.args.self.now.pool c.args.self.now.size) c.as_slice-segments.ensures.value
    ∙ copy_seen [] c.args.scratch.now (inv_of c.args.tables.now) c.args.self.now.pool c.args.self.now.size c.args.self.now.segments
