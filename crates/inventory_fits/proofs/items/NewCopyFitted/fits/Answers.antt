use Rattle.std.proofs.Common.{◌∙◌}
use Rattle.inventory_rows.specs.State.{inv_of}
use Rattle.inventory_fits.proofs.Each.{new_copy_seen}
use Rattle.inventory_fits.proofs.items.NewCopyFitted.fits.Goals as goal

pub returns : goal.returns
returns c = c.new_copy_fits.ensures ∙ new_copy_seen c.args.scratch.now (inv_of c.args.tables.now) c.args.self.now
