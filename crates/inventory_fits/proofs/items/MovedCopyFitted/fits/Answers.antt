use Rattle.std.proofs.Common.{◌∙◌}
use Rattle.inventory_rows.specs.State.{inv_of}
use Rattle.inventory_fits.proofs.Each.{moved_copy_seen}
use Rattle.inventory_fits.proofs.items.MovedCopyFitted.fits.Goals as goal

pub returns : goal.returns
returns c = c.moved_copy_fits.ensures ∙ moved_copy_seen c.args.items.now c.args.scratch.now (inv_of c.args.tables.now) c.args.self.now
