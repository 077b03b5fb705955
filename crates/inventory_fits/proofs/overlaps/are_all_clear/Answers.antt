use Rattle.std.proofs.Common.{◌∙◌}
use Rattle.inventory_rows.specs.State.{inv_of}
use Rattle.inventory_fits.specs.Fitting.{are_clear_pair}
use Rattle.inventory_fits.specs.Targets.{made}
use Rattle.inventory_fits.proofs.Lists.{all_lead_later}
use Rattle.inventory_fits.proofs.overlaps.are_all_clear.Goals as goal

pub returns : goal.returns
returns g c = c.are_items_clear.ensures ∙ all_lead_later (are_clear_pair (made c.args.scratch.now (inv_of c.args.tables.now))) g.T.Placed.segments c.args.items.now
