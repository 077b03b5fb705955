use Rattle.std.proofs.Common.{◌∙◌}
use Rattle.inventory_rows.specs.State.{inv_of}
use Rattle.inventory.proofs.Tested.{tested_alike}
use Rattle.inventory.proofs.legal.refused.Goals as goal

pub returns : goal.returns
returns g c = c.tested.ensures ∙ tested_alike (g.J.Past.journal c.args.past.now) c.args.change.now (inv_of c.args.tables.now) c.requires.valid c.requires.tied c.are_ascending.ensures c.is_day.ensures
