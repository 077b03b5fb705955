use Rattle.std.proofs.Common.{None, arith}
use Rattle.fields.proofs.Entries.{sorted_ascends}
use Rattle.inventory_bytes.proofs.row_fits.table_fits.Goals as goal

pub returns : goal.returns
returns g c = ((omega (arith, c.requires.few), c.requires.few, c.entries_fit.ensures), sorted_ascends g.K.Ord.cmp None c.args.map.now.entries tt c.len-len.ensures.ordered)
