use Rattle.std.proofs.Common.{All, take}
use Rattle.inventory_bytes.proofs.row_fits.each_fits.Given as goal

abbrev pub invariant-values : goal.invariant-values
invariant-values g l = All g.R.FittingRow.spelled (take l.value-index l.values)
