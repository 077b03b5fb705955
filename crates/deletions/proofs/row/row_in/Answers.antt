use Rattle.std.proofs.Common.{inr, sym, ap}
use Rattle.deletions.specs.Volumes.{row_found}
use Rattle.deletions.proofs.row.row_in.Goals as goal

pub returns-in-None : goal.returns-in-None
returns-in-None c = inr (ap row_found (sym c.in-None.ensures))
