use Rattle.std.proofs.Common.{◌≡◌, ◌++◌, take}
use Rattle.reports.specs.Pieces.{rows_of}
use Rattle.reports.proofs.rows.put_rows.Given as goal

abbrev pub invariant-rows : goal.invariant-rows
invariant-rows g l = l.text.items ≡ l.fn.text.items ++ rows_of g.T.Row.printed l.line (take l.row-index l.rows)
