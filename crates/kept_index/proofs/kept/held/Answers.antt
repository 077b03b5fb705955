use Rattle.std.proofs.Common.{sym, ap, ◌∙◌}
use Rattle.pool_tables.specs.Rows.{row_at}
use Rattle.kept_index.proofs.kept.held.Goals as goal

pub returns-in-Ok : goal.returns-in-Ok
returns-in-Ok c = λ is. c.in-Ok.ensures c.args.space.now c.args.number is (ap (row_at c.args.number) (sym c.tickets.ensures) ∙ sym c.in-None.ensures.value)
