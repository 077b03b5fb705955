use Rattle.std.proofs.Common.{sym, ap, ◌∙◌}
use Rattle.pool_tables.specs.Rows.{row_at}
use Rattle.space_index.specs.Tails.{base_at}
use Rattle.kept_index.proofs.kept.forgotten.Goals as goal

pub returns-in-Ok : goal.returns-in-Ok
returns-in-Ok c = λ s is. c.in-Ok.ensures s c.args.space.now (base_at s c.args.space.now.tickets) c.args.number is (ap (row_at c.args.number) (sym c.freed.ensures) ∙ sym c.in-Some.ensures.value)
