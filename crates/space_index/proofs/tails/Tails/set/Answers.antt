use Rattle.std.proofs.Common.{sym}
use Rattle.pool_tables.specs.Rows.{row_at}
use Rattle.space_index.proofs.tails.Tails.set.Goals as goal

pub returns-in-None-clause-lists : goal.returns-in-None-clause-lists
returns-in-None-clause-lists c = λ sites others is same here. c.set_open.ensures sites others (λ q. row_at q c.args.self.now.held.entries) is same here (sym c.in-None.ensures.value)

pub returns-in-Some-clause-lists : goal.returns-in-Some-clause-lists
returns-in-Some-clause-lists c = λ sites others is same here. c.set_held.ensures sites others (λ q. row_at q c.args.self.now.held.entries) is same here (sym c.in-Some.ensures.value)
