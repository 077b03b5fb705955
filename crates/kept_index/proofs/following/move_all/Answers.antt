use Rattle.std.proofs.Common.{◌∙◌, sym, ap}
use Rattle.pool_rows.specs.PoolRows.{is_sequential}
use Rattle.kept_index.proofs.Rows.{takes_kind}
use Rattle.kept_index.proofs.following.move_all.Goals as goal

pub returns : goal.returns
returns c = λ s full claims today es way came same lie rest.
    let brought = c.in_ok-bring.ensures s full claims way came (λ pool. sym (ap (is_sequential pool) rest) ∙ takes_kind today es full pool) in
    c.in_ok-take_all.ensures claims today es same (record { rows = full; is = brought; lie = lie; rest = rest })
