use Rattle.std.proofs.Common.{Option, Some, None, is_some, if◌then◌else◌, List, ℕ, sym, ap, ◌∙◌}
use Rattle.pool_tables.specs.declared.pool.Pool.{Pool}
use Rattle.pool_tables.specs.Names.{pool_name, row_named}
use Rattle.pool_tables.proofs.Ascending.{none_from, row_absent, next_row, twice_so}
use Rattle.pool_tables.proofs.pool_table.PoolTable.from_rows.Goals as goal

pub returns-then-is_some : goal.returns-then-is_some
returns-then-is_some c =
    sym (ap (λ b. if◌then◌else◌ {A = Option (List (ℕ × Pool))} b (Some c.args.rows.entries) None)
    (twice_so pool_name c.rows.table c.in-Some.number c.in-Some.pool c.next.new.self c.rows.number-iterator c.args.rows.entries c.in-Some.ensures.steps c.rows.invariant.whole (ap is_some (sym c.named.ensures) ∙ sym c.is_some.ensures ∙ c.if-is_some.true)))

pub insert-requires-clause-number : goal.insert-requires-clause-number
insert-requires-clause-number c =
    row_absent c.rows.table c.in-Some.number c.in-Some.pool c.next.new.self c.rows.number-iterator c.args.rows.entries c.in-Some.ensures.steps c.rows.invariant.whole c.rows.invariant.sorted

pub rows-preserved : goal.rows-preserved
rows-preserved c =
    let next = next_row pool_name c.rows.table c.insert.new.self c.in-Some.number c.in-Some.pool c.next.new.self c.rows.number-iterator c.args.rows.entries c.in-Some.ensures.steps c.rows.invariant.whole c.rows.invariant.sorted c.in_ok-insert.ensures (none_from (row_named pool_name c.in-Some.pool.name c.rows.table) (ap is_some (sym c.named.ensures) ∙ sym c.is_some.ensures ∙ c.if-is_some.false)) c.rows.invariant.apart in
    record { whole = next.whole; sorted = c.rows.invariant.sorted; apart = next.apart }
