use Rattle.std.proofs.Common.{ℕ, List, Ok, Option, Some, None, cond, sym, ap, subst, ◌∙◌}
use Rattle.std.specs.BTreeMap.{is_at}
use Rattle.std.specs.Cmp.Lexicographic.{slice_cmp}
use Rattle.std.specs.Ordering.{nat_cmp}
use Rattle.pool_tables.specs.declared.pool.Pool.{Pool}
use Rattle.pool_tables.specs.Rows.{named, row_at, with_row}
use Rattle.pool_tables.specs.Names.{pool_name, row_named, IsIndex}
use Rattle.pool_tables.proofs.Names.{index_insert, index_undone}
use Rattle.pool_tables.proofs.pool_table.PoolTable.insert.Goals as goal

pub invariant_of-self-in-Ok : goal.invariant_of-self-in-Ok
invariant_of-self-in-Ok c =
    subst (λ (rows : List (ℕ × Pool)). IsIndex pool_name c.insert.new.self.entries rows) (sym c.in-Ok.ensures.entries)
    (index_insert pool_name c.self.inside.names.entries c.insert.new.self.entries c.args.number c.args.pool c.self.inside.rows.entries (ap (row_at c.args.number) c.self.view_is ∙ c.requires.number) (ap (row_named pool_name c.args.pool.name) c.self.view_is ∙ c.requires.name)
    (λ name. c.in_ok-insert.ensures.updates.0 name ∙ ap (λ (k : List ℕ). cond (is_at (slice_cmp nat_cmp k) name) (Some c.args.number) (named name c.self.inside.names.entries)) c.in_ok-clone.ensures.cases) c.self.invariant)

pub returns-in-Ok : goal.returns-in-Ok
returns-in-Ok c = ap Ok (sym (c.in-Ok.ensures.entries ∙ ap (with_row c.args.number c.args.pool) c.self.view_is))

pub invariant_of-self-in-Err : goal.invariant_of-self-in-Err
invariant_of-self-in-Err c =
    subst (λ (rows : List (ℕ × Pool)). IsIndex pool_name c.remove.new.self.entries rows) (sym c.in-Err.ensures.err)
    (index_undone pool_name c.args.pool.name c.args.number c.self.inside.names.entries c.insert.new.self.entries c.remove.new.self.entries c.self.inside.rows.entries (ap (row_named pool_name c.args.pool.name) c.self.view_is ∙ c.requires.name)
    (λ name. c.in_ok-insert.ensures.updates.0 name ∙ ap (λ (k : List ℕ). cond (is_at (slice_cmp nat_cmp k) name) (Some c.args.number) (named name c.self.inside.names.entries)) c.in_ok-clone.ensures.cases)
    (λ name. c.remove.ensures.updates.0 name ∙ ap (λ (k : List ℕ). cond {A = Option ℕ} (is_at (slice_cmp nat_cmp k) name) None (named name c.insert.new.self.entries)) (ap (λ (p : ℕ × Pool). p.1.name) c.in-Err.ensures.value_returned)) c.self.invariant)
