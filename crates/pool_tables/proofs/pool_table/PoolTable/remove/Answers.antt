use Rattle.std.proofs.Common.{ℕ, List, sym, subst}
use Rattle.pool_tables.specs.declared.pool.Pool.{Pool}
use Rattle.pool_tables.specs.Names.{pool_name, IsIndex}
use Rattle.pool_tables.proofs.Names.{index_remove}
use Rattle.pool_tables.proofs.pool_table.PoolTable.remove.Goals as goal

pub invariant_of-self : goal.invariant_of-self
invariant_of-self c =
    subst (λ (rows : List (ℕ × Pool)). IsIndex pool_name c.remove-in-Some.new.self.entries rows) (sym c.remove.ensures.entries)
    (index_remove pool_name c.self.inside.names.entries c.remove-in-Some.new.self.entries c.args.number c.in-Some.pool c.self.inside.rows.entries (sym c.in-Some.ensures.value) c.remove-in-Some.ensures.updates.0 c.self.invariant)
