use Rattle.std.proofs.Common.{refl}
use Rattle.pool_tables.specs.Names.{pool_name}
use Rattle.pool_tables.specs.RowChanges.{with_settings}
use Rattle.pool_tables.proofs.Names.{index_edit}
use Rattle.pool_tables.proofs.pool_table.PoolTable.set_settings.Goals as goal

pub invariant_of-self : goal.invariant_of-self
invariant_of-self c =
    index_edit pool_name c.self.inside.names.entries c.args.number (with_settings c.args.settings) c.self.inside.rows.entries c.set_settings.new.pools.entries c.set_settings.ensures (λ v. refl) c.self.invariant
