use Rattle.std.proofs.Common.{ap, ◌∙◌}
use Rattle.pool_tables.specs.Rows.{row_at}
use Rattle.pool_rows.specs.PoolRows.{PoolRows}
use Rattle.pool_rows.proofs.Reusing.{reuse_found}
use Rattle.pool_rows.proofs.pools.Pools.may_reuse.Goals as goal

pub returns-in-Some : goal.returns-in-Some
returns-in-Some c =
    c.may_reuse.ensures ∙ reuse_found c.args.self.now c.args.file c.args.today c.delay_of.result c.is_sequential_at-sequential.result c.in-Some.volume.now (c.in-Some.ensures ∙ ap (λ (s : PoolRows). row_at c.args.file s.volumes) c.self.view_is) c.is_sequential_at-sequential.ensures c.delay_of.ensures
