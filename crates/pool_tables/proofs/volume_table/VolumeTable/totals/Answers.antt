use Rattle.std.proofs.Common.{◌<◌, ◌^◌, length, sym, subst, arith}
use Rattle.pool_tables.specs.declared.totals.Totals.{Totals}
use Rattle.pool_tables.specs.Counted.{AreWithin}
use Rattle.pool_tables.proofs.Sound.{totals_little, counts_little}
use Rattle.pool_tables.proofs.volume_table.VolumeTable.totals.Goals as goal

pub returns-clause-few : goal.returns-clause-few
returns-clause-few c =
    let few : length c.self.inside.rows.entries < 2 ^ 63 = omega (arith, c.len-len.ensures.len, c.len-len.ensures.small) in
    subst (λ (t : Totals). AreWithin t (2 ^ 119)) (sym c.totals_at.ensures) (totals_little c.self.inside.names.entries c.self.inside.totals.entries c.self.inside.rows.entries c.args.pool few c.self.invariant)

pub returns-clause-defined : goal.returns-clause-defined
returns-clause-defined c =
    let few : length c.self.inside.rows.entries < 2 ^ 63 = omega (arith, c.len-len.ensures.len, c.len-len.ensures.small) in
    subst (λ (t : Totals). t.defined < 2 ^ 63) (sym c.totals_at.ensures) (counts_little c.self.inside.names.entries c.self.inside.totals.entries c.self.inside.rows.entries c.args.pool few c.self.invariant).0

pub returns-clause-scratch : goal.returns-clause-scratch
returns-clause-scratch c =
    let few : length c.self.inside.rows.entries < 2 ^ 63 = omega (arith, c.len-len.ensures.len, c.len-len.ensures.small) in
    subst (λ (t : Totals). t.scratch < 2 ^ 63) (sym c.totals_at.ensures) (counts_little c.self.inside.names.entries c.self.inside.totals.entries c.self.inside.rows.entries c.args.pool few c.self.invariant).1
