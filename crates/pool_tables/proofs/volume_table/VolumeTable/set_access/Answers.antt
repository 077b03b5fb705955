use Rattle.std.proofs.Common.{refl}
use Rattle.pool_tables.specs.RowChanges.{with_access}
use Rattle.pool_tables.proofs.Sound.{counted_kept}
use Rattle.pool_tables.proofs.volume_table.VolumeTable.set_access.Goals as goal

pub invariant_of-self : goal.invariant_of-self
invariant_of-self c =
    counted_kept c.self.inside.names.entries c.self.inside.totals.entries c.self.inside.rows.entries c.set_access.new.volumes.entries c.args.file (with_access c.args.access) c.set_access.ensures
    (λ v. record { name = refl; pool = refl; scratch = refl }) (λ v. refl) c.self.invariant
