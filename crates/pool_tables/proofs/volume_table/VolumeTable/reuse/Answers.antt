use Rattle.std.proofs.Common.{refl}
use Rattle.volume_rows.specs.Volumes.{reset}
use Rattle.pool_tables.proofs.Sound.{counted_kept}
use Rattle.pool_tables.proofs.volume_table.VolumeTable.reuse.Goals as goal

pub invariant_of-self : goal.invariant_of-self
invariant_of-self c =
    counted_kept c.self.inside.names.entries c.self.inside.totals.entries c.self.inside.rows.entries c.reset_at.new.volumes.entries c.args.file reset c.reset_at.ensures
    (λ v. record { name = refl; pool = refl; scratch = refl }) (λ v. refl) c.self.invariant
