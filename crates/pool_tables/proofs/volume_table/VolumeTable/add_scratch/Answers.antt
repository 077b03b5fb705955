use Rattle.std.proofs.Common.{sym, ap, ◌∙◌}
use Rattle.volume_rows.specs.declared.volume.Volume.{Volume}
use Rattle.pool_tables.specs.Rows.{row_at}
use Rattle.pool_tables.specs.Names.{row_named}
use Rattle.pool_tables.specs.Scratch.{volume_name, scratch_name}
use Rattle.pool_tables.proofs.ScratchNames.{scratch_free}
use Rattle.pool_tables.proofs.volume_table.VolumeTable.add_scratch.Goals as goal

pub insert-requires-clause-name : goal.insert-requires-clause-name
insert-requires-clause-name c =
    ap (λ (v : Volume). row_named volume_name v.name c.args.self.now) c.in_ok-volume.ensures
    ∙ ap (row_named volume_name (scratch_name c.args.file)) (sym c.self.view_is)
    ∙ scratch_free c.args.file c.self.inside.rows.entries c.ranges.file.fits (ap (row_at c.args.file) c.self.view_is ∙ c.requires) c.self.invariant.each
