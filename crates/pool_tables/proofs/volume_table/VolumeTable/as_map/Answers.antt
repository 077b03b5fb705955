use Rattle.std.proofs.Common.{◌≡◌, true, List, ℕ, subst}
use Rattle.volume_rows.specs.declared.volume.Volume.{Volume}
use Rattle.pool_tables.specs.Names.{are_apart}
use Rattle.pool_tables.specs.Scratch.{volume_name, are_rightly_named}
use Rattle.pool_tables.specs.Counted.{are_sound}
use Rattle.pool_tables.proofs.Ascending.{both, sound_named}
use Rattle.pool_tables.proofs.volume_table.VolumeTable.as_map.Goals as goal

pub returns-clause-sound : goal.returns-clause-sound
returns-clause-sound c =
    subst (λ (rows : List (ℕ × Volume)). are_sound rows ≡ true) c.self.view_is
    (both (are_apart volume_name c.self.inside.rows.entries) (are_rightly_named c.self.inside.rows.entries) c.self.invariant.index.apart (sound_named c.self.inside.rows.entries c.self.invariant.each))
