-- How segments lie on the volumes of a valid database.
use Rattle.std.specs.Prelude.{◌≡◌, ℕ, true, [], Some, None}
use Rattle.inventory_rows.specs.volume_rows.declared.volume.Volume.{Volume}
use Rattle.inventory_rows.specs.pool_tables.Rows.{row_at}
use Rattle.inventory_rows.specs.pool_rows.PoolRows.{is_sequential}
use Rattle.inventory_rows.specs.Search.{segments_on}
use Rattle.inventory_rows.specs.State.{Inv}
use Rattle.inventory_rules.specs.Held.{holding}
use Rattle.inventory_rules.specs.Valid.{are_disjoint}

-- each volume's row holds the segments that lie on it, of which no two overlap; and none lies on a volume that isn't there
pub record Lying (v : Inv) : Type 0 where
  pub held : (file : ℕ) (volume : Volume) → row_at file v.stores.volumes ≡ Some volume → volume.segments ≡ holding (segments_on file v)
  pub apart : (file : ℕ) (volume : Volume) → row_at file v.stores.volumes ≡ Some volume → are_disjoint (is_sequential volume.pool v.stores) (segments_on file v) ≡ true
  pub bare : (file : ℕ) → row_at file v.stores.volumes ≡ None → segments_on file v ≡ []
