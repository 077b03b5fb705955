-- What the deletions of a filespace and of a volume need to be there, and with what they are refused where it isn't.
use Rattle.std.specs.Prelude.{◌≡◌, ℕ, Bool, false, is_some, Some}
use Rattle.kinds.specs.declared.refusal.Refusal.{Refusal}
use Rattle.kinds.specs.declared.refusal.Refusal.TheVariants.{NotFound}
use Rattle.inventory_rows.specs.object_rows.Filespaces.{filespace_at}
use Rattle.inventory_rows.specs.pool_rows.PoolRows.{volume_named}
use Rattle.inventory_rows.specs.pool_tables.Rows.{row_at}
use Rattle.inventory_rows.specs.volume_rows.declared.volume.Volume.{Volume}
use Rattle.inventory_rows.specs.State.{Inv}

-- it isn't there, and is refused for that
abbrev pub IsAbsent : (is_there : Bool) → Refusal → Type 0
IsAbsent is_there why = (why ≡ NotFound) × (is_there ≡ false)

-- the filespace with this number is there
abbrev pub has_filespace : (filespace : ℕ) → Inv → Bool
has_filespace filespace v = is_some (filespace_at filespace v.clients.filespaces)

-- the volume with this file number is there, and is the one under its name
abbrev pub IsVolume : (file : ℕ) → Inv → Type 0
IsVolume file v = (x : Volume) × (row_at file v.stores.volumes ≡ Some x) × (volume_named x.name v.stores ≡ Some file)
