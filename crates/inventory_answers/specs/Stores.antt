-- The rows of device classes, storage pools, volumes and database backups.
use Rattle.std.specs.Prelude.{ℕ, ◌+◌, ◌*◌, nat_lt, Bool, List, map, Option, Some, None, Result, Ok, Err, if◌then◌else◌}
use Rattle.std.specs.List.{flat_map}
use Rattle.kinds.specs.declared.refusal.Refusal.{Refusal}
use Rattle.inventory_work.specs.inventory_rows.version_groups.Entries.{on_ok}
use Rattle.inventory_work.specs.inventory_rows.volume_rows.declared.volume.Volume.{Volume}
use Rattle.inventory_work.specs.inventory_rows.volume_rows.Holdings.{live_bytes, used_blocks}
use Rattle.inventory_work.specs.inventory_rows.volume_rows.Volumes.{status_of}
use Rattle.inventory_work.specs.inventory_rows.pool_tables.declared.pool.Pool.{Pool}
use Rattle.inventory_work.specs.inventory_rows.pool_rows.PoolRows.{PoolRows, is_sequential}
use Rattle.inventory_work.specs.inventory_rows.pool_rows.Shares.{percent_at_most, percent_of}
use Rattle.inventory_work.specs.inventory_rows.declared.backup.Backup.{Backup}
use Rattle.inventory_answers.specs.declared.lines.DeviceLine.{DeviceLine}
use Rattle.inventory_answers.specs.declared.lines.PoolLine.{PoolLine}
use Rattle.inventory_answers.specs.declared.lines.VolumeLine.{VolumeLine}
use Rattle.inventory_answers.specs.declared.lines.BackupLine.{BackupLine}
use Rattle.inventory_answers.specs.Look.{name_of_pool, next_name, pool_asked, volume_asked, chosen, is_asked}
use Rattle.inventory_work.specs.Lists.{only}

-- a device class
abbrev pub device_line : List ℕ × Option ℕ → DeviceLine
device_line c = record { name = c.0; capacity = c.1 }

-- all device classes, by name
abbrev pub device_lines : PoolRows → List DeviceLine
device_lines s = map device_line s.classes

-- the first of this percentage and the next one that what is used of a pool doesn't exceed
abbrev pub first_within : ℕ → ℕ → PoolRows → Option ℕ
first_within pool percent s = if percent_at_most pool percent s then Some percent else (if percent_at_most pool (percent + 1) s then Some (percent + 1) else None)

-- the least percentage that it doesn't exceed, up to 255: the one that is rounded down, or the next one
abbrev pub least_of : ℕ → ℕ → PoolRows → Option ℕ
least_of pool percent s = if nat_lt percent 255 then first_within pool percent s else None

-- a storage pool, with its percentage and the name of the next pool
abbrev pub pool_line : PoolRows → ℕ × Pool → PoolLine
pool_line s p = record {
  number = p.0;
  name = p.1.name;
  kind = p.1.kind;
  class = p.1.class;
  next = next_name p.1.settings.next s;
  percent = percent_of p.0 s;
  least = least_of p.0 (percent_of p.0 s) s;
  settings = p.1.settings;
}

-- all storage pools by number, or the one with this number
abbrev pub pool_lines : Option ℕ → PoolRows → List PoolLine
pool_lines number s = map (pool_line s) (chosen number s.pools)

-- all storage pools, or the one that is named, which has to be there
abbrev pub pools_of : Option (List ℕ) → PoolRows → Result (List PoolLine) Refusal
pools_of name s = on_ok (λ number. pool_lines number s) (pool_asked name s)

-- the bytes that are used on a volume: of live frames on a sequential one, of used blocks on a random one
abbrev pub used_on : Bool → Volume → ℕ
used_on sequential v = if sequential then live_bytes v.segments else used_blocks v.segments * 4096

-- a volume, with its status and the name of its pool
abbrev pub volume_line : PoolRows → ℕ × Volume → VolumeLine
volume_line s e = record {
  name = e.1.name;
  file = e.0;
  pool = name_of_pool e.1.pool s;
  status = status_of (is_sequential e.1.pool s) e.1;
  access = e.1.access;
  used = used_on (is_sequential e.1.pool s) e.1;
  capacity = e.1.capacity;
  end = e.1.end;
}

-- the volume, where it lies in the pool that is asked for
abbrev pub volume_lines_of : PoolRows → Option ℕ → ℕ × Volume → List VolumeLine
volume_lines_of s pool e = only (is_asked pool e.1.pool) (volume_line s e)

-- the volumes of all pools or of one, by file number, or the one with this file number where it is among them
abbrev pub volume_lines : Option ℕ → Option ℕ → PoolRows → List VolumeLine
volume_lines file pool s = flat_map (volume_lines_of s pool) (chosen file s.volumes)

abbrev pub volumes_asked : Result (Option ℕ) Refusal → Result (Option ℕ) Refusal → PoolRows → Result (List VolumeLine) Refusal
volumes_asked (Err e) pool s = Err e
volumes_asked (Ok file) (Err e) s = Err e
volumes_asked (Ok file) (Ok pool) s = Ok (volume_lines file pool s)

-- the volumes that have the one name and lie in the pool with the other, where these are given; what is named has to be there
abbrev pub volumes_of : Option (List ℕ) → Option (List ℕ) → PoolRows → Result (List VolumeLine) Refusal
volumes_of volume pool s = volumes_asked (volume_asked volume s) (pool_asked pool s) s

-- a database backup
abbrev pub backup_line : ℕ × Backup → BackupLine
backup_line b = record { file = b.0; taken = b.1.taken; number = b.1.number; done = b.1.is_done; after = b.1.after }

-- all database backups, by the numbers of their files
abbrev pub backup_lines : List (ℕ × Backup) → List BackupLine
backup_lines backups = map backup_line backups
