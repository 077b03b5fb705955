use Rattle.std.specs.Prelude.{ℕ, Bool, false, is_some, Option, Some, None, List, [], ◌∷◌, codes, ◌&&◌, if◌then◌else◌}
use Rattle.std.specs.Option.{option_map}
use Rattle.pool_tables.specs.kinds.declared.pool.PoolKind.TheVariants.{Primary}
use Rattle.pool_tables.specs.kinds.declared.pool.SizeLimit.TheVariants.{NoLimit}
use Rattle.pool_tables.specs.volume_rows.declared.status.Status.{Status}
use Rattle.pool_tables.specs.volume_rows.declared.volume.Volume.{Volume}
use Rattle.pool_tables.specs.volume_rows.Volumes.{status_of, is_reclaimable}
use Rattle.pool_tables.specs.declared.pool.Pool.{Pool}
use Rattle.pool_tables.specs.Rows.{named, row_at}
use Rattle.pool_tables.specs.Names.{pool_name, row_named, are_apart}
use Rattle.pool_tables.specs.Counted.{are_sound}
use Rattle.pool_tables.specs.Scratch.{volume_name}

-- the device classes by name, each with its volumes' capacity (none for DISK, whose volumes are of random access), the storage
-- pools by number, and the volumes by file number
pub record PoolRows : Type 0 where
  pub classes : List (List ℕ × Option ℕ)
  pub pools : List (ℕ × Pool)
  pub volumes : List (ℕ × Volume)

-- the state with these rows, where the pools' and the volumes' names are their own, and the volumes' by their kinds
abbrev pub with_rows : List (List ℕ × Option ℕ) → List (ℕ × Pool) → List (ℕ × Volume) → Option PoolRows
with_rows classes pools volumes =
    if are_apart pool_name pools && are_sound volumes then Some (record { classes = classes; pools = pools; volumes = volumes }) else None

abbrev pub capacity_there : Option (Option ℕ) → Option ℕ
capacity_there None = None
capacity_there (Some capacity) = capacity

-- the capacity of the volumes of a class that is there and sequential
abbrev pub class_capacity : List ℕ → PoolRows → Option ℕ
class_capacity class s = capacity_there (named class s.classes)

abbrev pub pool_class_capacity : PoolRows → Option Pool → Option ℕ
pool_class_capacity s None = None
pool_class_capacity s (Some pool) = class_capacity pool.class s

-- the capacity of the volumes of a pool that is there and sequential
abbrev pub pool_capacity : ℕ → PoolRows → Option ℕ
pool_capacity pool s = pool_class_capacity s (row_at pool s.pools)

-- the pool is there and sequential
abbrev pub is_sequential : ℕ → PoolRows → Bool
is_sequential pool s = is_some (pool_capacity pool s)

abbrev pub is_sequential_row : PoolRows → Option Volume → Bool
is_sequential_row s None = false
is_sequential_row s (Some v) = is_sequential v.pool s

-- the volume is there and its pool is sequential
abbrev pub is_sequential_at : ℕ → PoolRows → Bool
is_sequential_at file s = is_sequential_row s (row_at file s.volumes)

-- the status of a volume that is there
abbrev pub status_at : ℕ → PoolRows → Option Status
status_at file s = option_map (λ v. status_of (is_sequential v.pool s) v) (row_at file s.volumes)

-- whether a volume that is there is to be reclaimed
abbrev pub reclaimable_at : ℕ → ℕ → PoolRows → Option Bool
reclaimable_at file threshold s = option_map (λ v. is_reclaimable (is_sequential v.pool s) threshold v) (row_at file s.volumes)

-- the number of the pool with this name
abbrev pub pool_named : List ℕ → PoolRows → Option ℕ
pool_named name s = row_named pool_name name s.pools

-- the file number of the volume with this name
abbrev pub volume_named : List ℕ → PoolRows → Option ℕ
volume_named name s = row_named volume_name name s.volumes

-- a new server's pool: primary, on DISK, with the defaults of DEFINE STGPOOL
abbrev pub backup_pool : Pool
backup_pool = record {
  name = codes "BACKUPPOOL";
  class = codes "DISK";
  kind = Primary;
  settings = record {
    max_size = NoLimit;
    next = None;
    high = 90;
    low = 70;
    reclaim = 60;
    reuse_delay = 0;
    max_scratch = 0;
    collocate = false;
  };
}

-- what a new server has: the device class DISK and the pool BACKUPPOOL with the number 1
abbrev pub fresh : PoolRows
fresh = record {
  classes = (codes "DISK", None) ∷ [];
  pools = (1, backup_pool) ∷ [];
  volumes = [];
}
