-- Volumes that may be reclaimed or reused.
use Rattle.std.specs.Prelude.{ℕ, ◌==◌, ◌&&◌, Bool, List, Result, Ok, Err, if◌then◌else◌}
use Rattle.std.specs.List.{flat_map}
use Rattle.std.specs.Result.{is_ok}
use Rattle.kinds.specs.declared.refusal.Refusal.{Refusal}
use Rattle.kinds.specs.declared.refusal.Refusal.TheVariants.{NotFound}
use Rattle.inventory_rows.specs.volume_rows.declared.volume.Volume.{Volume}
use Rattle.inventory_rows.specs.volume_rows.Volumes.{is_reclaimable}
use Rattle.inventory_rows.specs.pool_rows.PoolRows.{PoolRows, is_sequential}
use Rattle.inventory_rows.specs.pool_rows.Segments.{may_reuse_at}
use Rattle.inventory_rows.specs.State.{Inv}
use Rattle.inventory_work.specs.Copies.{has_pool}
use Rattle.inventory_work.specs.Lists.{only}

-- a volume of the pool is FULL, and at least so many hundredths of its capacity are used by no copy
abbrev pub is_eligible : ℕ → ℕ → PoolRows → Volume → Bool
is_eligible pool threshold s volume = volume.pool == pool && is_reclaimable (is_sequential pool s) threshold volume

abbrev pub eligible_files : ℕ → ℕ → PoolRows → ℕ × Volume → List ℕ
eligible_files pool threshold s e = only (is_eligible pool threshold s e.1) e.0

-- the volumes of a pool that are to be reclaimed, by file number
abbrev pub eligible_in : ℕ → ℕ → PoolRows → List ℕ
eligible_in pool threshold s = flat_map (eligible_files pool threshold s) s.volumes

-- the volumes to be reclaimed of a pool, which has to be there
abbrev pub eligible : ℕ → ℕ → Inv → Result (List ℕ) Refusal
eligible pool threshold v = if has_pool pool v then Ok (eligible_in pool threshold v.stores) else Err NotFound

abbrev pub reusable_files : ℕ → PoolRows → ℕ → List ℕ
reusable_files today s file = only (is_ok (may_reuse_at file today s)) file

-- the volumes that may be reused today, by file number
abbrev pub emptied : Inv → List ℕ
emptied v = flat_map (λ e. reusable_files v.today v.stores e.0) v.stores.volumes
