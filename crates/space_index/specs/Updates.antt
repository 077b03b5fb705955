-- Changes of the rows, as the index follows them.
use Rattle.std.specs.Prelude.{◌≡◌, ◌≢◌, ℕ, ◌+◌, Option, Some, None, List}
use Rattle.kinds.specs.declared.pool.Access.{Access}
use Rattle.volume_rows.specs.declared.volume.Volume.{Volume}
use Rattle.pool_tables.specs.Rows.{row_at}
use Rattle.pool_rows.specs.PoolRows.{PoolRows, pool_capacity}
use Rattle.space.specs.Claims.{Claims, unclaimed}
use Rattle.space.specs.declared.places.Placed.{Placed}
use Rattle.space_index.specs.Index.{places_reach}

-- these places use blocks beside
abbrev pub and_places : List Placed → (ℕ → ℕ → ℕ) → ℕ → ℕ → ℕ
and_places places times file block = times file block + places_reach places file block

-- all volumes but one are as they were, and each pool is sequential where it was, its volumes as large as they were
pub record ChangesAt (file : ℕ) (s t : PoolRows) : Type 0 where
  pub others : (q : ℕ) → q ≢ file → row_at q t.volumes ≡ row_at q s.volumes
  pub kinds : (pool : ℕ) → pool_capacity pool t ≡ pool_capacity pool s

-- a volume with this access, and else as it was as far as blocks of it are used
pub record HasAccessOf (given : Access) (v w : Volume) : Type 0 where
  pub access : w.access ≡ given
  pub pool : w.pool ≡ v.pool
  pub capacity : w.capacity ≡ v.capacity
  pub segments : w.segments ≡ v.segments

abbrev pub IsAccessOf : Access → Option Volume → Option Volume → Type 0
IsAccessOf access None None = Unit {0}
IsAccessOf access None (Some w) = ⊥
IsAccessOf access (Some v) None = ⊥
IsAccessOf access (Some v) (Some w) = HasAccessOf access v w

-- these rows with other volumes
abbrev pub rows_with : PoolRows → List (ℕ × Volume) → PoolRows
rows_with s volumes = record s { volumes = volumes }

-- nothing is held
abbrev pub nothing : Claims
nothing = unclaimed 0
