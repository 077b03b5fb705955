-- How full a pool is: what is used of a whole. Comparisons go without a division; a percentage that is shown is rounded down.
use Rattle.std.specs.Prelude.{ℕ, ◌+◌, ◌*◌, ◌/◌, ◌==◌, ◌&&◌, max, Bool, nat_le, Option, Some, None, if◌then◌else◌}
use Rattle.pool_tables.specs.declared.pool.Pool.{Pool}
use Rattle.pool_tables.specs.Rows.{row_at}
use Rattle.pool_tables.specs.Sums.{used_blocks_on, blocks_of_volume, live_bytes_on, defined_one, scratch_one, total_of}
use Rattle.pool_rows.specs.PoolRows.{PoolRows, pool_capacity}

abbrev pub scratch_limit : Option Pool → ℕ
scratch_limit None = 0
scratch_limit (Some pool) = pool.settings.max_scratch

-- what is used of a pool: blocks where it is of random access, live frame bytes where it is sequential
abbrev pub used_of : ℕ → PoolRows → Option ℕ → ℕ
used_of pool s None = total_of used_blocks_on pool s.volumes
used_of pool s (Some capacity) = total_of live_bytes_on pool s.volumes

-- the whole: all blocks, or the bytes of its defined volumes and of as many scratch volumes as it may have or has
abbrev pub whole_of : ℕ → PoolRows → Option ℕ → ℕ
whole_of pool s None = total_of blocks_of_volume pool s.volumes
whole_of pool s (Some capacity) =
    capacity * (total_of defined_one pool s.volumes + max (scratch_limit (row_at pool s.pools)) (total_of scratch_one pool s.volumes))

-- the percentage is at least this one; where nothing is used of nothing it is 0
abbrev pub reaches : ℕ → ℕ → ℕ → Bool
reaches percent used whole =
    if used == 0 && whole == 0 then percent == 0 else nat_le (percent * whole) (used * 100)

-- the percentage is at most this one
abbrev pub stays_within : ℕ → ℕ → ℕ → Bool
stays_within percent used whole = nat_le (used * 100) (percent * whole)

-- the pool's percentage is at least this one
abbrev pub percent_at_least : ℕ → ℕ → PoolRows → Bool
percent_at_least pool percent s = reaches percent (used_of pool s (pool_capacity pool s)) (whole_of pool s (pool_capacity pool s))

-- the pool's percentage is at most this one
abbrev pub percent_at_most : ℕ → ℕ → PoolRows → Bool
percent_at_most pool percent s = stays_within percent (used_of pool s (pool_capacity pool s)) (whole_of pool s (pool_capacity pool s))

-- what is used in hundredths of the whole, rounded down; 0 where the whole is nothing
abbrev pub rounded : ℕ → ℕ → ℕ
rounded used whole = if whole == 0 then 0 else used * 100 / whole

-- the pool's percentage, rounded down
abbrev pub percent_of : ℕ → PoolRows → ℕ
percent_of pool s = rounded (used_of pool s (pool_capacity pool s)) (whole_of pool s (pool_capacity pool s))
