-- The delays that a database backup keeps from its beginning.
use Rattle.std.specs.Prelude.{ℕ, Bool, ◌&&◌, if◌then◌else◌, List}
use Rattle.inventory_rows.specs.pool_tables.declared.pool.Pool.{Pool}
use Rattle.inventory_rows.specs.pool_tables.Rows.{with_row}
use Rattle.inventory_rows.specs.pool_rows.PoolRows.{is_sequential}
use Rattle.inventory_rows.specs.Search.{holds_copy}
use Rattle.inventory_rows.specs.State.{Inv}

-- the pool is sequential, and a copy lies in it
abbrev pub has_delay : Inv → ℕ → Bool
has_delay v pool = is_sequential pool v.stores && holds_copy pool v

-- the delays, with that of a pool where the backup keeps it
abbrev pub delay_kept : Inv → ℕ → Pool → List (ℕ × ℕ) → List (ℕ × ℕ)
delay_kept v number pool delays = if has_delay v number then with_row number pool.settings.reuse_delay delays else delays
