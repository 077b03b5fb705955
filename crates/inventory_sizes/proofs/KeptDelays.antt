-- The delays that a backup keeps which begins now, pool by pool.
use Rattle.std.specs.Prelude.{ℕ, ◌&&◌, if◌then◌else◌, List, [], ◌∷◌}
use Rattle.std.specs.List.{flat_map}
use Rattle.inventory_rows.specs.pool_tables.declared.pool.Pool.{Pool}
use Rattle.inventory_rows.specs.pool_rows.PoolRows.{is_sequential}
use Rattle.inventory_rows.specs.Search.{holds_copy}
use Rattle.inventory_rows.specs.State.{Inv}

-- the delays of some pools, where they are kept
abbrev pub delays_of : Inv → List (ℕ × Pool) → List (ℕ × ℕ)
delays_of v pools = flat_map (λ p. if is_sequential p.0 v.stores && holds_copy p.0 v then (p.0, p.1.settings.reuse_delay) ∷ [] else []) pools
