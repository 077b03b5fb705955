-- What it means that volumes are of one pool each, whichever row or ticket names it.
use Rattle.std.specs.Prelude.{◌≡◌, ℕ}
use Rattle.std.specs.List.{AllByRecursion, flat_map}
use Rattle.inventory_rows.specs.pool_rows.PoolRows.{PoolRows}
use Rattle.space.specs.declared.counted.Counted.{Counted}
use Rattle.space.specs.Claims.{Claims}

-- each row, and each place that a ticket holds, names the pool of its volume
pub record AreInPools (pool_of : ℕ → ℕ) (s : PoolRows) (c : Counted) : Type 0 where
  pub rows : AllByRecursion (λ f. f.1.pool ≡ pool_of f.0) s.volumes
  pub own : AllByRecursion (λ p. p.pool ≡ pool_of p.segment.file) c.own
  pub others : AllByRecursion (λ p. p.pool ≡ pool_of p.segment.file) c.others

-- each row, and each place whose segment a transaction took away that isn't forced yet, does
pub record AreFreedInPools (pool_of : ℕ → ℕ) (s : PoolRows) (claims : Claims) : Type 0 where
  pub rows : AllByRecursion (λ f. f.1.pool ≡ pool_of f.0) s.volumes
  pub freed : AllByRecursion (λ p. p.pool ≡ pool_of p.segment.file) (flat_map (λ f. f.1) claims.freed)
