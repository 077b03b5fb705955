-- What is true of the places that an object gets.
use Rattle.std.specs.Prelude.{◌≡◌, ℕ, Some, List, map}
use Rattle.std.specs.List.{sum_by}
use Rattle.inventory_rows.specs.pool_rows.PoolRows.{PoolRows}
use Rattle.space.specs.declared.places.Placed.{Placed}
use Rattle.space.specs.declared.request.Request.{Request}
use Rattle.space.specs.Claims.{Claims, counted}
use Rattle.space.specs.Pieces.{pieces, filled}
use Rattle.space.specs.Placing.{pool_for, placed}

-- They are in the first pool that may take the object and has room for it, in the pieces of its free space, and have the object's bytes in all.
pub record IsWhole (r : Request) (s : PoolRows) (claims : Claims) (places : List Placed) : Type 0 where
  pub number : ℕ
  pub first : pool_for r claims.next_file (counted r.actor claims) s ≡ Some number
  pub are : places ≡ map (placed number) (filled r.size (pieces number r.prefer r.avoid claims.next_file (counted r.actor claims) s))
  pub bytes : sum_by (λ x. x.len) (map (λ p. p.segment) places) ≡ r.size
