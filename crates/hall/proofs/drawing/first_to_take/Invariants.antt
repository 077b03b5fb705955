use Rattle.std.proofs.Common.{◌≡◌, drop}
use Rattle.std.specs.List.{find}
use Rattle.inventory_rows.specs.pool_tables.Rows.{row_at}
use Rattle.space.specs.Placing.{may_take}
use Rattle.hall.proofs.drawing.first_to_take.Given as goal

abbrev pub invariant-numbers : goal.invariant-numbers
invariant-numbers l = find (λ n. may_take l.size (row_at n l.pools.pools)) (drop l.number-index l.numbers) ≡ find (λ n. may_take l.size (row_at n l.pools.pools)) l.numbers
