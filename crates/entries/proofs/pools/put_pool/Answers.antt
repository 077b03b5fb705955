use Rattle.change_items.proofs.Joins.{four}
use Rattle.entries.specs.ChangeForm.{change, change_body}
use Rattle.entries.specs.PoolTags.{pool_body}
use Rattle.entries.proofs.pools.put_pool.Goals as goal

pub returns-in_ok-put_described-in-Pool : goal.returns-in_ok-put_described-in-Pool
unfolding change change_body pool_body
returns-in_ok-put_described-in-Pool c =
    rw c.in-Pool.is (four _ _ _ _ _ _ _ _ _ c.in_ok-put_u8-in-Pool.ensures.ok c.in_ok-write_to-in-Pool.ensures c.in_ok-write_to-in-Pool-2.ensures c.in_ok-put_described-in-Pool.ensures)

pub returns-in_ok-put_located-in-Volume : goal.returns-in_ok-put_located-in-Volume
unfolding change change_body pool_body
returns-in_ok-put_located-in-Volume c =
    rw c.in-Volume.is (four _ _ _ _ _ _ _ _ _ c.in_ok-put_u8-in-Volume.ensures.ok c.in_ok-write_to-in-Volume.ensures c.in_ok-write_to-in-Volume-2.ensures c.in_ok-put_located-in-Volume.ensures)
