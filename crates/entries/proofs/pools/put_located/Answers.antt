use Rattle.change_items.proofs.Joins.{four}
use Rattle.entries.proofs.pools.put_located.Goals as goal

pub returns : goal.returns
returns c = four _ _ _ _ _ _ _ _ _ c.in_ok-put_u32.ensures.ok c.in_ok-put_u32-2.ensures.ok c.in_ok-write_to.ensures c.in_ok-write_to-2.ensures
