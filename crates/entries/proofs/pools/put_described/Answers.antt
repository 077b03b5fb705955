use Rattle.change_items.proofs.Joins.{three}
use Rattle.entries.proofs.pools.put_described.Goals as goal

pub returns : goal.returns
returns c = three _ _ _ _ _ _ _ c.in_ok-write_to.ensures c.in_ok-write_to-2.ensures c.in_ok-write_to-3.ensures
