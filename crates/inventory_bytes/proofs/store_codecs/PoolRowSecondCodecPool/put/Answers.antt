use Rattle.inventory_bytes.specs.StoreForms.{pool_row}
use Rattle.inventory_bytes.proofs.Joins.{four}
use Rattle.inventory_bytes.proofs.store_codecs.PoolRowSecondCodecPool.put.Goals as goal

pub returns : goal.returns
unfolding pool_row
returns c = four _ _ _ _ _ _ _ _ _ c.in_ok-write_to.ensures c.in_ok-write_to-2.ensures c.in_ok-write_to-3.ensures c.in_ok-write_to-4.ensures
