use Rattle.kinds.proofs.Joins.{seven}
use Rattle.inventory_bytes.proofs.volume_codecs.put_volume.Goals as goal

pub returns : goal.returns
returns c =
    seven _ _ _ _ _ _ _ _ _ _ _ _ _ _ _ c.in_ok-write_to.ensures c.in_ok-put_u32.ensures.ok c.in_ok-write_to-2.ensures c.in_ok-write_to-3.ensures c.in_ok-write_to-4.ensures c.in_ok-put_u64.ensures.ok c.in_ok-write_to-5.ensures
