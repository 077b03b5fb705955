use Rattle.kinds.proofs.Joins.{nine}
use Rattle.inventory_bytes.proofs.client_codecs.put_held.Goals as goal

pub returns : goal.returns
returns c =
    nine _ _ _ _ _ _ _ _ _ _ _ _ _ _ _ _ _ _ _ c.in_ok-put_u32.ensures.ok c.in_ok-write_to.ensures c.in_ok-write_to-2.ensures c.in_ok-write_to-3.ensures c.in_ok-put_u64.ensures.ok c.in_ok-write_to-4.ensures c.in_ok-write_to-5.ensures c.in_ok-write_to-6.ensures c.in_ok-put_copies.ensures
