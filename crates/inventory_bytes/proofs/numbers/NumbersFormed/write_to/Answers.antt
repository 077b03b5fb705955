use Rattle.kinds.proofs.Joins.{seven}
use Rattle.inventory_bytes.specs.Payload.{numbers}
use Rattle.inventory_bytes.proofs.numbers.NumbersFormed.write_to.Goals as goal

pub returns : goal.returns
unfolding numbers
returns c =
    seven _ _ _ _ _ _ _ _ _ _ _ _ _ _ _ c.in_ok-put_u64.ensures.ok c.in_ok-write_to.ensures c.in_ok-put_u32.ensures.ok c.in_ok-put_u32-2.ensures.ok c.in_ok-put_u32-3.ensures.ok c.in_ok-put_u32-4.ensures.ok c.in_ok-put_u64-2.ensures.ok
