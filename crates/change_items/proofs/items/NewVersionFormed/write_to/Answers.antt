use Rattle.kinds.proofs.Joins.{eight}
use Rattle.change_items.specs.ItemForms.{new_version}
use Rattle.change_items.proofs.items.NewVersionFormed.write_to.Goals as goal

pub returns : goal.returns
unfolding new_version
returns c =
    eight _ _ _ _ _ _ _ _ _ _ _ _ _ _ _ _ _ c.in_ok-write_to.ensures c.in_ok-write_to-2.ensures c.in_ok-write_to-3.ensures c.in_ok-put_u64.ensures.ok c.in_ok-write_to-4.ensures c.in_ok-put_u64-2.ensures.ok c.in_ok-put_u32.ensures.ok c.in_ok-write_to-5.ensures
