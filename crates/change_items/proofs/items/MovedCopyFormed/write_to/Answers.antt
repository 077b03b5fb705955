use Rattle.change_items.proofs.Joins.{four}
use Rattle.change_items.specs.ItemForms.{moved_copy}
use Rattle.change_items.proofs.items.MovedCopyFormed.write_to.Goals as goal

pub returns : goal.returns
unfolding moved_copy
returns c = four _ _ _ _ _ _ _ _ _ c.in_ok-put_u64.ensures.ok c.in_ok-put_u32.ensures.ok c.in_ok-put_u64-2.ensures.ok c.in_ok-put_placed.ensures
