use Rattle.change_items.proofs.Joins.{two}
use Rattle.change_items.specs.ItemForms.{new_copy}
use Rattle.change_items.proofs.items.NewCopyFormed.write_to.Goals as goal

pub returns : goal.returns
unfolding new_copy
returns c = two _ _ _ _ _ c.in_ok-put_u64.ensures.ok c.in_ok-put_placed.ensures
