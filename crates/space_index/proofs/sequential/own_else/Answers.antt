use Rattle.std.proofs.Common.{Option, ℕ, ap, subst, ◌∙◌}
use Rattle.std.specs.List.Sorted.{IsStrictlySortedBy}
use Rattle.std.specs.Map.{keys_of}
use Rattle.std.specs.Ordering.{nat_cmp}
use Rattle.pool_tables.specs.Rows.{row_at}
use Rattle.space_index.specs.declared.by_pool.Listing.{Listing}
use Rattle.space_index.specs.Sequential.{rooms_of_own}
use Rattle.space_index.proofs.sequential.own_else.Goals as goal

pub returns-in-None-clause-ordered : goal.returns-in-None-clause-ordered
unfolding IsStrictlySortedBy
returns-in-None-clause-ordered c =
    subst (λ (o : Option Listing). IsStrictlySortedBy nat_cmp (keys_of (rooms_of_own c.args.number o))) (c.in-None.ensures.value ∙ ap (λ (n : ℕ). row_at n c.args.tails.now.lists.own.entries) c.from.ensures) tt
