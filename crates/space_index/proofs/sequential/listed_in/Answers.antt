use Rattle.std.proofs.Common.{Option, List, [], ℕ, subst, unwrap_or}
use Rattle.std.specs.List.Sorted.{IsStrictlySortedBy}
use Rattle.std.specs.Map.{keys_of}
use Rattle.std.specs.Ordering.{nat_cmp}
use Rattle.space_index.proofs.sequential.listed_in.Goals as goal

pub returns-in-None-clause-ordered : goal.returns-in-None-clause-ordered
unfolding IsStrictlySortedBy
returns-in-None-clause-ordered c = subst (λ (o : Option (List (ℕ × ℕ))). IsStrictlySortedBy nat_cmp (keys_of (unwrap_or o []))) c.in-None.ensures.value tt
