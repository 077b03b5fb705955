use Rattle.std.proofs.Common.{ℕ, List, sym, subst}
use Rattle.std.specs.Cmp.Lexicographic.{slice_cmp}
use Rattle.std.specs.List.Sorted.{IsStrictlySortedBy}
use Rattle.std.specs.Map.{keys_of}
use Rattle.std.specs.Ordering.{nat_cmp}
use Rattle.policy_domains.specs.Rows.{DomainRow, SetRow}
use Rattle.policy_domains.specs.Ascending.{SetsAscend}
use Rattle.policy_domains.proofs.table.sets_ascend.Goals as goal

pub domains-preserved : goal.domains-preserved
domains-preserved c h =
    c.domains.invariant
    (subst (λ (l : List (List ℕ × DomainRow)). SetsAscend l) (sym c.in-Some.ensures.steps)
    (subst (λ (es : List (List ℕ × SetRow)). IsStrictlySortedBy (slice_cmp nat_cmp) (keys_of es)) c.sets.ensures c.len-sets.ensures.ordered, h))
