-- The policy sets of the domains in ascending order of their names, each name once.
use Rattle.std.specs.Prelude.{ℕ, List}
use Rattle.std.specs.Cmp.Lexicographic.{slice_cmp}
use Rattle.std.specs.List.{AllByRecursion}
use Rattle.std.specs.List.Sorted.{IsStrictlySortedBy}
use Rattle.std.specs.Map.{keys_of}
use Rattle.std.specs.Ordering.{nat_cmp}
use Rattle.policy_domains.specs.Rows.{DomainRow}

-- rows stand by name
abbrev pub AreByName : {V : Type 0} → List (List ℕ × V) → Type 0
AreByName rows = IsStrictlySortedBy (slice_cmp nat_cmp) (keys_of rows)

-- the sets of each domain stand by name
abbrev pub SetsAscend : List (List ℕ × DomainRow) → Type 0
SetsAscend domains = AllByRecursion (λ d. AreByName d.1.sets) domains
