-- The refusal of a change of a part.
use Rattle.std.specs.Prelude.{ℕ, List, Option, Some, None, option_and_then, Result}
use Rattle.std.specs.Result.{result_err}
use Rattle.kinds.specs.declared.refusal.Refusal.{Refusal}
use Rattle.kinds.specs.declared.refusal.Refusal.TheVariants.{NotFound}
use Rattle.policy_domains.specs.Rows.{SetRow, DomainRow, row_of}

-- how a change of something is refused that has to be there
abbrev pub error_at : {X S : Type 0} → (X → Result S Refusal) → Option X → Option Refusal
error_at change None = Some NotFound
error_at change (Some x) = result_err (change x)

-- the policy set of a domain
abbrev pub set_at : List ℕ → List ℕ → List (List ℕ × DomainRow) → Option SetRow
set_at domain set rows = option_and_then (λ d. row_of set d.sets) (row_of domain rows)
