use Rattle.std.proofs.Common.{◌≡◌, ◌+◌, ℕ, Bool, List}
use Rattle.space.specs.declared.claims.Claim.{Claim}
use Rattle.space.specs.declared.places.Placed.{Placed}
use Rattle.space_index.specs.Claimed.{times}
use Rattle.space_index.specs.Tails.{IsTailsOf}
use Rattle.space_index.proofs.index.tails_of.Given as goal

abbrev pub invariant-tickets : goal.invariant-tickets
invariant-tickets l = (now : List (ℕ × Claim)) × ((m : ℕ → Placed → Bool) → times m now + times m l.claim-iterator ≡ times m l.space.tickets) × IsTailsOf l.tails l.pools now
