use Rattle.std.proofs.Common.{ℕ, take, List}
use Rattle.space.specs.declared.claims.Claim.{Claim}
use Rattle.space_index.specs.Claimed.{and_ticket}
use Rattle.space_index.specs.Tails.{IsTailsOf}
use Rattle.space_index.proofs.tails.Tails.put_all.Given as goal

abbrev pub invariant-places : goal.invariant-places
invariant-places l = (tickets : List (ℕ × Claim)) → IsTailsOf l.initial.self l.pools tickets → IsTailsOf l.self l.pools (and_ticket l.actor (take l.place-index l.places) tickets)
