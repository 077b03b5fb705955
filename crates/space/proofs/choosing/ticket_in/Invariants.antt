use Rattle.std.proofs.Common.{◌≡◌}
use Rattle.std.specs.List.{find}
use Rattle.space.specs.Placing.{holds_in}
use Rattle.space.proofs.choosing.ticket_in.Given as goal

abbrev pub invariant-tickets : goal.invariant-tickets
invariant-tickets l = find (λ t. holds_in l.pools l.actor t.1) l.number-iterator ≡ find (λ t. holds_in l.pools l.actor t.1) l.space.tickets
