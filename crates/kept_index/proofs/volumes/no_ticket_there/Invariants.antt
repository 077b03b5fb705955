use Rattle.std.proofs.Common.{◌≡◌, not}
use Rattle.std.specs.List.{list_all}
use Rattle.space.specs.Volumes.{is_held}
use Rattle.kept_index.proofs.volumes.no_ticket_there.Given as goal

abbrev pub invariant-tickets : goal.invariant-tickets
invariant-tickets l = list_all (λ t. not (is_held l.file t.1.places)) l.claim-iterator ≡ list_all (λ t. not (is_held l.file t.1.places)) l.space.tickets
