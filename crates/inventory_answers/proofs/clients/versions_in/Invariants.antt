use Rattle.std.proofs.Common.{◌≡◌, ◌+◌}
use Rattle.inventory_answers.specs.Clients.{versions_in}
use Rattle.inventory_answers.proofs.clients.versions_in.Given as goal

abbrev pub invariant-groups : goal.invariant-groups
invariant-groups l = l.versions + versions_in l.group-iterator ≡ versions_in l.groups.entries
