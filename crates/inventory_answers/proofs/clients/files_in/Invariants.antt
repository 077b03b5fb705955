use Rattle.std.proofs.Common.{◌≡◌, ◌+◌}
use Rattle.inventory_answers.specs.Clients.{files_in}
use Rattle.inventory_answers.proofs.clients.files_in.Given as goal

abbrev pub invariant-groups : goal.invariant-groups
invariant-groups l = l.files + files_in l.group-iterator ≡ files_in l.groups.entries
