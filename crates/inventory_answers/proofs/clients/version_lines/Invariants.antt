use Rattle.std.proofs.Common.{◌≡◌, ◌++◌}
use Rattle.inventory_work.specs.inventory_rows.State.{inv_of}
use Rattle.inventory_answers.specs.Clients.{version_lines}
use Rattle.inventory_answers.proofs.clients.version_lines.Given as goal

abbrev pub invariant-groups : goal.invariant-groups
invariant-groups l =
    l.lines.items ++ version_lines l.filespace (inv_of l.tables) l.path-iterator ≡ version_lines l.filespace (inv_of l.tables) l.groups.entries
