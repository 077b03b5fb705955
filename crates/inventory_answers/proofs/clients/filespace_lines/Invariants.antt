use Rattle.std.proofs.Common.{◌≡◌, ◌++◌}
use Rattle.std.specs.List.{flat_map}
use Rattle.inventory_answers.specs.Clients.{filespace_lines_of}
use Rattle.inventory_answers.proofs.clients.filespace_lines.Given as goal

abbrev pub invariant-filespaces : goal.invariant-filespaces
invariant-filespaces l =
    l.lines.items ++ flat_map (filespace_lines_of l.objects l.node) l.number-iterator ≡ flat_map (filespace_lines_of l.objects l.node) l.objects.filespaces
