use Rattle.std.proofs.Common.{◌≡◌, is_some}
use Rattle.std.specs.List.{list_all}
use Rattle.std.specs.Map.{lookup}
use Rattle.inventory_rows.specs.object_rows.Filespaces.{at_number}
use Rattle.inventory_rows.specs.State.{inv_of}
use Rattle.inventory_rules.specs.Valid.{filespaces_cite}
use Rattle.inventory_check.proofs.clients.filespaces_cite.Given as goal

abbrev pub invariant-filespaces : goal.invariant-filespaces
invariant-filespaces l = list_all (λ f. is_some (lookup (at_number f.1.node) l.tables.objects.nodes)) l.filespace-iterator ≡ filespaces_cite (inv_of l.tables)
