use Rattle.std.proofs.Common.{◌≡◌}
use Rattle.inventory_rows.specs.State.{inv_of}
use Rattle.inventory_check.specs.Asked.{all_in_filespaces, holds}
use Rattle.inventory_check.proofs.versions.all_in_filespaces.Given as goal

abbrev pub invariant-filespaces : goal.invariant-filespaces
invariant-filespaces l = all_in_filespaces (holds l.asked (inv_of l.tables)) l.filespace-iterator ≡ all_in_filespaces (holds l.asked (inv_of l.tables)) l.filespaces.entries
