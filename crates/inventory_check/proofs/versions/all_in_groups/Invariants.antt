use Rattle.std.proofs.Common.{◌≡◌}
use Rattle.inventory_rows.specs.State.{inv_of}
use Rattle.inventory_check.specs.Asked.{all_in_groups, holds}
use Rattle.inventory_check.proofs.versions.all_in_groups.Given as goal

abbrev pub invariant-groups : goal.invariant-groups
invariant-groups l = all_in_groups (holds l.asked (inv_of l.tables)) l.group-iterator ≡ all_in_groups (holds l.asked (inv_of l.tables)) l.groups.entries
