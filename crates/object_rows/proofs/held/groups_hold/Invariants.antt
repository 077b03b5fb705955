use Rattle.std.proofs.Common.{◌≡◌}
use Rattle.object_rows.specs.Held.{groups_hold}
use Rattle.object_rows.proofs.held.groups_hold.Given as goal

abbrev pub invariant-groups : goal.invariant-groups
invariant-groups l = groups_hold l.pool l.group-iterator ≡ groups_hold l.pool l.groups.entries
