use Rattle.std.proofs.Common.{◌≡◌}
use Rattle.inventory_rows.specs.State.{inv_of}
use Rattle.inventory_check.specs.Asked.{all_in_held, holds}
use Rattle.inventory_check.proofs.versions.all_in_held.Given as goal

abbrev pub invariant-held : goal.invariant-held
invariant-held l = all_in_held (holds l.asked (inv_of l.tables)) l.row-iterator ≡ all_in_held (holds l.asked (inv_of l.tables)) l.held.entries
