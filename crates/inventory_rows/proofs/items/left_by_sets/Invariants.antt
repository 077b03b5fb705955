use Rattle.std.proofs.Common.{◌≡◌, length}
use Rattle.std.specs.List.{sum_by}
use Rattle.object_rows.specs.Items.{left}
use Rattle.inventory_rows.proofs.items.left_by_sets.Given as goal

abbrev pub invariant-sets : goal.invariant-sets
invariant-sets l = left (sum_by (λ s. length s.1.classes) l.set-iterator) l.rest ≡ left (sum_by (λ s. length s.1.classes) l.sets.entries) l.fn.room
