use Rattle.std.proofs.Common.{◌≡◌}
use Rattle.std.specs.List.{sum_by}
use Rattle.object_rows.specs.Items.{items_of_filespace, left}
use Rattle.object_rows.proofs.items.left_by_filespaces.Given as goal

abbrev pub invariant-filespaces : goal.invariant-filespaces
invariant-filespaces l = left (sum_by (λ f. items_of_filespace f.1) l.filespace-iterator) l.rest ≡ left (sum_by (λ f. items_of_filespace f.1) l.filespaces.entries) l.fn.room
