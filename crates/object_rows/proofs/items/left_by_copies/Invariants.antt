use Rattle.std.proofs.Common.{◌≡◌, length, drop}
use Rattle.std.specs.List.{sum_by}
use Rattle.object_rows.specs.Items.{left}
use Rattle.object_rows.proofs.items.left_by_copies.Given as goal

abbrev pub invariant-copies : goal.invariant-copies
invariant-copies l = left (sum_by (λ c. length c.segments) (drop l.copy-index l.copies)) l.rest ≡ left (sum_by (λ c. length c.segments) l.copies) l.fn.room
