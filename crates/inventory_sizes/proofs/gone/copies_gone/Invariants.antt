use Rattle.std.proofs.Common.{◌≡◌, ◌*◌, ◌^◌, ◌≤◌, take}
use Rattle.std.specs.List.{sum_by}
use Rattle.inventory_rows.specs.State.{inv_of}
use Rattle.inventory_rules.specs.Copies.{segments_left}
use Rattle.inventory_sizes.proofs.gone.copies_gone.Given as goal

abbrev pub invariant-items : goal.invariant-items
invariant-items l = record { value : l.count ≡ sum_by (segments_left (inv_of l.tables)) (take l.item-index l.items); few : l.count ≤ l.item-index * 2 ^ 32 }
