use Rattle.std.proofs.Common.{◌≡◌, [], take, drop}
use Rattle.inventory_rows.specs.State.{inv_of}
use Rattle.inventory_rules.specs.Versions.{paths_added}
use Rattle.inventory_rows.specs.object_rows.Items.{left}
use Rattle.inventory_sizes.proofs.Paths.{paths_of}
use Rattle.inventory_sizes.proofs.added.left_by_paths.Given as goal

abbrev pub invariant-items : goal.invariant-items
invariant-items l = left (paths_added l.filespace (paths_of (take l.i l.items)) (drop l.i l.items) (inv_of l.tables)) l.rest ≡ left (paths_added l.filespace [] l.items (inv_of l.tables)) l.fn.room
