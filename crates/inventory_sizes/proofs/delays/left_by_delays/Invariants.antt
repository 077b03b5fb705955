use Rattle.std.proofs.Common.{◌≡◌, length}
use Rattle.inventory_rows.specs.State.{inv_of}
use Rattle.inventory_rows.specs.object_rows.Items.{left}
use Rattle.inventory_sizes.proofs.KeptDelays.{delays_of}
use Rattle.inventory_sizes.proofs.delays.left_by_delays.Given as goal

abbrev pub invariant-pools : goal.invariant-pools
invariant-pools l = left (length (delays_of (inv_of l.tables) l.number-iterator)) l.rest ≡ left (length (delays_of (inv_of l.tables) l.tables.pools.pools)) l.fn.room
