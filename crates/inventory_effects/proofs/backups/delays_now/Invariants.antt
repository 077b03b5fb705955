use Rattle.std.proofs.Common.{◌≡◌, ◌++◌}
use Rattle.inventory_rows.specs.State.{inv_of}
use Rattle.inventory_effects.proofs.Delays.{delays_of}
use Rattle.inventory_effects.proofs.backups.delays_now.Given as goal

abbrev pub invariant-pools : goal.invariant-pools
invariant-pools l = l.delays.entries ++ delays_of (inv_of l.tables) l.number-iterator ≡ delays_of (inv_of l.tables) l.tables.pools.pools
