use Rattle.std.proofs.Common.{◌≡◌}
use Rattle.inventory_rows.specs.object_rows.HeldRows.{held_versions}
use Rattle.db_losses.specs.Losses.{all_gone, lost_of}
use Rattle.db_losses.proofs.gone.take_held.Given as goal

abbrev pub invariant-held : goal.invariant-held
invariant-held l = all_gone (lost_of l.losses (held_versions l.row-iterator)) l.day l.pools ≡ all_gone (lost_of l.losses (held_versions l.held.entries)) l.day l.fn.pools
