use Rattle.std.proofs.Common.{◌≡◌, drop}
use Rattle.db_losses.specs.Losses.{all_gone, lost_of_copies}
use Rattle.db_losses.proofs.gone.take_copies.Given as goal

abbrev pub invariant-copies : goal.invariant-copies
invariant-copies l = all_gone (lost_of_copies l.losses l.object (drop l.copy-index l.copies)) l.day l.pools ≡ all_gone (lost_of_copies l.losses l.object l.copies) l.day l.fn.pools
