use Rattle.std.proofs.Common.{rules}
use Rattle.db_losses.specs.Losses.{restored}
use Rattle.db_losses.proofs.restored.restore.Goals as goal

pub returns : goal.returns
unfolding restored
returns c = search rules
