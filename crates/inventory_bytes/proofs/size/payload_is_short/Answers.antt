use Rattle.inventory_bytes.proofs.WholeSize.{short}
use Rattle.inventory_bytes.proofs.size.payload_is_short.Goals as goal

pub returns : goal.returns
returns c = record { short = short }
