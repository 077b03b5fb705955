use Rattle.incrementals.proofs.Caused.{caused}
use Rattle.incrementals.proofs.laws.refusals_have_causes.Goals as goal

pub returns : goal.returns
returns c node filespace choice told before after events result h = caused node filespace choice told before after events result h.order
