use Rattle.machine.proofs.Histories.{inv-next}
use Rattle.machine.proofs.laws.history_goes_on.Goals as goal

pub returns : goal.returns
returns c w n e l h = inv-next w n e l h
