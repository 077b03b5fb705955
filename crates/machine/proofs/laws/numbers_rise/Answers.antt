use Rattle.machine.proofs.Runs.{fits-rises, fits-within}
use Rattle.machine.proofs.laws.numbers_rise.Goals as goal

pub returns-clause-rise : goal.returns-clause-rise
returns-clause-rise c w actor a b events f = fits-rises w actor a b events f

pub returns-clause-within : goal.returns-clause-within
returns-clause-within c w actor a b events l f = fits-within w actor a b events l f
