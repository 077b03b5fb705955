use Rattle.run_past.proofs.Goes.{goes_on}
use Rattle.run_past.proofs.laws.journal_goes_on.Goals as goal

pub returns : goal.returns
returns c base entries e = goes_on base entries e
