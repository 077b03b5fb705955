use Rattle.machine.proofs.Legality.{joined-legal, reused-legal}
use Rattle.machine.proofs.laws.what_joins_is_legal.Goals as goal

pub returns-clause-committed : goal.returns-clause-committed
returns-clause-committed c w actor a b n asked numbers number change s is = joined-legal w actor a b n asked numbers number change s is

pub returns-clause-reused : goal.returns-clause-reused
returns-clause-reused c w actor a b n file number s = reused-legal w actor a b n file number s
