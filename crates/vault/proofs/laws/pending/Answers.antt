use Rattle.std.proofs.Common.{IsTrue}
use Rattle.vault.proofs.Leaving.{behind_ours}
use Rattle.vault.proofs.Piecing.{pending_shut, pending_beside}
use Rattle.vault.proofs.laws.pending.Goals as goal

pub returns-clause-shut : goal.returns-clause-shut
returns-clause-shut g c vault snapshot h files is here = pending_shut g.D.Database.meaning vault snapshot h is files here

pub returns-clause-stays : goal.returns-clause-stays
returns-clause-stays g c theirs vault snapshot old new behind goes is = pending_beside g.D.Database.meaning (λ f. IsTrue (theirs f)) vault snapshot old new (behind_ours (λ f. IsTrue (theirs f)) behind) goes is
