use Rattle.std.proofs.Common.{IsTrue}
use Rattle.vault.proofs.Committing.{good_held}
use Rattle.vault.proofs.Goodness.{held_is, held_beside, held_since}
use Rattle.vault.proofs.Leaving.{behind_ours}
use Rattle.vault.proofs.laws.held.Goals as goal

pub returns-clause-good : goal.returns-clause-good
returns-clause-good g c vault h good = good_held g.D.Database.meaning vault h good

pub returns-clause-left : goal.returns-clause-left
returns-clause-left g c vault durable h held = held_is g.D.Database.meaning vault durable h held

pub returns-clause-stays : goal.returns-clause-stays
returns-clause-stays g c theirs vault durable old new behind goes held = held_beside g.D.Database.meaning (λ f. IsTrue (theirs f)) vault durable old new (behind_ours (λ f. IsTrue (theirs f)) behind) goes held

pub returns-clause-images : goal.returns-clause-images
returns-clause-images g c theirs vault durable old new behind goes held = held_since g.D.Database.meaning (λ f. IsTrue (theirs f)) vault durable old new (behind_ours (λ f. IsTrue (theirs f)) behind) goes held
