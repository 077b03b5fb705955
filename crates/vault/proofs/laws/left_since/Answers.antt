use Rattle.std.proofs.Common.{IsTrue}
use Rattle.vault.specs.Recovery.{RecoversWithin}
use Rattle.vault.specs.Vaults.{RecoversToEither}
use Rattle.vault.proofs.Leaving.{left_now, left_each, behind_ours}
use Rattle.vault.proofs.laws.left_since.Goals as goal

pub returns-clause-one_now : goal.returns-clause-one_now
returns-clause-one_now g c d h files left here = left_now (λ files. RecoversWithin g.D.Database.meaning files d) h files left here

pub returns-clause-either_now : goal.returns-clause-either_now
returns-clause-either_now g c before after h files left here = left_now (RecoversToEither g.D.Database.meaning before after) h files left here

pub returns-clause-one : goal.returns-clause-one
returns-clause-one g c theirs d old new behind goes left = left_each (λ files. RecoversWithin g.D.Database.meaning files d) (λ f. IsTrue (theirs f)) old new (behind_ours (λ f. IsTrue (theirs f)) behind) goes left

pub returns-clause-either : goal.returns-clause-either
returns-clause-either g c theirs before after old new behind goes left = left_each (RecoversToEither g.D.Database.meaning before after) (λ f. IsTrue (theirs f)) old new (behind_ours (λ f. IsTrue (theirs f)) behind) goes left
