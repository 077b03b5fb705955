use Rattle.std.proofs.Common.{IsTrue}
use Rattle.vault.specs.Recovery.{RecoversWithin}
use Rattle.vault.specs.Vaults.{RecoversToEither}
use Rattle.vault.proofs.Leaving.{good_is, left_kept, behind_ours}
use Rattle.vault.proofs.laws.left_stays.Goals as goal

pub returns-clause-good : goal.returns-clause-good
returns-clause-good g c vault h good = good_is g.D.Database.meaning vault h good

pub returns-clause-one : goal.returns-clause-one
returns-clause-one g c theirs d old new behind goes left = left_kept (λ files. RecoversWithin g.D.Database.meaning files d) (λ f. IsTrue (theirs f)) old new (behind_ours (λ f. IsTrue (theirs f)) behind) goes left

pub returns-clause-either : goal.returns-clause-either
returns-clause-either g c theirs before after old new behind goes left = left_kept (RecoversToEither g.D.Database.meaning before after) (λ f. IsTrue (theirs f)) old new (behind_ours (λ f. IsTrue (theirs f)) behind) goes left
