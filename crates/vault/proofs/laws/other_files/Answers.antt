use Rattle.std.proofs.Common.{IsTrue, arith, ◌<◌}
use Rattle.vault.proofs.Goodness.{good_beside, good_since}
use Rattle.vault.proofs.laws.other_files.Goals as goal

pub returns-clause-good : goal.returns-clause-good
returns-clause-good g c theirs vault old new apart goes good = good_beside g.D.Database.meaning (λ f. IsTrue (theirs f)) vault old new (λ file ours is. absurd (let lt : file < 4 = ours in omega (arith, lt, apart file is))) goes good

pub returns-clause-images : goal.returns-clause-images
returns-clause-images g c theirs vault old new apart goes good = good_since g.D.Database.meaning (λ f. IsTrue (theirs f)) vault old new (λ file ours is. absurd (let lt : file < 4 = ours in omega (arith, lt, apart file is))) goes good
