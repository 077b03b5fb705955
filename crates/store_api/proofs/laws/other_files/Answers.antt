use Rattle.std.proofs.Common.{IsTrue}
use Rattle.store_api.proofs.Runs.{goes_standing, goes_images}
use Rattle.store_api.proofs.laws.other_files.Goals as goal

pub returns-clause-same : goal.returns-clause-same
returns-clause-same c theirs old new file goes apart = goes_standing (λ f. IsTrue (theirs f)) old new file apart goes

pub returns-clause-images : goal.returns-clause-images
returns-clause-images c theirs old new file goes apart = goes_images (λ f. IsTrue (theirs f)) old new file apart goes
