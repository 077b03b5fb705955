use Rattle.std.proofs.Common.{IsTrue, [], ◌∷◌}
use Rattle.store_api.proofs.Runs.{back_calls, goes_image_before, goes_image_after}
use Rattle.store_api.proofs.laws.moments_stay.Goals as goal

pub returns-clause-back : goal.returns-clause-back
returns-clause-back c call h moment le = back_calls (call ∷ []) h moment le

pub returns-clause-images : goal.returns-clause-images
returns-clause-images c mine old new moment image goes le =
    (λ here. goes_image_before (λ f. IsTrue (mine f)) old new moment image goes le here, λ here. goes_image_after (λ f. IsTrue (mine f)) old new moment image goes le here)
