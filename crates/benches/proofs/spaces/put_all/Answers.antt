use Rattle.benches.proofs.spaces.put_all.Goals as goal

pub places-preserved : goal.places-preserved
places-preserved c = λ claims is. c.in_ok-put.ensures claims (c.places.invariant claims is)
