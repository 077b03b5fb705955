use Rattle.benches.proofs.spaces.take_all.Goals as goal

pub places-preserved : goal.places-preserved
places-preserved c = λ claims is. c.in_ok-take.ensures claims (c.places.invariant claims is)
