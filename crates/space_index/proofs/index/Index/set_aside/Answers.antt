use Rattle.space_index.proofs.index.Index.set_aside.Goals as goal

pub returns : goal.returns
returns c = λ s t claims sites is changes none. record { random = c.in_ok-set_aside.ensures s t claims is.random changes none; tails = is.tails; held = is.held }
