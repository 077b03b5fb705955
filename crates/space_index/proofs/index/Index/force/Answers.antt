use Rattle.space_index.proofs.index.Index.force.Goals as goal

pub returns : goal.returns
returns c = λ s sites is. record { random = c.in_ok-force.ensures s is.random; tails = is.tails; held = is.held }
