use Rattle.space_index.proofs.index.Index.forget.Goals as goal

pub returns : goal.returns
returns c = λ s claims sites number is there. record { random = c.in_ok-forget.ensures s claims number is.random there; tails = is.tails; held = is.held }
