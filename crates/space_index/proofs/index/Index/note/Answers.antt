use Rattle.space_index.proofs.index.Index.note.Goals as goal

pub returns : goal.returns
returns c = λ s claims sites number is absent. record { random = c.in_ok-note.ensures s claims number is.random absent; tails = is.tails; held = is.held }
