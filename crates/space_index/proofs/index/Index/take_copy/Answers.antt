use Rattle.space_index.proofs.index.Index.take_copy.Goals as goal

pub returns-clause-missing : goal.returns-clause-missing
returns-clause-missing c = λ s claims sites is absent. record { random = c.in_ok-take_copy.ensures.missing s claims is.random absent; tails = is.tails; held = is.held }

pub returns-clause-goes : goal.returns-clause-goes
returns-clause-goes c = λ s t claims sites object today is made. record { random = c.in_ok-take_copy.ensures.goes s t claims object today is.random made; tails = is.tails; held = is.held }
