use Rattle.space_index.proofs.index.Index.put_copy.Goals as goal

pub returns-clause-missing : goal.returns-clause-missing
returns-clause-missing c = λ s claims sites is absent. record { random = c.in_ok-put_copy.ensures.missing s claims is.random absent; tails = is.tails; held = is.held }

pub returns-clause-comes : goal.returns-clause-comes
returns-clause-comes c = λ s t claims sites object is made. record { random = c.in_ok-put_copy.ensures.comes s t claims object is.random made; tails = is.tails; held = is.held }
