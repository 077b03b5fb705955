use Rattle.tsm_top.proofs.top.not_made.Goals as goal

pub returns-in-Exists-clause-line : goal.returns-in-Exists-clause-line
returns-in-Exists-clause-line g c = rw c.in-Exists.is c.closed.ensures.line
