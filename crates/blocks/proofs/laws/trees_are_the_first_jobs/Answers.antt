use Rattle.blocks.proofs.Naming.{named_before, used}
use Rattle.blocks.proofs.laws.trees_are_the_first_jobs.Goals as goal

pub returns-clause-used : goal.returns-clause-used
returns-clause-used c = λ lines line tree is. used lines line tree is

pub returns-clause-named : goal.returns-clause-named
returns-clause-named c = λ lines line tree is before. named_before lines line tree is before
