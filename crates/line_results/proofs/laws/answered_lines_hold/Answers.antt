use Rattle.line_results.proofs.Holding.{replies-hold}
use Rattle.line_results.proofs.laws.answered_lines_hold.Goals as goal

pub returns-clause-trusted : goal.returns-clause-trusted
returns-clause-trusted g c k n line answer why old new r = replies-hold (Unit {0}) g.P.Placing.places k n line old new answer why r

pub returns-clause-unknown : goal.returns-clause-unknown
returns-clause-unknown g c k n line answer why old new r = replies-hold ⊥ g.P.Placing.places k n line old new answer why r
