use Rattle.line_results.proofs.Got.{gets-so}
use Rattle.line_results.proofs.Line.{answered, ended}
use Rattle.line_results.proofs.Putting.{puts}
use Rattle.line_results.proofs.laws.lines_come_to.Goals as goal

pub returns-clause-answered : goal.returns-clause-answered
returns-clause-answered g c k n line events answer why old new rest sizes sound h f =
    answered (Unit {0}) g.P.Placing.places g.P.Placing.nobody g.P.Placing.elsewhere k (λ p before behind steps said. puts g.P.Placing.places g.P.Placing.nobody (Unit {0}) k.choice p before behind steps said) (gets-so (Unit {0}) g.P.Placing.places)
    n line events answer why old new rest sizes sound h f

pub returns-clause-ended : goal.returns-clause-ended
returns-clause-ended g c k n line events how old new rest sizes sound h f =
    ended (Unit {0}) g.P.Placing.places g.P.Placing.nobody g.P.Placing.elsewhere k (λ p before behind steps said. puts g.P.Placing.places g.P.Placing.nobody (Unit {0}) k.choice p before behind steps said) (gets-so (Unit {0}) g.P.Placing.places) g.P.Placing.goes_on
    n line events how old new rest sizes sound h f

pub returns-clause-answered_unknown : goal.returns-clause-answered_unknown
returns-clause-answered_unknown g c k n line events answer why old new rest sizes sound h f =
    answered ⊥ g.P.Placing.places g.P.Placing.nobody g.P.Placing.elsewhere k (λ p before behind steps said. puts g.P.Placing.places g.P.Placing.nobody ⊥ k.choice p before behind steps said) (gets-so ⊥ g.P.Placing.places)
    n line events answer why old new rest sizes sound h f

pub returns-clause-ended_unknown : goal.returns-clause-ended_unknown
returns-clause-ended_unknown g c k n line events how old new rest sizes sound h f =
    ended ⊥ g.P.Placing.places g.P.Placing.nobody g.P.Placing.elsewhere k (λ p before behind steps said. puts g.P.Placing.places g.P.Placing.nobody ⊥ k.choice p before behind steps said) (gets-so ⊥ g.P.Placing.places) g.P.Placing.goes_on
    n line events how old new rest sizes sound h f
