use Rattle.std.proofs.Common.{inr}
use Rattle.hall.proofs.Declining.{declined_listed, declines}
use Rattle.hall.proofs.Refusing.{change_alike}
use Rattle.hall.proofs.laws.commits_are_refused_alike.Goals as goal

pub returns-clause-refused : goal.returns-clause-refused
returns-clause-refused g c = λ actor asked numbers hall e free at.
    (declines g.S.Store.told g.S.Store.moment_of g.S.Store.faults_of actor asked numbers hall e free (inr at), declined_listed actor asked numbers hall.held e (inr at))

pub returns-clause-change : goal.returns-clause-change
returns-clause-change g c = λ actor asked numbers hall m is. change_alike actor asked numbers hall.held m.core is.core
