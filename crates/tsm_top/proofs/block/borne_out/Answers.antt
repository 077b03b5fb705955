use Rattle.tsm_top.proofs.block.borne_out.Goals as goal

pub returns-in-LogFault-eq0-clause-cause : goal.returns-in-LogFault-eq0-clause-cause
returns-in-LogFault-eq0-clause-cause g c = λ old zero one two three.
    c.rose.ensures.cause (g.S.Store.faults_of old) (g.S.Store.faults_of c.args.hall.now.store) (g.S.Store.moment_of c.args.hall.now.store) zero c.faults.ensures

pub returns-in-LogFault-eq1-clause-cause : goal.returns-in-LogFault-eq1-clause-cause
returns-in-LogFault-eq1-clause-cause g c = λ old zero one two three.
    c.rose-in-LogFault-eq1.ensures.cause (g.S.Store.faults_of old) (g.S.Store.faults_of c.args.hall.now.store) (g.S.Store.moment_of c.args.hall.now.store) one c.faults-in-LogFault-eq1.ensures

pub returns-in-LogFault-eq2-clause-cause : goal.returns-in-LogFault-eq2-clause-cause
returns-in-LogFault-eq2-clause-cause g c = λ old zero one two three.
    c.rose-in-LogFault-eq2.ensures.cause (g.S.Store.faults_of old) (g.S.Store.faults_of c.args.hall.now.store) (g.S.Store.moment_of c.args.hall.now.store) two c.faults-in-LogFault-eq2.ensures

pub returns-in-LogFault-eq3-clause-cause : goal.returns-in-LogFault-eq3-clause-cause
returns-in-LogFault-eq3-clause-cause g c = λ old zero one two three.
    c.rose-in-LogFault-eq3.ensures.cause (g.S.Store.faults_of old) (g.S.Store.faults_of c.args.hall.now.store) (g.S.Store.moment_of c.args.hall.now.store) three c.faults-in-LogFault-eq3.ensures
