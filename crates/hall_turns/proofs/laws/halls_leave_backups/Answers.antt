use Rattle.hall_turns.proofs.Lefts.{left_backups}
use Rattle.hall_turns.proofs.laws.halls_leave_backups.Goals as goal

pub returns : goal.returns
returns g c = λ hall m h v tells is sound had recovers. left_backups g.S.Store.told g.S.Store.moment_of g.S.Store.faults_of g.met.S.Store.clock hall m h tells is sound had v recovers
