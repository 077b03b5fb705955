use Rattle.db_backup.proofs.Deleting.{tries-one}
use Rattle.db_backup.proofs.deletion.delete_one.Goals as goal

pub returns-clause-tries : goal.returns-clause-tries
returns-clause-tries g c = tries-one g.P.Stepper.did c.args.p.now c.join-answer.new.p c.args.file c.join-answer.result c.outcome.result c.outcome.ensures.is c.join-answer.ensures
