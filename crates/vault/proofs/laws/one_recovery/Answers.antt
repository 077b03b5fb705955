use Rattle.vault.proofs.Unique.{one_database, one_form, is_formatted, not_damaged_there}
use Rattle.vault.proofs.laws.one_recovery.Goals as goal

pub returns-clause-one : goal.returns-clause-one
returns-clause-one g c files d other = one_database g.D.Database.meaning g.met.D.Database.is_meaning files d other

pub returns-clause-formatted : goal.returns-clause-formatted
returns-clause-formatted g c files d recovers = is_formatted g.D.Database.meaning g.met.D.Database.is_meaning files d recovers

pub returns-clause-damaged : goal.returns-clause-damaged
returns-clause-damaged g c files d file at recovers = not_damaged_there g.D.Database.meaning g.met.D.Database.is_meaning files d recovers file at

pub returns-clause-form : goal.returns-clause-form
returns-clause-form g c files d other a b = one_form g.D.Database.meaning g.met.D.Database.is_meaning files d other a b
