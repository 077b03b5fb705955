use Rattle.db_chains.proofs.Making.{of_increment}
use Rattle.db_chains.proofs.made.make_increment.Goals as goal

pub returns-in-Some-clause-makes : goal.returns-in-Some-clause-makes
returns-in-Some-clause-makes g c =
    of_increment g.met.D.Database.is_meaning c.args.payload.now c.in-Some.increment c.args.database.now c.make_records.new.database c.make_records.result c.in-Some.ensures.found c.make_records.ensures.makes
