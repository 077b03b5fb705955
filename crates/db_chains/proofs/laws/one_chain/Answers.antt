use Rattle.db_chains.proofs.Unique.{one, whole, place}
use Rattle.db_chains.proofs.laws.one_chain.Goals as goal

pub returns-clause-one : goal.returns-clause-one
returns-clause-one g c = one {m = g.D.Database.meaning} g.met.D.Database.is_meaning

pub returns-clause-whole : goal.returns-clause-whole
returns-clause-whole g c = whole {m = g.D.Database.meaning} g.met.D.Database.is_meaning

pub returns-clause-place : goal.returns-clause-place
returns-clause-place g c = place {m = g.D.Database.meaning} g.met.D.Database.is_meaning
