use Rattle.std.proofs.Common.{length}
use Rattle.db_chains.proofs.Making.{IsLeft}
use Rattle.db_chains.proofs.made.make_records.Given as goal

abbrev pub invariant-records : goal.invariant-records
invariant-records g l = IsLeft g.D.Database.meaning l.fn.database l.fn.increment.records l.database l.increment.records

abbrev pub decreases-records : goal.decreases-records
decreases-records g l = length l.increment.records
