use Rattle.std.proofs.Common.{length}
use Rattle.db_chains.specs.Walks.{Comes}
use Rattle.db_chains.proofs.chain.go_forward.Given as goal

abbrev pub invariant-links : goal.invariant-links
invariant-links g l = record { comes : Comes g.D.Database.meaning l.fn.links.items l.fn.database l.links.items l.database }

abbrev pub decreases-links : goal.decreases-links
decreases-links g l = length l.links.items
