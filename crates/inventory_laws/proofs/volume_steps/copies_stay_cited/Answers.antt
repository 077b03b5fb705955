use Rattle.inventory_laws.proofs.Cited.{cite_kept, cite_swapped, cited_kept, cited_new}
use Rattle.inventory_laws.proofs.ScratchList.{cite_made}
use Rattle.inventory_laws.proofs.volume_steps.copies_stay_cited.Goals as goal

pub returns-clause-volumes : goal.returns-clause-volumes
returns-clause-volumes c v w k = cite_kept v w k

pub returns-clause-pending : goal.returns-clause-pending
returns-clause-pending c v w k e = cited_kept v w k e

pub returns-clause-swap : goal.returns-clause-swap
returns-clause-swap c a b v w same r new old = cite_swapped a b v w same r new old

pub returns-clause-new : goal.returns-clause-new
returns-clause-new c v object row there lie = cited_new v object row there lie

pub returns-clause-made : goal.returns-clause-made
returns-clause-made c s v free h = cite_made s v free h
