use Rattle.inventory_laws.proofs.Ends.{facts_begin, tied_end, volumes_end}
use Rattle.inventory_laws.proofs.volume_steps.facts_begin_and_end.Goals as goal

pub returns-clause-begin : goal.returns-clause-begin
returns-clause-begin c v f t = facts_begin v f t

pub returns-clause-volumes : goal.returns-clause-volumes
returns-clause-volumes c v f = volumes_end v f

pub returns-clause-tied : goal.returns-clause-tied
returns-clause-tied c v f = tied_end v f
