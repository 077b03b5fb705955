use Rattle.inventory_laws.proofs.Facts.{facts_of, valid_of}
use Rattle.inventory_laws.proofs.validity.valid_is_facts.Goals as goal

pub returns-clause-facts : goal.returns-clause-facts
returns-clause-facts c v h = facts_of v h

pub returns-clause-valid : goal.returns-clause-valid
returns-clause-valid c v f = valid_of v f
