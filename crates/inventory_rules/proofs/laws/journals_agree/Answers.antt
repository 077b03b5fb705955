use Rattle.inventory_rules.proofs.Journals.{no_cause, not_refused}
use Rattle.inventory_rules.proofs.laws.journals_agree.Goals as goal

pub returns-clause-causes : goal.returns-clause-causes
returns-clause-causes c j k change v h = no_cause j k change v h

pub returns-clause-refused : goal.returns-clause-refused
returns-clause-refused c j k change v h = not_refused j k change v h
