use Rattle.inventory_laws.proofs.VersionsWhole.{begins, elsewhere, later, ordered_elsewhere}
use Rattle.inventory_laws.proofs.version_steps.facts_of_versions.Goals as goal

pub returns-clause-valid : goal.returns-clause-valid
returns-clause-valid c v f = begins v f

pub returns-clause-later : goal.returns-clause-later
returns-clause-later c n m v l f = later n m v l f

pub returns-clause-elsewhere : goal.returns-clause-elsewhere
returns-clause-elsewhere c n v w clients filespace object pools today f = elsewhere n v w clients filespace object pools today f

pub returns-clause-ordered : goal.returns-clause-ordered
returns-clause-ordered c v w same o = ordered_elsewhere v w same o
