use Rattle.inventory_laws.proofs.CopySteps.{added, dropped, replaced}
use Rattle.inventory_laws.proofs.version_steps.copies_change.Goals as goal

pub returns-clause-dropped : goal.returns-clause-dropped
returns-clause-dropped c n object from v w old f there held two = dropped n object from v w old f there held two

pub returns-clause-added : goal.returns-clause-added
returns-clause-added c n object v w new f there free lies full alone placed = added n object v w new f there free lies full alone placed

pub returns-clause-replaced : goal.returns-clause-replaced
returns-clause-replaced c n object from v w old new f there held lies full free alone placed = replaced n object from v w old new f there held lies full free alone placed
