use Rattle.std.proofs.Common.{refl}
use Rattle.inventory_laws.proofs.Others.{there_changed, there_copied, there_inserted}
use Rattle.inventory_laws.proofs.version_steps.filespaces_stay.Goals as goal

pub returns-clause-copied : goal.returns-clause-copied
returns-clause-copied c filespace object step v = there_copied filespace object step v

pub returns-clause-grouped : goal.returns-clause-grouped
returns-clause-grouped c filespace other path step v = there_changed filespace other path step v

pub returns-clause-stored : goal.returns-clause-stored
returns-clause-stored c filespace other item v = there_inserted filespace other item v

pub returns-clause-held : goal.returns-clause-held
returns-clause-held c filespace other item v = refl
