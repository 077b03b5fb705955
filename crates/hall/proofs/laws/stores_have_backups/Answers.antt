use Rattle.hall.proofs.BackupsOpened.{had_fresh, had_since}
use Rattle.hall.proofs.BackupsStopped.{had_stopped}
use Rattle.hall.proofs.laws.stores_have_backups.Goals as goal

pub returns-clause-since : goal.returns-clause-since
returns-clause-since c = λ base h new goes had. had_since base h new goes had

pub returns-clause-fresh : goal.returns-clause-fresh
returns-clause-fresh c = λ h. had_fresh h

pub returns-clause-stopped : goal.returns-clause-stopped
returns-clause-stopped c = λ opened h moment after v always from to stops recovers. had_stopped opened h moment after v always from to stops recovers
