use Rattle.db_restore.proofs.Standing.{found}
use Rattle.db_restore.proofs.Staying.{bytes_stay, sequentials_stay}
use Rattle.db_restore.proofs.laws.sequential_copies_stay.Goals as goal

pub returns-clause-stay : goal.returns-clause-stay
returns-clause-stay c = sequentials_stay

pub returns-clause-found : goal.returns-clause-found
returns-clause-found c = found

pub returns-clause-bytes : goal.returns-clause-bytes
returns-clause-bytes c = bytes_stay
