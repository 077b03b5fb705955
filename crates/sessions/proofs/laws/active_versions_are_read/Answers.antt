use Rattle.sessions.proofs.Got.{read-active}
use Rattle.sessions.proofs.laws.active_versions_are_read.Goals as goal

pub returns : goal.returns
returns c w actor old new node filespace path events r f h = read-active w actor old new node filespace path events r f h
