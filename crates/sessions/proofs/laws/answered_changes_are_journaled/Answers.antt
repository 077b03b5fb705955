use Rattle.sessions.proofs.Changed.{changed-in}
use Rattle.sessions.proofs.laws.answered_changes_are_journaled.Goals as goal

pub returns : goal.returns
returns c w actor old new change number events f h = changed-in w actor old new change number events f h
