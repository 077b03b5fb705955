use Rattle.sessions.proofs.BackedUp.{put-has, put-none}
use Rattle.sessions.proofs.laws.put_files_have_their_bytes.Goals as goal

pub returns-clause-stored : goal.returns-clause-stored
returns-clause-stored c w actor old new node filespace choice given file events object f none puts = put-has w actor node filespace given file choice old new object events f none puts

pub returns-clause-spent : goal.returns-clause-spent
returns-clause-spent c w actor old new node filespace choice given file events result f none puts = put-none w actor node filespace given file choice old new events result f none puts
