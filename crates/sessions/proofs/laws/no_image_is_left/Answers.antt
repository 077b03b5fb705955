use Rattle.sessions.proofs.Checkpointed.{none-left}
use Rattle.sessions.proofs.laws.no_image_is_left.Goals as goal

pub returns : goal.returns
returns c w actor old new events result f none h ends = none-left w actor old new events result f none h ends
