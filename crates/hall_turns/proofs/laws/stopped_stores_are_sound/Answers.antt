use Rattle.hall_turns.proofs.Stops.{stopped_sound}
use Rattle.hall_turns.proofs.laws.stopped_stores_are_sound.Goals as goal

pub returns : goal.returns
returns c = stopped_sound
