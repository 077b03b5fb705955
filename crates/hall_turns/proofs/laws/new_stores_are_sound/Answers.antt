use Rattle.hall_turns.proofs.Stops.{new_sound}
use Rattle.hall_turns.proofs.laws.new_stores_are_sound.Goals as goal

pub returns : goal.returns
returns c = new_sound
