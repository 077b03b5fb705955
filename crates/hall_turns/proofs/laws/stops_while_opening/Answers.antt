use Rattle.hall_turns.proofs.Stops.{opened_sound}
use Rattle.hall_turns.proofs.laws.stops_while_opening.Goals as goal

pub returns : goal.returns
returns c = λ m count start mid second after rests has spared from to stops. opened_sound m count start mid rests has spared second after from to stops
