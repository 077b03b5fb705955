use Rattle.std.proofs.Common.{arith}
use Rattle.hall_turns.proofs.Openings.{new_backed, opened_backed, stopped_backed, stopped_sound_again}
use Rattle.hall_turns.proofs.laws.openings_keep_backups.Goals as goal

pub returns-clause-within : goal.returns-clause-within
returns-clause-within c = opened_backed

pub returns-clause-left : goal.returns-clause-left
returns-clause-left c = λ opened h always since moment image from to here. always moment image (omega (arith, since, from)) to here

pub returns-clause-stopped : goal.returns-clause-stopped
returns-clause-stopped c = stopped_backed

pub returns-clause-sound : goal.returns-clause-sound
returns-clause-sound c = λ contents start mid moment after sound spared from to stops. stopped_sound_again contents start mid moment after sound spared from to stops

pub returns-clause-fresh : goal.returns-clause-fresh
returns-clause-fresh c = λ h new. new_backed h new
