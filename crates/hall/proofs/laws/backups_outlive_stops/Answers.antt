use Rattle.hall.proofs.BackupsOpened.{had_left}
use Rattle.hall.proofs.laws.backups_outlive_stops.Goals as goal

pub returns : goal.returns
returns c = λ m held h v new kept had there left. had_left h new m.core held.opened held.job v (kept.backups had) there left
