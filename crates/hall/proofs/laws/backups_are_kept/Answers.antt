use Rattle.std.specs.List.{AllByRecursion}
use Rattle.hall.proofs.BackupsOpened.{images_keep}
use Rattle.hall.proofs.laws.backups_are_kept.Goals as goal

pub returns-clause-now : goal.returns-clause-now
returns-clause-now c = λ m held h image kept had here. images_keep h m.core held.opened held.job image (kept.backups had) here

pub returns-clause-always : goal.returns-clause-always
returns-clause-always c = λ m held h kept had. (kept.backups had).always
