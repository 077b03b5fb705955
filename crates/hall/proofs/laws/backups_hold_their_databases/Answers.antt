use Rattle.std.specs.List.{AllByRecursion}
use Rattle.store_api.proofs.Runs.{left_of_image}
use Rattle.inventory_laws.proofs.Origins.{contained_holds}
use Rattle.vault.specs.Files.{IsOurs}
use Rattle.hall.specs.Covered.{left_open}
use Rattle.hall.specs.Protected.{HoldTheirDatabases}
use Rattle.hall.proofs.BackupsOpened.{images_hold_theirs}
use Rattle.hall.proofs.BackupsSpared.{recovered_open}
use Rattle.hall.proofs.laws.backups_hold_their_databases.Goals as goal

pub returns-clause-now : goal.returns-clause-now
returns-clause-now c = λ m held h image kept had here. images_hold_theirs h m.core held.opened held.job image (kept.backups had) here

pub returns-clause-recovered : goal.returns-clause-recovered
returns-clause-recovered c =
    λ m held h image kept had here v recovers.
    contained_holds (HoldTheirDatabases image m.core.base m.core.journal) (left_open m.core) v (recovered_open m.core image (kept.left image (left_of_image IsOurs h image here)) v recovers)
    (images_hold_theirs h m.core held.opened held.job image (kept.backups had) here)
