use Rattle.db_backup.proofs.Journaled.{none-left}
use Rattle.db_backup.proofs.laws.no_image_is_left.Goals as goal

pub returns : goal.returns
returns c w actor old new after events result f none h ends = none-left w actor old new after events result f none h ends
