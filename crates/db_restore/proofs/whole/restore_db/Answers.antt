use Rattle.std.proofs.Common.{◌∙◌, sym}
use Rattle.db_chains.proofs.Looking.{is_possible}
use Rattle.db_restore.proofs.Wholes.{refused_may}
use Rattle.db_restore.proofs.whole.restore_db.Goals as goal

pub restore_inventory-requires : goal.restore_inventory-requires
restore_inventory-requires g c = record { possible = is_possible c.args.file (sym c.is_possible.ensures ∙ c.if-not-is_possible.false) }

pub returns-in-Err-restore_inventory-clause-refused : goal.returns-in-Err-restore_inventory-clause-refused
returns-in-Err-restore_inventory-clause-refused g c =
    refused_may c.in-Ok.backup.today c.args.day _ _ _ _ c.in-Err-restore_inventory.refused c.read_whole.ensures.onward.counts c.in-Err-restore_inventory.ensures.refused
