use Rattle.std.proofs.Common.{◌∙◌, sym}
use Rattle.db_chains.proofs.Looking.{is_possible}
use Rattle.db_restore.proofs.Refusing.{restore_later}
use Rattle.db_restore.proofs.chained.restore_from.Goals as goal

pub restore_inventory-requires : goal.restore_inventory-requires
restore_inventory-requires g c = record { possible = is_possible c.args.file (sym c.is_possible.ensures ∙ c.if-not-is_possible.false) }

pub returns-in-Err-restore_inventory-clause-refused : goal.returns-in-Err-restore_inventory-clause-refused
returns-in-Err-restore_inventory-clause-refused g c =
    (c.in-Ok.backup.today, restore_later _ _ _ _ _ _ c.in-Err-restore_inventory.refused c.read_chain.ensures.onward.counts c.in-Err-restore_inventory.ensures.refused)
