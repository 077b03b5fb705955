use Rattle.inventory_bytes.specs.StoreForms.{backup_row}
use Rattle.inventory_bytes.proofs.Joins.{five}
use Rattle.inventory_bytes.proofs.store_codecs.BackupRowSecondCodecBackup.put.Goals as goal

pub returns : goal.returns
unfolding backup_row
returns c = five _ _ _ _ _ _ _ _ _ _ _ c.in_ok-write_to.ensures c.in_ok-put_u64.ensures.ok c.in_ok-write_to-2.ensures c.in_ok-write_to-3.ensures (rw c.as_map.ensures at c.in_ok-put_table.ensures)
