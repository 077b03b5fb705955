use Rattle.std.proofs.Common.{Option}
use Rattle.volume_rows.specs.declared.volume.Volume.{Volume}
use Rattle.volume_rows.specs.Volumes.{undo_on}
use Rattle.pool_tables.specs.RowChanges.{put, end_of_row, emptied_of_row}
use Rattle.pool_tables.proofs.Tables.{becomes_change, undone_change}
use Rattle.pool_tables.proofs.on_rows.put_at.Goals as goal

pub returns-in-Some-clause-put : goal.returns-in-Some-clause-put
returns-in-Some-clause-put c =
    becomes_change c.args.file (put c.args.sequential c.args.segment) c.args.volumes.now.entries (c.get_mut.follows.lender c.put_segment.new.self).entries c.in-Some.volume.now c.put_segment.new.self c.put_segment.result c.in-Some.ensures.value (c.get_mut.follows.holds c.put_segment.new.self).0 c.put_segment.ensures.put

pub returns-in-Some-clause-undone : goal.returns-in-Some-clause-undone
returns-in-Some-clause-undone c =
    undone_change c.args.file (λ (o : Option Volume). undo_on c.args.sequential c.args.segment (end_of_row o) (emptied_of_row o)) c.args.volumes.now.entries (c.get_mut.follows.lender c.put_segment.new.self).entries c.in-Some.volume.now c.put_segment.new.self c.put_segment.result c.in-Some.ensures.value (c.get_mut.follows.holds c.put_segment.new.self).0 c.put_segment.ensures.undone
