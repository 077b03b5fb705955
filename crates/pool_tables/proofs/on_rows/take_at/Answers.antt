use Rattle.pool_tables.specs.RowChanges.{take}
use Rattle.pool_tables.proofs.Tables.{makes_change}
use Rattle.pool_tables.proofs.on_rows.take_at.Goals as goal

pub returns-in-Some : goal.returns-in-Some
returns-in-Some c =
    makes_change c.args.file (take c.args.sequential c.args.segment.now c.args.today) c.args.volumes.now.entries (c.get_mut.follows.lender c.take_segment.new.self).entries c.in-Some.volume.now c.take_segment.new.self c.take_segment.result c.in-Some.ensures.value (c.get_mut.follows.holds c.take_segment.new.self).0 c.take_segment.ensures
