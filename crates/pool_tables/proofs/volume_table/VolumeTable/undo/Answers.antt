use Rattle.std.proofs.Common.{◌<◌, ◌^◌, length, arith}
use Rattle.volume_rows.specs.Volumes.{undo_on}
use Rattle.pool_tables.proofs.Sound.{totals_little, counted_edit, undo_keeps}
use Rattle.pool_tables.proofs.volume_table.VolumeTable.undo.Goals as goal

pub recount-requires-clause-small : goal.recount-requires-clause-small
recount-requires-clause-small c =
    let few : length c.self.inside.rows.entries < 2 ^ 63 = omega (arith, c.len-len.ensures.len, c.len-len.ensures.small) in
    totals_little c.self.inside.names.entries c.self.inside.totals.entries c.self.inside.rows.entries c.in-Some.volume.now.pool few c.self.invariant

pub invariant_of-self : goal.invariant_of-self
invariant_of-self c =
    counted_edit c.self.inside.names.entries c.self.inside.totals.entries c.recount.new.totals.entries c.self.inside.rows.entries c.undo_at.new.volumes.entries c.args.file (undo_on c.args.sequential c.args.segment.now c.args.end c.args.emptied) c.in-Some.volume.now c.of-less.result c.totals_on-more.result
    c.in-Some.ensures.value c.undo_at.ensures (undo_keeps c.args.sequential c.args.segment.now c.args.end c.args.emptied c.in-Some.volume.now) c.of-less.ensures.value c.totals_on-more.ensures.value c.totals_on-more.ensures.few c.recount.ensures c.self.invariant
