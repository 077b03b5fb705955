use Rattle.std.proofs.Common.{◌<◌, ◌^◌, length, arith}
use Rattle.pool_tables.specs.RowChanges.{put}
use Rattle.pool_tables.proofs.Sound.{totals_little, counted_change, put_change_keeps}
use Rattle.pool_tables.proofs.volume_table.VolumeTable.put.Goals as goal

pub recount-requires-clause-small : goal.recount-requires-clause-small
recount-requires-clause-small c =
    let few : length c.self.inside.rows.entries < 2 ^ 63 = omega (arith, c.len-len.ensures.len, c.len-len.ensures.small) in
    totals_little c.self.inside.names.entries c.self.inside.totals.entries c.self.inside.rows.entries c.in-Some.volume.now.pool few c.self.invariant

pub invariant_of-self-2 : goal.invariant_of-self-2
invariant_of-self-2 c =
    counted_change c.self.inside.names.entries c.self.inside.totals.entries c.recount.new.totals.entries c.self.inside.rows.entries c.put_at.new.volumes.entries c.args.file (put c.args.sequential c.args.segment) c.in-Some.volume.now c.of-less.result c.totals_on-more.result
    c.in-Some.ensures.value c.in_ok-put_at.ensures.put (put_change_keeps c.args.sequential c.args.segment c.in-Some.volume.now) c.of-less.ensures.value c.totals_on-more.ensures.value c.totals_on-more.ensures.few c.recount.ensures c.self.invariant
