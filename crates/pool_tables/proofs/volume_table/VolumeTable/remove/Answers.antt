use Rattle.std.proofs.Common.{◌<◌, ◌^◌, length, sym, arith}
use Rattle.pool_tables.proofs.Sound.{most_there, totals_little, counted_remove}
use Rattle.pool_tables.proofs.volume_table.VolumeTable.remove.Goals as goal

pub recount-requires-clause-most : goal.recount-requires-clause-most
recount-requires-clause-most c =
    most_there c.self.inside.names.entries c.self.inside.totals.entries c.self.inside.rows.entries c.args.file c.in-Some.volume c.of-less.result c.in-Some.ensures.value c.of-less.ensures.value c.self.invariant

pub recount-requires-clause-small : goal.recount-requires-clause-small
recount-requires-clause-small c =
    let few : length c.self.inside.rows.entries < 2 ^ 63 = omega (arith, c.len-len.ensures.len, c.len-len.ensures.small) in
    totals_little c.self.inside.names.entries c.self.inside.totals.entries c.self.inside.rows.entries c.in-Some.volume.pool few c.self.invariant

pub invariant_of-self : goal.invariant_of-self
invariant_of-self c =
    counted_remove c.self.inside.names.entries c.remove-in-Some.new.self.entries c.self.inside.totals.entries c.recount.new.totals.entries c.self.inside.rows.entries c.remove.new.self.entries c.args.file c.in-Some.volume c.of-less.result c.none.result
    (sym c.in-Some.ensures.value) c.remove-in-Some.ensures.updates.0 c.of-less.ensures.value c.none.ensures c.recount.ensures c.remove.ensures.entries c.self.invariant
