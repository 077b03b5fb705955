use Rattle.std.proofs.Common.{None}
use Rattle.std.proofs.lemmas.Result.{err_from_is_err_and}
use Rattle.fields.specs.Forms.{pair, ascending_at}
use Rattle.fields.proofs.Entries.{ascending_go_on, ascending_end, ascending_done, length-ascending_at}
use Rattle.fields.proofs.maps.take_entries.Goals as goal

pub returns-in_err-take_entry-clause-gives : goal.returns-in_err-take_entry-clause-gives
returns-in_err-take_entry-clause-gives g c =
    let read = (pair g.K.Formed.form g.D.Decoder.form).read in
    let all = ascending_at g.K.Ord.cmp read None c.args.count c.args.reader.now.rest in
    let p = err_from_is_err_and c.from_residual.result c.from_residual.ensures.1 in
    rw (p.1, p.2) (ascending_end g.K.Ord.cmp read c.entries.map.entries c.args.count c.entries.counter c.entries.reader.rest all c.in_err-take_entry.field-0.0 c.entries-test.true c.in_err-take_entry.ensures.err c.entries.invariant)

pub entries-preserved : goal.entries-preserved
entries-preserved g c =
    let read = (pair g.K.Formed.form g.D.Decoder.form).read in
    let all = ascending_at g.K.Ord.cmp read None c.args.count c.args.reader.now.rest in
    let e = c.in_ok-take_entry.ensures.ok in
    ascending_go_on g.K.Ord.cmp read c.entries.map.entries c.args.count c.entries.counter c.entries.reader.rest all e.0 c.take_entry.new.reader.rest c.take_entry.new.map.entries e.1 c.entries-test.true e.2 c.entries.invariant

pub returns-clause-gives : goal.returns-clause-gives
returns-clause-gives g c =
    let read = (pair g.K.Formed.form g.D.Decoder.form).read in
    let all = ascending_at g.K.Ord.cmp read None c.args.count c.args.reader.now.rest in
    ascending_done g.K.Ord.cmp read c.entries.map.entries c.args.count c.entries.counter c.entries.reader.rest all c.entries-test.false c.entries.invariant

pub returns-clause-count : goal.returns-clause-count
returns-clause-count g c =
    let read = (pair g.K.Formed.form g.D.Decoder.form).read in
    let all = ascending_at g.K.Ord.cmp read None c.args.count c.args.reader.now.rest in
    length-ascending_at g.K.Ord.cmp read None c.args.count c.args.reader.now.rest (c.entries.map.entries, c.entries.reader.rest)
    (ascending_done g.K.Ord.cmp read c.entries.map.entries c.args.count c.entries.counter c.entries.reader.rest all c.entries-test.false c.entries.invariant)
