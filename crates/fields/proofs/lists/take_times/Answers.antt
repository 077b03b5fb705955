use Rattle.std.proofs.lemmas.Result.{err_from_is_err_and}
use Rattle.fields.proofs.Times.{times_go_on, times_end, times_done, length-times_at}
use Rattle.fields.specs.Forms.{times_at}
use Rattle.fields.proofs.lists.take_times.Goals as goal

pub returns-in_err-value-clause-gives : goal.returns-in_err-value-clause-gives
returns-in_err-value-clause-gives g c =
    let read = g.D.Decoder.form.read in
    let p = err_from_is_err_and c.from_residual.result c.from_residual.ensures.1 in
    rw (p.1, p.2) (times_end read c.values.values.items c.args.count c.values.counter c.values.reader.rest (times_at read c.args.count c.args.reader.now.rest) c.in_err-value.field-0.0 c.values-test.true c.in_err-value.ensures c.values.invariant)

pub values-preserved : goal.values-preserved
values-preserved g c =
    let read = g.D.Decoder.form.read in
    rw c.in_ok-push.ensures.items (times_go_on read c.values.values.items c.args.count c.values.counter c.values.reader.rest (times_at read c.args.count c.args.reader.now.rest) c.in_ok-value.value c.take.new.reader.rest c.values-test.true c.in_ok-value.ensures c.values.invariant)

pub returns-clause-gives : goal.returns-clause-gives
returns-clause-gives g c =
    let read = g.D.Decoder.form.read in
    times_done read c.values.values.items c.args.count c.values.counter c.values.reader.rest (times_at read c.args.count c.args.reader.now.rest) c.values-test.false c.values.invariant

pub returns-clause-count : goal.returns-clause-count
returns-clause-count g c =
    let read = g.D.Decoder.form.read in
    let all = times_at read c.args.count c.args.reader.now.rest in
    length-times_at read c.args.count c.args.reader.now.rest (c.values.values.items, c.values.reader.rest) (times_done read c.values.values.items c.args.count c.values.counter c.values.reader.rest all c.values-test.false c.values.invariant)
