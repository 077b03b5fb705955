use Rattle.std.proofs.Common.{◌≡◌, Some}
use Rattle.fields.specs.Forms.{times_at}
use Rattle.backup_payloads.specs.Increments.{record_bytes, records_at}
use Rattle.backup_payloads.proofs.Reading.{goes_on, ends, done, some_read, length_records}
use Rattle.backup_payloads.proofs.records.take_records.Goals as goal

pub returns-in-None-clause-takes : goal.returns-in-None-clause-takes
returns-in-None-clause-takes c = ends c.args.count c.records.counter c.records.reader.rest c.args.reader.now.rest c.records-test.true c.in-None.ensures c.records.invariant

pub records-preserved : goal.records-preserved
records-preserved c = goes_on c.args.count c.records.counter c.records.reader.rest c.args.reader.now.rest c.in-Some.field-0.now c.take_record.new.reader.rest c.records-test.true c.in-Some.ensures c.records.invariant

pub invariant_of-result : goal.invariant_of-result
invariant_of-result c =
    let read : times_at record_bytes.read c.args.count c.args.reader.now.rest ≡ Some (records_at c.args.count c.args.reader.now.rest, c.records.reader.rest) = done c.args.count c.records.counter c.records.reader.rest c.args.reader.now.rest c.records-test.false c.records.invariant in
    rw c.rest-bytes.ensures.rest (some_read _ _ read)

pub returns-clause-takes : goal.returns-clause-takes
returns-clause-takes c =
    rw c.rest-bytes.ensures.rest (done c.args.count c.records.counter c.records.reader.rest c.args.reader.now.rest c.records-test.false c.records.invariant)

pub returns-clause-count : goal.returns-clause-count
returns-clause-count c =
    let read : times_at record_bytes.read c.args.count c.args.reader.now.rest ≡ Some (records_at c.args.count c.args.reader.now.rest, c.records.reader.rest) = done c.args.count c.records.counter c.records.reader.rest c.args.reader.now.rest c.records-test.false c.records.invariant in
    rw c.rest-bytes.ensures.rest (length_records c.args.count c.args.reader.now.rest (some_read _ _ read))
