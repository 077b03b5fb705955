use Rattle.std.proofs.Common.{◌≡◌, ap, Some, None, rules}
use Rattle.fields.specs.Reading.{Cursor}
use Rattle.fields.proofs.Whole.{none_whole, none_longer, alone_whole}
use Rattle.backup_payloads.specs.Increments.{increment, increment_form}
use Rattle.backup_payloads.proofs.increment.Increment.read.Goals as goal

pub returns-in-None-clause-none : goal.returns-in-None-clause-none
returns-in-None-clause-none c =
    let there : c.new-reader.result.rest ≡ c.args.bytes.now = ap (λ (k : Cursor). k.rest) c.new-reader.ensures in
    λ i s. none_whole increment None c.args.bytes.now (rw there at c.in-None.ensures.none) i s.0 s.1

pub returns-else-at_end-clause-none : goal.returns-else-at_end-clause-none
returns-else-at_end-clause-none c =
    let there : c.new-reader.result.rest ≡ c.args.bytes.now = ap (λ (k : Cursor). k.rest) c.new-reader.ensures in
    λ i s. none_longer increment_form (Some c.in-Some.found) c.args.bytes.now c.take_front.new.reader.rest (search rules) (rw there at c.in-Some.ensures.found) tt i s.0 s.1

pub returns-then-at_end-clause-alone : goal.returns-then-at_end-clause-alone
returns-then-at_end-clause-alone c =
    let there : c.new-reader.result.rest ≡ c.args.bytes.now = ap (λ (k : Cursor). k.rest) c.new-reader.ensures in
    alone_whole increment_form (Some c.in-Some.found) c.args.bytes.now c.take_front.new.reader.rest (search rules) (rw there at c.in-Some.ensures.found)
