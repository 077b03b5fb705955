use Rattle.std.proofs.Common.{◌≡◌, ap, rules}
use Rattle.fields.specs.Reading.{Cursor}
use Rattle.fields.proofs.Whole.{none_whole, none_longer, alone_whole}
use Rattle.fields.proofs.formed.decode_by.Goals as goal

pub returns-then-at_end-clause-none : goal.returns-then-at_end-clause-none
returns-then-at_end-clause-none g c =
    let e : c.new-reader.result.rest ≡ c.args.bytes.now = ap (λ (k : Cursor). k.rest) c.new-reader.ensures in
    none_whole g.D.Decoder.form c.in_ok-value.value c.args.bytes.now (rw e at c.in_ok-value.ensures.none)

pub returns-else-at_end-clause-none : goal.returns-else-at_end-clause-none
returns-else-at_end-clause-none g c =
    let e : c.new-reader.result.rest ≡ c.args.bytes.now = ap (λ (k : Cursor). k.rest) c.new-reader.ensures in
    none_longer g.met.D.Decoder.is_form c.in_ok-value.value c.args.bytes.now c.take_front.new.reader.rest (search rules) (rw e at c.in_ok-value.ensures.found) (rw e at c.in_ok-value.ensures.none)

pub returns-then-at_end-clause-alone : goal.returns-then-at_end-clause-alone
returns-then-at_end-clause-alone g c =
    let e : c.new-reader.result.rest ≡ c.args.bytes.now = ap (λ (k : Cursor). k.rest) c.new-reader.ensures in
    alone_whole g.met.D.Decoder.is_form c.in_ok-value.value c.args.bytes.now c.take_front.new.reader.rest (search rules) (rw e at c.in_ok-value.ensures.found)
