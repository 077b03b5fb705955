use Rattle.backup_payloads.specs.Increments.{increment_form}
use Rattle.backup_payloads.proofs.Wholes.{not_read}
use Rattle.backup_payloads.proofs.increment.take_front.Goals as goal

pub returns-in-Some-clause-found : goal.returns-in-Some-clause-found
returns-in-Some-clause-found c =
    let t = increment_form.takes c.args.reader.now.rest (c.in-Some.found, c.take_increment.new.reader.rest) c.rest-bytes.ensures.bytes c.in-Some.ensures in (t.fits, t.parts)

pub returns-in-None-clause-none : goal.returns-in-None-clause-none
returns-in-None-clause-none c = λ i rest fits e. not_read c.args.reader.now.rest rest i c.in-None.ensures fits e
