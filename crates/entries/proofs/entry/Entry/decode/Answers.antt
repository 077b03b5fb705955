use Rattle.fields.specs.Editions.{second_form}
use Rattle.entries.proofs.Spelling.{none_spelled}
use Rattle.entries.proofs.entry.Entry.decode.Goals as goal

pub returns-clause-none : goal.returns-clause-none
returns-clause-none c = none_spelled second_form c.in_ok-entry.entry c.args.bytes.now c.in_ok-entry.ensures.none
