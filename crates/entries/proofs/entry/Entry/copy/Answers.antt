use Rattle.fields.specs.Editions.{second_form}
use Rattle.entries.proofs.Spelling.{same_spelling}
use Rattle.entries.proofs.entry.Entry.copy.Goals as goal

pub returns-in-Some : goal.returns-in-Some
returns-in-Some c = same_spelling second_form _ _ _ _ c.in_ok-bytes.ensures.alone c.as_slice.ensures.value (rw c.in-Some.is at c.in_ok-entry.ensures.found)
