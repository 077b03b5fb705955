use Rattle.std.proofs.Common.{[], sym, ◌∙◌}
use Rattle.std.proofs.lemmas.List.{append-nil}
use Rattle.hall.proofs.changes.copy_of.Goals as goal

pub returns-in-Some : goal.returns-in-Some
returns-in-Some c =
    let found = rw c.in-Some.is at c.in_ok-change.ensures.found in
    (c.in_ok-bytes.ensures.alone c.in-Some.change [] found.0 (append-nil _ ∙ sym c.as_slice.ensures.value ∙ found.1)).0
