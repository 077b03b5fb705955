use Rattle.object_rows.specs.Filespaces.{versions_at}
use Rattle.object_rows.proofs.Kept.{distinct_at}
use Rattle.object_rows.proofs.Weights.{exchange_remove}
use Rattle.object_rows.proofs.indexed.clear.Goals as goal

pub returns-in-Some-clause-counted : goal.returns-in-Some-clause-counted
returns-in-Some-clause-counted c = λ orderly distinct was.
    c.change.ensures.counted orderly
    (exchange_remove c.args.object (versions_at c.in-Some.place.now.filespace c.in-Some.place.now.path c.args.filespaces.now.entries)
    (distinct_at c.in-Some.place.now.filespace c.in-Some.place.now.path c.args.filespaces.now.entries distinct))
    was
