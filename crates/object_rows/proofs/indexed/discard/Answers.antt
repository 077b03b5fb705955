use Rattle.object_rows.proofs.Kept.{indexed_cleared}
use Rattle.object_rows.proofs.Stands.{distinct-listed}
use Rattle.object_rows.proofs.indexed.discard.Goals as goal

pub returns-in-Ok-clause-indexed : goal.returns-in-Ok-clause-indexed
returns-in-Ok-clause-indexed c =
    indexed_cleared c.args.places.now.entries c.remove.new.self.entries c.args.object c.args.filespaces.now.entries c.clear.new.filespaces.entries c.requires.indexed c.in-Ok.ensures.value (c.in-Ok.ensures.orderly c.requires.indexed.orderly)
    (λ q. c.remove.ensures.updates.0 q) c.remove.result c.remove.ensures.value c.remove.ensures.len

pub returns-in-Ok-clause-counted : goal.returns-in-Ok-clause-counted
returns-in-Ok-clause-counted c = c.in-Ok.ensures.counted c.requires.indexed.orderly (distinct-listed c.args.filespaces.now.entries c.requires.indexed.index.distinct) c.requires.counted

pub returns-in-Err-clause-counted : goal.returns-in-Err-clause-counted
returns-in-Err-clause-counted c = c.in-Err.ensures.counted c.requires.indexed.orderly (distinct-listed c.args.filespaces.now.entries c.requires.indexed.index.distinct) c.requires.counted
