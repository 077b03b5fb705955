use Rattle.object_rows.proofs.Counts.{remove_exchanges}
use Rattle.object_rows.proofs.Kept.{indexed_remove}
use Rattle.object_rows.proofs.indexed.remove.Goals as goal

pub returns-in-Ok-clause-indexed : goal.returns-in-Ok-clause-indexed
returns-in-Ok-clause-indexed c =
    indexed_remove c.args.places.now.entries c.remove.new.self.entries c.args.number c.args.path.now c.args.object c.args.filespaces.now.entries c.change.new.map.entries c.requires.indexed c.in-Ok.ensures.value (c.in-Ok.ensures.orderly c.requires.indexed.orderly)
    (λ q. c.remove.ensures.updates.0 q) c.remove.result c.remove.ensures.value c.remove.ensures.len

pub returns-in-Ok-clause-counted : goal.returns-in-Ok-clause-counted
returns-in-Ok-clause-counted c =
    c.in-Ok.ensures.counted c.requires.indexed.orderly (remove_exchanges c.args.places.now.entries c.args.object c.args.number c.args.path.now c.args.filespaces.now.entries c.requires.indexed) c.requires.counted

pub returns-in-Err-clause-counted : goal.returns-in-Err-clause-counted
returns-in-Err-clause-counted c =
    c.in-Err.ensures.counted c.requires.indexed.orderly (remove_exchanges c.args.places.now.entries c.args.object c.args.number c.args.path.now c.args.filespaces.now.entries c.requires.indexed) c.requires.counted
