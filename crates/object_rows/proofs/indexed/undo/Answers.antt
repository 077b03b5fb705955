use Rattle.std.proofs.Common.{Some}
use Rattle.object_rows.specs.Filespaces.{versions_at}
use Rattle.object_rows.specs.Rows.{NewestIs}
use Rattle.object_rows.proofs.Counts.{undo_exchanges}
use Rattle.object_rows.proofs.Kept.{indexed_undo}
use Rattle.object_rows.proofs.indexed.undo.Goals as goal

pub returns-in-Ok-clause-indexed : goal.returns-in-Ok-clause-indexed
returns-in-Ok-clause-indexed c =
    let w : NewestIs (Some c.in-Some.object) (versions_at c.args.number c.args.path.now c.args.filespaces.now.entries) = c.in-Some.ensures in
    indexed_undo c.args.places.now.entries c.remove.new.self.entries c.args.number c.args.path.now c.args.class c.args.active c.in-Some.object c.args.filespaces.now.entries c.change.new.map.entries c.requires.indexed c.in-Ok.ensures.value
    (c.in-Ok.ensures.orderly c.requires.indexed.orderly) w.0 w.1 w.2 w.3
    (λ q. c.remove.ensures.updates.0 q) c.remove.result c.remove.ensures.value c.remove.ensures.len

pub returns-in-Ok-clause-counted : goal.returns-in-Ok-clause-counted
returns-in-Ok-clause-counted c =
    c.in-Ok.ensures.counted c.requires.indexed.orderly
    (undo_exchanges c.args.places.now.entries c.in-Some.object c.args.number c.args.path.now c.args.class c.args.active c.args.filespaces.now.entries c.requires.indexed c.in-Some.ensures) c.requires.counted

pub returns-in-Err-clause-counted : goal.returns-in-Err-clause-counted
returns-in-Err-clause-counted c =
    c.in-Err.ensures.counted c.requires.indexed.orderly
    (undo_exchanges c.args.places.now.entries c.in-Some.object c.args.number c.args.path.now c.args.class c.args.active c.args.filespaces.now.entries c.requires.indexed c.in-Some.ensures) c.requires.counted
