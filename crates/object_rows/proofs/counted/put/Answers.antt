use Rattle.std.proofs.Common.{⊎_elim}
use Rattle.object_rows.specs.Filespaces.{filespaces_with}
use Rattle.object_rows.proofs.Answered.{became}
use Rattle.object_rows.proofs.Counts.{counted_after, nothing_exchanged}
use Rattle.object_rows.proofs.Weights.{put_exchanges}
use Rattle.object_rows.proofs.counted.put.Goals as goal

pub returns-clause-counted : goal.returns-clause-counted
returns-clause-counted c = λ orderly was.
    counted_after c.args.version.object c.args.number c.args.path.now c.args.map.now.entries c.put-result.new.map.entries c.args.tally.now c.leave.new.self c.enter.new.self
    (⊎_elim (nothing_exchanged c.args.version.object c.args.number c.args.path.now c.args.map.now.entries c.put-result.new.map.entries)
    (put_exchanges c.args.number c.args.path.now c.args.class c.args.version c.args.map.now.entries c.put-result.new.map.entries orderly c.requires)
    (became c.put-result.result c.args.map.now.entries c.put-result.new.map.entries (filespaces_with c.args.number c.args.path.now c.args.class c.args.version c.args.map.now.entries) c.put-result.ensures.value))
    c.leave.ensures.items c.enter.ensures.items c.leave.ensures.pools c.enter.ensures.pools was
