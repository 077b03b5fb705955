use Rattle.std.proofs.Common.{⊎_elim}
use Rattle.object_rows.specs.Filespaces.{filespaces_altered_at}
use Rattle.object_rows.proofs.Answered.{altered}
use Rattle.object_rows.proofs.Counts.{counted_after, nothing_exchanged}
use Rattle.object_rows.proofs.Weights.{alter_exchanges}
use Rattle.object_rows.proofs.counted.alter.Goals as goal

pub returns-clause-counted : goal.returns-clause-counted
returns-clause-counted c = λ distinct was.
    counted_after c.args.object c.args.number c.args.path.now c.args.map.now.entries c.alter-result.new.map.entries c.args.tally.now c.leave.new.self c.enter.new.self
    (⊎_elim (nothing_exchanged c.args.object c.args.number c.args.path.now c.args.map.now.entries c.alter-result.new.map.entries)
    (alter_exchanges c.args.object c.args.number c.args.path.now c.args.by c.args.map.now.entries c.alter-result.new.map.entries distinct)
    (altered c.args.by c.alter-result.result c.args.map.now.entries c.alter-result.new.map.entries (filespaces_altered_at c.args.number c.args.path.now c.args.object c.args.by c.args.map.now.entries) c.alter-result.ensures.value))
    c.leave.ensures.items c.enter.ensures.items c.leave.ensures.pools c.enter.ensures.pools was
