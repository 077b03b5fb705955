use Rattle.std.proofs.Common.{⊎_elim}
use Rattle.object_rows.specs.Filespaces.{filespaces_after}
use Rattle.object_rows.proofs.Answered.{made}
use Rattle.object_rows.proofs.Counts.{counted_after, nothing_exchanged}
use Rattle.object_rows.proofs.Weights.{change_exchanges}
use Rattle.object_rows.proofs.counted.change.Goals as goal

pub returns-clause-counted : goal.returns-clause-counted
returns-clause-counted c = λ orderly exchange was.
    counted_after c.args.object c.args.number c.args.path.now c.args.map.now.entries c.change-result.new.map.entries c.args.tally.now c.leave.new.self c.enter.new.self
    (⊎_elim (nothing_exchanged c.args.object c.args.number c.args.path.now c.args.map.now.entries c.change-result.new.map.entries)
    (change_exchanges c.args.object c.args.number c.args.path.now c.args.by c.args.map.now.entries c.change-result.new.map.entries orderly exchange)
    (made c.change-result.result c.args.map.now.entries c.change-result.new.map.entries (filespaces_after c.args.number c.args.path.now c.args.by c.args.map.now.entries) c.change-result.ensures.value))
    c.leave.ensures.items c.enter.ensures.items c.leave.ensures.pools c.enter.ensures.pools was
