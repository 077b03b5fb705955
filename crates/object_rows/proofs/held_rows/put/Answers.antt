use Rattle.std.proofs.Common.{⊎_elim}
use Rattle.object_rows.specs.HeldRows.{held_at, held_with}
use Rattle.object_rows.proofs.Answered.{became_to}
use Rattle.object_rows.proofs.HeldCounts.{counted_held_after, nothing_exchanged_held, put_exchanges_held}
use Rattle.object_rows.proofs.HeldLists.{held_became, none_of}
use Rattle.object_rows.proofs.held_rows.put.Goals as goal

pub returns-clause-held : goal.returns-clause-held
returns-clause-held c =
    held_became c.args.row c.args.map.now.entries c.insert-result.new.map.entries c.requires.held c.requires.new c.requires.active
    (became_to c.insert-result.result c.args.map.now.entries c.insert-result.new.map.entries (held_with c.args.row.filespace c.args.row.held c.args.map.now.entries) c.insert-result.ensures.value) c.insert-result.ensures.ordered

pub returns-clause-counted : goal.returns-clause-counted
returns-clause-counted c =
    counted_held_after c.args.row.held.version.object c.args.map.now.entries c.insert-result.new.map.entries c.args.tally.now c.leave_held.new.self c.enter_held.new.self
    (⊎_elim (nothing_exchanged_held c.args.row.held.version.object c.args.map.now.entries c.insert-result.new.map.entries)
    (put_exchanges_held c.args.map.now.entries c.insert-result.new.map.entries c.args.row.held.version.object c.args.row c.requires.held (none_of (held_at c.args.row.held.version.object c.args.map.now.entries) c.requires.new))
    (became_to c.insert-result.result c.args.map.now.entries c.insert-result.new.map.entries (held_with c.args.row.filespace c.args.row.held c.args.map.now.entries) c.insert-result.ensures.value))
    c.leave_held.ensures.items c.enter_held.ensures.items c.leave_held.ensures.pools c.enter_held.ensures.pools c.requires.counted
