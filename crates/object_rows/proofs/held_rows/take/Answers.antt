use Rattle.object_rows.proofs.HeldCounts.{counted_held_after, take_exchanges_held}
use Rattle.object_rows.proofs.HeldLists.{held_taken}
use Rattle.object_rows.proofs.held_rows.take.Goals as goal

pub returns-clause-held : goal.returns-clause-held
returns-clause-held c = held_taken c.args.object c.args.map.now.entries c.remove.new.self.entries c.requires.held c.remove.ensures.entries c.remove.ensures.ordered

pub returns-clause-counted : goal.returns-clause-counted
returns-clause-counted c =
    counted_held_after c.args.object c.args.map.now.entries c.remove.new.self.entries c.args.tally.now c.leave_held.new.self c.enter_held.new.self
    (take_exchanges_held c.args.map.now.entries c.remove.new.self.entries c.args.object c.requires.held c.remove.ensures.entries)
    c.leave_held.ensures.items c.enter_held.ensures.items c.leave_held.ensures.pools c.enter_held.ensures.pools c.requires.counted
