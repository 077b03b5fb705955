use Rattle.mem_store.proofs.Added.{add_agrees, add_first, add_calls, add_room}
use Rattle.mem_store.proofs.entry.add.Goals as goal

pub returns-clause-agrees : goal.returns-clause-agrees
returns-clause-agrees c = add_agrees c.args.files.now c.entry_for.new.files c.apply.new.files c.args.entries.now.items c.in_ok-entry.entry c.args.idles c.args.file c.args.kind c.args.at c.args.bytes.now c.in_ok-entry.ensures.ok c.entry_for.ensures.same c.apply.ensures.others c.apply.ensures.file c.push.new.self.items c.in_ok-push.ensures.items c.requires.agrees

pub returns-clause-has_room : goal.returns-clause-has_room
returns-clause-has_room c = add_room c.args.files.now c.entry_for.new.files c.apply.new.files c.args.entries.now.items c.in_ok-entry.entry c.args.idles c.args.file c.args.kind c.args.at c.args.bytes.now c.in_ok-entry.ensures.ok c.entry_for.ensures.same c.apply.ensures.others c.apply.ensures.file c.push.new.self.items c.in_ok-push.ensures.items c.entry_for.ensures.room c.apply.ensures.room c.in_ok-entry.ensures.fits.0 c.in_ok-entry.ensures.fits.1 c.requires.has_room

pub returns-clause-first : goal.returns-clause-first
returns-clause-first c = add_first c.args.files.now c.entry_for.new.files c.apply.new.files c.args.entries.now.items c.in_ok-entry.entry c.args.idles c.args.file c.args.kind c.args.at c.args.bytes.now c.in_ok-entry.ensures.ok c.entry_for.ensures.same c.apply.ensures.others c.apply.ensures.file c.push.new.self.items c.in_ok-push.ensures.items

pub returns-clause-calls : goal.returns-clause-calls
returns-clause-calls c = add_calls c.args.files.now c.entry_for.new.files c.apply.new.files c.args.entries.now.items c.in_ok-entry.entry c.args.idles c.args.file c.args.kind c.args.at c.args.bytes.now c.in_ok-entry.ensures.ok c.entry_for.ensures.same c.apply.ensures.others c.apply.ensures.file c.push.new.self.items c.in_ok-push.ensures.items
