use Rattle.std.proofs.Common.{refl}
use Rattle.mem_files.proofs.Calls.{there, first_there}
use Rattle.mem_files.proofs.Moving.{undid_renaming}
use Rattle.mem_files.proofs.moves.undo_renaming.Goals as goal

pub returns : goal.returns
returns c = undid_renaming c.args.from.now c.args.to.now c.in-Some.at c.in-Some-find_file.there c.args.entries.now.items c.put-file.new.entries.items c.put.new.entries.items c.args.replaced
    c.put-file.result c.args.was_sure
    (first_there c.deref.result.now c.args.entries.now.items c.args.from.now c.in-Some.at c.deref.ensures.value c.in-Some.ensures.some)
    (there c.deref-2.result.now c.args.entries.now.items c.args.to.now c.args.to.now c.in-Some-find_file.there c.deref-2.ensures.value refl c.in-Some-find_file.ensures.some)
    c.put-file.ensures.puts c.put-file.ensures.was c.put.ensures.puts
