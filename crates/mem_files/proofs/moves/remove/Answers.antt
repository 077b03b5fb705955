use Rattle.mem_files.proofs.Moving.{has_removed}
use Rattle.mem_files.proofs.moves.remove.Goals as goal

pub returns-clause-done : goal.returns-clause-done
returns-clause-done c = has_removed c.args.name.now c.args.at c.args.entries.now.items c.put-body.new.entries.items c.args.moves.now.items c.reserve.new.self.items c.keep.new.moves.items
    c.nothing.result c.put-body.result c.in_ok-name.name c.requires
    c.nothing.ensures c.put-body.ensures.puts c.put-body.ensures.was c.in_ok-name.ensures.ok c.keep.ensures c.in_ok-reserve.ensures.items
