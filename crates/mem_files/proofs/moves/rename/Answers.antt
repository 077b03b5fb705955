use Rattle.std.proofs.Common.{◌∙◌, sym, ap}
use Rattle.mem_files.specs.declared.entries.Body.{Body}
use Rattle.mem_files.specs.declared.entries.Entry.{Entry}
use Rattle.mem_files.proofs.Moving.{has_renamed}
use Rattle.mem_files.proofs.moves.rename.Goals as goal

pub returns-clause-done : goal.returns-clause-done
returns-clause-done c = has_renamed c.args.from.now c.args.to.now c.args.at c.args.there c.args.entries.now.items c.put-file.new.entries.items c.put-body.new.entries.items c.args.moves.now.items
    c.reserve.new.self.items c.keep.new.moves.items
    c.nothing.result c.put-file.result c.put-body.result c.in_ok-former.former c.in_ok-name.name c.index.result.now.body.is_sure c.requires.apart c.requires.file c.requires.first c.nothing.ensures
    c.put-file.ensures.puts c.put-file.ensures.was
    c.put-body.ensures.puts c.put-body.ensures.was c.in_ok-former.ensures.ok c.in_ok-name.ensures.ok
    (ap (λ (e : Entry). e.body.is_sure) c.index.ensures ∙ sym (ap (λ (b : Body). b.is_sure) (c.put-file.ensures.was c.index.result.now))) c.keep.ensures c.in_ok-reserve.ensures.items
