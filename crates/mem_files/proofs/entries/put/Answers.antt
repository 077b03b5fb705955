use Rattle.std.proofs.Common.{◌∙◌, ap, subst, set}
use Rattle.mem_files.specs.declared.entries.Body.{Body}
use Rattle.mem_files.specs.declared.entries.Entry.{Entry}
use Rattle.mem_files.specs.Entries.{file_of, Puts}
use Rattle.mem_files.proofs.Lists.{get_or_any, puts_set}
use Rattle.mem_files.proofs.entries.put.Goals as goal

pub returns-clause-puts : goal.returns-clause-puts
returns-clause-puts c =
    let new : Entry = record { name = c.index_mut.result.now.name; body = c.replace.new.dest } in
    subst (λ (b : Body). Puts c.args.at (file_of b) c.args.entries.now.items (set c.args.entries.now.items c.args.at new)) c.replace.ensures.after
    (puts_set c.args.entries.now.items c.args.at new c.requires
    (ap (λ (e : Entry). e.name) (c.index_mut.ensures.value ∙ get_or_any c.args.entries.now.items c.args.at c.index_mut.result.now new c.requires)))
