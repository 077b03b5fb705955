use Rattle.std.proofs.Common.{List, sym, subst}
use Rattle.mem_files.specs.declared.entries.Entry.{Entry}
use Rattle.mem_files.specs.Entries.{SameFiles}
use Rattle.mem_files.proofs.Lists.{same_pushed}
use Rattle.mem_files.proofs.entries.place.Goals as goal

pub returns-clause-same : goal.returns-clause-same
returns-clause-same c = subst (λ (entries : List Entry). SameFiles c.args.entries.now.items entries) (sym c.in_ok-push.ensures.items)
    (same_pushed c.args.entries.now.items (record { name = c.in_ok-from_str.field-0; body = c.nothing.result }) c.nothing.ensures)
