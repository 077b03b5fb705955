use Rattle.std.proofs.Common.{◌∙◌, sym, ap, string_bytes}
use Rattle.std.proofs.lemmas.List.{get_or_default}
use Rattle.mem_files.specs.declared.entries.Entry.{Entry}
use Rattle.mem_files.proofs.Listing.{nothing_at}
use Rattle.mem_files.proofs.list.is_file_at.Goals as goal

pub returns-in-None : goal.returns-in-None
returns-in-None c = nothing_at c.args.entries.now c.as_str.result.now c.args.at
    (λ other. ap (λ (e : Entry). string_bytes e.name) (get_or_default c.args.entries.now c.args.at other c.index-entries-at.result c.requires) ∙ sym c.as_str.ensures.value) c.in-None.ensures.none
