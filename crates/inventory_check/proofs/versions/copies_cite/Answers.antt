use Rattle.std.proofs.Common.{sym, ◌∙◌}
use Rattle.inventory_rows.specs.State.{inv_of}
use Rattle.inventory_check.specs.Asked.{copy_cites}
use Rattle.inventory_check.proofs.Walking.{all_of_copies}
use Rattle.inventory_check.proofs.versions.copies_cite.Goals as goal

pub returns : goal.returns
returns c = c.all_versions.ensures ∙ sym (all_of_copies (copy_cites (inv_of c.args.tables.now)) (inv_of c.args.tables.now))
