use Rattle.std.proofs.Common.{nat_le, sym, ◌∙◌}
use Rattle.inventory_rows.specs.version_groups.declared.copies.CopyRow.{CopyRow}
use Rattle.inventory_rows.specs.State.{inv_of}
use Rattle.inventory_check.proofs.Walking.{all_of_copies}
use Rattle.inventory_check.proofs.versions.copies_are_past.Goals as goal

pub returns : goal.returns
returns c = c.all_versions.ensures ∙ sym (all_of_copies (λ (copy : CopyRow). nat_le copy.placed c.args.tables.now.number) (inv_of c.args.tables.now))
