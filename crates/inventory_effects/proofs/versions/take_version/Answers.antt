use Rattle.std.proofs.Common.{List, ap, ◌∙◌}
use Rattle.inventory_rows.specs.version_groups.declared.copies.CopyRow.{CopyRow}
use Rattle.inventory_rows.specs.State.{inv_of}
use Rattle.inventory_effects.specs.Volumes.{all_taken}
use Rattle.inventory_effects.proofs.Taken.{taken_versions}
use Rattle.inventory_effects.proofs.versions.take_version.Goals as goal

pub returns-in-Some : goal.returns-in-Some
returns-in-Some c =
    taken_versions c.args.object (inv_of c.args.tables.now) c.in-Some.version.now c.take_all.new.pools c.in-Some.ensures.value
    (c.take_all.ensures ∙ ap (λ (xs : List CopyRow). all_taken c.args.object xs c.args.tables.now.today c.args.tables.now.pools) c.as_slice.ensures.value)
