use Rattle.std.proofs.Common.{not}
use Rattle.std.specs.Prelude.{nat_le}
use Rattle.std.proofs.lemmas.Bool.{and_parts, not-true}
use Rattle.inventory_rules.specs.inventory_rows.version_groups.declared.group.GroupChange.TheVariants.{Gone}
use Rattle.inventory_rules.specs.inventory_rows.version_groups.Versions.{has_object}
use Rattle.inventory_rules.specs.inventory_rows.object_rows.Rows.{rows_cleared, rows_without}
use Rattle.inventory_rules.specs.inventory_rows.Search.{versions}
use Rattle.inventory_rules.specs.Versions.{change_group, held_too, inserted}
use Rattle.inventory_laws.proofs.Arriving.{length_arrived}
use Rattle.inventory_laws.proofs.GroupSteps.{gone}
use Rattle.inventory_laws.proofs.Leaves.{cleared, length_after, without}
use Rattle.inventory_laws.proofs.Others.{length_copied, length_gone}
use Rattle.inventory_laws.proofs.PutSteps.{held_object_comes, of_held, of_version, version_comes}
use Rattle.inventory_laws.proofs.version_steps.versions_are_counted.Goals as goal

pub returns-clause-copied : goal.returns-clause-copied
returns-clause-copied c object step v = length_copied object step v

pub returns-clause-gone : goal.returns-clause-gone
returns-clause-gone c n filespace object path v f = length_gone v (change_group filespace path (Gone object v.today) v) (gone n filespace object path v f).2

pub returns-clause-expired : goal.returns-clause-expired
returns-clause-expired c n filespace object path v old f there under = length_after n object old v (rows_cleared filespace path object) (cleared n filespace object path v old f there under)

pub returns-clause-discarded : goal.returns-clause-discarded
returns-clause-discarded c n object v old f o there = length_after n object old v (rows_without object) (without n object v old f o there)

pub returns-clause-stored : goal.returns-clause-stored
returns-clause-stored c filespace item v o there = length_arrived (of_version item) v (inserted filespace item v) (version_comes filespace item v o.by_path there)

pub returns-clause-held : goal.returns-clause-held
returns-clause-held c n filespace item v f there fresh =
    length_arrived (of_held item) v (held_too filespace item v)
    (held_object_comes filespace item v f.held there (not-true (has_object item.object (versions v)) (and_parts (nat_le 1 item.object) (not (has_object item.object (versions v))) fresh).1))
