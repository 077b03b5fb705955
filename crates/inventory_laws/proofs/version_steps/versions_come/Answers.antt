use Rattle.std.proofs.Common.{not}
use Rattle.std.specs.Prelude.{nat_le}
use Rattle.std.proofs.lemmas.Bool.{and_parts, not-true}
use Rattle.inventory_rules.specs.inventory_rows.version_groups.Versions.{has_object}
use Rattle.inventory_rules.specs.inventory_rows.Search.{versions}
use Rattle.inventory_rules.specs.Versions.{held_too, inserted}
use Rattle.inventory_laws.proofs.Arriving.{arrived, copies_more, other_arrived}
use Rattle.inventory_laws.proofs.Others.{other_inserted}
use Rattle.inventory_laws.proofs.PutSteps.{held_object_comes, of_held, of_version, version_comes}
use Rattle.inventory_laws.proofs.version_steps.versions_come.Goals as goal

pub returns-clause-stored : goal.returns-clause-stored
returns-clause-stored c n filespace item v f o there fresh lies full bound placed =
    let comes = version_comes filespace item v o.by_path there in
    (arrived n (of_version item) v (inserted filespace item v) f comes fresh lies full bound placed, copies_more (of_version item) v (inserted filespace item v) comes)

pub returns-clause-held : goal.returns-clause-held
returns-clause-held c n filespace item v f there fresh lies full bound placed =
    let comes = held_object_comes filespace item v f.held there (not-true (has_object item.object (versions v)) (and_parts (nat_le 1 item.object) (not (has_object item.object (versions v))) fresh).1) in
    (arrived n (of_held item) v (held_too filespace item v) f comes fresh lies full bound placed, copies_more (of_held item) v (held_too filespace item v) comes)

pub returns-clause-others : goal.returns-clause-others
returns-clause-others c filespace other item v o h = other_inserted filespace other item v o h

pub returns-clause-others_held : goal.returns-clause-others_held
returns-clause-others_held c n filespace other item v f there fresh ne =
    other_arrived other (of_held item) v (held_too filespace item v)
    (held_object_comes filespace item v f.held there (not-true (has_object item.object (versions v)) (and_parts (nat_le 1 item.object) (not (has_object item.object (versions v))) fresh).1)) ne
