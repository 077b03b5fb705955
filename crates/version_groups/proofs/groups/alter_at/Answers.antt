use Rattle.std.proofs.Common.{List, ℕ, sym, subst, ◌∙◌}
use Rattle.version_groups.specs.declared.group.Group.{Group}
use Rattle.version_groups.specs.Copies.{Alters}
use Rattle.version_groups.specs.Groups.{at_path, group_altered, groups_altered}
use Rattle.version_groups.proofs.Maps.{Alters-entry}
use Rattle.version_groups.proofs.groups.alter_at.Goals as goal

pub returns-in-Some-clause-value : goal.returns-in-Some-clause-value
returns-in-Some-clause-value c =
    subst (λ (t : List (List ℕ × Group)). Alters c.args.change c.alter.result c.args.map.now.entries t (groups_altered c.args.path.now c.args.object c.args.change c.args.map.now.entries))
    (sym (c.get_mut.follows.holds c.alter.new.self).0)
    (Alters-entry c.args.change c.alter.result (at_path c.args.path.now) (group_altered c.args.object c.args.change) c.args.map.now.entries c.in-Some.group.now c.alter.new.self (sym c.in-Some.ensures.value) c.alter.ensures)
