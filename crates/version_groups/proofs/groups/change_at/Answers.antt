use Rattle.std.proofs.Common.{Option, List, ℕ, sym, subst, ◌∙◌}
use Rattle.std.specs.Result.{OnOk}
use Rattle.kinds.specs.Answers.{Makes}
use Rattle.version_groups.specs.declared.group.Group.{Group}
use Rattle.version_groups.specs.Entries.{changed_at}
use Rattle.version_groups.specs.Groups.{TakesAway, at_path, group_after, versions_in}
use Rattle.version_groups.proofs.Maps.{Makes-entry}
use Rattle.version_groups.proofs.groups.change_at.Goals as goal

pub returns-in-Some-clause-value : goal.returns-in-Some-clause-value
returns-in-Some-clause-value c =
    subst (λ (t : List (List ℕ × Group)). Makes c.change.result c.args.map.now.entries t (changed_at (at_path c.args.path.now) (group_after c.args.change) c.args.map.now.entries))
    (sym (c.get_mut.follows.holds c.change.new.self).0)
    (Makes-entry c.change.result (at_path c.args.path.now) (group_after c.args.change) c.args.map.now.entries c.in-Some.group.now c.change.new.self (sym c.in-Some.ensures.value) c.change.ensures.value)

pub returns-in-Some-clause-taken : goal.returns-in-Some-clause-taken
returns-in-Some-clause-taken c =
    subst (λ (o : Option Group). OnOk c.change.result (TakesAway c.args.change (versions_in o))) c.in-Some.ensures.value c.change.ensures.taken
