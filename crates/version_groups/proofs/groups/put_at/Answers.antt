use Rattle.std.proofs.Common.{List, ℕ, Ok, sym, subst, ◌∙◌}
use Rattle.kinds.specs.Answers.{Becomes}
use Rattle.version_groups.specs.declared.group.Group.{Group}
use Rattle.version_groups.specs.Groups.{groups_with}
use Rattle.version_groups.proofs.Maps.{Becomes-group}
use Rattle.version_groups.proofs.groups.put_at.Goals as goal

pub returns-in-Some-clause-value : goal.returns-in-Some-clause-value
returns-in-Some-clause-value c =
    subst (λ (t : List (List ℕ × Group)). Becomes c.put.result c.args.map.now.entries t (Ok (groups_with c.args.path.now c.args.class c.args.version c.args.map.now.entries)))
    (sym (c.get_mut.follows.holds c.put.new.self).0)
    (Becomes-group c.put.result c.args.path.now c.args.class c.args.version c.args.map.now.entries c.in-Some.group.now c.put.new.self c.get_mut.ensures.ordered (sym c.in-Some.ensures.value) c.put.ensures)
