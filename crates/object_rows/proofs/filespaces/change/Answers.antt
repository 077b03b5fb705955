use Rattle.std.proofs.Common.{List, ℕ, sym, subst}
use Rattle.version_groups.specs.kinds.Answers.{Makes}
use Rattle.version_groups.specs.Groups as grouped
use Rattle.version_groups.specs.declared.groups.Filespace.{Filespace}
use Rattle.object_rows.specs.Filespaces.{filespaces_after}
use Rattle.object_rows.specs.Places.{AreAllOrderly}
use Rattle.object_rows.proofs.Full.{full_change}
use Rattle.object_rows.proofs.InFilespaces.{Makes-in}
use Rattle.object_rows.proofs.Steps.{orderly_at, orderly-set}
use Rattle.object_rows.proofs.filespaces.change.Goals as goal

pub returns-in-Some-clause-value : goal.returns-in-Some-clause-value
returns-in-Some-clause-value c =
    subst (λ (t : List (ℕ × Filespace)). Makes c.change.result c.args.map.now.entries t (filespaces_after c.args.number c.args.path.now c.args.by c.args.map.now.entries))
    (sym (c.get_mut.follows.holds (record c.in-Some.filespace.now { groups = c.change.new.self })).0)
    (Makes-in c.change.result c.args.number (grouped.groups_after c.args.path.now c.args.by) c.args.map.now.entries c.in-Some.filespace.now c.change.new.self (sym c.in-Some.ensures.value) c.change.ensures.value)

pub returns-in-Some-clause-orderly : goal.returns-in-Some-clause-orderly
returns-in-Some-clause-orderly c = λ orderly.
    subst AreAllOrderly (sym (c.get_mut.follows.holds (record c.in-Some.filespace.now { groups = c.change.new.self })).0)
    (orderly-set c.args.number c.args.map.now.entries (record c.in-Some.filespace.now { groups = c.change.new.self }) orderly
    (c.change.ensures.ordered, full_change c.change.result c.args.path.now c.args.by c.in-Some.filespace.now.groups c.change.new.self c.change.ensures.value (orderly_at c.args.number c.args.map.now.entries c.in-Some.filespace.now orderly (sym c.in-Some.ensures.value)).1))
