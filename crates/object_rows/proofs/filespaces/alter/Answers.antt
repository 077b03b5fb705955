use Rattle.std.proofs.Common.{List, ℕ, sym, subst}
use Rattle.version_groups.specs.Copies.{Alters}
use Rattle.version_groups.specs.Groups as grouped
use Rattle.version_groups.specs.declared.groups.Filespace.{Filespace}
use Rattle.object_rows.specs.Filespaces.{filespaces_altered_at}
use Rattle.object_rows.specs.Places.{AreAllOrderly}
use Rattle.object_rows.proofs.Full.{full_alter}
use Rattle.object_rows.proofs.InFilespaces.{Alters-in}
use Rattle.object_rows.proofs.Steps.{orderly_at, orderly-set}
use Rattle.object_rows.proofs.filespaces.alter.Goals as goal

pub returns-in-Some-clause-value : goal.returns-in-Some-clause-value
returns-in-Some-clause-value c =
    subst (λ (t : List (ℕ × Filespace)). Alters c.args.by c.alter.result c.args.map.now.entries t (filespaces_altered_at c.args.number c.args.path.now c.args.object c.args.by c.args.map.now.entries))
    (sym (c.get_mut.follows.holds (record c.in-Some.filespace.now { groups = c.alter.new.self })).0)
    (Alters-in c.args.by c.alter.result c.args.number (grouped.groups_altered c.args.path.now c.args.object c.args.by) c.args.map.now.entries c.in-Some.filespace.now c.alter.new.self (sym c.in-Some.ensures.value) c.alter.ensures.value)

pub returns-in-Some-clause-orderly : goal.returns-in-Some-clause-orderly
returns-in-Some-clause-orderly c = λ orderly.
    subst AreAllOrderly (sym (c.get_mut.follows.holds (record c.in-Some.filespace.now { groups = c.alter.new.self })).0)
    (orderly-set c.args.number c.args.map.now.entries (record c.in-Some.filespace.now { groups = c.alter.new.self }) orderly
    (c.alter.ensures.ordered, full_alter c.args.by c.alter.result c.args.path.now c.args.object c.in-Some.filespace.now.groups c.alter.new.self c.alter.ensures.value (orderly_at c.args.number c.args.map.now.entries c.in-Some.filespace.now orderly (sym c.in-Some.ensures.value)).1))
