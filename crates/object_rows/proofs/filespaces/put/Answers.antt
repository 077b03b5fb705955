use Rattle.std.proofs.Common.{List, ℕ, Ok, sym, subst}
use Rattle.version_groups.specs.kinds.Answers.{Becomes}
use Rattle.version_groups.specs.Groups as grouped
use Rattle.version_groups.specs.declared.groups.Filespace.{Filespace}
use Rattle.object_rows.specs.Filespaces.{filespaces_with}
use Rattle.object_rows.specs.Places.{AreAllOrderly}
use Rattle.object_rows.proofs.Full.{full_put}
use Rattle.object_rows.proofs.InFilespaces.{Becomes-in}
use Rattle.object_rows.proofs.Steps.{orderly_at, orderly-set}
use Rattle.object_rows.proofs.filespaces.put.Goals as goal

pub returns-in-Some-clause-value : goal.returns-in-Some-clause-value
returns-in-Some-clause-value c =
    subst (λ (t : List (ℕ × Filespace)). Becomes c.put.result c.args.map.now.entries t (filespaces_with c.args.number c.args.path.now c.args.class c.args.version c.args.map.now.entries))
    (sym (c.get_mut.follows.holds (record c.in-Some.filespace.now { groups = c.put.new.self })).0)
    (Becomes-in c.put.result c.args.number (λ groups. Ok (grouped.groups_with c.args.path.now c.args.class c.args.version groups)) c.args.map.now.entries c.in-Some.filespace.now c.put.new.self (sym c.in-Some.ensures.value) c.put.ensures.value)

pub returns-in-Some-clause-orderly : goal.returns-in-Some-clause-orderly
returns-in-Some-clause-orderly c = λ orderly.
    subst AreAllOrderly (sym (c.get_mut.follows.holds (record c.in-Some.filespace.now { groups = c.put.new.self })).0)
    (orderly-set c.args.number c.args.map.now.entries (record c.in-Some.filespace.now { groups = c.put.new.self }) orderly
    (c.put.ensures.ordered, full_put c.put.result c.args.path.now c.args.class c.args.version c.in-Some.filespace.now.groups c.put.new.self c.put.ensures.value (orderly_at c.args.number c.args.map.now.entries c.in-Some.filespace.now orderly (sym c.in-Some.ensures.value)).1))
