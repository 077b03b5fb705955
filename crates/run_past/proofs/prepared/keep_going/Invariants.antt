use Rattle.std.proofs.Common.{◌≡◌, ◌++◌}
use Rattle.std.specs.List.{flat_map}
use Rattle.inventory_rows.specs.State.{inv_of}
use Rattle.run_past.specs.Before.{path_going}
use Rattle.run_past.proofs.prepared.keep_going.Given as goal

abbrev pub invariant-groups : goal.invariant-groups
invariant-groups l =
    l.kept.items ++ flat_map (λ g. path_going l.items l.number g.0 g.1 (inv_of l.tables)) l.path-iterator ≡ l.fn.kept.items ++ flat_map (λ g. path_going l.items l.number g.0 g.1 (inv_of l.tables)) l.filespace.groups
