use Rattle.std.proofs.Common.{◌≡◌, ◌++◌}
use Rattle.std.specs.List.{flat_map}
use Rattle.inventory_rows.specs.State.{inv_of}
use Rattle.inventory_rows.specs.Search.{rule_in}
use Rattle.inventory_work.specs.Expiring.{unretained_of_group}
use Rattle.inventory_work.proofs.expiring.write_filespace.Given as goal

abbrev pub invariant-groups : goal.invariant-groups
invariant-groups l =
    l.lines.items ++ flat_map (λ g. unretained_of_group l.number g.0 (rule_in l.number g.1.class (inv_of l.tables)) l.tables.today g.1) l.path-iterator
    ≡ l.fn.lines.items ++ flat_map (λ g. unretained_of_group l.number g.0 (rule_in l.number g.1.class (inv_of l.tables)) l.tables.today g.1) l.filespace.groups
