use Rattle.std.proofs.Common.{◌≡◌}
use Rattle.std.specs.List.{list_any}
use Rattle.kinds.specs.Names.{is_same_name}
use Rattle.inventory_rules.specs.Valid.{disk}
use Rattle.inventory_check.proofs.classes.has_disk.Given as goal

abbrev pub invariant-classes : goal.invariant-classes
invariant-classes l = list_any (λ c. is_same_name disk c.0) l.class-iterator ≡ list_any (λ c. is_same_name disk c.0) l.pools.classes
