use Rattle.std.proofs.Common.{◌≡◌}
use Rattle.std.specs.List.{list_all}
use Rattle.inventory_rules.specs.Valid.{is_class}
use Rattle.inventory_check.proofs.classes.each_is_class.Given as goal

abbrev pub invariant-classes : goal.invariant-classes
invariant-classes l = list_all is_class l.class-iterator ≡ list_all is_class l.pools.classes
