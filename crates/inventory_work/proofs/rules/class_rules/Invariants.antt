use Rattle.std.proofs.Common.{◌≡◌, ◌++◌}
use Rattle.std.specs.List.{flat_map}
use Rattle.inventory_work.specs.Rules.{class_rules}
use Rattle.inventory_work.proofs.rules.class_rules.Given as goal

abbrev pub invariant-classes : goal.invariant-classes
invariant-classes l =
    l.lines.items ++ flat_map (λ c. class_rules l.domains l.domain c.0) l.class-iterator ≡ flat_map (λ c. class_rules l.domains l.domain c.0) l.set.classes
