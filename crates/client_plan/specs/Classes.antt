-- How files are bound to the classes of a node's active policy set.
use Rattle.std.specs.Prelude.{ℕ, List, Bool, true, false, Option, Some, None, option_and_then}
use Rattle.std.specs.List.{find, list_any}
use Rattle.std.specs.Option.{option_map}
use Rattle.kinds.specs.Names.{is_same_name}
use Rattle.kinds.specs.declared.rule.BackupRule.{BackupRule}
use Rattle.kinds.specs.declared.rule.RuleFound.{RuleFound}
use Rattle.kinds.specs.declared.rule.RuleFound.TheVariants as found
use Rattle.choosers.specs.declared.rule.Rule.{Rule}
use Rattle.choosers.specs.declared.rule.Bound.{Bound}
use Rattle.choosers.specs.declared.rule.Bound.TheVariants as bound
use Rattle.choosers.specs.Rules.{bound_of, class_of}
use Rattle.inventory_work.specs.declared.lines.ClassRule.{ClassRule}
use Rattle.inventory_work.specs.declared.lines.Rules.{Rules}

-- the row of the class with this name
abbrev pub class_row : List ℕ → List ClassRule → Option ClassRule
class_row name classes = find (λ c. is_same_name c.class name) classes

-- the class is one of these
abbrev pub has_class : List ClassRule → List ℕ → Bool
has_class classes name = list_any (λ c. is_same_name c.class name) classes

-- the copy group that a class has itself
abbrev pub own_group : RuleFound → Option BackupRule
own_group (found.Own rule) = Some rule
own_group (found.Default rule) = None
own_group (found.Grace days) = None

-- the pool that takes the files of the class with this name, where the class has a copy group of its own
abbrev pub destination : Rules → List ℕ → Option ℕ
destination rules name = option_map (λ group. group.destination) (option_and_then (λ row. own_group row.rule) (class_row name rules.classes))

-- the path is left out
abbrev pub is_excluded : Bound → Bool
is_excluded (bound.ByRule number) = false
is_excluded bound.Default = false
is_excluded bound.Excluded = true

abbrev pub is_left_out : List Rule → List ℕ → Bool
is_left_out choice path = is_excluded (bound_of choice path)

-- The class to which a path is bound. A path that is left out has none, and neither has any where there is no default class,
-- since the node's domain then has no active policy set.
abbrev pub bound_under : Rules → List Rule → List ℕ → List ℕ → Option ClassRule
bound_under rules choice path default = option_and_then (λ name. class_row name rules.classes) (class_of (has_class rules.classes) default choice path)

abbrev pub bound_to : Rules → List Rule → List ℕ → Option ClassRule
bound_to rules choice path = option_and_then (bound_under rules choice path) rules.default_class
