-- Which copy groups have a pool as their destination, level by level.
use Rattle.std.specs.Prelude.{ℕ, Bool, false, ◌==◌, ◌||◌, List}
use Rattle.std.specs.List.{list_any}
use Rattle.std.specs.Option.{option_map_or}
use Rattle.inventory_rows.specs.policy_domains.declared.classes.ManagementClass.{ManagementClass}
use Rattle.inventory_rows.specs.policy_domains.Rows.{SetRow, DomainRow}

-- a class has a copy group, of either type, that has the pool as its destination
abbrev pub goes_to : ℕ → ManagementClass → Bool
goes_to pool class =
    option_map_or (λ rule. rule.destination == pool) class.backup false || option_map_or (λ rule. rule.destination == pool) class.archive false

abbrev pub classes_go_to : ℕ → List (List ℕ × ManagementClass) → Bool
classes_go_to pool classes = list_any (λ c. goes_to pool c.1) classes

abbrev pub sets_go_to : ℕ → List (List ℕ × SetRow) → Bool
sets_go_to pool sets = list_any (λ s. classes_go_to pool s.1.classes) sets

abbrev pub domains_go_to : ℕ → List (List ℕ × DomainRow) → Bool
domains_go_to pool domains = list_any (λ d. sets_go_to pool d.1.sets) domains
