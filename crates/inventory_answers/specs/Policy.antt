-- The rows of policy domains, policy sets, management classes and copy groups.
use Rattle.std.specs.Prelude.{ℕ, List, [], ◌∷◌, map, is_some, Option, Result, Ok}
use Rattle.std.specs.List.{flat_map}
use Rattle.std.specs.Option.{option_map_or}
use Rattle.std.specs.Result.{result_err}
use Rattle.kinds.specs.declared.change.PolicyChange.TheVariants as policy
use Rattle.kinds.specs.declared.refusal.Refusal.{Refusal}
use Rattle.kinds.specs.declared.rule.BackupRule.{BackupRule}
use Rattle.inventory_work.specs.inventory_rows.policy_domains.declared.classes.ManagementClass.{ManagementClass}
use Rattle.inventory_work.specs.inventory_rows.policy_domains.Changes.{after}
use Rattle.inventory_work.specs.inventory_rows.policy_domains.Rows.{SetRow, DomainRow, active_set, row_of}
use Rattle.inventory_work.specs.inventory_rows.version_groups.Entries.{on_ok, if_found}
use Rattle.inventory_work.specs.inventory_rows.pool_rows.PoolRows.{PoolRows}
use Rattle.inventory_answers.specs.declared.lines.DomainLine.{DomainLine}
use Rattle.inventory_answers.specs.declared.lines.SetLine.{SetLine}
use Rattle.inventory_answers.specs.declared.lines.ClassLine.{ClassLine}
use Rattle.inventory_answers.specs.declared.lines.GroupLine.{GroupLine}
use Rattle.inventory_answers.specs.Look.{set_row, name_of_pool}

-- a policy domain, and whether it has the set ACTIVE
abbrev pub domain_line : List ℕ × DomainRow → DomainLine
domain_line d = record { name = d.0; back_retention = d.1.back_retention; active = is_some (row_of active_set d.1.sets) }

-- all policy domains
abbrev pub domain_lines : List (List ℕ × DomainRow) → List DomainLine
domain_lines domains = map domain_line domains

-- a policy set of a domain
abbrev pub set_line : List ℕ → List ℕ × SetRow → SetLine
set_line domain s = record { domain = domain; set = s.0; default_class = s.1.default_class }

abbrev pub set_lines : List ℕ → DomainRow → List SetLine
set_lines domain row = map (set_line domain) row.sets

-- the policy sets of a domain, which has to be there
abbrev pub sets_of : List ℕ → List (List ℕ × DomainRow) → Result (List SetLine) Refusal
sets_of domain domains = if_found (row_of domain domains) (λ row. Ok (set_lines domain row))

-- a management class of a set, whether it has a backup copy group, and the rule of its archive copy group
abbrev pub class_line : List ℕ → List ℕ → List ℕ × ManagementClass → ClassLine
class_line domain set c = record { domain = domain; set = set; class = c.0; group = is_some c.1.backup; archive = c.1.archive }

abbrev pub class_lines : List ℕ → List ℕ → SetRow → List ClassLine
class_lines domain set row = map (class_line domain set) row.classes

-- the management classes of a set, which has to be there
abbrev pub classes_of : List ℕ → List ℕ → List (List ℕ × DomainRow) → Result (List ClassLine) Refusal
classes_of domain set domains = on_ok (class_lines domain set) (set_row domain set domains)

-- a backup copy group of a class, with the name of its destination
abbrev pub group_line : List ℕ → List ℕ → List ℕ → PoolRows → BackupRule → GroupLine
group_line domain set class s rule =
    record { domain = domain; set = set; class = class; rule = rule; destination = name_of_pool rule.destination s }

-- the backup copy group of a class, where it has one
abbrev pub group_lines_of : List ℕ → List ℕ → PoolRows → List ℕ × ManagementClass → List GroupLine
group_lines_of domain set s c = option_map_or (λ rule. group_line domain set c.0 s rule ∷ []) c.1.backup []

abbrev pub group_lines : List ℕ → List ℕ → PoolRows → SetRow → List GroupLine
group_lines domain set s row = flat_map (group_lines_of domain set s) row.classes

-- the backup copy groups of a set, which has to be there
abbrev pub groups_of : List ℕ → List ℕ → List (List ℕ × DomainRow) → PoolRows → Result (List GroupLine) Refusal
groups_of domain set domains s = on_ok (group_lines domain set s) (set_row domain set domains)

-- how a set's activation would be refused, where it would
abbrev pub activation_refusal : (domain set : List ℕ) → List (List ℕ × DomainRow) → Option Refusal
activation_refusal domain set domains = result_err (after (policy.Activate domain set) domains)
