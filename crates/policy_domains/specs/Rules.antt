-- The rules by which the versions of a file and archived objects are kept.
use Rattle.std.specs.Prelude.{ℕ, List, Option, Some, None, option_and_then, option_map}
use Rattle.kinds.specs.declared.rule.ArchiveRule.{ArchiveRule}
use Rattle.kinds.specs.declared.rule.BackupRule.{BackupRule}
use Rattle.kinds.specs.declared.rule.RuleFound.{RuleFound}
use Rattle.kinds.specs.declared.rule.RuleFound.TheVariants.{Own, Default, Grace}
use Rattle.policy_domains.specs.Rows.{SetRow, DomainRow, active_set, row_of}

-- the rule of a class of a set, where the class is there and has a copy group
abbrev pub group_of : List ℕ → SetRow → Option BackupRule
group_of class set = option_and_then (λ c. c.backup) (row_of class set.classes)

-- the rule of a set's default class
abbrev pub default_group : SetRow → Option BackupRule
default_group set = option_and_then (λ class. group_of class set) set.default_class

-- the class's own rule, else the default class's, else BACKRETENTION
abbrev pub first_found : Option BackupRule → Option BackupRule → ℕ → RuleFound
first_found (Some rule) _ days = Own rule
first_found None (Some rule) days = Default rule
first_found None None days = Grace days

-- the rule of a class in a domain's set ACTIVE; where the domain has no such set, BACKRETENTION
abbrev pub rule_in : List ℕ → DomainRow → RuleFound
rule_in class row =
    first_found
    (option_and_then (group_of class) (row_of active_set row.sets))
    (option_and_then default_group (row_of active_set row.sets))
    row.back_retention

-- the rule of a class in a domain, where the domain is there
abbrev pub rule_of : List (List ℕ × DomainRow) → List ℕ → List ℕ → Option RuleFound
rule_of rows domain class = option_map (rule_in class) (row_of domain rows)

-- the archive rule of a class of a set, where the class is there and has one
abbrev pub archive_group_of : List ℕ → SetRow → Option ArchiveRule
archive_group_of class set = option_and_then (λ c. c.archive) (row_of class set.classes)

-- the archive rule of a class in a domain's set ACTIVE
abbrev pub archive_in : List ℕ → DomainRow → Option ArchiveRule
archive_in class row = option_and_then (archive_group_of class) (row_of active_set row.sets)

-- the archive rule of a class in a domain
abbrev pub archive_of : List (List ℕ × DomainRow) → List ℕ → List ℕ → Option ArchiveRule
archive_of rows domain class = option_and_then (archive_in class) (row_of domain rows)
