-- The policy of a server that was just formatted.
use Rattle.std.specs.Prelude.{ℕ, false, List, [], ◌∷◌, Some, None, codes}
use Rattle.kinds.specs.declared.rule.BackupRule.{BackupRule}
use Rattle.kinds.specs.declared.rule.Limit.TheVariants.{At}
use Rattle.kinds.specs.declared.rule.Still.TheVariants.{ShrStatic}
use Rattle.policy_domains.specs.Rows.{SetRow, DomainRow, active_set}

-- the names of the domain, set and class that stand there at first
abbrev pub standard : List ℕ
standard = codes "STANDARD"

-- a copy group that is defined without parameters, with pool 1 as its destination
abbrev pub standard_rule : BackupRule
standard_rule =
    record { destination = 1; frequency = 0; ver_exists = At 2; ver_deleted = At 1; ret_extra = At 30; ret_only = At 60; absolute = false; still = ShrStatic }

-- the class STANDARD is the default, with that copy group and no archive copy group
abbrev pub standard_set : SetRow
standard_set = record { default_class = Some standard; classes = (standard, record { backup = Some standard_rule; archive = None }) ∷ [] }

-- the domain STANDARD, with BACKRETENTION 30, and its sets ACTIVE and STANDARD
abbrev pub standard_domain : DomainRow
standard_domain = record { back_retention = 30; sets = (active_set, standard_set) ∷ (standard, standard_set) ∷ [] }

-- the policy at first
abbrev pub fresh : List (List ℕ × DomainRow)
fresh = (standard, standard_domain) ∷ []
