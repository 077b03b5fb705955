-- What is asked of the rows of each table, row by row.
use Rattle.std.specs.Prelude.{ℕ, Bool, true, nat_le, ◌&&◌, is_some, List, [], ◌∷◌, map, Option, Some, None}
use Rattle.std.specs.List.{list_all}
use Rattle.std.specs.Option.{option_map_or}
use Rattle.inventory_rows.specs.policy_domains.declared.classes.ManagementClass.{ManagementClass}
use Rattle.inventory_rows.specs.policy_domains.Rows.{SetRow, DomainRow}
use Rattle.inventory_rows.specs.version_groups.declared.group.Group.{Group}
use Rattle.inventory_rows.specs.version_groups.declared.versions.Version.{Version}
use Rattle.inventory_rows.specs.declared.backup.Backup.{Backup}
use Rattle.inventory_rows.specs.Search.{pool}
use Rattle.inventory_rows.specs.State.{Inv}
use Rattle.inventory_rules.specs.Valid.{is_default_there, is_orderly}

-- the day, where there is one, isn't later than the bound, where there is one
abbrev pub is_not_later : Option ℕ → Option ℕ → Bool
is_not_later (Some bound) (Some day) = nat_le day bound
is_not_later (Some bound) None = true
is_not_later None day = true

-- none of the versions became inactive after the one before it, the first of them not after this day
abbrev pub days_fall : Option ℕ → List Version → Bool
days_fall bound [] = true
days_fall bound (version ∷ older) = is_not_later bound version.since && days_fall version.since older

abbrev pub groups_orderly : List (List ℕ × Group) → Bool
groups_orderly groups = list_all (λ g. is_orderly g.1) groups

-- the pools to which a class's copy groups send are there
abbrev pub class_cites : Inv → ManagementClass → Bool
class_cites v class =
    option_map_or (λ rule. is_some (pool rule.destination v)) class.backup true && option_map_or (λ rule. is_some (pool rule.destination v)) class.archive true

abbrev pub set_cites : Inv → SetRow → Bool
set_cites v set = list_all (λ c. class_cites v c.1) set.classes

abbrev pub domain_cites : Inv → DomainRow → Bool
domain_cites v row = list_all (λ s. set_cites v s.1) row.sets

abbrev pub domains_cite : Inv → Bool
domains_cite v = list_all (λ d. domain_cites v d.1) v.domains

-- each set of the domain has its default class
abbrev pub domain_has_defaults : DomainRow → Bool
domain_has_defaults row = list_all (λ s. is_default_there s.0 s.1) row.sets

-- the numbers of the backups, each with the backup's file
abbrev pub numbered : List (ℕ × Backup) → List (ℕ × ℕ)
numbered backups = map (λ b. (b.1.number, b.0)) backups
