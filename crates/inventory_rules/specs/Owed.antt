-- Which of the objects that are kept are owed: the versions that their rules retain today, and the objects that are held for longer.
use Rattle.std.specs.Option.{option_map_or}
use Rattle.std.specs.Prelude.{ℕ, suc, ◌==◌, Bool, false, List, [], ◌∷◌, Option, Some, None, if◌then◌else◌}
use Rattle.kinds.specs.declared.rule.RuleFound.{RuleFound}
use Rattle.copy_groups.specs.Retention as rule
use Rattle.inventory_rows.specs.policy_domains.Rows.{DomainRow}
use Rattle.inventory_rows.specs.version_groups.declared.group.Group.{Group}
use Rattle.inventory_rows.specs.version_groups.declared.versions.Version.{Version}
use Rattle.inventory_rows.specs.version_groups.Versions.{has_active}
use Rattle.inventory_rows.specs.object_rows.Filespaces.{group_at}
use Rattle.inventory_rows.specs.object_rows.HeldRows.{has_under, held_at}
use Rattle.inventory_rows.specs.object_rows.Rows.{Rows}
use Rattle.inventory_rows.specs.Search.{rule_for}
use Rattle.inventory_rows.specs.State.{Inv}
use Rattle.inventory_rules.specs.Kept.{Kept}

-- the object's version is among these, the first of which stands at this place of its path, and is retained today by the rule of the path's class
abbrev pub is_owed_from : Option RuleFound → Bool → ℕ → ℕ → ℕ → List Version → Bool
is_owed_from found active today object place [] = false
is_owed_from found active today object place (version ∷ older) =
    if version.object == object then rule.is_owed found active version.since today place else is_owed_from found active today object (suc place) older

-- the object's version is one of the path's, and its place among these, the newest at 0, lets the rule retain it today
abbrev pub is_owed_in : Option RuleFound → ℕ → ℕ → List Version → Bool
is_owed_in found today object versions = is_owed_from found (has_active versions) today object 0 versions

abbrev pub is_owed_of : ℕ → List (List ℕ × DomainRow) → Rows → ℕ → ℕ → Option Group → Bool
is_owed_of filespace domains clients today object None = false
is_owed_of filespace domains clients today object (Some group) = is_owed_in (rule_for filespace group.class domains clients) today object group.versions

-- The object is held under the path of the filespace, and its day lies ahead; or its version stands there, and is retained today by the rule of the
-- path's class.
abbrev pub is_owed_by : List (List ℕ × DomainRow) → Rows → ℕ → ℕ → List ℕ → ℕ → Bool
is_owed_by domains clients today filespace path object =
    if has_under filespace path object clients.held
    then option_map_or (λ row. rule.is_held_on today row.held.until) (held_at object clients.held) false
    else is_owed_of filespace domains clients today object (group_at filespace path clients.filespaces)

-- of what is kept
abbrev pub is_owed : ℕ → List ℕ → ℕ → Kept → Bool
is_owed filespace path object k = is_owed_by k.domains k.clients k.today filespace path object

-- of a database
abbrev pub is_retained : ℕ → List ℕ → ℕ → Inv → Bool
is_retained filespace path object v = is_owed_by v.domains v.clients v.today filespace path object
