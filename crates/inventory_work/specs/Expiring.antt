-- The objects that are not retained.
use Rattle.std.specs.Prelude.{ℕ, Bool, not, List, ◌++◌, Option}
use Rattle.std.specs.List.{flat_map}
use Rattle.kinds.specs.declared.rule.RuleFound.{RuleFound}
use Rattle.copy_groups.specs.Retention.{is_held_on, is_owed}
use Rattle.inventory_rows.specs.version_groups.declared.group.Group.{Group}
use Rattle.inventory_rows.specs.version_groups.declared.groups.Filespace.{Filespace}
use Rattle.inventory_rows.specs.version_groups.declared.versions.Version.{Version}
use Rattle.inventory_rows.specs.version_groups.Versions.{has_active}
use Rattle.inventory_rows.specs.object_rows.declared.held_object.HeldRow.{HeldRow}
use Rattle.inventory_rows.specs.Search.{rule_in}
use Rattle.inventory_rows.specs.State.{Inv}
use Rattle.inventory_work.specs.declared.lines.UnretainedLine.{UnretainedLine}
use Rattle.inventory_work.specs.ByObject.{by_object}
use Rattle.inventory_work.specs.Lists.{only, flat_from}

-- the version at this place of its group, where it is not retained
abbrev pub unretained_lines : ℕ → List ℕ → Option RuleFound → Bool → ℕ → ℕ → Version → List UnretainedLine
unretained_lines filespace path rule active today place version =
    only (not (is_owed rule active version.since today place)) (record { filespace = filespace; path = path; object = version.object })

-- the versions of a path that are not retained
abbrev pub unretained_of_group : ℕ → List ℕ → Option RuleFound → ℕ → Group → List UnretainedLine
unretained_of_group filespace path rule today group =
    flat_from (unretained_lines filespace path rule (has_active group.versions) today) 0 group.versions

-- those of a filespace
abbrev pub unretained_of_filespace : Inv → ℕ → Filespace → List UnretainedLine
unretained_of_filespace v filespace f =
    flat_map (λ g. unretained_of_group filespace g.0 (rule_in filespace g.1.class v) v.today g.1) f.groups

-- those of all filespaces
abbrev pub unretained_of_filespaces : Inv → List (ℕ × Filespace) → List UnretainedLine
unretained_of_filespaces v filespaces = flat_map (λ f. unretained_of_filespace v f.0 f.1) filespaces

-- a held object, where its day has come, and those of all held objects
abbrev pub unretained_of_row : ℕ → HeldRow → List UnretainedLine
unretained_of_row today row = only (not (is_held_on today row.held.until)) (record { filespace = row.filespace; path = row.held.path; object = row.held.version.object })

abbrev pub unretained_of_held : ℕ → List (ℕ × HeldRow) → List UnretainedLine
unretained_of_held today held = flat_map (λ h. unretained_of_row today h.1) held

-- the objects that are not retained today, in ascending order of their numbers
abbrev pub unretained : Inv → List UnretainedLine
unretained v = by_object (λ line. line.object) (unretained_of_filespaces v v.clients.filespaces ++ unretained_of_held v.today v.clients.held)
