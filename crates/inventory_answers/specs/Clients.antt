-- The rows of client nodes, filespaces and versions.
use Rattle.std.specs.Prelude.{ℕ, suc, Bool, List, [], ◌∷◌, map, length, Option, Some, None, Result, if◌then◌else◌}
use Rattle.std.specs.List.{flat_map, sum_by}
use Rattle.kinds.specs.declared.refusal.Refusal.{Refusal}
use Rattle.kinds.specs.declared.rule.RuleFound.{RuleFound}
use Rattle.inventory_work.specs.copy_groups.Retention.{is_owed}
use Rattle.inventory_work.specs.inventory_rows.version_groups.declared.group.Group.{Group}
use Rattle.inventory_work.specs.inventory_rows.version_groups.declared.groups.Filespace.{Filespace}
use Rattle.inventory_work.specs.inventory_rows.version_groups.declared.versions.Version.{Version}
use Rattle.inventory_work.specs.inventory_rows.version_groups.Entries.{on_ok}
use Rattle.inventory_work.specs.inventory_rows.version_groups.Versions.{has_active}
use Rattle.inventory_work.specs.inventory_rows.object_rows.declared.place.Node.{Node}
use Rattle.inventory_work.specs.inventory_rows.object_rows.Filespaces.{filespace_at, groups_in, group_at}
use Rattle.inventory_work.specs.inventory_rows.object_rows.Rows.{Rows}
use Rattle.inventory_work.specs.inventory_rows.Search.{rule_in}
use Rattle.inventory_work.specs.inventory_rows.State.{Inv}
use Rattle.inventory_answers.specs.declared.lines.NodeLine.{NodeLine}
use Rattle.inventory_answers.specs.declared.lines.FilespaceLine.{FilespaceLine}
use Rattle.inventory_answers.specs.declared.lines.VersionLine.{VersionLine}
use Rattle.inventory_answers.specs.Look.{name_of_node, node_asked, is_asked}
use Rattle.inventory_work.specs.Found.{filespace_asked}
use Rattle.inventory_work.specs.Lists.{only}

-- a client node
abbrev pub node_line : ℕ × Node → NodeLine
node_line n = record { number = n.0; name = n.1.name; domain = n.1.domain }

-- all client nodes, by number
abbrev pub node_lines : Rows → List NodeLine
node_lines rows = map node_line rows.nodes

-- 1 for a path with an active version
abbrev pub active_files : Group → ℕ
active_files group = if has_active group.versions then 1 else 0

-- how many paths have an active version
abbrev pub files_in : List (List ℕ × Group) → ℕ
files_in groups = sum_by (λ g. active_files g.1) groups

-- how many versions the paths have
abbrev pub versions_in : List (List ℕ × Group) → ℕ
versions_in groups = sum_by (λ g. length g.1.versions) groups

-- a filespace, with the name of its node
abbrev pub filespace_line : Rows → ℕ × Filespace → FilespaceLine
filespace_line rows f = record {
  node = name_of_node f.1.node rows;
  number = f.0;
  name = f.1.name;
  files = files_in f.1.groups;
  versions = versions_in f.1.groups;
}

-- the filespace, where it is one of the node that is asked for
abbrev pub filespace_lines_of : Rows → Option ℕ → ℕ × Filespace → List FilespaceLine
filespace_lines_of rows node f = only (is_asked node f.1.node) (filespace_line rows f)

-- the filespaces of all nodes, or of one, by number
abbrev pub filespace_lines : Rows → Option ℕ → List FilespaceLine
filespace_lines rows node = flat_map (filespace_lines_of rows node) rows.filespaces

-- the filespaces of all nodes, or of the one that is named, which has to be there
abbrev pub filespaces_of : Option (List ℕ) → Rows → Result (List FilespaceLine) Refusal
filespaces_of node rows = on_ok (filespace_lines rows) (node_asked node rows)

-- a version of a path that is bound to this class
abbrev pub version_line : List ℕ → List ℕ → Bool → Version → VersionLine
version_line path class owed version = record {
  path = path;
  object = version.object;
  size = version.size;
  mtime = version.mtime;
  stored = version.stored;
  since = version.since;
  class = class;
  owed = owed;
  digest = version.digest;
}

-- the version at this place of the group of a path
abbrev pub version_line_at : Option RuleFound → ℕ → List ℕ → Group → ℕ → Version → VersionLine
version_line_at rule today path group place version =
    version_line path group.class (is_owed rule (has_active group.versions) version.since today place) version

-- a line for each of some rows, by the row's place
abbrev pub lines_from : {A B : Type 0} → (ℕ → A → B) → ℕ → List A → List B
lines_from line place [] = []
lines_from line place (row ∷ rows) = line place row ∷ lines_from line (suc place) rows

-- the versions of a path, newest first
abbrev pub group_versions : Option RuleFound → ℕ → List ℕ → Group → List VersionLine
group_versions rule today path group = lines_from (version_line_at rule today path group) 0 group.versions

-- the versions of some paths of a filespace, by path, each with whether the rule of its path's class retains it today
abbrev pub version_lines : ℕ → Inv → List (List ℕ × Group) → List VersionLine
version_lines filespace v groups = flat_map (λ g. group_versions (rule_in filespace g.1.class v) v.today g.0 g.1) groups

-- the versions of a filespace
abbrev pub versions_at : ℕ → Inv → List VersionLine
versions_at filespace v = version_lines filespace v (groups_in (filespace_at filespace v.clients.filespaces))

-- the versions of the filespace with this name of the node with that one, which have to be there
abbrev pub versions_of : List ℕ → List ℕ → Inv → Result (List VersionLine) Refusal
versions_of node filespace v = on_ok (λ n. versions_at n v) (filespace_asked node filespace v.clients)

-- the versions of a path, newest first; none where it has no group
abbrev pub versions_of_group : ℕ → List ℕ → Inv → Option Group → List VersionLine
versions_of_group filespace path v None = []
versions_of_group filespace path v (Some group) = group_versions (rule_in filespace group.class v) v.today path group

abbrev pub versions_under : ℕ → List ℕ → Inv → List VersionLine
versions_under filespace path v = versions_of_group filespace path v (group_at filespace path v.clients.filespaces)

-- the versions of one path of the filespace with this name of the node with that one, which have to be there
abbrev pub path_versions_of : (node filespace path : List ℕ) → Inv → Result (List VersionLine) Refusal
path_versions_of node filespace path v = on_ok (λ n. versions_under n path v) (filespace_asked node filespace v.clients)
