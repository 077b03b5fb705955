-- The plan of an incremental backup: what is to be done with each path that is listed or has an active version.
use Rattle.std.specs.Prelude.{◌≡◌, ℕ, ◌+◌, ◌-◌, ◌==◌, nat_le, not, ◌&&◌, ◌||◌, List, [], ◌∷◌, ◌++◌, length, map, Bool, is_some, if◌then◌else◌, Option, Some, None, Result, Ok, Err}
use Rattle.std.specs.Cmp.Lexicographic.{slice_cmp}
use Rattle.std.specs.List.{filter, find, flat_map}
use Rattle.std.specs.List.Sorted.{IsStrictlySortedBy}
use Rattle.std.specs.Ordering.{nat_cmp}
use Rattle.std.specs.Str.{bytes_eq}
use Rattle.kinds.specs.Names.{is_same_name}
use Rattle.kinds.specs.declared.refusal.Refusal.{Refusal}
use Rattle.kinds.specs.declared.refusal.Refusal.TheVariants.{Memory}
use Rattle.kinds.specs.declared.rule.BackupRule.{BackupRule}
use Rattle.choosers.specs.declared.rule.Rule.{Rule}
use Rattle.client_trees.specs.declared.tree.FileRow.{FileRow}
use Rattle.inventory_answers.specs.declared.lines.VersionLine.{VersionLine}
use Rattle.inventory_work.specs.declared.lines.ClassRule.{ClassRule}
use Rattle.inventory_work.specs.declared.lines.Rules.{Rules}
use Rattle.client_plan.specs.declared.lines.SendLine.{SendLine}
use Rattle.client_plan.specs.declared.lines.RebindLine.{RebindLine}
use Rattle.client_plan.specs.declared.lines.GoneLine.{GoneLine}
use Rattle.client_plan.specs.Classes.{own_group, is_left_out, bound_to}

-- What a plan goes by: the classes of the node's active policy set, the include-exclude list, and the day.
pub record Scheme : Type 0 where
  pub rules : Rules
  pub choice : List Rule
  pub today : ℕ

abbrev pub scheme : Rules → List Rule → ℕ → Scheme
scheme rules choice today = record { rules = rules; choice = choice; today = today }

-- What is to be done with a path: its file is sent, to be kept under a class; its versions are bound to another class; its
-- active version is no longer one; it fails, since its class has no copy group; or it is left as it is.
pub data Task : Type 0 where
  to_send : (file : FileRow) (class : List ℕ) → Task
  to_rebind : (path class : List ℕ) → Task
  to_end : (path : List ℕ) (object : ℕ) → Task
  to_fail : (path : List ℕ) → Task
  to_skip : (path : List ℕ) → Task

-- The file is to be sent again: it has another size or another time than its active version, or its copy group has files sent
-- whether they changed or not; and since that version was stored so many days have gone as the copy group asks for.
abbrev pub is_due : ℕ → BackupRule → FileRow → VersionLine → Bool
is_due today rule file version = (not (file.size == version.size) || not (file.mtime == version.mtime) || rule.absolute) && nat_le rule.frequency (today - version.stored)

-- a listed file that is bound to a class with this copy group
abbrev pub task_ruled : ℕ → List ℕ → BackupRule → FileRow → Option VersionLine → Task
task_ruled today class rule file None = to_send file class
task_ruled today class rule file (Some version) =
    if is_due today rule file version then to_send file class else if is_same_name class version.class then to_skip file.path else to_rebind file.path class

-- a listed file of a class that has this copy group, or none
abbrev pub task_grouped : ℕ → List ℕ → Option BackupRule → FileRow → Option VersionLine → Task
task_grouped today class None file active = to_fail file.path
task_grouped today class (Some rule) file active = task_ruled today class rule file active

-- a listed file that is bound to this class, or to none
abbrev pub task_bound : ℕ → Option ClassRule → FileRow → Option VersionLine → Task
task_bound today None file active = to_fail file.path
task_bound today (Some row) file active = task_grouped today row.class (own_group row.rule) file active

-- a path that isn't listed, or is left out
abbrev pub task_left : List ℕ → Option VersionLine → Task
task_left path None = to_skip path
task_left path (Some version) = to_end path version.object

-- a listed file, with the path's active version where it has one
abbrev pub task_listed : Scheme → FileRow → Option VersionLine → Task
task_listed s file active = if is_left_out s.choice file.path then task_left file.path active else task_bound s.today (bound_to s.rules s.choice file.path) file active

-- a path, with its file where it is listed, and its active version where it has one
abbrev pub task_of : Scheme → List ℕ → Option FileRow → Option VersionLine → Task
task_of s path None active = task_left path active
task_of s path (Some file) active = task_listed s file active

-- The lists of a plan: the files that are sent, each with its class; the paths that are bound anew, each with its class; the
-- active versions that are none from then on; the paths that fail; and how many paths are left as they are.
pub record Lists : Type 0 where
  pub send : List SendLine
  pub rebind : List RebindLine
  pub gone : List GoneLine
  pub failed : List (List ℕ)
  pub skip : ℕ

abbrev pub sends : Task → List SendLine
sends (to_send file class) = record { file = file; class = class } ∷ []
sends (to_rebind path class) = []
sends (to_end path object) = []
sends (to_fail path) = []
sends (to_skip path) = []

abbrev pub rebinds : Task → List RebindLine
rebinds (to_send file class) = []
rebinds (to_rebind path class) = record { path = path; class = class } ∷ []
rebinds (to_end path object) = []
rebinds (to_fail path) = []
rebinds (to_skip path) = []

abbrev pub goes : Task → List GoneLine
goes (to_send file class) = []
goes (to_rebind path class) = []
goes (to_end path object) = record { path = path; object = object } ∷ []
goes (to_fail path) = []
goes (to_skip path) = []

abbrev pub fails : Task → List (List ℕ)
fails (to_send file class) = []
fails (to_rebind path class) = []
fails (to_end path object) = []
fails (to_fail path) = path ∷ []
fails (to_skip path) = []

abbrev pub skips : Task → List (List ℕ)
skips (to_send file class) = []
skips (to_rebind path class) = []
skips (to_end path object) = []
skips (to_fail path) = []
skips (to_skip path) = path ∷ []

-- the active versions
abbrev pub actives : List VersionLine → List VersionLine
actives versions = filter (λ v. not (is_some v.since)) versions

-- the version of a path, among active ones
abbrev pub active_at : List ℕ → List VersionLine → Option VersionLine
active_at path versions = find (λ v. bytes_eq path v.path) versions

-- the file of a path, among those that are listed
abbrev pub listed_at : List ℕ → List FileRow → Option FileRow
listed_at path files = find (λ f. bytes_eq path f.path) files

-- what is to be done with a listed path, among these active versions
abbrev pub file_task : Scheme → List VersionLine → FileRow → Task
file_task s versions f = task_of s f.path (Some f) (active_at f.path versions)

-- what is to be done with a path that has this active version, among these listed files
abbrev pub version_task : Scheme → List FileRow → VersionLine → Task
version_task s files v = task_of s v.path (listed_at v.path files) (Some v)

-- The lists of what is to be done with the listed paths, and with those that have active versions. A path ends only where it
-- has one, and else it has to be listed.
abbrev pub lists_from : List Task → List Task → Lists
lists_from listed active = record {
  send = flat_map sends listed;
  rebind = flat_map rebinds listed;
  gone = flat_map goes active;
  failed = flat_map fails listed;
  skip = length (flat_map skips listed);
}

-- the plan of the listed files and the active versions
abbrev pub plan_of : Scheme → List FileRow → List VersionLine → Lists
plan_of s files versions = lists_from (map (file_task s versions) files) (map (version_task s files) versions)

-- the files that are listed, and the active versions, stand in ascending order of their paths' bytes, one for each path
abbrev pub AreListed : List FileRow → Type 0
AreListed files = IsStrictlySortedBy (slice_cmp nat_cmp) (map (λ (f : FileRow). f.path) files)

abbrev pub AreActive : List VersionLine → Type 0
AreActive versions = IsStrictlySortedBy (slice_cmp nat_cmp) (map (λ (v : VersionLine). v.path) versions)

-- the lists of one task
abbrev pub lists_of : Task → Lists
lists_of task = record { send = sends task; rebind = rebinds task; gone = goes task; failed = fails task; skip = length (skips task) }

-- lists, and others behind them
abbrev pub joined : Lists → Lists → Lists
joined a b = record { send = a.send ++ b.send; rebind = a.rebind ++ b.rebind; gone = a.gone ++ b.gone; failed = a.failed ++ b.failed; skip = a.skip + b.skip }

-- a task is put behind what was planned, or memory is wanted
abbrev pub Grows : Result (Unit {0}) Refusal → Lists → Lists → Task → Type 0
Grows (Ok _) old new task = new ≡ joined old (lists_of task)
Grows (Err e) old new task = e ≡ Memory
