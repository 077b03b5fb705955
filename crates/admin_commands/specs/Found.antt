-- What the answers to a command's look-ups say, taken in the order of the look-ups.
use Rattle.std.specs.Prelude.{ℕ, List, [], ◌∷◌, Option, Some, None}
use Rattle.std.specs.List.{find}
use Rattle.std.specs.Option.{option_map}
use Rattle.kinds.specs.Names.{is_same_name}
use Rattle.kinds.specs.declared.rule.ArchiveRule.{ArchiveRule}
use Rattle.inventory_work.specs.declared.search.Found.{Found}
use Rattle.inventory_work.specs.declared.search.Found.TheVariants as found
use Rattle.inventory_answers.specs.declared.lines.ClassLine.{ClassLine}
use Rattle.inventory_answers.specs.declared.lines.DeviceLine.{DeviceLine}
use Rattle.inventory_answers.specs.declared.lines.DomainLine.{DomainLine}
use Rattle.inventory_answers.specs.declared.lines.FilespaceLine.{FilespaceLine}
use Rattle.inventory_answers.specs.declared.lines.GroupLine.{GroupLine}
use Rattle.inventory_answers.specs.declared.lines.NodeLine.{NodeLine}
use Rattle.inventory_answers.specs.declared.lines.PoolLine.{PoolLine}
use Rattle.inventory_answers.specs.declared.lines.SetLine.{SetLine}
use Rattle.inventory_answers.specs.declared.lines.VolumeLine.{VolumeLine}
use Rattle.inventory_answers.specs.declared.reply.Answer.{Answer}
use Rattle.inventory_answers.specs.declared.reply.Rows.{Rows}
use Rattle.inventory_answers.specs.declared.reply.Rows.TheVariants as rows

-- the answers behind the first
abbrev pub behind : List Answer → List Answer
behind [] = []
behind (a ∷ more) = more

-- ---- the first answer, where it is of the kind that is wanted

abbrev pub number_at : Found → Option ℕ
number_at (found.Number n) = Some n
number_at (found.DevClass capacity) = None

abbrev pub number_in : Rows → Option ℕ
number_in (rows.Lookup f) = number_at f
number_in _ = None

-- the number of the node, pool or volume that was looked up
abbrev pub number_found : List Answer → Option ℕ
number_found [] = None
number_found (a ∷ more) = number_in a.rows

abbrev pub device_at : Found → Option (Option ℕ)
device_at (found.Number n) = None
device_at (found.DevClass capacity) = Some capacity

abbrev pub device_in : Rows → Option (Option ℕ)
device_in (rows.Lookup f) = device_at f
device_in _ = None

-- the capacity of the device class that was looked up; none of DISK
abbrev pub device_found : List Answer → Option (Option ℕ)
device_found [] = None
device_found (a ∷ more) = device_in a.rows

abbrev pub domains_in : Rows → List DomainLine
domains_in (rows.Domains lines) = lines
domains_in _ = []

abbrev pub domains : List Answer → List DomainLine
domains [] = []
domains (a ∷ more) = domains_in a.rows

abbrev pub sets_in : Rows → List SetLine
sets_in (rows.Sets lines) = lines
sets_in _ = []

abbrev pub sets : List Answer → List SetLine
sets [] = []
sets (a ∷ more) = sets_in a.rows

abbrev pub classes_in : Rows → List ClassLine
classes_in (rows.Classes lines) = lines
classes_in _ = []

abbrev pub classes : List Answer → List ClassLine
classes [] = []
classes (a ∷ more) = classes_in a.rows

abbrev pub groups_in : Rows → List GroupLine
groups_in (rows.Groups lines) = lines
groups_in _ = []

abbrev pub groups : List Answer → List GroupLine
groups [] = []
groups (a ∷ more) = groups_in a.rows

abbrev pub nodes_in : Rows → List NodeLine
nodes_in (rows.Nodes lines) = lines
nodes_in _ = []

abbrev pub nodes : List Answer → List NodeLine
nodes [] = []
nodes (a ∷ more) = nodes_in a.rows

abbrev pub filespaces_in : Rows → List FilespaceLine
filespaces_in (rows.Filespaces lines) = lines
filespaces_in _ = []

abbrev pub filespaces : List Answer → List FilespaceLine
filespaces [] = []
filespaces (a ∷ more) = filespaces_in a.rows

abbrev pub devices_in : Rows → List DeviceLine
devices_in (rows.Devices lines) = lines
devices_in _ = []

abbrev pub devices : List Answer → List DeviceLine
devices [] = []
devices (a ∷ more) = devices_in a.rows

abbrev pub pools_in : Rows → List PoolLine
pools_in (rows.Pools lines) = lines
pools_in _ = []

abbrev pub pools : List Answer → List PoolLine
pools [] = []
pools (a ∷ more) = pools_in a.rows

abbrev pub volumes_in : Rows → List VolumeLine
volumes_in (rows.Volumes lines) = lines
volumes_in _ = []

abbrev pub volumes : List Answer → List VolumeLine
volumes [] = []
volumes (a ∷ more) = volumes_in a.rows

-- ---- a row of the first answer

-- the one row, or the first
abbrev pub first : {A : Type 0} → List A → Option A
first [] = None
first (line ∷ more) = Some line

abbrev pub domain_named : List ℕ → List Answer → Option DomainLine
domain_named name answers = find (λ l. is_same_name l.name name) (domains answers)

abbrev pub set_named : List ℕ → List Answer → Option SetLine
set_named name answers = find (λ l. is_same_name l.set name) (sets answers)

abbrev pub class_named : List ℕ → List Answer → Option ClassLine
class_named name answers = find (λ l. is_same_name l.class name) (classes answers)

abbrev pub archive_at : Option ClassLine → Option ArchiveRule
archive_at None = None
archive_at (Some l) = l.archive

-- the rule of the archive copy group of the class
abbrev pub archive_of : List ℕ → List Answer → Option ArchiveRule
archive_of class answers = archive_at (class_named class answers)

-- the backup copy group of the class
abbrev pub group_of : List ℕ → List Answer → Option GroupLine
group_of class answers = find (λ l. is_same_name l.class class) (groups answers)

abbrev pub node_named : List ℕ → List Answer → Option NodeLine
node_named name answers = find (λ l. is_same_name l.name name) (nodes answers)

abbrev pub filespace_named : List ℕ → List Answer → Option FilespaceLine
filespace_named name answers = find (λ l. is_same_name l.name name) (filespaces answers)

abbrev pub device_named : List ℕ → List Answer → Option DeviceLine
device_named name answers = find (λ l. is_same_name l.name name) (devices answers)

abbrev pub pool_named : List ℕ → List Answer → Option PoolLine
pool_named name answers = find (λ l. is_same_name l.name name) (pools answers)

-- the pool with this name, where there is a name
abbrev pub pool_called : Option (List ℕ) → List Answer → Option PoolLine
pool_called None answers = None
pool_called (Some name) answers = pool_named name answers

-- the pool that was asked for alone
abbrev pub the_pool : List Answer → Option PoolLine
the_pool answers = first (pools answers)

-- the volume that was asked for alone
abbrev pub the_volume : List Answer → Option VolumeLine
the_volume answers = first (volumes answers)

-- the number of the pool that was looked up, where one was named, or else none
abbrev pub next_found : Option (List ℕ) → List Answer → Option (Option ℕ)
next_found None answers = Some None
next_found (Some name) answers = option_map Some (number_found answers)

-- the number of the pool with this name among all, where one is named, or else none
abbrev pub next_among : Option (List ℕ) → List Answer → Option (Option ℕ)
next_among None answers = Some None
next_among (Some name) answers = option_map (λ p. Some p.number) (pool_named name answers)
