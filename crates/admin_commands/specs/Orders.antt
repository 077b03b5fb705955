-- What each command asks for: a line for each, first the look-ups that have to be answered, and then the work by their answers.
use Rattle.std.specs.Prelude.{ℕ, List, [], ◌∷◌, Option, Some, None, Result, Ok, Err, if◌then◌else◌}
use Rattle.kinds.specs.declared.change.DefineOrDelete.TheVariants as two
use Rattle.kinds.specs.declared.change.ObjectChange.{ObjectChange}
use Rattle.kinds.specs.declared.change.ObjectChange.TheVariants as client
use Rattle.kinds.specs.declared.change.PolicyChange.{PolicyChange}
use Rattle.kinds.specs.declared.change.PolicyChange.TheVariants as policy
use Rattle.kinds.specs.declared.change.PoolChange.{PoolChange}
use Rattle.kinds.specs.declared.change.PoolChange.TheVariants as store
use Rattle.kinds.specs.declared.change.Verb.TheVariants as verb
use Rattle.kinds.specs.declared.refusal.Refusal.{Refusal}
use Rattle.entries.specs.declared.change.Change.TheVariants as change
use Rattle.inventory_rows.specs.version_groups.Entries.{if_found}
use Rattle.inventory_work.specs.declared.search.Named.TheVariants as named
use Rattle.inventory_answers.specs.declared.query.Query.{Query}
use Rattle.inventory_answers.specs.declared.query.Query.TheVariants as query
use Rattle.inventory_answers.specs.declared.reply.Answer.{Answer}
use Rattle.admin_words.specs.declared.command.Command.{Command}
use Rattle.admin_words.specs.declared.command.Command.TheVariants as commands
use Rattle.admin_words.specs.declared.pools.PoolDefinition.{PoolDefinition}
use Rattle.admin_words.specs.declared.pools.PoolUpdate.{PoolUpdate}
use Rattle.admin_words.specs.declared.command.PolicyCommand.{PolicyCommand}
use Rattle.admin_words.specs.declared.command.PolicyCommand.TheVariants.{ActivateSet, DefineDomain, DefineSet, DeleteDomain, DeleteSet, QueryDomain, QuerySet, UpdateDomain, ValidateSet}
use Rattle.admin_words.specs.declared.command.ClassCommand.{ClassCommand}
use Rattle.admin_words.specs.declared.command.ClassCommand.TheVariants.{AssignClass, DefineArchiveGroup, DefineClass, DefineGroup, DeleteArchiveGroup, DeleteClass, DeleteGroup, QueryClass, QueryGroup, UpdateArchiveGroup, UpdateGroup}
use Rattle.admin_words.specs.declared.command.NodeCommand.{NodeCommand}
use Rattle.admin_words.specs.declared.command.NodeCommand.TheVariants.{DeleteFilespace, QueryArchive, QueryBackup, QueryFilespace, QueryNode, RegisterNode, RemoveNode}
use Rattle.admin_words.specs.declared.command.PoolCommand.{PoolCommand}
use Rattle.admin_words.specs.declared.command.PoolCommand.TheVariants.{BackupPool, DefineDevClass, DefinePool, DeleteDevClass, DeletePool, MigrateAll, MigratePool, QueryDevClass, QueryPool, ReclaimPool, RestorePool, UpdatePool}
use Rattle.admin_words.specs.declared.command.VolumeCommand.{VolumeCommand}
use Rattle.admin_words.specs.declared.command.VolumeCommand.TheVariants.{AuditVolume, DefineVolume, DeleteVolume, MoveData, QueryContent, QueryVolume, RestoreVolume, ReuseVolumes, UpdateVolume}
use Rattle.admin_words.specs.declared.command.FileCommand.{FileCommand}
use Rattle.admin_words.specs.declared.command.FileCommand.TheVariants.{ArchiveFiles, Erase, Get, Incremental, Put, RestoreFiles, RetrieveFiles, Write}
use Rattle.admin_words.specs.declared.command.DatabaseCommand.{DatabaseCommand}
use Rattle.admin_words.specs.declared.command.DatabaseCommand.TheVariants.{BackupDatabase, Checkpoint, Day, DeleteHistory, ExpireInventory, QueryHistory}
use Rattle.admin_words.specs.declared.volumes.VolumeDeletion.{VolumeDeletion}
use Rattle.admin_commands.specs.declared.work.Work.{Work}
use Rattle.admin_commands.specs.declared.work.Work.TheVariants as work
use Rattle.admin_commands.specs.Found.{number_found, device_found, domain_named, set_named, node_named, filespace_named}
use Rattle.admin_commands.specs.Policy.{define_group, update_group, delete_group, define_archive, update_archive, delete_archive}
use Rattle.admin_commands.specs.Stores.{is_definition, is_ordered, delete_dev_class, define_pool, update_pool, delete_pool, migrate, reclaim, back_up_pool, define_volume, update_volume, delete_volume, move_data}

-- ---- look-ups

-- what names lead to
abbrev pub node : List ℕ → Query
node name = query.Lookup (named.Node name)

abbrev pub dev_class : List ℕ → Query
dev_class name = query.Lookup (named.DevClass name)

abbrev pub pool : List ℕ → Query
pool name = query.Lookup (named.Pool name)

abbrev pub volume : List ℕ → Query
volume name = query.Lookup (named.Volume name)

-- the row of a pool, and that of a volume
abbrev pub pool_row : List ℕ → Query
pool_row name = query.Pools (Some name)

abbrev pub volume_row : List ℕ → Query
volume_row name = query.Volumes (Some name) None

-- what a name leads to, where one is given
abbrev pub if_given : (List ℕ → Query) → Option (List ℕ) → List Query
if_given look_up None = []
if_given look_up (Some name) = look_up name ∷ []

-- the pools, where an update names a next one
abbrev pub if_next : Option (Option (List ℕ)) → List Query
if_next None = []
if_next (Some None) = []
if_next (Some (Some name)) = query.Pools None ∷ []

-- a volume whose data moves; with the pools, where one is named
abbrev pub for_move : List ℕ → Option (List ℕ) → List Query
for_move name None = volume name ∷ []
for_move name (Some to) = volume_row name ∷ query.Pools None ∷ []

-- a volume that is deleted: its number where its data is discarded, and else its row, with the pools
abbrev pub deletion_needs : VolumeDeletion → List Query
deletion_needs d = if d.discard_data then volume d.volume ∷ [] else volume_row d.volume ∷ query.Pools None ∷ []

-- a pool that is defined; nothing, where its values don't go together
abbrev pub define_needs : PoolDefinition → List Query
define_needs d = if is_definition d then if_given pool d.next else []

-- a pool that is updated; nothing, where what is given of LOWMIG and HIGHMIG doesn't go together
abbrev pub update_needs : PoolUpdate → List Query
update_needs u = if is_ordered u.low u.high then pool_row u.pool ∷ if_next u.next else []

abbrev pub policy_needs : PolicyCommand → List Query
policy_needs (ActivateSet s) = []
policy_needs (DefineDomain d) = []
policy_needs (DefineSet s) = []
policy_needs (DeleteDomain d) = query.Domains ∷ []
policy_needs (DeleteSet s) = []
policy_needs QueryDomain = []
policy_needs (QuerySet d) = []
policy_needs (UpdateDomain d) = []
policy_needs (ValidateSet s) = query.Sets s.domain ∷ []

abbrev pub class_needs : ClassCommand → List Query
class_needs (AssignClass c) = []
class_needs (DefineArchiveGroup g) = pool g.destination ∷ []
class_needs (DefineClass c) = []
class_needs (DefineGroup g) = pool g.destination ∷ []
class_needs (DeleteArchiveGroup c) = query.Classes c.domain c.set ∷ []
class_needs (DeleteClass c) = []
class_needs (DeleteGroup c) = query.Groups c.domain c.set ∷ []
class_needs (QueryClass s) = []
class_needs (QueryGroup s) = []
class_needs (UpdateArchiveGroup g) = query.Classes g.domain g.set ∷ if_given pool g.destination
class_needs (UpdateGroup g) = query.Groups g.domain g.set ∷ if_given pool g.destination

abbrev pub node_needs : NodeCommand → List Query
node_needs (DeleteFilespace f) = query.Filespaces (Some f.node) ∷ []
node_needs (QueryArchive f) = query.Filespaces (Some f.node) ∷ []
node_needs (QueryBackup f) = []
node_needs (QueryFilespace q) = []
node_needs QueryNode = []
node_needs (RegisterNode n) = []
node_needs (RemoveNode n) = query.Nodes ∷ []

abbrev pub pool_needs : PoolCommand → List Query
pool_needs (BackupPool b) = pool b.primary ∷ pool b.copy ∷ []
pool_needs (DefineDevClass c) = []
pool_needs (DefinePool d) = define_needs d
pool_needs (DeleteDevClass c) = dev_class c.class ∷ []
pool_needs (DeletePool p) = pool_row p.pool ∷ []
pool_needs MigrateAll = []
pool_needs (MigratePool m) = pool_row m.pool ∷ []
pool_needs QueryDevClass = []
pool_needs (QueryPool q) = []
pool_needs (ReclaimPool r) = pool_row r.pool ∷ []
pool_needs (RestorePool p) = pool p.pool ∷ []
pool_needs (UpdatePool u) = update_needs u

abbrev pub volume_needs : VolumeCommand → List Query
volume_needs (AuditVolume a) = volume a.volume ∷ []
volume_needs (DefineVolume d) = pool_row d.pool ∷ query.Devices ∷ []
volume_needs (DeleteVolume d) = deletion_needs d
volume_needs (MoveData m) = for_move m.volume m.pool
volume_needs (QueryContent v) = []
volume_needs (QueryVolume q) = []
volume_needs (RestoreVolume v) = volume v.volume ∷ []
volume_needs ReuseVolumes = []
volume_needs (UpdateVolume u) = volume_row u.volume ∷ query.Pools None ∷ []

abbrev pub file_needs : FileCommand → List Query
file_needs (ArchiveFiles a) = node a.node ∷ []
file_needs (Erase e) = []
file_needs (Get g) = []
file_needs (Incremental i) = node i.node ∷ []
file_needs (Put p) = node p.node ∷ []
file_needs (RestoreFiles r) = query.Filespaces (Some r.node) ∷ []
file_needs (RetrieveFiles r) = query.Filespaces (Some r.node) ∷ []
file_needs (Write w) = []

abbrev pub database_needs : DatabaseCommand → List Query
database_needs (BackupDatabase b) = if_given dev_class b.dev_class
database_needs Checkpoint = []
database_needs (Day d) = []
database_needs (DeleteHistory h) = []
database_needs ExpireInventory = []
database_needs QueryHistory = []

-- the look-ups of a command
abbrev pub needs : Command → List Query
needs (commands.Policy c) = policy_needs c
needs (commands.Class c) = class_needs c
needs (commands.Node c) = node_needs c
needs (commands.Pool c) = pool_needs c
needs (commands.Volume c) = volume_needs c
needs (commands.File c) = file_needs c
needs (commands.Database c) = database_needs c
needs (commands.Block c) = []

-- ---- work

-- a change, rows to be shown, or work of the command's own over these numbers
abbrev pub policies : PolicyChange → Result Work Refusal
policies c = Ok (work.Commit (change.Policy c))

abbrev pub clients : ObjectChange → Result Work Refusal
clients c = Ok (work.Commit (change.Object c))

abbrev pub stores : PoolChange → Result Work Refusal
stores c = Ok (work.Commit (change.Pool c))

abbrev pub show : Query → Result Work Refusal
show q = Ok (work.Show q)

abbrev pub run : List ℕ → Result Work Refusal
run numbers = Ok (work.Run numbers)

-- over the number that the one name leads to
abbrev pub run_found : List Answer → Result Work Refusal
run_found answers = if_found (number_found answers) (λ number. run (number ∷ []))

-- over the number of the filespace with this name
abbrev pub run_filespace : List ℕ → List Answer → Result Work Refusal
run_filespace name answers = if_found (filespace_named name answers) (λ f. run (f.number ∷ []))

-- over nothing; the policy set that is named has to be there
abbrev pub run_set : List ℕ → List Answer → Result Work Refusal
run_set name answers = if_found (set_named name answers) (λ set. run [])

-- the objects that are held in the filespace with this name
abbrev pub show_held : List ℕ → List Answer → Result Work Refusal
show_held name answers = if_found (filespace_named name answers) (λ f. show (query.Held f.number))

-- DELETE VOLUME: over its file number where its data is discarded, and else the change by which it is taken off its pool
abbrev pub deletion_work : VolumeDeletion → List Answer → Result Work Refusal
deletion_work d answers = if d.discard_data then run_found answers else delete_volume d.volume answers

-- over nothing; a device class that is named has to be there
abbrev pub run_in : Option (List ℕ) → List Answer → Result Work Refusal
run_in None answers = run []
run_in (Some class) answers = if_found (device_found answers) (λ device. run [])

-- DELETE DOMAIN and REMOVE NODE: the change has what stands there
abbrev pub delete_domain : List ℕ → List Answer → Result Work Refusal
delete_domain domain answers = if_found (domain_named domain answers) (λ old. policies (policy.Domain verb.Delete domain old.back_retention))

abbrev pub remove_node : List ℕ → List Answer → Result Work Refusal
remove_node name answers = if_found (node_named name answers) (λ old. clients (client.Node two.Delete name old.domain))

abbrev pub policy_work : PolicyCommand → List Answer → Result Work Refusal
policy_work (ActivateSet s) answers = policies (policy.Activate s.domain s.set)
policy_work (DefineDomain d) answers = policies (policy.Domain verb.Define d.domain d.back_retention)
policy_work (DefineSet s) answers = policies (policy.Set two.Define s.domain s.set)
policy_work (DeleteDomain d) answers = delete_domain d.domain answers
policy_work (DeleteSet s) answers = policies (policy.Set two.Delete s.domain s.set)
policy_work QueryDomain answers = show query.Domains
policy_work (QuerySet d) answers = show (query.Sets d.domain)
policy_work (UpdateDomain d) answers = policies (policy.Domain verb.Update d.domain d.back_retention)
policy_work (ValidateSet s) answers = run_set s.set answers

abbrev pub class_work : ClassCommand → List Answer → Result Work Refusal
class_work (AssignClass c) answers = policies (policy.Assign c.domain c.set c.class)
class_work (DefineArchiveGroup g) answers = define_archive g answers
class_work (DefineClass c) answers = policies (policy.Class two.Define c.domain c.set c.class)
class_work (DefineGroup g) answers = define_group g answers
class_work (DeleteArchiveGroup c) answers = delete_archive c answers
class_work (DeleteClass c) answers = policies (policy.Class two.Delete c.domain c.set c.class)
class_work (DeleteGroup c) answers = delete_group c answers
class_work (QueryClass s) answers = show (query.Classes s.domain s.set)
class_work (QueryGroup s) answers = show (query.Groups s.domain s.set)
class_work (UpdateArchiveGroup g) answers = update_archive g answers
class_work (UpdateGroup g) answers = update_group g answers

abbrev pub node_work : NodeCommand → List Answer → Result Work Refusal
node_work (DeleteFilespace f) answers = run_filespace f.filespace answers
node_work (QueryArchive f) answers = show_held f.filespace answers
node_work (QueryBackup f) answers = show (query.Versions f.node f.filespace)
node_work (QueryFilespace q) answers = show (query.Filespaces q.node)
node_work QueryNode answers = show query.Nodes
node_work (RegisterNode n) answers = clients (client.Node two.Define n.node n.domain)
node_work (RemoveNode n) answers = remove_node n.node answers

abbrev pub pool_work : PoolCommand → List Answer → Result Work Refusal
pool_work (BackupPool b) answers = back_up_pool answers
pool_work (DefineDevClass c) answers = stores (store.DevClass two.Define c.class c.capacity)
pool_work (DefinePool d) answers = define_pool d answers
pool_work (DeleteDevClass c) answers = delete_dev_class c.class answers
pool_work (DeletePool p) answers = delete_pool p.pool answers
pool_work MigrateAll answers = run []
pool_work (MigratePool m) answers = migrate m answers
pool_work QueryDevClass answers = show query.Devices
pool_work (QueryPool q) answers = show (query.Pools q.pool)
pool_work (ReclaimPool r) answers = reclaim r answers
pool_work (RestorePool p) answers = run_found answers
pool_work (UpdatePool u) answers = update_pool u answers

abbrev pub volume_work : VolumeCommand → List Answer → Result Work Refusal
volume_work (AuditVolume a) answers = run_found answers
volume_work (DefineVolume d) answers = define_volume d answers
volume_work (DeleteVolume d) answers = deletion_work d answers
volume_work (MoveData m) answers = move_data m.pool answers
volume_work (QueryContent v) answers = show (query.Content v.volume)
volume_work (QueryVolume q) answers = show (query.Volumes q.volume q.pool)
volume_work (RestoreVolume v) answers = run_found answers
volume_work ReuseVolumes answers = run []
volume_work (UpdateVolume u) answers = update_volume u answers

abbrev pub file_work : FileCommand → List Answer → Result Work Refusal
file_work (ArchiveFiles a) answers = run_found answers
file_work (Erase e) answers = run []
file_work (Get g) answers = run []
file_work (Incremental i) answers = run_found answers
file_work (Put p) answers = run_found answers
file_work (RestoreFiles r) answers = run_filespace r.filespace answers
file_work (RetrieveFiles r) answers = run_filespace r.filespace answers
file_work (Write w) answers = run []

abbrev pub database_work : DatabaseCommand → List Answer → Result Work Refusal
database_work (BackupDatabase b) answers = run_in b.dev_class answers
database_work Checkpoint answers = run []
database_work (Day d) answers = Ok (work.Commit (change.Day d.day))
database_work (DeleteHistory h) answers = run []
database_work ExpireInventory answers = run []
database_work QueryHistory answers = show query.History

-- the work of a command, by the answers to its look-ups
abbrev pub work_of : Command → List Answer → Result Work Refusal
work_of (commands.Policy c) answers = policy_work c answers
work_of (commands.Class c) answers = class_work c answers
work_of (commands.Node c) answers = node_work c answers
work_of (commands.Pool c) answers = pool_work c answers
work_of (commands.Volume c) answers = volume_work c answers
work_of (commands.File c) answers = file_work c answers
work_of (commands.Database c) answers = database_work c answers
work_of (commands.Block c) answers = run []
