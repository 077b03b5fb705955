-- What commands ask is never the length of the log, and what they change is a change of its own.
use Rattle.std.proofs.Common.{◌≡◌, ◌&&◌, ℕ, Bool, true, false, if◌then◌else◌, List, [], ◌∷◌, is_some, unwrap_or, Option, None, Some, Result, Ok, Err, refl}
use Rattle.kinds.specs.Refusals.{bad_value}
use Rattle.kinds.specs.Rules.{is_archive_rule, is_rule}
use Rattle.kinds.specs.Pools.{is_pool}
use Rattle.kinds.specs.declared.change.DefineOrDelete.TheVariants as two
use Rattle.kinds.specs.declared.change.ObjectChange.TheVariants as client
use Rattle.kinds.specs.declared.change.PolicyChange.TheVariants as policy
use Rattle.kinds.specs.declared.change.PoolChange.TheVariants as store
use Rattle.kinds.specs.declared.change.Verb.TheVariants as verb
use Rattle.kinds.specs.declared.refusal.Refusal.{Refusal}
use Rattle.kinds.specs.declared.refusal.Refusal.TheVariants.{BadHierarchy}
use Rattle.kinds.specs.declared.rule.ArchiveRule.{ArchiveRule}
use Rattle.kinds.specs.declared.rule.BackupRule.{BackupRule}
use Rattle.kinds.specs.declared.change.Verb.{Verb}
use Rattle.kinds.specs.declared.pool.PoolKind.{PoolKind}
use Rattle.kinds.specs.declared.pool.PoolRule.{PoolRule}
use Rattle.inventory_rows.specs.version_groups.Entries.{if_found}
use Rattle.inventory_answers.specs.declared.query.Query.{Query}
use Rattle.inventory_answers.specs.declared.query.Query.TheVariants as query
use Rattle.inventory_answers.specs.declared.reply.Answer.{Answer}
use Rattle.inventory_answers.specs.declared.lines.PoolLine.{PoolLine}
use Rattle.admin_words.specs.declared.command.Command.{Command}
use Rattle.admin_words.specs.declared.command.Command.TheVariants as commands
use Rattle.admin_words.specs.declared.policy.ArchiveUpdate.{ArchiveUpdate}
use Rattle.admin_words.specs.declared.policy.GroupUpdate.{GroupUpdate}
use Rattle.admin_words.specs.declared.pools.PoolDefinition.{PoolDefinition}
use Rattle.admin_words.specs.declared.pools.PoolUpdate.{PoolUpdate}
use Rattle.admin_words.specs.declared.command.PolicyCommand.{PolicyCommand}
use Rattle.admin_words.specs.declared.command.PolicyCommand.TheVariants.{ActivateSet, DefineDomain, DefineSet, DeleteDomain, DeleteSet, QueryDomain, QuerySet, UpdateDomain, ValidateSet}
use Rattle.admin_words.specs.declared.command.ClassCommand.{ClassCommand}
use Rattle.admin_words.specs.declared.command.ClassCommand.TheVariants.{AssignClass, DefineArchiveGroup, DefineClass, DefineGroup, DeleteArchiveGroup, DeleteClass, DeleteGroup, QueryClass, QueryGroup, UpdateArchiveGroup, UpdateGroup}
use Rattle.admin_words.specs.declared.command.NodeCommand.{NodeCommand}
use Rattle.admin_words.specs.declared.command.NodeCommand.TheVariants.{DeleteFilespace, QueryArchive, QueryBackup, QueryFilespace, QueryNode, RegisterNode, RemoveNode}
use Rattle.admin_words.specs.declared.command.PoolCommand.{PoolCommand}
use Rattle.admin_words.specs.declared.command.PoolCommand.TheVariants.{BackupPool, DefineDevClass, DefinePool, DeleteDevClass, DeletePool, MigrateAll, MigratePool, QueryDevClass, QueryPool, ReclaimPool, RestorePool, UpdatePool}
use Rattle.admin_words.specs.declared.command.VolumeCommand.{VolumeCommand}
use Rattle.admin_words.specs.declared.command.VolumeCommand.TheVariants.{AuditVolume, DefineVolume, DeleteVolume, MoveData, QueryContent, QueryVolume, RestoreVolume, ReuseVolumes, UpdateVolume}
use Rattle.admin_words.specs.declared.command.FileCommand.{FileCommand}
use Rattle.admin_words.specs.declared.command.FileCommand.TheVariants.{ArchiveFiles, Erase, Get, Incremental, Put, RestoreFiles, RetrieveFiles, Write}
use Rattle.admin_words.specs.declared.command.DatabaseCommand.{DatabaseCommand}
use Rattle.admin_words.specs.declared.command.DatabaseCommand.TheVariants.{BackupDatabase, Checkpoint, Day, DeleteHistory, ExpireInventory, QueryHistory}
use Rattle.admin_words.specs.declared.volumes.VolumeDeletion.{VolumeDeletion}
use Rattle.admin_commands.specs.declared.work.Work.{Work}
use Rattle.admin_commands.specs.declared.work.Work.TheVariants as work
use Rattle.admin_commands.specs.Found.{archive_of, behind, device_found, device_named, domain_named, filespace_named, group_of, next_found, node_named, number_found, pool_called, pool_named, set_named, the_pool, the_volume}
use Rattle.admin_commands.specs.Policy.{archive_changed, destination_for, group_changed, new_archive, new_rule, other_archive, other_rule, update_archive_rule, update_rule}
use Rattle.admin_words.specs.declared.words.BackupType.{BackupType}
use Rattle.admin_words.specs.declared.words.BackupType.TheVariants.{Full, Incremental}
use Rattle.admin_commands.specs.Orders.{class_needs, class_work, clients, database_needs, database_work, dev_class, file_needs, file_work, for_move, if_given, if_next, needs, node_needs, node_work, policies, policy_needs, policy_work, pool, pool_needs, pool_row, pool_work, run, run_found, run_in, show, stores, volume, volume_needs, volume_row, volume_work, work_of}
use Rattle.admin_commands.specs.Stores.{access_changed, capacity_for, class_deleted, collocates_disk, delete_volume, is_definition, is_ordered, may_move, move_data, moved, moved_from, new_settings, new_volume, next_for, other_settings, pool_changed, update_found, update_settings, volume_deleted}
use Rattle.machine.specs.Causes.{is_plain}
use Rattle.command_steps.specs.Owns.{OnTree, Own, back_up, backup_own, database_own, empty_volume, file_own, node_own, none_yet, on_tree, own_of, policy_own, pool_own, put, restore, volume_own}
use Rattle.command_steps.specs.Answers.{halt_by}
use Rattle.line_results.proofs.Asked.{AreUnlogged, is_log}
use Rattle.line_results.proofs.Mild.{is_common}

given-unlogged : (f : List ℕ → Query) → ((name : List ℕ) → is_log (f name) ≡ false) → (o : Option (List ℕ)) → AreUnlogged (if_given f o)
given-unlogged f h None = tt
given-unlogged f h (Some name) = (h name, tt)

next-unlogged : (o : Option (Option (List ℕ))) → AreUnlogged (if_next o)
next-unlogged None = tt
next-unlogged (Some None) = tt
next-unlogged (Some (Some name)) = (refl, tt)

move-unlogged : (name : List ℕ) (o : Option (List ℕ)) → AreUnlogged (for_move name o)
move-unlogged name None = (refl, tt)
move-unlogged name (Some to) = (refl, (refl, tt))

define-unlogged : (d : PoolDefinition) (b : Bool) → AreUnlogged (if b then if_given pool d.next else [])
define-unlogged d true = given-unlogged pool (λ name. refl) d.next
define-unlogged d false = tt

update-unlogged : (u : PoolUpdate) (b : Bool) → AreUnlogged (if b then pool_row u.pool ∷ if_next u.next else [])
update-unlogged u true = (refl, next-unlogged u.next)
update-unlogged u false = tt

deletion-unlogged : (d : VolumeDeletion) (b : Bool) → AreUnlogged (if b then volume d.volume ∷ [] else volume_row d.volume ∷ query.Pools None ∷ [])
deletion-unlogged d true = (refl, tt)
deletion-unlogged d false = (refl, (refl, tt))

policy-unlogged : (c : PolicyCommand) → AreUnlogged (policy_needs c)
policy-unlogged (DeleteDomain d) = (refl, tt)
policy-unlogged (ValidateSet s) = (refl, tt)
policy-unlogged c = tt

class-unlogged : (c : ClassCommand) → AreUnlogged (class_needs c)
class-unlogged (DefineArchiveGroup g) = (refl, tt)
class-unlogged (DefineGroup g) = (refl, tt)
class-unlogged (DeleteArchiveGroup g) = (refl, tt)
class-unlogged (DeleteGroup g) = (refl, tt)
class-unlogged (UpdateArchiveGroup g) = (refl, given-unlogged pool (λ name. refl) g.destination)
class-unlogged (UpdateGroup g) = (refl, given-unlogged pool (λ name. refl) g.destination)
class-unlogged c = tt

node-unlogged : (c : NodeCommand) → AreUnlogged (node_needs c)
node-unlogged (DeleteFilespace f) = (refl, tt)
node-unlogged (QueryArchive f) = (refl, tt)
node-unlogged (RemoveNode n) = (refl, tt)
node-unlogged c = tt

pool-unlogged : (c : PoolCommand) → AreUnlogged (pool_needs c)
pool-unlogged (BackupPool b) = (refl, (refl, tt))
pool-unlogged (DefinePool d) = define-unlogged d (is_definition d)
pool-unlogged (DeleteDevClass c) = (refl, tt)
pool-unlogged (DeletePool p) = (refl, tt)
pool-unlogged (MigratePool m) = (refl, tt)
pool-unlogged (ReclaimPool r) = (refl, tt)
pool-unlogged (RestorePool p) = (refl, tt)
pool-unlogged (UpdatePool u) = update-unlogged u (is_ordered u.low u.high)
pool-unlogged c = tt

volume-unlogged : (c : VolumeCommand) → AreUnlogged (volume_needs c)
volume-unlogged (AuditVolume a) = (refl, tt)
volume-unlogged (DefineVolume d) = (refl, (refl, tt))
volume-unlogged (DeleteVolume d) = deletion-unlogged d d.discard_data
volume-unlogged (MoveData m) = move-unlogged m.volume m.pool
volume-unlogged (RestoreVolume v) = (refl, tt)
volume-unlogged (UpdateVolume u) = (refl, (refl, tt))
volume-unlogged c = tt

file-unlogged : (c : FileCommand) → AreUnlogged (file_needs c)
file-unlogged (ArchiveFiles a) = (refl, tt)
file-unlogged (Incremental i) = (refl, tt)
file-unlogged (Put p) = (refl, tt)
file-unlogged (RestoreFiles r) = (refl, tt)
file-unlogged (RetrieveFiles r) = (refl, tt)
file-unlogged c = tt

database-unlogged : (c : DatabaseCommand) → AreUnlogged (database_needs c)
database-unlogged (BackupDatabase b) = given-unlogged dev_class (λ name. refl) b.dev_class
database-unlogged c = tt

pub needs-unlogged : (c : Command) → AreUnlogged (needs c)
needs-unlogged (commands.Policy c) = policy-unlogged c
needs-unlogged (commands.Class c) = class-unlogged c
needs-unlogged (commands.Node c) = node-unlogged c
needs-unlogged (commands.Pool c) = pool-unlogged c
needs-unlogged (commands.Volume c) = volume-unlogged c
needs-unlogged (commands.File c) = file-unlogged c
needs-unlogged (commands.Database c) = database-unlogged c
needs-unlogged (commands.Block c) = tt

-- ---- changes

-- Work that is a change is a common one that has no step of its own; rows that are shown aren't the log's length; and a command's own words end no run.
abbrev pub IsPlainWork : Result Work Refusal → Type 0
IsPlainWork (Ok (work.Commit what)) = (is_plain what && is_common what) ≡ true
IsPlainWork (Ok (work.Show q)) = is_log q ≡ false
IsPlainWork (Ok (work.Run numbers)) = Unit {0}
IsPlainWork (Err why) = halt_by why ≡ None

found-plain : {X : Type 0} (o : Option X) (f : X → Result Work Refusal) → ((x : X) → IsPlainWork (f x)) → IsPlainWork (if_found o f)
found-plain None f h = refl
found-plain (Some x) f h = h x

chosen-plain : (b : Bool) (r s : Result Work Refusal) → IsPlainWork r → IsPlainWork s → IsPlainWork (if b then r else s)
chosen-plain true r s h k = h
chosen-plain false r s h k = k

group-plain : (v : Verb) (domain set class : List ℕ) (rule : BackupRule) → IsPlainWork (group_changed v domain set class rule)
group-plain v domain set class rule = chosen-plain (is_rule rule) (policies (policy.Group v domain set class rule)) (Err bad_value) refl refl

archive-plain : (v : Verb) (domain set class : List ℕ) (rule : ArchiveRule) → IsPlainWork (archive_changed v domain set class rule)
archive-plain v domain set class rule = chosen-plain (is_archive_rule rule) (policies (policy.ArchiveGroup v domain set class rule)) (Err bad_value) refl refl

pool-plain : (v : Verb) (name class : List ℕ) (kind : PoolKind) (rule : PoolRule) → IsPlainWork (pool_changed v name class kind rule)
pool-plain v name class kind rule = chosen-plain (is_pool rule) (stores (store.Pool v name class kind rule)) (Err bad_value) refl refl

rule-plain : (g : GroupUpdate) (old : BackupRule) (answers : List Answer) → IsPlainWork (update_rule g old answers)
rule-plain g old answers =
    found-plain (destination_for g.destination old.destination answers) (λ destination. group_changed verb.Update g.domain g.set g.class (other_rule g old destination))
    (λ destination. group-plain verb.Update g.domain g.set g.class (other_rule g old destination))

archive-rule-plain : (g : ArchiveUpdate) (old : ArchiveRule) (answers : List Answer) → IsPlainWork (update_archive_rule g old answers)
archive-rule-plain g old answers =
    found-plain (destination_for g.destination old.destination answers) (λ destination. archive_changed verb.Update g.domain g.set g.class (other_archive g old destination))
    (λ destination. archive-plain verb.Update g.domain g.set g.class (other_archive g old destination))

deleted-plain : (class : List ℕ) (capacity : Option ℕ) → IsPlainWork (class_deleted class capacity)
deleted-plain class None = refl
deleted-plain class (Some capacity) = refl

volume-plain : (volume : List ℕ) (number : ℕ) (capacity : Option ℕ) → IsPlainWork (new_volume volume number capacity)
volume-plain volume number None = refl
volume-plain volume number (Some capacity) = refl

settings-plain : (u : PoolUpdate) (old : PoolLine) (answers : List Answer) → IsPlainWork (update_settings u old answers)
settings-plain u old answers =
    found-plain (next_for u.next old.settings.next answers) (λ next. pool_changed verb.Update u.pool old.class old.kind (other_settings u old.settings next))
    (λ next. pool-plain verb.Update u.pool old.class old.kind (other_settings u old.settings next))

update-plain : (u : PoolUpdate) (old : PoolLine) (answers : List Answer) → IsPlainWork (update_found u old answers)
update-plain u old answers = chosen-plain (collocates_disk u old) (Err bad_value) (update_settings u old answers) refl (settings-plain u old answers)

moved-plain : (file : ℕ) (own to : PoolLine) → IsPlainWork (moved file own to)
moved-plain file own to = chosen-plain (may_move own to) (run (file ∷ to.number ∷ [])) (Err BadHierarchy) tt refl

move-plain : (o : Option (List ℕ)) (answers : List Answer) → IsPlainWork (move_data o answers)
move-plain None answers = found-plain (number_found answers) (λ file. run (file ∷ 0 ∷ [])) (λ file. tt)
move-plain (Some name) answers =
    found-plain (the_volume answers) (λ v. moved_from v name (behind answers)) (λ v. found-plain (pool_called v.pool (behind answers)) (λ own. if_found (pool_named name (behind answers)) (λ to. moved v.file own to))
    (λ own. found-plain (pool_named name (behind answers)) (λ to. moved v.file own to) (λ to. moved-plain v.file own to)))

policy-plain : (c : PolicyCommand) (answers : List Answer) → IsPlainWork (policy_work c answers)
policy-plain (ActivateSet s) answers = refl
policy-plain (DefineDomain d) answers = refl
policy-plain (DefineSet s) answers = refl
policy-plain (DeleteDomain d) answers = found-plain (domain_named d.domain answers) (λ old. policies (policy.Domain verb.Delete d.domain old.back_retention)) (λ old. refl)
policy-plain (DeleteSet s) answers = refl
policy-plain QueryDomain answers = refl
policy-plain (QuerySet d) answers = refl
policy-plain (UpdateDomain d) answers = refl
policy-plain (ValidateSet s) answers = found-plain (set_named s.set answers) (λ set. run []) (λ set. tt)

class-plain : (c : ClassCommand) (answers : List Answer) → IsPlainWork (class_work c answers)
class-plain (AssignClass c) answers = refl
class-plain (DefineArchiveGroup g) answers =
    found-plain (number_found answers) (λ destination. archive_changed verb.Define g.domain g.set g.class (new_archive g destination))
    (λ destination. archive-plain verb.Define g.domain g.set g.class (new_archive g destination))
class-plain (DefineClass c) answers = refl
class-plain (DefineGroup g) answers =
    found-plain (number_found answers) (λ destination. group_changed verb.Define g.domain g.set g.class (new_rule g destination))
    (λ destination. group-plain verb.Define g.domain g.set g.class (new_rule g destination))
class-plain (DeleteArchiveGroup c) answers =
    found-plain (archive_of c.class answers) (λ old. archive_changed verb.Delete c.domain c.set c.class old) (λ old. archive-plain verb.Delete c.domain c.set c.class old)
class-plain (DeleteClass c) answers = refl
class-plain (DeleteGroup c) answers =
    found-plain (group_of c.class answers) (λ old. group_changed verb.Delete c.domain c.set c.class old.rule) (λ old. group-plain verb.Delete c.domain c.set c.class old.rule)
class-plain (QueryClass s) answers = refl
class-plain (QueryGroup s) answers = refl
class-plain (UpdateArchiveGroup g) answers = found-plain (archive_of g.class answers) (λ old. update_archive_rule g old (behind answers)) (λ old. archive-rule-plain g old (behind answers))
class-plain (UpdateGroup g) answers = found-plain (group_of g.class answers) (λ old. update_rule g old.rule (behind answers)) (λ old. rule-plain g old.rule (behind answers))

node-plain : (c : NodeCommand) (answers : List Answer) → IsPlainWork (node_work c answers)
node-plain (DeleteFilespace f) answers = found-plain (filespace_named f.filespace answers) (λ it. run (it.number ∷ [])) (λ it. tt)
node-plain (QueryArchive f) answers = found-plain (filespace_named f.filespace answers) (λ it. show (query.Held it.number)) (λ it. refl)
node-plain (QueryBackup f) answers = refl
node-plain (QueryFilespace q) answers = refl
node-plain QueryNode answers = refl
node-plain (RegisterNode n) answers = refl
node-plain (RemoveNode n) answers = found-plain (node_named n.node answers) (λ old. clients (client.Node two.Delete n.node old.domain)) (λ old. refl)

pools-plain : (c : PoolCommand) (answers : List Answer) → IsPlainWork (pool_work c answers)
pools-plain (BackupPool b) answers =
    found-plain (number_found answers) (λ primary. if_found (number_found (behind answers)) (λ copy. run (primary ∷ copy ∷ [])))
    (λ primary. found-plain (number_found (behind answers)) (λ copy. run (primary ∷ copy ∷ [])) (λ copy. tt))
pools-plain (DefineDevClass c) answers = refl
pools-plain (DefinePool d) answers =
    chosen-plain (is_definition d) (if_found (next_found d.next answers) (λ next. pool_changed verb.Define d.pool d.class d.kind (new_settings d next))) (Err bad_value)
    (found-plain (next_found d.next answers) (λ next. pool_changed verb.Define d.pool d.class d.kind (new_settings d next)) (λ next. pool-plain verb.Define d.pool d.class d.kind (new_settings d next))) refl
pools-plain (DeleteDevClass c) answers = found-plain (device_found answers) (λ device. class_deleted c.class device) (λ device. deleted-plain c.class device)
pools-plain (DeletePool p) answers =
    found-plain (the_pool answers) (λ old. pool_changed verb.Delete p.pool old.class old.kind old.settings) (λ old. pool-plain verb.Delete p.pool old.class old.kind old.settings)
pools-plain MigrateAll answers = tt
pools-plain (MigratePool m) answers =
    found-plain (the_pool answers) (λ p. if is_some p.settings.next then run (p.number ∷ unwrap_or m.low p.settings.low ∷ []) else Err BadHierarchy)
    (λ p. chosen-plain (is_some p.settings.next) (run (p.number ∷ unwrap_or m.low p.settings.low ∷ [])) (Err BadHierarchy) tt refl)
pools-plain QueryDevClass answers = refl
pools-plain (QueryPool q) answers = refl
pools-plain (ReclaimPool r) answers = found-plain (the_pool answers) (λ p. run (p.number ∷ unwrap_or r.threshold p.settings.reclaim ∷ [])) (λ p. tt)
pools-plain (RestorePool p) answers = found-plain (number_found answers) (λ number. run (number ∷ [])) (λ number. tt)
pools-plain (UpdatePool u) answers =
    chosen-plain (is_ordered u.low u.high) (if_found (the_pool answers) (λ old. update_found u old (behind answers))) (Err bad_value)
    (found-plain (the_pool answers) (λ old. update_found u old (behind answers)) (λ old. update-plain u old (behind answers))) refl

volumes-plain : (c : VolumeCommand) (answers : List Answer) → IsPlainWork (volume_work c answers)
volumes-plain (AuditVolume a) answers = found-plain (number_found answers) (λ number. run (number ∷ [])) (λ number. tt)
volumes-plain (DefineVolume d) answers =
    found-plain (the_pool answers) (λ p. if_found (device_named p.class (behind answers)) (λ device. new_volume d.volume p.number (capacity_for device.capacity d.format_size)))
    (λ p. found-plain (device_named p.class (behind answers)) (λ device. new_volume d.volume p.number (capacity_for device.capacity d.format_size))
    (λ device. volume-plain d.volume p.number (capacity_for device.capacity d.format_size)))
volumes-plain (DeleteVolume d) answers =
    chosen-plain d.discard_data (run_found answers) (delete_volume d.volume answers) (found-plain (number_found answers) (λ number. run (number ∷ [])) (λ number. tt))
    (found-plain (the_volume answers) (λ old. if_found (pool_called old.pool (behind answers)) (λ p. volume_deleted d.volume p.number old))
    (λ old. found-plain (pool_called old.pool (behind answers)) (λ p. volume_deleted d.volume p.number old) (λ p. refl)))
volumes-plain (MoveData m) answers = move-plain m.pool answers
volumes-plain (QueryContent v) answers = refl
volumes-plain (QueryVolume q) answers = refl
volumes-plain (RestoreVolume v) answers = found-plain (number_found answers) (λ number. run (number ∷ [])) (λ number. tt)
volumes-plain ReuseVolumes answers = tt
volumes-plain (UpdateVolume u) answers =
    found-plain (the_volume answers) (λ old. if_found (pool_called old.pool (behind answers)) (λ p. access_changed u p.number old))
    (λ old. found-plain (pool_called old.pool (behind answers)) (λ p. access_changed u p.number old) (λ p. refl))

files-plain : (c : FileCommand) (answers : List Answer) → IsPlainWork (file_work c answers)
files-plain (ArchiveFiles a) answers = found-plain (number_found answers) (λ number. run (number ∷ [])) (λ number. tt)
files-plain (Erase e) answers = tt
files-plain (Get g) answers = tt
files-plain (Incremental i) answers = found-plain (number_found answers) (λ number. run (number ∷ [])) (λ number. tt)
files-plain (Put p) answers = found-plain (number_found answers) (λ number. run (number ∷ [])) (λ number. tt)
files-plain (RestoreFiles r) answers = found-plain (filespace_named r.filespace answers) (λ f. run (f.number ∷ [])) (λ f. tt)
files-plain (RetrieveFiles r) answers = found-plain (filespace_named r.filespace answers) (λ f. run (f.number ∷ [])) (λ f. tt)
files-plain (Write w) answers = tt

in-plain : (o : Option (List ℕ)) (answers : List Answer) → IsPlainWork (run_in o answers)
in-plain None answers = tt
in-plain (Some class) answers = found-plain (device_found answers) (λ device. run []) (λ device. tt)

database-plain : (c : DatabaseCommand) (answers : List Answer) → IsPlainWork (database_work c answers)
database-plain (BackupDatabase b) answers = in-plain b.dev_class answers
database-plain Checkpoint answers = tt
database-plain (Day d) answers = refl
database-plain (DeleteHistory h) answers = tt
database-plain ExpireInventory answers = tt
database-plain QueryHistory answers = refl

-- the change that a command asks for is such a one
pub work-plain : (c : Command) (answers : List Answer) → IsPlainWork (work_of c answers)
work-plain (commands.Policy c) answers = policy-plain c answers
work-plain (commands.Class c) answers = class-plain c answers
work-plain (commands.Node c) answers = node-plain c answers
work-plain (commands.Pool c) answers = pools-plain c answers
work-plain (commands.Volume c) answers = volumes-plain c answers
work-plain (commands.File c) answers = files-plain c answers
work-plain (commands.Database c) answers = database-plain c answers
work-plain (commands.Block c) answers = tt

-- ---- a PUT, a backup and a restore look something up

-- work on a tree whose command looks something up first
abbrev tree_asks : OnTree → Bool
tree_asks (back_up i) = true
tree_asks (restore r) = true
tree_asks work = false

-- work of a command's own whose command does
abbrev pub looks_up : Own → Bool
looks_up (put p) = true
looks_up (on_tree work) = tree_asks work
looks_up own = false

policy-asks : (c : PolicyCommand) → looks_up (policy_own c) ≡ true → ⊥
policy-asks (ValidateSet s) h = cc
policy-asks c h = cc

file-asks : (c : FileCommand) → looks_up (file_own c) ≡ true → file_needs c ≡ [] → ⊥
file-asks (Put q) h none = cc
file-asks (Incremental i) h none = cc
file-asks (RestoreFiles r) h none = cc
file-asks c h none = cc

backup-asks : (kind : BackupType) → looks_up (backup_own kind) ≡ true → ⊥
backup-asks Full h = cc
backup-asks Incremental h = cc

database-asks : (c : DatabaseCommand) → looks_up (database_own c) ≡ true → ⊥
database-asks (BackupDatabase b) h = backup-asks b.backup_type h
database-asks Checkpoint h = cc
database-asks c h = cc

node-asks : (c : NodeCommand) → looks_up (node_own c) ≡ true → ⊥
node-asks (DeleteFilespace f) h = cc
node-asks c h = cc

deleted-asks : (discard : Bool) → looks_up (if discard then empty_volume else none_yet) ≡ true → ⊥
deleted-asks true h = cc
deleted-asks false h = cc

volume-asks : (c : VolumeCommand) → looks_up (volume_own c) ≡ true → ⊥
volume-asks (DeleteVolume d) h = deleted-asks d.discard_data h
volume-asks c h = cc

pool-asks : (c : PoolCommand) → looks_up (pool_own c) ≡ true → ⊥
pool-asks (BackupPool b) h = cc
pool-asks c h = cc

pub own-asks : (c : Command) → looks_up (own_of c) ≡ true → needs c ≡ [] → ⊥
own-asks (commands.Policy c) h none = policy-asks c h
own-asks (commands.Node c) h none = node-asks c h
own-asks (commands.Pool c) h none = pool-asks c h
own-asks (commands.Volume c) h none = volume-asks c h
own-asks (commands.File c) h none = file-asks c h none
own-asks (commands.Database c) h none = database-asks c h
own-asks c h none = cc
