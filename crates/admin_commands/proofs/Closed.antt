-- A command's own refusals are three, and the changes that it asks for are of rows.
use Rattle.std.proofs.Common.{inl, inr, ℕ, Bool, true, false, is_some, unwrap_or, List, [], ◌∷◌, Option, Some, None, Result, Ok, Err, if◌then◌else◌, refl, subst}
use Rattle.kinds.specs.Answers.{Answers}
use Rattle.kinds.specs.Pools.{is_pool}
use Rattle.kinds.specs.Refusals.{bad_value}
use Rattle.kinds.specs.Rules.{is_archive_rule, is_rule}
use Rattle.kinds.specs.declared.change.DefineOrDelete.TheVariants as two
use Rattle.kinds.specs.declared.change.ObjectChange.TheVariants as client
use Rattle.kinds.specs.declared.change.PolicyChange.TheVariants as policy
use Rattle.kinds.specs.declared.change.PoolChange.TheVariants as store
use Rattle.kinds.specs.declared.change.Verb.{Verb}
use Rattle.kinds.specs.declared.change.Verb.TheVariants as verb
use Rattle.kinds.specs.declared.pool.PoolKind.{PoolKind}
use Rattle.kinds.specs.declared.pool.PoolRule.{PoolRule}
use Rattle.kinds.specs.declared.refusal.Refusal.{Refusal}
use Rattle.kinds.specs.declared.refusal.Refusal.TheVariants.{BadHierarchy}
use Rattle.kinds.specs.declared.rule.ArchiveRule.{ArchiveRule}
use Rattle.kinds.specs.declared.rule.BackupRule.{BackupRule}
use Rattle.entries.specs.declared.change.Change.TheVariants as change
use Rattle.inventory_rows.specs.version_groups.Entries.{if_found}
use Rattle.inventory_answers.specs.declared.lines.PoolLine.{PoolLine}
use Rattle.inventory_answers.specs.declared.query.Query.TheVariants as query
use Rattle.inventory_answers.specs.declared.reply.Answer.{Answer}
use Rattle.admin_words.specs.declared.policy.ArchiveUpdate.{ArchiveUpdate}
use Rattle.admin_words.specs.declared.policy.GroupUpdate.{GroupUpdate}
use Rattle.admin_words.specs.declared.pools.PoolUpdate.{PoolUpdate}
use Rattle.admin_words.specs.declared.command.Command.{Command}
use Rattle.admin_words.specs.declared.command.Command.TheVariants as commands
use Rattle.admin_words.specs.declared.command.PolicyCommand.{PolicyCommand}
use Rattle.admin_words.specs.declared.command.PolicyCommand.TheVariants.{DeleteDomain, ValidateSet}
use Rattle.admin_words.specs.declared.command.ClassCommand.{ClassCommand}
use Rattle.admin_words.specs.declared.command.ClassCommand.TheVariants.{DefineArchiveGroup, DefineGroup, DeleteArchiveGroup, DeleteGroup, UpdateArchiveGroup, UpdateGroup}
use Rattle.admin_words.specs.declared.command.NodeCommand.{NodeCommand}
use Rattle.admin_words.specs.declared.command.NodeCommand.TheVariants.{DeleteFilespace, QueryArchive, RemoveNode}
use Rattle.admin_words.specs.declared.command.PoolCommand.{PoolCommand}
use Rattle.admin_words.specs.declared.command.PoolCommand.TheVariants.{BackupPool, DefinePool, DeleteDevClass, DeletePool, MigratePool, ReclaimPool, RestorePool, UpdatePool}
use Rattle.admin_words.specs.declared.command.VolumeCommand.{VolumeCommand}
use Rattle.admin_words.specs.declared.command.VolumeCommand.TheVariants.{AuditVolume, DefineVolume, DeleteVolume, MoveData, RestoreVolume, UpdateVolume}
use Rattle.admin_words.specs.declared.command.FileCommand.{FileCommand}
use Rattle.admin_words.specs.declared.command.FileCommand.TheVariants.{ArchiveFiles, Incremental, Put, RestoreFiles, RetrieveFiles}
use Rattle.admin_words.specs.declared.command.DatabaseCommand.{DatabaseCommand}
use Rattle.admin_words.specs.declared.command.DatabaseCommand.TheVariants.{BackupDatabase}
use Rattle.admin_commands.specs.declared.work.Work.{Work}
use Rattle.admin_commands.specs.declared.work.Work.TheVariants as work
use Rattle.admin_commands.specs.Found.{behind, number_found, device_found, next_found, domain_named, set_named, archive_of, group_of, node_named, filespace_named, device_named, pool_named, pool_called, the_pool, the_volume}
use Rattle.admin_commands.specs.Policy.{group_changed, new_rule, other_rule, destination_for, update_rule, archive_changed, new_archive, other_archive, update_archive_rule}
use Rattle.admin_commands.specs.Stores.{class_deleted, pool_changed, new_settings, collocates_disk, is_definition, other_settings, is_ordered, next_for, update_settings, update_found, capacity_for, new_volume, access_changed, delete_volume, volume_deleted, may_move, moved, moved_from, move_data}
use Rattle.admin_commands.specs.Orders.{policies, clients, show, run, run_found, run_filespace, run_in, policy_work, class_work, node_work, pool_work, volume_work, file_work, database_work, work_of}
use Rattle.admin_commands.specs.Own.{IsSound, IsClosed}

-- what isn't there is NotFound
found_own : {A : Type 0} (o : Option A) (f : A → Result Work Refusal) → ((x : A) → IsSound (f x)) → IsSound (if_found o f)
found_own None f h = inr (inl refl)
found_own (Some x) f h = h x

test_own : (b : Bool) (x y : Result Work Refusal) → IsSound x → IsSound y → IsSound (if b then x else y)
test_own true x y h k = h
test_own false x y h k = k

group_own : (v : Verb) (domain set class : List ℕ) (rule : BackupRule) → IsSound (group_changed v domain set class rule)
group_own v domain set class rule = test_own (is_rule rule) (Ok (work.Commit (change.Policy (policy.Group v domain set class rule)))) (Err bad_value) tt (inl refl)

settings_own : (v : Verb) (pool class : List ℕ) (kind : PoolKind) (rule : PoolRule) → IsSound (pool_changed v pool class kind rule)
settings_own v pool class kind rule = test_own (is_pool rule) (Ok (work.Commit (change.Pool (store.Pool v pool class kind rule)))) (Err bad_value) tt (inl refl)

archive_own : (v : Verb) (domain set class : List ℕ) (rule : ArchiveRule) → IsSound (archive_changed v domain set class rule)
archive_own v domain set class rule = test_own (is_archive_rule rule) (Ok (work.Commit (change.Policy (policy.ArchiveGroup v domain set class rule)))) (Err bad_value) tt (inl refl)

run_own : (answers : List Answer) → IsSound (run_found answers)
run_own answers = found_own (number_found answers) (λ number. run (number ∷ [])) (λ number. tt)

filespace_own : (name : List ℕ) (answers : List Answer) → IsSound (run_filespace name answers)
filespace_own name answers = found_own (filespace_named name answers) (λ f. run (f.number ∷ [])) (λ f. tt)

rule_own : (g : GroupUpdate) (old : BackupRule) (answers : List Answer) → IsSound (update_rule g old answers)
rule_own g old answers =
    found_own (destination_for g.destination old.destination answers) (λ d. group_changed verb.Update g.domain g.set g.class (other_rule g old d)) (λ d. group_own verb.Update g.domain g.set g.class (other_rule g old d))

archive_rule_own : (g : ArchiveUpdate) (old : ArchiveRule) (answers : List Answer) → IsSound (update_archive_rule g old answers)
archive_rule_own g old answers =
    found_own (destination_for g.destination old.destination answers) (λ d. archive_changed verb.Update g.domain g.set g.class (other_archive g old d)) (λ d. archive_own verb.Update g.domain g.set g.class (other_archive g old d))

update_own : (u : PoolUpdate) (old : PoolLine) (answers : List Answer) → IsSound (update_settings u old answers)
update_own u old answers =
    found_own (next_for u.next old.settings.next answers) (λ next. pool_changed verb.Update u.pool old.class old.kind (other_settings u old.settings next)) (λ next. settings_own verb.Update u.pool old.class old.kind (other_settings u old.settings next))

update_found_own : (u : PoolUpdate) (old : PoolLine) (answers : List Answer) → IsSound (update_found u old answers)
update_found_own u old answers =
    test_own (collocates_disk u old) (Err bad_value) (update_settings u old answers) (inl refl) (update_own u old answers)

class_own : (class : List ℕ) (capacity : Option ℕ) → IsSound (class_deleted class capacity)
class_own class None = inr (inl refl)
class_own class (Some capacity) = tt

volume_own : (volume : List ℕ) (pool : ℕ) (capacity : Option ℕ) → IsSound (new_volume volume pool capacity)
volume_own volume pool None = inl refl
volume_own volume pool (Some capacity) = tt

move_own : (to : Option (List ℕ)) (answers : List Answer) → IsSound (move_data to answers)
move_own None answers = found_own (number_found answers) (λ file. run (file ∷ 0 ∷ [])) (λ file. tt)
move_own (Some name) answers =
    found_own (the_volume answers) (λ v. moved_from v name (behind answers)) (λ v.
    found_own (pool_called v.pool (behind answers)) (λ own. if_found (pool_named name (behind answers)) (λ to. moved v.file own to)) (λ own.
    found_own (pool_named name (behind answers)) (λ to. moved v.file own to) (λ to.
    test_own (may_move own to) (run (v.file ∷ to.number ∷ [])) (Err BadHierarchy) tt (inr (inr refl)))))

in_own : (class : Option (List ℕ)) (answers : List Answer) → IsSound (run_in class answers)
in_own None answers = tt
in_own (Some class) answers = found_own (device_found answers) (λ device. run []) (λ device. tt)

policy_own : (c : PolicyCommand) (answers : List Answer) → IsSound (policy_work c answers)
policy_own (DeleteDomain d) answers = found_own (domain_named d.domain answers) (λ old. policies (policy.Domain verb.Delete d.domain old.back_retention)) (λ old. tt)
policy_own (ValidateSet s) answers = found_own (set_named s.set answers) (λ set. run []) (λ set. tt)
policy_own _ answers = tt

classes_own : (c : ClassCommand) (answers : List Answer) → IsSound (class_work c answers)
classes_own (DefineArchiveGroup g) answers =
    found_own (number_found answers) (λ d. archive_changed verb.Define g.domain g.set g.class (new_archive g d)) (λ d. archive_own verb.Define g.domain g.set g.class (new_archive g d))
classes_own (DeleteArchiveGroup c) answers =
    found_own (archive_of c.class answers) (λ old. archive_changed verb.Delete c.domain c.set c.class old) (λ old. archive_own verb.Delete c.domain c.set c.class old)
classes_own (UpdateArchiveGroup g) answers = found_own (archive_of g.class answers) (λ old. update_archive_rule g old (behind answers)) (λ old. archive_rule_own g old (behind answers))
classes_own (DefineGroup g) answers =
    found_own (number_found answers) (λ d. group_changed verb.Define g.domain g.set g.class (new_rule g d)) (λ d. group_own verb.Define g.domain g.set g.class (new_rule g d))
classes_own (DeleteGroup c) answers =
    found_own (group_of c.class answers) (λ old. group_changed verb.Delete c.domain c.set c.class old.rule) (λ old. group_own verb.Delete c.domain c.set c.class old.rule)
classes_own (UpdateGroup g) answers = found_own (group_of g.class answers) (λ old. update_rule g old.rule (behind answers)) (λ old. rule_own g old.rule (behind answers))
classes_own _ answers = tt

nodes_own : (c : NodeCommand) (answers : List Answer) → IsSound (node_work c answers)
nodes_own (DeleteFilespace f) answers = filespace_own f.filespace answers
nodes_own (QueryArchive f) answers = found_own (filespace_named f.filespace answers) (λ f. show (query.Held f.number)) (λ f. tt)
nodes_own (RemoveNode n) answers = found_own (node_named n.node answers) (λ old. clients (client.Node two.Delete n.node old.domain)) (λ old. tt)
nodes_own _ answers = tt

pools_own : (c : PoolCommand) (answers : List Answer) → IsSound (pool_work c answers)
pools_own (BackupPool b) answers =
    found_own (number_found answers) (λ primary. if_found (number_found (behind answers)) (λ copy. run (primary ∷ copy ∷ []))) (λ primary.
    found_own (number_found (behind answers)) (λ copy. run (primary ∷ copy ∷ [])) (λ copy. tt))
pools_own (DefinePool d) answers =
    test_own (is_definition d) (if_found (next_found d.next answers) (λ next. pool_changed verb.Define d.pool d.class d.kind (new_settings d next))) (Err bad_value)
    (found_own (next_found d.next answers) (λ next. pool_changed verb.Define d.pool d.class d.kind (new_settings d next)) (λ next. settings_own verb.Define d.pool d.class d.kind (new_settings d next)))
    (inl refl)
pools_own (DeleteDevClass c) answers = found_own (device_found answers) (λ device. class_deleted c.class device) (λ device. class_own c.class device)
pools_own (DeletePool p) answers =
    found_own (the_pool answers) (λ old. pool_changed verb.Delete p.pool old.class old.kind old.settings) (λ old. settings_own verb.Delete p.pool old.class old.kind old.settings)
pools_own (MigratePool m) answers =
    found_own (the_pool answers) (λ p. if is_some p.settings.next then run (p.number ∷ unwrap_or m.low p.settings.low ∷ []) else Err BadHierarchy) (λ p.
    test_own (is_some p.settings.next) (run (p.number ∷ unwrap_or m.low p.settings.low ∷ [])) (Err BadHierarchy) tt (inr (inr refl)))
pools_own (ReclaimPool r) answers = found_own (the_pool answers) (λ p. run (p.number ∷ unwrap_or r.threshold p.settings.reclaim ∷ [])) (λ p. tt)
pools_own (RestorePool p) answers = run_own answers
pools_own (UpdatePool u) answers =
    test_own (is_ordered u.low u.high) (if_found (the_pool answers) (λ old. update_found u old (behind answers))) (Err bad_value)
    (found_own (the_pool answers) (λ old. update_found u old (behind answers)) (λ old. update_found_own u old (behind answers)))
    (inl refl)
pools_own _ answers = tt

deleted_own : (discards : Bool) (volume : List ℕ) (answers : List Answer) → IsSound (if discards then run_found answers else delete_volume volume answers)
deleted_own true volume answers = run_own answers
deleted_own false volume answers =
    found_own (the_volume answers) (λ old. if_found (pool_called old.pool (behind answers)) (λ p. volume_deleted volume p.number old)) (λ old.
    found_own (pool_called old.pool (behind answers)) (λ p. volume_deleted volume p.number old) (λ p. tt))

volumes_own : (c : VolumeCommand) (answers : List Answer) → IsSound (volume_work c answers)
volumes_own (AuditVolume a) answers = run_own answers
volumes_own (DefineVolume d) answers =
    found_own (the_pool answers) (λ p. if_found (device_named p.class (behind answers)) (λ device. new_volume d.volume p.number (capacity_for device.capacity d.format_size))) (λ p.
    found_own (device_named p.class (behind answers)) (λ device. new_volume d.volume p.number (capacity_for device.capacity d.format_size)) (λ device.
    volume_own d.volume p.number (capacity_for device.capacity d.format_size)))
volumes_own (DeleteVolume d) answers = deleted_own d.discard_data d.volume answers
volumes_own (MoveData m) answers = move_own m.pool answers
volumes_own (RestoreVolume v) answers = run_own answers
volumes_own (UpdateVolume u) answers =
    found_own (the_volume answers) (λ old. if_found (pool_called old.pool (behind answers)) (λ p. access_changed u p.number old)) (λ old.
    found_own (pool_called old.pool (behind answers)) (λ p. access_changed u p.number old) (λ p. tt))
volumes_own _ answers = tt

files_own : (c : FileCommand) (answers : List Answer) → IsSound (file_work c answers)
files_own (ArchiveFiles a) answers = run_own answers
files_own (Incremental i) answers = run_own answers
files_own (Put p) answers = run_own answers
files_own (RestoreFiles r) answers = filespace_own r.filespace answers
files_own (RetrieveFiles r) answers = filespace_own r.filespace answers
files_own _ answers = tt

database_own : (c : DatabaseCommand) (answers : List Answer) → IsSound (database_work c answers)
database_own (BackupDatabase b) answers = in_own b.dev_class answers
database_own _ answers = tt

-- what a command may be refused with
command_own : (c : Command) (answers : List Answer) → IsSound (work_of c answers)
command_own (commands.Policy c) answers = policy_own c answers
command_own (commands.Class c) answers = classes_own c answers
command_own (commands.Node c) answers = nodes_own c answers
command_own (commands.Pool c) answers = pools_own c answers
command_own (commands.Volume c) answers = volumes_own c answers
command_own (commands.File c) answers = files_own c answers
command_own (commands.Database c) answers = database_own c answers
command_own (commands.Block c) answers = tt

closed_by : (r said : Result Work Refusal) → Answers r said → IsSound said → IsClosed r
closed_by (Ok x) said h k = subst (λ s. IsSound s) h k
closed_by (Err e) said (inl memory) k = inl memory
closed_by (Err e) said (inr same) k = inr (subst (λ s. IsSound s) same k)

-- an answer that is what is said of a command is refused as a command may be
pub closed : (c : Command) (answers : List Answer) (r : Result Work Refusal) → Answers r (work_of c answers) → IsClosed r
closed c answers r h = closed_by r (work_of c answers) h (command_own c answers)
