-- When a command is refused with BadHierarchy.
use Rattle.std.proofs.Common.{◌≡◌, inl, inr, ℕ, Bool, true, false, is_some, unwrap_or, List, [], ◌∷◌, Option, Some, None, Result, Ok, Err, not, ◌==◌, if◌then◌else◌, refl, sym, subst}
use Rattle.kinds.specs.Answers.{Answers}
use Rattle.kinds.specs.Pools.{is_pool}
use Rattle.kinds.specs.Refusals.{bad_value, number_of}
use Rattle.kinds.specs.Rules.{is_archive_rule, is_rule}
use Rattle.kinds.specs.declared.change.DefineOrDelete.TheVariants as two
use Rattle.kinds.specs.declared.change.ObjectChange.TheVariants as client
use Rattle.kinds.specs.declared.change.PolicyChange.TheVariants as policy
use Rattle.kinds.specs.declared.change.PoolChange.TheVariants as store
use Rattle.kinds.specs.declared.change.Verb.{Verb}
use Rattle.kinds.specs.declared.change.Verb.TheVariants as verb
use Rattle.kinds.specs.declared.pool.PoolKind.{PoolKind}
use Rattle.kinds.specs.declared.pool.PoolRule.{PoolRule}
use Rattle.kinds.specs.declared.refusal.Refusal.{Refusal}
use Rattle.kinds.specs.declared.refusal.Refusal.TheVariants.{BadHierarchy}
use Rattle.kinds.specs.declared.rule.ArchiveRule.{ArchiveRule}
use Rattle.kinds.specs.declared.rule.BackupRule.{BackupRule}
use Rattle.entries.specs.declared.change.Change.TheVariants as change
use Rattle.inventory_rows.specs.version_groups.Entries.{if_found}
use Rattle.inventory_answers.specs.declared.lines.PoolLine.{PoolLine}
use Rattle.inventory_answers.specs.declared.lines.VolumeLine.{VolumeLine}
use Rattle.inventory_answers.specs.declared.query.Query.TheVariants as query
use Rattle.inventory_answers.specs.declared.reply.Answer.{Answer}
use Rattle.admin_words.specs.declared.policy.ArchiveUpdate.{ArchiveUpdate}
use Rattle.admin_words.specs.declared.policy.GroupUpdate.{GroupUpdate}
use Rattle.admin_words.specs.declared.pools.Migration.{Migration}
use Rattle.admin_words.specs.declared.pools.PoolUpdate.{PoolUpdate}
use Rattle.admin_words.specs.declared.command.Command.{Command}
use Rattle.admin_words.specs.declared.command.Command.TheVariants as commands
use Rattle.admin_words.specs.declared.command.PolicyCommand.{PolicyCommand}
use Rattle.admin_words.specs.declared.command.PolicyCommand.TheVariants.{DeleteDomain, ValidateSet}
use Rattle.admin_words.specs.declared.command.ClassCommand.{ClassCommand}
use Rattle.admin_words.specs.declared.command.ClassCommand.TheVariants.{DefineArchiveGroup, DefineGroup, DeleteArchiveGroup, DeleteGroup, UpdateArchiveGroup, UpdateGroup}
use Rattle.admin_words.specs.declared.command.NodeCommand.{NodeCommand}
use Rattle.admin_words.specs.declared.command.NodeCommand.TheVariants.{DeleteFilespace, QueryArchive, RemoveNode}
use Rattle.admin_words.specs.declared.command.PoolCommand.{PoolCommand}
use Rattle.admin_words.specs.declared.command.PoolCommand.TheVariants.{BackupPool, DefinePool, DeleteDevClass, DeletePool, MigratePool, ReclaimPool, RestorePool, UpdatePool}
use Rattle.admin_words.specs.declared.command.VolumeCommand.{VolumeCommand}
use Rattle.admin_words.specs.declared.command.VolumeCommand.TheVariants.{AuditVolume, DefineVolume, DeleteVolume, MoveData, RestoreVolume, UpdateVolume}
use Rattle.admin_words.specs.declared.command.FileCommand.{FileCommand}
use Rattle.admin_words.specs.declared.command.FileCommand.TheVariants.{ArchiveFiles, Incremental, Put, RestoreFiles, RetrieveFiles}
use Rattle.admin_words.specs.declared.command.DatabaseCommand.{DatabaseCommand}
use Rattle.admin_words.specs.declared.command.DatabaseCommand.TheVariants.{BackupDatabase}
use Rattle.admin_commands.specs.declared.work.Work.{Work}
use Rattle.admin_commands.specs.declared.work.Work.TheVariants as work
use Rattle.admin_commands.specs.Found.{behind, number_found, device_found, next_found, domain_named, set_named, archive_of, group_of, node_named, filespace_named, device_named, pool_named, pool_called, the_pool, the_volume}
use Rattle.admin_commands.specs.Policy.{group_changed, new_rule, other_rule, destination_for, update_rule, archive_changed, new_archive, other_archive, update_archive_rule}
use Rattle.admin_commands.specs.Stores.{class_deleted, pool_changed, new_settings, collocates_disk, is_definition, other_settings, is_ordered, next_for, update_settings, update_found, capacity_for, new_volume, access_changed, delete_volume, volume_deleted, may_move, moved, moved_from, move_data}
use Rattle.admin_commands.specs.Orders.{policies, clients, show, run, run_found, run_filespace, run_in, policy_work, class_work, node_work, pool_work, volume_work, file_work, database_work, work_of}
use Rattle.admin_commands.specs.Own.{Comes, ends_there, parts, leaves_from, leaves, breaks_hierarchy}

-- the answer is BadHierarchy
abbrev is_said : Result Work Refusal → Bool
is_said (Ok x) = false
is_said (Err e) = number_of e == number_of BadHierarchy

-- what isn't there is NotFound
found_not : {A : Type 0} (o : Option A) (f : A → Result Work Refusal) → ((x : A) → is_said (f x) ≡ false) → is_said (if_found o f) ≡ false
found_not None f h = refl
found_not (Some x) f h = h x

test_not : (b : Bool) (x y : Result Work Refusal) → is_said x ≡ false → is_said y ≡ false → is_said (if b then x else y) ≡ false
test_not true x y h k = h
test_not false x y h k = k

group_not : (v : Verb) (domain set class : List ℕ) (rule : BackupRule) → is_said (group_changed v domain set class rule) ≡ false
group_not v domain set class rule = test_not (is_rule rule) (Ok (work.Commit (change.Policy (policy.Group v domain set class rule)))) (Err bad_value) refl refl

settings_not : (v : Verb) (pool class : List ℕ) (kind : PoolKind) (rule : PoolRule) → is_said (pool_changed v pool class kind rule) ≡ false
settings_not v pool class kind rule = test_not (is_pool rule) (Ok (work.Commit (change.Pool (store.Pool v pool class kind rule)))) (Err bad_value) refl refl

archive_not : (v : Verb) (domain set class : List ℕ) (rule : ArchiveRule) → is_said (archive_changed v domain set class rule) ≡ false
archive_not v domain set class rule = test_not (is_archive_rule rule) (Ok (work.Commit (change.Policy (policy.ArchiveGroup v domain set class rule)))) (Err bad_value) refl refl

run_not : (answers : List Answer) → is_said (run_found answers) ≡ false
run_not answers = found_not (number_found answers) (λ number. run (number ∷ [])) (λ number. refl)

filespace_not : (name : List ℕ) (answers : List Answer) → is_said (run_filespace name answers) ≡ false
filespace_not name answers = found_not (filespace_named name answers) (λ f. run (f.number ∷ [])) (λ f. refl)

rule_not : (g : GroupUpdate) (old : BackupRule) (answers : List Answer) → is_said (update_rule g old answers) ≡ false
rule_not g old answers =
    found_not (destination_for g.destination old.destination answers) (λ d. group_changed verb.Update g.domain g.set g.class (other_rule g old d)) (λ d. group_not verb.Update g.domain g.set g.class (other_rule g old d))

archive_rule_not : (g : ArchiveUpdate) (old : ArchiveRule) (answers : List Answer) → is_said (update_archive_rule g old answers) ≡ false
archive_rule_not g old answers =
    found_not (destination_for g.destination old.destination answers) (λ d. archive_changed verb.Update g.domain g.set g.class (other_archive g old d)) (λ d. archive_not verb.Update g.domain g.set g.class (other_archive g old d))

update_not : (u : PoolUpdate) (old : PoolLine) (answers : List Answer) → is_said (update_settings u old answers) ≡ false
update_not u old answers =
    found_not (next_for u.next old.settings.next answers) (λ next. pool_changed verb.Update u.pool old.class old.kind (other_settings u old.settings next)) (λ next. settings_not verb.Update u.pool old.class old.kind (other_settings u old.settings next))

update_found_not : (u : PoolUpdate) (old : PoolLine) (answers : List Answer) → is_said (update_found u old answers) ≡ false
update_found_not u old answers =
    test_not (collocates_disk u old) (Err bad_value) (update_settings u old answers) refl (update_not u old answers)

class_not : (class : List ℕ) (capacity : Option ℕ) → is_said (class_deleted class capacity) ≡ false
class_not class None = refl
class_not class (Some capacity) = refl

volume_not : (volume : List ℕ) (pool : ℕ) (capacity : Option ℕ) → is_said (new_volume volume pool capacity) ≡ false
volume_not volume pool None = refl
volume_not volume pool (Some capacity) = refl

-- what may not be is BadHierarchy
test_said : (b : Bool) (numbers : List ℕ) → is_said (if b then run numbers else Err BadHierarchy) ≡ not b
test_said true numbers = refl
test_said false numbers = refl

parts_said : (file : ℕ) (own to : Option PoolLine) → is_said (if_found own (λ o. if_found to (λ t. moved file o t))) ≡ parts own to
parts_said file None to = refl
parts_said file (Some own) None = refl
parts_said file (Some own) (Some to) = test_said (may_move own to) (file ∷ to.number ∷ [])

leaves_said : (v : Option VolumeLine) (name : List ℕ) (answers : List Answer) → is_said (if_found v (λ v. moved_from v name answers)) ≡ leaves_from v name answers
leaves_said None name answers = refl
leaves_said (Some v) name answers = parts_said v.file (pool_called v.pool answers) (pool_named name answers)

move_said : (to : Option (List ℕ)) (answers : List Answer) → is_said (move_data to answers) ≡ leaves to answers
move_said None answers = found_not (number_found answers) (λ file. run (file ∷ 0 ∷ [])) (λ file. refl)
move_said (Some name) answers = leaves_said (the_volume answers) name (behind answers)

migrate_said : (m : Migration) (p : Option PoolLine) → is_said (if_found p (λ p. if is_some p.settings.next then run (p.number ∷ unwrap_or m.low p.settings.low ∷ []) else Err BadHierarchy)) ≡ ends_there p
migrate_said m None = refl
migrate_said m (Some p) = test_said (is_some p.settings.next) (p.number ∷ unwrap_or m.low p.settings.low ∷ [])

in_not : (class : Option (List ℕ)) (answers : List Answer) → is_said (run_in class answers) ≡ false
in_not None answers = refl
in_not (Some class) answers = found_not (device_found answers) (λ device. run []) (λ device. refl)

policy_not : (c : PolicyCommand) (answers : List Answer) → is_said (policy_work c answers) ≡ false
policy_not (DeleteDomain d) answers = found_not (domain_named d.domain answers) (λ old. policies (policy.Domain verb.Delete d.domain old.back_retention)) (λ old. refl)
policy_not (ValidateSet s) answers = found_not (set_named s.set answers) (λ set. run []) (λ set. refl)
policy_not _ answers = refl

classes_not : (c : ClassCommand) (answers : List Answer) → is_said (class_work c answers) ≡ false
classes_not (DefineArchiveGroup g) answers =
    found_not (number_found answers) (λ d. archive_changed verb.Define g.domain g.set g.class (new_archive g d)) (λ d. archive_not verb.Define g.domain g.set g.class (new_archive g d))
classes_not (DeleteArchiveGroup c) answers =
    found_not (archive_of c.class answers) (λ old. archive_changed verb.Delete c.domain c.set c.class old) (λ old. archive_not verb.Delete c.domain c.set c.class old)
classes_not (UpdateArchiveGroup g) answers = found_not (archive_of g.class answers) (λ old. update_archive_rule g old (behind answers)) (λ old. archive_rule_not g old (behind answers))
classes_not (DefineGroup g) answers =
    found_not (number_found answers) (λ d. group_changed verb.Define g.domain g.set g.class (new_rule g d)) (λ d. group_not verb.Define g.domain g.set g.class (new_rule g d))
classes_not (DeleteGroup c) answers =
    found_not (group_of c.class answers) (λ old. group_changed verb.Delete c.domain c.set c.class old.rule) (λ old. group_not verb.Delete c.domain c.set c.class old.rule)
classes_not (UpdateGroup g) answers = found_not (group_of g.class answers) (λ old. update_rule g old.rule (behind answers)) (λ old. rule_not g old.rule (behind answers))
classes_not _ answers = refl

nodes_not : (c : NodeCommand) (answers : List Answer) → is_said (node_work c answers) ≡ false
nodes_not (DeleteFilespace f) answers = filespace_not f.filespace answers
nodes_not (QueryArchive f) answers = found_not (filespace_named f.filespace answers) (λ f. show (query.Held f.number)) (λ f. refl)
nodes_not (RemoveNode n) answers = found_not (node_named n.node answers) (λ old. clients (client.Node two.Delete n.node old.domain)) (λ old. refl)
nodes_not _ answers = refl

pools_not : (c : PoolCommand) (answers : List Answer) → is_said (pool_work c answers) ≡ breaks_hierarchy (commands.Pool c) answers
pools_not (BackupPool b) answers =
    found_not (number_found answers) (λ primary. if_found (number_found (behind answers)) (λ copy. run (primary ∷ copy ∷ []))) (λ primary.
    found_not (number_found (behind answers)) (λ copy. run (primary ∷ copy ∷ [])) (λ copy. refl))
pools_not (DefinePool d) answers =
    test_not (is_definition d) (if_found (next_found d.next answers) (λ next. pool_changed verb.Define d.pool d.class d.kind (new_settings d next))) (Err bad_value)
    (found_not (next_found d.next answers) (λ next. pool_changed verb.Define d.pool d.class d.kind (new_settings d next)) (λ next. settings_not verb.Define d.pool d.class d.kind (new_settings d next)))
    refl
pools_not (DeleteDevClass c) answers = found_not (device_found answers) (λ device. class_deleted c.class device) (λ device. class_not c.class device)
pools_not (DeletePool p) answers =
    found_not (the_pool answers) (λ old. pool_changed verb.Delete p.pool old.class old.kind old.settings) (λ old. settings_not verb.Delete p.pool old.class old.kind old.settings)
pools_not (MigratePool m) answers = migrate_said m (the_pool answers)
pools_not (ReclaimPool r) answers = found_not (the_pool answers) (λ p. run (p.number ∷ unwrap_or r.threshold p.settings.reclaim ∷ [])) (λ p. refl)
pools_not (RestorePool p) answers = run_not answers
pools_not (UpdatePool u) answers =
    test_not (is_ordered u.low u.high) (if_found (the_pool answers) (λ old. update_found u old (behind answers))) (Err bad_value)
    (found_not (the_pool answers) (λ old. update_found u old (behind answers)) (λ old. update_found_not u old (behind answers)))
    refl
pools_not _ answers = refl

deleted_not : (discards : Bool) (volume : List ℕ) (answers : List Answer) → is_said (if discards then run_found answers else delete_volume volume answers) ≡ false
deleted_not true volume answers = run_not answers
deleted_not false volume answers =
    found_not (the_volume answers) (λ old. if_found (pool_called old.pool (behind answers)) (λ p. volume_deleted volume p.number old)) (λ old.
    found_not (pool_called old.pool (behind answers)) (λ p. volume_deleted volume p.number old) (λ p. refl))

volumes_not : (c : VolumeCommand) (answers : List Answer) → is_said (volume_work c answers) ≡ breaks_hierarchy (commands.Volume c) answers
volumes_not (AuditVolume a) answers = run_not answers
volumes_not (DefineVolume d) answers =
    found_not (the_pool answers) (λ p. if_found (device_named p.class (behind answers)) (λ device. new_volume d.volume p.number (capacity_for device.capacity d.format_size))) (λ p.
    found_not (device_named p.class (behind answers)) (λ device. new_volume d.volume p.number (capacity_for device.capacity d.format_size)) (λ device.
    volume_not d.volume p.number (capacity_for device.capacity d.format_size)))
volumes_not (DeleteVolume d) answers = deleted_not d.discard_data d.volume answers
volumes_not (MoveData m) answers = move_said m.pool answers
volumes_not (RestoreVolume v) answers = run_not answers
volumes_not (UpdateVolume u) answers =
    found_not (the_volume answers) (λ old. if_found (pool_called old.pool (behind answers)) (λ p. access_changed u p.number old)) (λ old.
    found_not (pool_called old.pool (behind answers)) (λ p. access_changed u p.number old) (λ p. refl))
volumes_not _ answers = refl

files_not : (c : FileCommand) (answers : List Answer) → is_said (file_work c answers) ≡ false
files_not (ArchiveFiles a) answers = run_not answers
files_not (Incremental i) answers = run_not answers
files_not (Put p) answers = run_not answers
files_not (RestoreFiles r) answers = filespace_not r.filespace answers
files_not (RetrieveFiles r) answers = filespace_not r.filespace answers
files_not _ answers = refl

database_not : (c : DatabaseCommand) (answers : List Answer) → is_said (database_work c answers) ≡ false
database_not (BackupDatabase b) answers = in_not b.dev_class answers
database_not _ answers = refl

-- a command is refused so exactly where it would break a hierarchy
command_not : (c : Command) (answers : List Answer) → is_said (work_of c answers) ≡ breaks_hierarchy c answers
command_not (commands.Policy c) answers = policy_not c answers
command_not (commands.Class c) answers = classes_not c answers
command_not (commands.Node c) answers = nodes_not c answers
command_not (commands.Pool c) answers = pools_not c answers
command_not (commands.Volume c) answers = volumes_not c answers
command_not (commands.File c) answers = files_not c answers
command_not (commands.Database c) answers = database_not c answers
command_not (commands.Block c) answers = refl

-- an answer that is what is said of a command is BadHierarchy exactly there
pub breaking : (c : Command) (answers : List Answer) (r : Result Work Refusal) → Answers r (work_of c answers) → Comes r BadHierarchy (breaks_hierarchy c answers)
breaking c answers (Ok x) said = sym (subst (λ s. is_said s ≡ breaks_hierarchy c answers) said (command_not c answers))
breaking c answers (Err e) (inl memory) = inl memory
breaking c answers (Err e) (inr same) = inr (subst (λ s. is_said s ≡ breaks_hierarchy c answers) same (command_not c answers))
