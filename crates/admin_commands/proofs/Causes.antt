-- When a command is refused with NotFound, and when with BadValue.
use Rattle.std.proofs.Common.{◌≡◌, inl, inr, ℕ, Bool, true, false, is_some, unwrap_or, List, [], ◌∷◌, Option, Some, None, Result, Ok, Err, not, ◌==◌, ◌&&◌, ◌||◌, is_none, ap, ◌∙◌, if◌then◌else◌, refl, sym, subst}
use Rattle.std.specs.Option.{option_map}
use Rattle.kinds.specs.Answers.{Answers}
use Rattle.kinds.specs.Pools.{is_pool}
use Rattle.kinds.specs.Refusals.{bad_value, number_of}
use Rattle.kinds.specs.Rules.{is_archive_rule, is_rule}
use Rattle.kinds.specs.declared.change.DefineOrDelete.TheVariants as two
use Rattle.kinds.specs.declared.change.ObjectChange.TheVariants as client
use Rattle.kinds.specs.declared.change.PolicyChange.TheVariants as policy
use Rattle.kinds.specs.declared.change.PoolChange.TheVariants as store
use Rattle.kinds.specs.declared.change.Verb.{Verb}
use Rattle.kinds.specs.declared.change.Verb.TheVariants as verb
use Rattle.kinds.specs.declared.pool.PoolKind.{PoolKind}
use Rattle.kinds.specs.declared.pool.PoolRule.{PoolRule}
use Rattle.kinds.specs.declared.refusal.Refusal.{Refusal}
use Rattle.kinds.specs.declared.refusal.Refusal.TheVariants.{NotFound, BadHierarchy}
use Rattle.kinds.specs.declared.rule.ArchiveRule.{ArchiveRule}
use Rattle.kinds.specs.declared.rule.BackupRule.{BackupRule}
use Rattle.entries.specs.declared.change.Change.TheVariants as change
use Rattle.inventory_rows.specs.version_groups.Entries.{if_found}
use Rattle.inventory_answers.specs.declared.lines.PoolLine.{PoolLine}
use Rattle.inventory_answers.specs.declared.lines.VolumeLine.{VolumeLine}
use Rattle.inventory_answers.specs.declared.query.Query.TheVariants as query
use Rattle.inventory_answers.specs.declared.reply.Answer.{Answer}
use Rattle.admin_words.specs.declared.policy.ArchiveUpdate.{ArchiveUpdate}
use Rattle.admin_words.specs.declared.policy.GroupUpdate.{GroupUpdate}
use Rattle.admin_words.specs.declared.pools.Migration.{Migration}
use Rattle.admin_words.specs.declared.pools.PoolUpdate.{PoolUpdate}
use Rattle.admin_words.specs.declared.command.Command.{Command}
use Rattle.admin_words.specs.declared.command.Command.TheVariants as commands
use Rattle.admin_words.specs.declared.command.PolicyCommand.{PolicyCommand}
use Rattle.admin_words.specs.declared.command.PolicyCommand.TheVariants.{DeleteDomain, ValidateSet}
use Rattle.admin_words.specs.declared.command.ClassCommand.{ClassCommand}
use Rattle.admin_words.specs.declared.command.ClassCommand.TheVariants.{DefineArchiveGroup, DefineGroup, DeleteArchiveGroup, DeleteGroup, UpdateArchiveGroup, UpdateGroup}
use Rattle.admin_words.specs.declared.command.NodeCommand.{NodeCommand}
use Rattle.admin_words.specs.declared.command.NodeCommand.TheVariants.{DeleteFilespace, QueryArchive, RemoveNode}
use Rattle.admin_words.specs.declared.command.PoolCommand.{PoolCommand}
use Rattle.admin_words.specs.declared.command.PoolCommand.TheVariants.{BackupPool, DefinePool, DeleteDevClass, DeletePool, MigratePool, ReclaimPool, RestorePool, UpdatePool}
use Rattle.admin_words.specs.declared.command.VolumeCommand.{VolumeCommand}
use Rattle.admin_words.specs.declared.command.VolumeCommand.TheVariants.{AuditVolume, DefineVolume, DeleteVolume, MoveData, RestoreVolume, UpdateVolume}
use Rattle.admin_words.specs.declared.command.FileCommand.{FileCommand}
use Rattle.admin_words.specs.declared.command.FileCommand.TheVariants.{ArchiveFiles, Incremental, Put, RestoreFiles, RetrieveFiles}
use Rattle.admin_words.specs.declared.command.DatabaseCommand.{DatabaseCommand}
use Rattle.admin_words.specs.declared.command.DatabaseCommand.TheVariants.{BackupDatabase}
use Rattle.admin_commands.specs.declared.work.Work.{Work}
use Rattle.admin_commands.specs.declared.work.Work.TheVariants as work
use Rattle.admin_commands.specs.Found.{behind, number_found, device_found, next_found, next_among, domain_named, set_named, archive_of, group_of, node_named, filespace_named, device_named, pool_named, pool_called, the_pool, the_volume}
use Rattle.admin_commands.specs.Policy.{group_changed, new_rule, other_rule, destination_for, update_rule, archive_changed, new_archive, other_archive, update_archive_rule}
use Rattle.admin_commands.specs.Stores.{class_deleted, pool_changed, new_settings, collocates_disk, is_definition, other_settings, is_ordered, next_for, update_settings, update_found, capacity_for, new_volume, access_changed, delete_volume, volume_deleted, may_move, moved, moved_from, move_data}
use Rattle.admin_commands.specs.Orders.{policies, clients, show, run, run_found, run_filespace, run_in, policy_work, class_work, node_work, pool_work, volume_work, file_work, database_work, work_of}
use Rattle.admin_commands.specs.Own.{Comes, lacks_or, if_there, lacks_pool_named, lacks_class_named, lacks_next, lacks_device, lacks_deleted, lacks_move, lacks_policy, lacks_class, lacks_node, lacks_pool, lacks_volume, lacks_file, lacks_database, lacks, misfits_class, misfits_pool, misfits_volume, misfits}

-- the answer is this refusal
abbrev is_said : Refusal → Result Work Refusal → Bool
is_said k (Ok x) = false
is_said k (Err e) = number_of e == number_of k

-- ---- NotFound

-- where something is missing, or what comes then is refused so
found_or : {A : Type 0} (o : Option A) (f : A → Result Work Refusal) (b : A → Bool) → ((x : A) → is_said NotFound (f x) ≡ b x) → is_said NotFound (if_found o f) ≡ lacks_or o b
found_or None f b h = refl
found_or (Some x) f b h = h x

found_two : {A : Type 0} (o : Option A) (f : A → Result Work Refusal) (b : Bool) → ((x : A) → is_said NotFound (f x) ≡ b) → is_said NotFound (if_found o f) ≡ (is_none o || b)
found_two None f b h = refl
found_two (Some x) f b h = h x

found_last : {A : Type 0} (o : Option A) (f : A → Result Work Refusal) → ((x : A) → is_said NotFound (f x) ≡ false) → is_said NotFound (if_found o f) ≡ is_none o
found_last None f h = refl
found_last (Some x) f h = h x

test_and : (c b : Bool) (x y : Result Work Refusal) → is_said NotFound x ≡ b → is_said NotFound y ≡ false → is_said NotFound (if c then x else y) ≡ (c && b)
test_and true b x y h k = h
test_and false b x y h k = k

test_unless : (c b : Bool) (x y : Result Work Refusal) → is_said NotFound x ≡ false → is_said NotFound y ≡ b → is_said NotFound (if c then x else y) ≡ (not c && b)
test_unless true b x y h k = h
test_unless false b x y h k = k

test_none : (c : Bool) (x y : Result Work Refusal) → is_said NotFound x ≡ false → is_said NotFound y ≡ false → is_said NotFound (if c then x else y) ≡ false
test_none true x y h k = h
test_none false x y h k = k

none_mapped : {A B : Type 0} (f : A → B) (o : Option A) → is_none (option_map f o) ≡ is_none o
none_mapped f None = refl
none_mapped f (Some x) = refl

group_none : (v : Verb) (domain set class : List ℕ) (rule : BackupRule) → is_said NotFound (group_changed v domain set class rule) ≡ false
group_none v domain set class rule = test_none (is_rule rule) (Ok (work.Commit (change.Policy (policy.Group v domain set class rule)))) (Err bad_value) refl refl

archive_none : (v : Verb) (domain set class : List ℕ) (rule : ArchiveRule) → is_said NotFound (archive_changed v domain set class rule) ≡ false
archive_none v domain set class rule = test_none (is_archive_rule rule) (Ok (work.Commit (change.Policy (policy.ArchiveGroup v domain set class rule)))) (Err bad_value) refl refl

settings_none : (v : Verb) (pool class : List ℕ) (kind : PoolKind) (rule : PoolRule) → is_said NotFound (pool_changed v pool class kind rule) ≡ false
settings_none v pool class kind rule = test_none (is_pool rule) (Ok (work.Commit (change.Pool (store.Pool v pool class kind rule)))) (Err bad_value) refl refl

-- the destination is missing where one is named and isn't there
destination_none : (name : Option (List ℕ)) (old : ℕ) (answers : List Answer) → is_none (destination_for name old answers) ≡ lacks_pool_named name answers
destination_none None old answers = refl
destination_none (Some name) old answers = refl

rule_none : (g : GroupUpdate) (old : BackupRule) (answers : List Answer) → is_said NotFound (update_rule g old answers) ≡ lacks_pool_named g.destination answers
rule_none g old answers =
    found_last (destination_for g.destination old.destination answers) (λ d. group_changed verb.Update g.domain g.set g.class (other_rule g old d)) (λ d. group_none verb.Update g.domain g.set g.class (other_rule g old d))
    ∙ destination_none g.destination old.destination answers

archive_rule_none : (g : ArchiveUpdate) (old : ArchiveRule) (answers : List Answer) → is_said NotFound (update_archive_rule g old answers) ≡ lacks_pool_named g.destination answers
archive_rule_none g old answers =
    found_last (destination_for g.destination old.destination answers) (λ d. archive_changed verb.Update g.domain g.set g.class (other_archive g old d)) (λ d. archive_none verb.Update g.domain g.set g.class (other_archive g old d))
    ∙ destination_none g.destination old.destination answers

next_none : (name : Option (List ℕ)) (answers : List Answer) → is_none (next_found name answers) ≡ lacks_pool_named name answers
next_none None answers = refl
next_none (Some name) answers = none_mapped Some (number_found answers)

next_for_none : (next : Option (Option (List ℕ))) (old : Option ℕ) (answers : List Answer) → is_none (next_for next old answers) ≡ lacks_next next answers
next_for_none None old answers = refl
next_for_none (Some None) old answers = refl
next_for_none (Some (Some name)) old answers = none_mapped (λ (p : PoolLine). Some p.number) (pool_named name answers)

update_none : (u : PoolUpdate) (old : PoolLine) (answers : List Answer) → is_said NotFound (update_found u old answers) ≡ (not (collocates_disk u old) && lacks_next u.next answers)
update_none u old answers =
    test_unless (collocates_disk u old) (lacks_next u.next answers) (Err bad_value) (update_settings u old answers) refl
    (found_last (next_for u.next old.settings.next answers) (λ next. pool_changed verb.Update u.pool old.class old.kind (other_settings u old.settings next)) (λ next. settings_none verb.Update u.pool old.class old.kind (other_settings u old.settings next))
    ∙ next_for_none u.next old.settings.next answers)

device_none : (class : List ℕ) (device : Option (Option ℕ)) → is_said NotFound (if_found device (λ device. class_deleted class device)) ≡ lacks_device device
device_none class None = refl
device_none class (Some None) = refl
device_none class (Some (Some capacity)) = refl

volume_none : (volume : List ℕ) (pool : ℕ) (capacity : Option ℕ) → is_said NotFound (new_volume volume pool capacity) ≡ false
volume_none volume pool None = refl
volume_none volume pool (Some capacity) = refl

move_none : (to : Option (List ℕ)) (answers : List Answer) → is_said NotFound (move_data to answers) ≡ lacks_move to answers
move_none None answers = found_last (number_found answers) (λ file. run (file ∷ 0 ∷ [])) (λ file. refl)
move_none (Some name) answers =
    found_or (the_volume answers) (λ v. moved_from v name (behind answers)) (λ v. is_none (pool_called v.pool (behind answers)) || is_none (pool_named name (behind answers))) (λ v.
    found_two (pool_called v.pool (behind answers)) (λ own. if_found (pool_named name (behind answers)) (λ to. moved v.file own to)) (is_none (pool_named name (behind answers))) (λ own.
    found_last (pool_named name (behind answers)) (λ to. moved v.file own to) (λ to.
    test_none (may_move own to) (run (v.file ∷ to.number ∷ [])) (Err BadHierarchy) refl refl)))

in_none : (class : Option (List ℕ)) (answers : List Answer) → is_said NotFound (run_in class answers) ≡ lacks_class_named class answers
in_none None answers = refl
in_none (Some class) answers = found_last (device_found answers) (λ device. run []) (λ device. refl)

run_none : (answers : List Answer) → is_said NotFound (run_found answers) ≡ is_none (number_found answers)
run_none answers = found_last (number_found answers) (λ number. run (number ∷ [])) (λ number. refl)

filespace_none : (name : List ℕ) (answers : List Answer) → is_said NotFound (run_filespace name answers) ≡ is_none (filespace_named name answers)
filespace_none name answers = found_last (filespace_named name answers) (λ f. run (f.number ∷ [])) (λ f. refl)

policy_lacks : (c : PolicyCommand) (answers : List Answer) → is_said NotFound (policy_work c answers) ≡ lacks_policy c answers
policy_lacks (DeleteDomain d) answers = found_last (domain_named d.domain answers) (λ old. policies (policy.Domain verb.Delete d.domain old.back_retention)) (λ old. refl)
policy_lacks (ValidateSet s) answers = found_last (set_named s.set answers) (λ set. run []) (λ set. refl)
policy_lacks _ answers = refl

class_lacks : (c : ClassCommand) (answers : List Answer) → is_said NotFound (class_work c answers) ≡ lacks_class c answers
class_lacks (DefineArchiveGroup g) answers =
    found_last (number_found answers) (λ d. archive_changed verb.Define g.domain g.set g.class (new_archive g d)) (λ d. archive_none verb.Define g.domain g.set g.class (new_archive g d))
class_lacks (DefineGroup g) answers =
    found_last (number_found answers) (λ d. group_changed verb.Define g.domain g.set g.class (new_rule g d)) (λ d. group_none verb.Define g.domain g.set g.class (new_rule g d))
class_lacks (DeleteArchiveGroup c) answers =
    found_last (archive_of c.class answers) (λ old. archive_changed verb.Delete c.domain c.set c.class old) (λ old. archive_none verb.Delete c.domain c.set c.class old)
class_lacks (DeleteGroup c) answers =
    found_last (group_of c.class answers) (λ old. group_changed verb.Delete c.domain c.set c.class old.rule) (λ old. group_none verb.Delete c.domain c.set c.class old.rule)
class_lacks (UpdateArchiveGroup g) answers =
    found_two (archive_of g.class answers) (λ old. update_archive_rule g old (behind answers)) (lacks_pool_named g.destination (behind answers)) (λ old. archive_rule_none g old (behind answers))
class_lacks (UpdateGroup g) answers =
    found_two (group_of g.class answers) (λ old. update_rule g old.rule (behind answers)) (lacks_pool_named g.destination (behind answers)) (λ old. rule_none g old.rule (behind answers))
class_lacks _ answers = refl

node_lacks : (c : NodeCommand) (answers : List Answer) → is_said NotFound (node_work c answers) ≡ lacks_node c answers
node_lacks (DeleteFilespace f) answers = filespace_none f.filespace answers
node_lacks (QueryArchive f) answers = found_last (filespace_named f.filespace answers) (λ f. show (query.Held f.number)) (λ f. refl)
node_lacks (RemoveNode n) answers = found_last (node_named n.node answers) (λ old. clients (client.Node two.Delete n.node old.domain)) (λ old. refl)
node_lacks _ answers = refl

pool_lacks : (c : PoolCommand) (answers : List Answer) → is_said NotFound (pool_work c answers) ≡ lacks_pool c answers
pool_lacks (BackupPool b) answers =
    found_two (number_found answers) (λ primary. if_found (number_found (behind answers)) (λ copy. run (primary ∷ copy ∷ []))) (is_none (number_found (behind answers))) (λ primary.
    found_last (number_found (behind answers)) (λ copy. run (primary ∷ copy ∷ [])) (λ copy. refl))
pool_lacks (DefinePool d) answers =
    test_and (is_definition d) (lacks_pool_named d.next answers) (if_found (next_found d.next answers) (λ next. pool_changed verb.Define d.pool d.class d.kind (new_settings d next))) (Err bad_value)
    (found_last (next_found d.next answers) (λ next. pool_changed verb.Define d.pool d.class d.kind (new_settings d next)) (λ next. settings_none verb.Define d.pool d.class d.kind (new_settings d next)) ∙ next_none d.next answers)
    refl
pool_lacks (DeleteDevClass c) answers = device_none c.class (device_found answers)
pool_lacks (DeletePool p) answers =
    found_last (the_pool answers) (λ old. pool_changed verb.Delete p.pool old.class old.kind old.settings) (λ old. settings_none verb.Delete p.pool old.class old.kind old.settings)
pool_lacks (MigratePool m) answers =
    found_last (the_pool answers) (λ p. if is_some p.settings.next then run (p.number ∷ unwrap_or m.low p.settings.low ∷ []) else Err BadHierarchy) (λ p.
    test_none (is_some p.settings.next) (run (p.number ∷ unwrap_or m.low p.settings.low ∷ [])) (Err BadHierarchy) refl refl)
pool_lacks (ReclaimPool r) answers = found_last (the_pool answers) (λ p. run (p.number ∷ unwrap_or r.threshold p.settings.reclaim ∷ [])) (λ p. refl)
pool_lacks (RestorePool p) answers = run_none answers
pool_lacks (UpdatePool u) answers =
    test_and (is_ordered u.low u.high) (lacks_or (the_pool answers) (λ old. not (collocates_disk u old) && lacks_next u.next (behind answers))) (if_found (the_pool answers) (λ old. update_found u old (behind answers))) (Err bad_value)
    (found_or (the_pool answers) (λ old. update_found u old (behind answers)) (λ old. not (collocates_disk u old) && lacks_next u.next (behind answers)) (λ old. update_none u old (behind answers)))
    refl
pool_lacks _ answers = refl

deleted_none : (discards : Bool) (volume : List ℕ) (answers : List Answer) → is_said NotFound (if discards then run_found answers else delete_volume volume answers) ≡ lacks_deleted discards answers
deleted_none true volume answers = run_none answers
deleted_none false volume answers =
    found_or (the_volume answers) (λ old. if_found (pool_called old.pool (behind answers)) (λ p. volume_deleted volume p.number old)) (λ v. is_none (pool_called v.pool (behind answers))) (λ old.
    found_last (pool_called old.pool (behind answers)) (λ p. volume_deleted volume p.number old) (λ p. refl))

volume_lacks : (c : VolumeCommand) (answers : List Answer) → is_said NotFound (volume_work c answers) ≡ lacks_volume c answers
volume_lacks (AuditVolume a) answers = run_none answers
volume_lacks (DefineVolume d) answers =
    found_or (the_pool answers) (λ p. if_found (device_named p.class (behind answers)) (λ device. new_volume d.volume p.number (capacity_for device.capacity d.format_size))) (λ p. is_none (device_named p.class (behind answers))) (λ p.
    found_last (device_named p.class (behind answers)) (λ device. new_volume d.volume p.number (capacity_for device.capacity d.format_size)) (λ device.
    volume_none d.volume p.number (capacity_for device.capacity d.format_size)))
volume_lacks (DeleteVolume d) answers = deleted_none d.discard_data d.volume answers
volume_lacks (MoveData m) answers = move_none m.pool answers
volume_lacks (RestoreVolume v) answers = run_none answers
volume_lacks (UpdateVolume u) answers =
    found_or (the_volume answers) (λ old. if_found (pool_called old.pool (behind answers)) (λ p. access_changed u p.number old)) (λ v. is_none (pool_called v.pool (behind answers))) (λ old.
    found_last (pool_called old.pool (behind answers)) (λ p. access_changed u p.number old) (λ p. refl))
volume_lacks _ answers = refl

file_lacks : (c : FileCommand) (answers : List Answer) → is_said NotFound (file_work c answers) ≡ lacks_file c answers
file_lacks (ArchiveFiles a) answers = run_none answers
file_lacks (Incremental i) answers = run_none answers
file_lacks (Put p) answers = run_none answers
file_lacks (RestoreFiles r) answers = filespace_none r.filespace answers
file_lacks (RetrieveFiles r) answers = filespace_none r.filespace answers
file_lacks _ answers = refl

database_lacks : (c : DatabaseCommand) (answers : List Answer) → is_said NotFound (database_work c answers) ≡ lacks_database c answers
database_lacks (BackupDatabase b) answers = in_none b.dev_class answers
database_lacks _ answers = refl

-- a command is refused so exactly where something that it names isn't in the answers
command_lacks : (c : Command) (answers : List Answer) → is_said NotFound (work_of c answers) ≡ lacks c answers
command_lacks (commands.Policy c) answers = policy_lacks c answers
command_lacks (commands.Class c) answers = class_lacks c answers
command_lacks (commands.Node c) answers = node_lacks c answers
command_lacks (commands.Pool c) answers = pool_lacks c answers
command_lacks (commands.Volume c) answers = volume_lacks c answers
command_lacks (commands.File c) answers = file_lacks c answers
command_lacks (commands.Database c) answers = database_lacks c answers
command_lacks (commands.Block c) answers = refl

-- ---- BadValue

found_bad : {A : Type 0} (o : Option A) (f : A → Result Work Refusal) (b : A → Bool) → ((x : A) → is_said bad_value (f x) ≡ b x) → is_said bad_value (if_found o f) ≡ if_there o b
found_bad None f b h = refl
found_bad (Some x) f b h = h x

found_good : {A : Type 0} (o : Option A) (f : A → Result Work Refusal) → ((x : A) → is_said bad_value (f x) ≡ false) → is_said bad_value (if_found o f) ≡ false
found_good None f h = refl
found_good (Some x) f h = h x

-- what fails a test is refused so, and so may be what passes it
test_or : (c b : Bool) (x : Result Work Refusal) → is_said bad_value x ≡ b → is_said bad_value (if c then x else Err bad_value) ≡ (not c || b)
test_or true b x h = h
test_or false b x h = refl

test_if : (c b : Bool) (x : Result Work Refusal) → is_said bad_value x ≡ b → is_said bad_value (if c then Err bad_value else x) ≡ (c || b)
test_if true b x h = refl
test_if false b x h = h

test_alone : (c : Bool) (w : Work) → is_said bad_value (if c then Ok w else Err bad_value) ≡ not c
test_alone true w = refl
test_alone false w = refl

test_good : (c : Bool) (x y : Result Work Refusal) → is_said bad_value x ≡ false → is_said bad_value y ≡ false → is_said bad_value (if c then x else y) ≡ false
test_good true x y h k = h
test_good false x y h k = k

group_bad : (v : Verb) (domain set class : List ℕ) (rule : BackupRule) → is_said bad_value (group_changed v domain set class rule) ≡ not (is_rule rule)
group_bad v domain set class rule = test_alone (is_rule rule) (work.Commit (change.Policy (policy.Group v domain set class rule)))

archive_bad : (v : Verb) (domain set class : List ℕ) (rule : ArchiveRule) → is_said bad_value (archive_changed v domain set class rule) ≡ not (is_archive_rule rule)
archive_bad v domain set class rule = test_alone (is_archive_rule rule) (work.Commit (change.Policy (policy.ArchiveGroup v domain set class rule)))

settings_bad : (v : Verb) (pool class : List ℕ) (kind : PoolKind) (rule : PoolRule) → is_said bad_value (pool_changed v pool class kind rule) ≡ not (is_pool rule)
settings_bad v pool class kind rule = test_alone (is_pool rule) (work.Commit (change.Pool (store.Pool v pool class kind rule)))

rule_bad : (g : GroupUpdate) (old : BackupRule) (answers : List Answer) → is_said bad_value (update_rule g old answers) ≡ if_there (destination_for g.destination old.destination answers) (λ d. not (is_rule (other_rule g old d)))
rule_bad g old answers =
    found_bad (destination_for g.destination old.destination answers) (λ d. group_changed verb.Update g.domain g.set g.class (other_rule g old d)) (λ d. not (is_rule (other_rule g old d))) (λ d. group_bad verb.Update g.domain g.set g.class (other_rule g old d))

archive_rule_bad : (g : ArchiveUpdate) (old : ArchiveRule) (answers : List Answer) → is_said bad_value (update_archive_rule g old answers) ≡ if_there (destination_for g.destination old.destination answers) (λ d. not (is_archive_rule (other_archive g old d)))
archive_rule_bad g old answers =
    found_bad (destination_for g.destination old.destination answers) (λ d. archive_changed verb.Update g.domain g.set g.class (other_archive g old d)) (λ d. not (is_archive_rule (other_archive g old d))) (λ d. archive_bad verb.Update g.domain g.set g.class (other_archive g old d))

update_bad : (u : PoolUpdate) (old : PoolLine) (answers : List Answer) → is_said bad_value (update_found u old answers) ≡ (collocates_disk u old || if_there (next_for u.next old.settings.next answers) (λ next. not (is_pool (other_settings u old.settings next))))
update_bad u old answers =
    test_if (collocates_disk u old) (if_there (next_for u.next old.settings.next answers) (λ next. not (is_pool (other_settings u old.settings next)))) (update_settings u old answers)
    (found_bad (next_for u.next old.settings.next answers) (λ next. pool_changed verb.Update u.pool old.class old.kind (other_settings u old.settings next)) (λ next. not (is_pool (other_settings u old.settings next))) (λ next. settings_bad verb.Update u.pool old.class old.kind (other_settings u old.settings next)))

class_good : (class : List ℕ) (capacity : Option ℕ) → is_said bad_value (class_deleted class capacity) ≡ false
class_good class None = refl
class_good class (Some capacity) = refl

volume_bad : (volume : List ℕ) (pool : ℕ) (capacity : Option ℕ) → is_said bad_value (new_volume volume pool capacity) ≡ is_none capacity
volume_bad volume pool None = refl
volume_bad volume pool (Some capacity) = refl

move_good : (to : Option (List ℕ)) (answers : List Answer) → is_said bad_value (move_data to answers) ≡ false
move_good None answers = found_good (number_found answers) (λ file. run (file ∷ 0 ∷ [])) (λ file. refl)
move_good (Some name) answers =
    found_good (the_volume answers) (λ v. moved_from v name (behind answers)) (λ v.
    found_good (pool_called v.pool (behind answers)) (λ own. if_found (pool_named name (behind answers)) (λ to. moved v.file own to)) (λ own.
    found_good (pool_named name (behind answers)) (λ to. moved v.file own to) (λ to.
    test_good (may_move own to) (run (v.file ∷ to.number ∷ [])) (Err BadHierarchy) refl refl)))

in_good : (class : Option (List ℕ)) (answers : List Answer) → is_said bad_value (run_in class answers) ≡ false
in_good None answers = refl
in_good (Some class) answers = found_good (device_found answers) (λ device. run []) (λ device. refl)

run_good : (answers : List Answer) → is_said bad_value (run_found answers) ≡ false
run_good answers = found_good (number_found answers) (λ number. run (number ∷ [])) (λ number. refl)

filespace_good : (name : List ℕ) (answers : List Answer) → is_said bad_value (run_filespace name answers) ≡ false
filespace_good name answers = found_good (filespace_named name answers) (λ f. run (f.number ∷ [])) (λ f. refl)

policy_good : (c : PolicyCommand) (answers : List Answer) → is_said bad_value (policy_work c answers) ≡ false
policy_good (DeleteDomain d) answers = found_good (domain_named d.domain answers) (λ old. policies (policy.Domain verb.Delete d.domain old.back_retention)) (λ old. refl)
policy_good (ValidateSet s) answers = found_good (set_named s.set answers) (λ set. run []) (λ set. refl)
policy_good _ answers = refl

class_misfits : (c : ClassCommand) (answers : List Answer) → is_said bad_value (class_work c answers) ≡ misfits_class c answers
class_misfits (DefineArchiveGroup g) answers =
    found_bad (number_found answers) (λ d. archive_changed verb.Define g.domain g.set g.class (new_archive g d)) (λ d. not (is_archive_rule (new_archive g d))) (λ d. archive_bad verb.Define g.domain g.set g.class (new_archive g d))
class_misfits (DefineGroup g) answers =
    found_bad (number_found answers) (λ d. group_changed verb.Define g.domain g.set g.class (new_rule g d)) (λ d. not (is_rule (new_rule g d))) (λ d. group_bad verb.Define g.domain g.set g.class (new_rule g d))
class_misfits (DeleteArchiveGroup c) answers =
    found_bad (archive_of c.class answers) (λ old. archive_changed verb.Delete c.domain c.set c.class old) (λ old. not (is_archive_rule old)) (λ old. archive_bad verb.Delete c.domain c.set c.class old)
class_misfits (DeleteGroup c) answers =
    found_bad (group_of c.class answers) (λ old. group_changed verb.Delete c.domain c.set c.class old.rule) (λ old. not (is_rule old.rule)) (λ old. group_bad verb.Delete c.domain c.set c.class old.rule)
class_misfits (UpdateArchiveGroup g) answers =
    found_bad (archive_of g.class answers) (λ old. update_archive_rule g old (behind answers)) (λ old. if_there (destination_for g.destination old.destination (behind answers)) (λ d. not (is_archive_rule (other_archive g old d)))) (λ old. archive_rule_bad g old (behind answers))
class_misfits (UpdateGroup g) answers =
    found_bad (group_of g.class answers) (λ old. update_rule g old.rule (behind answers)) (λ old. if_there (destination_for g.destination old.rule.destination (behind answers)) (λ d. not (is_rule (other_rule g old.rule d)))) (λ old. rule_bad g old.rule (behind answers))
class_misfits _ answers = refl

node_good : (c : NodeCommand) (answers : List Answer) → is_said bad_value (node_work c answers) ≡ false
node_good (DeleteFilespace f) answers = filespace_good f.filespace answers
node_good (QueryArchive f) answers = found_good (filespace_named f.filespace answers) (λ f. show (query.Held f.number)) (λ f. refl)
node_good (RemoveNode n) answers = found_good (node_named n.node answers) (λ old. clients (client.Node two.Delete n.node old.domain)) (λ old. refl)
node_good _ answers = refl

pool_misfits : (c : PoolCommand) (answers : List Answer) → is_said bad_value (pool_work c answers) ≡ misfits_pool c answers
pool_misfits (BackupPool b) answers =
    found_good (number_found answers) (λ primary. if_found (number_found (behind answers)) (λ copy. run (primary ∷ copy ∷ []))) (λ primary.
    found_good (number_found (behind answers)) (λ copy. run (primary ∷ copy ∷ [])) (λ copy. refl))
pool_misfits (DefinePool d) answers =
    test_or (is_definition d) (if_there (next_found d.next answers) (λ next. not (is_pool (new_settings d next)))) (if_found (next_found d.next answers) (λ next. pool_changed verb.Define d.pool d.class d.kind (new_settings d next)))
    (found_bad (next_found d.next answers) (λ next. pool_changed verb.Define d.pool d.class d.kind (new_settings d next)) (λ next. not (is_pool (new_settings d next))) (λ next. settings_bad verb.Define d.pool d.class d.kind (new_settings d next)))
pool_misfits (DeleteDevClass c) answers = found_good (device_found answers) (λ device. class_deleted c.class device) (λ device. class_good c.class device)
pool_misfits (DeletePool p) answers =
    found_bad (the_pool answers) (λ old. pool_changed verb.Delete p.pool old.class old.kind old.settings) (λ old. not (is_pool old.settings)) (λ old. settings_bad verb.Delete p.pool old.class old.kind old.settings)
pool_misfits (MigratePool m) answers =
    found_good (the_pool answers) (λ p. if is_some p.settings.next then run (p.number ∷ unwrap_or m.low p.settings.low ∷ []) else Err BadHierarchy) (λ p.
    test_good (is_some p.settings.next) (run (p.number ∷ unwrap_or m.low p.settings.low ∷ [])) (Err BadHierarchy) refl refl)
pool_misfits (ReclaimPool r) answers = found_good (the_pool answers) (λ p. run (p.number ∷ unwrap_or r.threshold p.settings.reclaim ∷ [])) (λ p. refl)
pool_misfits (RestorePool p) answers = run_good answers
pool_misfits (UpdatePool u) answers =
    test_or (is_ordered u.low u.high) (if_there (the_pool answers) (λ old. collocates_disk u old || if_there (next_for u.next old.settings.next (behind answers)) (λ next. not (is_pool (other_settings u old.settings next))))) (if_found (the_pool answers) (λ old. update_found u old (behind answers)))
    (found_bad (the_pool answers) (λ old. update_found u old (behind answers)) (λ old. collocates_disk u old || if_there (next_for u.next old.settings.next (behind answers)) (λ next. not (is_pool (other_settings u old.settings next)))) (λ old. update_bad u old (behind answers)))
pool_misfits _ answers = refl

deleted_good : (discards : Bool) (volume : List ℕ) (answers : List Answer) → is_said bad_value (if discards then run_found answers else delete_volume volume answers) ≡ false
deleted_good true volume answers = run_good answers
deleted_good false volume answers =
    found_good (the_volume answers) (λ old. if_found (pool_called old.pool (behind answers)) (λ p. volume_deleted volume p.number old)) (λ old.
    found_good (pool_called old.pool (behind answers)) (λ p. volume_deleted volume p.number old) (λ p. refl))

volume_misfits : (c : VolumeCommand) (answers : List Answer) → is_said bad_value (volume_work c answers) ≡ misfits_volume c answers
volume_misfits (AuditVolume a) answers = run_good answers
volume_misfits (DefineVolume d) answers =
    found_bad (the_pool answers) (λ p. if_found (device_named p.class (behind answers)) (λ device. new_volume d.volume p.number (capacity_for device.capacity d.format_size))) (λ p. if_there (device_named p.class (behind answers)) (λ device. is_none (capacity_for device.capacity d.format_size))) (λ p.
    found_bad (device_named p.class (behind answers)) (λ device. new_volume d.volume p.number (capacity_for device.capacity d.format_size)) (λ device. is_none (capacity_for device.capacity d.format_size)) (λ device.
    volume_bad d.volume p.number (capacity_for device.capacity d.format_size)))
volume_misfits (DeleteVolume d) answers = deleted_good d.discard_data d.volume answers
volume_misfits (MoveData m) answers = move_good m.pool answers
volume_misfits (RestoreVolume v) answers = run_good answers
volume_misfits (UpdateVolume u) answers =
    found_good (the_volume answers) (λ old. if_found (pool_called old.pool (behind answers)) (λ p. access_changed u p.number old)) (λ old.
    found_good (pool_called old.pool (behind answers)) (λ p. access_changed u p.number old) (λ p. refl))
volume_misfits _ answers = refl

file_good : (c : FileCommand) (answers : List Answer) → is_said bad_value (file_work c answers) ≡ false
file_good (ArchiveFiles a) answers = run_good answers
file_good (Incremental i) answers = run_good answers
file_good (Put p) answers = run_good answers
file_good (RestoreFiles r) answers = filespace_good r.filespace answers
file_good (RetrieveFiles r) answers = filespace_good r.filespace answers
file_good _ answers = refl

database_good : (c : DatabaseCommand) (answers : List Answer) → is_said bad_value (database_work c answers) ≡ false
database_good (BackupDatabase b) answers = in_good b.dev_class answers
database_good _ answers = refl

-- a command is refused so exactly where its values don't go together, or with what stands there
command_misfits : (c : Command) (answers : List Answer) → is_said bad_value (work_of c answers) ≡ misfits c answers
command_misfits (commands.Policy c) answers = policy_good c answers
command_misfits (commands.Class c) answers = class_misfits c answers
command_misfits (commands.Node c) answers = node_good c answers
command_misfits (commands.Pool c) answers = pool_misfits c answers
command_misfits (commands.Volume c) answers = volume_misfits c answers
command_misfits (commands.File c) answers = file_good c answers
command_misfits (commands.Database c) answers = database_good c answers
command_misfits (commands.Block c) answers = refl

-- an answer that is what is said of a command is this refusal exactly where that is said
comes : (k : Refusal) (r said : Result Work Refusal) (here : Bool) → Answers r said → is_said k said ≡ here → Comes r k here
comes k (Ok x) said here h e = sym (subst (λ s. is_said k s ≡ here) h e)
comes k (Err x) said here (inl memory) e = inl memory
comes k (Err x) said here (inr same) e = inr (subst (λ s. is_said k s ≡ here) same e)

pub lacking : (c : Command) (answers : List Answer) (r : Result Work Refusal) → Answers r (work_of c answers) → Comes r NotFound (lacks c answers)
lacking c answers r h = comes NotFound r (work_of c answers) (lacks c answers) h (command_lacks c answers)

pub misfitting : (c : Command) (answers : List Answer) (r : Result Work Refusal) → Answers r (work_of c answers) → Comes r bad_value (misfits c answers)
misfitting c answers r h = comes bad_value r (work_of c answers) (misfits c answers) h (command_misfits c answers)
