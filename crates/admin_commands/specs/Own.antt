-- The refusals that a command has of its own, before the database is asked.
use Rattle.std.specs.Prelude.{◌≡◌, ◌⊎◌, ⊤, ℕ, ◌==◌, ◌&&◌, ◌||◌, Bool, true, false, not, is_some, is_none, List, Option, Some, None, Result, Ok, Err}
use Rattle.kinds.specs.Pools.{is_pool}
use Rattle.kinds.specs.Refusals.{bad_value, number_of}
use Rattle.kinds.specs.Rules.{is_archive_rule, is_rule}
use Rattle.kinds.specs.declared.refusal.Refusal.{Refusal}
use Rattle.kinds.specs.declared.refusal.Refusal.TheVariants.{NotFound, BadHierarchy, Memory}
use Rattle.entries.specs.declared.change.Change.{Change}
use Rattle.entries.specs.declared.change.Change.TheVariants as change
use Rattle.inventory_answers.specs.declared.lines.PoolLine.{PoolLine}
use Rattle.inventory_answers.specs.declared.lines.VolumeLine.{VolumeLine}
use Rattle.inventory_answers.specs.declared.reply.Answer.{Answer}
use Rattle.admin_words.specs.declared.command.Command.{Command}
use Rattle.admin_words.specs.declared.command.Command.TheVariants as commands
use Rattle.admin_words.specs.declared.command.PolicyCommand.{PolicyCommand}
use Rattle.admin_words.specs.declared.command.PolicyCommand.TheVariants.{DeleteDomain, ValidateSet}
use Rattle.admin_words.specs.declared.command.ClassCommand.{ClassCommand}
use Rattle.admin_words.specs.declared.command.ClassCommand.TheVariants.{DefineArchiveGroup, DefineGroup, DeleteArchiveGroup, DeleteGroup, UpdateArchiveGroup, UpdateGroup}
use Rattle.admin_words.specs.declared.command.NodeCommand.{NodeCommand}
use Rattle.admin_words.specs.declared.command.NodeCommand.TheVariants.{DeleteFilespace, QueryArchive, RemoveNode}
use Rattle.admin_words.specs.declared.command.PoolCommand.{PoolCommand}
use Rattle.admin_words.specs.declared.command.PoolCommand.TheVariants.{BackupPool, DefinePool, DeleteDevClass, DeletePool, MigratePool, ReclaimPool, RestorePool, UpdatePool}
use Rattle.admin_words.specs.declared.command.VolumeCommand.{VolumeCommand}
use Rattle.admin_words.specs.declared.command.VolumeCommand.TheVariants.{AuditVolume, DefineVolume, DeleteVolume, MoveData, RestoreVolume, UpdateVolume}
use Rattle.admin_words.specs.declared.command.FileCommand.{FileCommand}
use Rattle.admin_words.specs.declared.command.FileCommand.TheVariants.{ArchiveFiles, Incremental, Put, RestoreFiles, RetrieveFiles}
use Rattle.admin_words.specs.declared.command.DatabaseCommand.{DatabaseCommand}
use Rattle.admin_words.specs.declared.command.DatabaseCommand.TheVariants.{BackupDatabase}
use Rattle.admin_commands.specs.declared.work.Work.{Work}
use Rattle.admin_commands.specs.declared.work.Work.TheVariants as work
use Rattle.admin_commands.specs.Found.{archive_of, behind, device_found, device_named, domain_named, filespace_named, group_of, next_found, node_named, number_found, pool_named, pool_called, set_named, the_pool, the_volume}
use Rattle.admin_commands.specs.Policy.{destination_for, new_archive, new_rule, other_archive, other_rule}
use Rattle.admin_commands.specs.Stores.{capacity_for, collocates_disk, is_definition, is_ordered, may_move, new_settings, next_for, other_settings}

-- ---- all of them

-- its values don't go together; a name leads nowhere; a pool ends its hierarchy, or data would leave it
abbrev pub IsOwn : Refusal → Type 0
IsOwn e = (e ≡ bad_value) ⊎ ((e ≡ NotFound) ⊎ (e ≡ BadHierarchy))

-- A change that a command asks for is one of the day, of policy, of nodes and filespaces, or of device classes, pools and volumes: it leaves the objects.
abbrev pub IsOfRows : Change → Type 0
IsOfRows (change.Day day) = ⊤
IsOfRows (change.Policy c) = ⊤
IsOfRows (change.Object c) = ⊤
IsOfRows (change.Pool c) = ⊤
IsOfRows _ = ⊥

abbrev pub IsOrdered : Work → Type 0
IsOrdered (work.Commit c) = IsOfRows c
IsOrdered (work.Show query) = ⊤
IsOrdered (work.Run numbers) = ⊤

-- a change is of rows, and there is no refusal but a command's own
abbrev pub IsSound : Result Work Refusal → Type 0
IsSound (Ok w) = IsOrdered w
IsSound (Err e) = IsOwn e

-- the same, but for want of memory
abbrev pub IsClosed : Result Work Refusal → Type 0
IsClosed (Ok w) = IsOrdered w
IsClosed (Err e) = (e ≡ Memory) ⊎ IsOwn e

-- the answer is the refusal exactly where the test holds, or memory is wanted
abbrev pub Comes : {A : Type 0} → Result A Refusal → Refusal → Bool → Type 0
Comes (Ok x) refusal here = here ≡ false
Comes (Err e) refusal here = (e ≡ Memory) ⊎ ((number_of e == number_of refusal) ≡ here)

-- it isn't there, or it is and this holds; it is there, and this holds
abbrev pub lacks_or : {A : Type 0} → Option A → (A → Bool) → Bool
lacks_or None test = true
lacks_or (Some x) test = test x

abbrev pub if_there : {A : Type 0} → Option A → (A → Bool) → Bool
if_there None test = false
if_there (Some x) test = test x

-- ---- NotFound: what a command names isn't in the answers

-- a pool that is named, or a device class, where one is
abbrev pub lacks_pool_named : Option (List ℕ) → List Answer → Bool
lacks_pool_named None answers = false
lacks_pool_named (Some name) answers = is_none (number_found answers)

abbrev pub lacks_class_named : Option (List ℕ) → List Answer → Bool
lacks_class_named None answers = false
lacks_class_named (Some name) answers = is_none (device_found answers)

-- a next pool among all, where one is given and isn't taken away
abbrev pub lacks_next : Option (Option (List ℕ)) → List Answer → Bool
lacks_next None answers = false
lacks_next (Some None) answers = false
lacks_next (Some (Some name)) answers = is_none (pool_named name answers)

-- a device class that is to be deleted: DISK counts as missing
abbrev pub lacks_device : Option (Option ℕ) → Bool
lacks_device None = true
lacks_device (Some None) = true
lacks_device (Some (Some capacity)) = false

-- a volume whose data is to move, within its pool or to a pool that is named
abbrev pub lacks_move : Option (List ℕ) → List Answer → Bool
lacks_move None answers = is_none (number_found answers)
lacks_move (Some name) answers =
    lacks_or (the_volume answers) (λ v. is_none (pool_called v.pool (behind answers)) || is_none (pool_named name (behind answers)))

-- a volume that is to be deleted, with its data or without
abbrev pub lacks_deleted : Bool → List Answer → Bool
lacks_deleted true answers = is_none (number_found answers)
lacks_deleted false answers = lacks_or (the_volume answers) (λ v. is_none (pool_called v.pool (behind answers)))

abbrev pub lacks_policy : PolicyCommand → List Answer → Bool
lacks_policy (DeleteDomain d) answers = is_none (domain_named d.domain answers)
lacks_policy (ValidateSet s) answers = is_none (set_named s.set answers)
lacks_policy _ answers = false

abbrev pub lacks_class : ClassCommand → List Answer → Bool
lacks_class (DefineArchiveGroup g) answers = is_none (number_found answers)
lacks_class (DefineGroup g) answers = is_none (number_found answers)
lacks_class (DeleteArchiveGroup c) answers = is_none (archive_of c.class answers)
lacks_class (DeleteGroup c) answers = is_none (group_of c.class answers)
lacks_class (UpdateArchiveGroup g) answers = is_none (archive_of g.class answers) || lacks_pool_named g.destination (behind answers)
lacks_class (UpdateGroup g) answers = is_none (group_of g.class answers) || lacks_pool_named g.destination (behind answers)
lacks_class _ answers = false

abbrev pub lacks_node : NodeCommand → List Answer → Bool
lacks_node (DeleteFilespace f) answers = is_none (filespace_named f.filespace answers)
lacks_node (QueryArchive f) answers = is_none (filespace_named f.filespace answers)
lacks_node (RemoveNode n) answers = is_none (node_named n.node answers)
lacks_node _ answers = false

abbrev pub lacks_pool : PoolCommand → List Answer → Bool
lacks_pool (BackupPool b) answers = is_none (number_found answers) || is_none (number_found (behind answers))
lacks_pool (DefinePool d) answers = is_definition d && lacks_pool_named d.next answers
lacks_pool (DeleteDevClass c) answers = lacks_device (device_found answers)
lacks_pool (DeletePool p) answers = is_none (the_pool answers)
lacks_pool (MigratePool m) answers = is_none (the_pool answers)
lacks_pool (ReclaimPool r) answers = is_none (the_pool answers)
lacks_pool (RestorePool p) answers = is_none (number_found answers)
lacks_pool (UpdatePool u) answers =
    is_ordered u.low u.high && lacks_or (the_pool answers) (λ old. not (collocates_disk u old) && lacks_next u.next (behind answers))
lacks_pool _ answers = false

abbrev pub lacks_volume : VolumeCommand → List Answer → Bool
lacks_volume (AuditVolume a) answers = is_none (number_found answers)
lacks_volume (DefineVolume d) answers = lacks_or (the_pool answers) (λ p. is_none (device_named p.class (behind answers)))
lacks_volume (DeleteVolume d) answers = lacks_deleted d.discard_data answers
lacks_volume (MoveData m) answers = lacks_move m.pool answers
lacks_volume (RestoreVolume v) answers = is_none (number_found answers)
lacks_volume (UpdateVolume u) answers = lacks_or (the_volume answers) (λ v. is_none (pool_called v.pool (behind answers)))
lacks_volume _ answers = false

abbrev pub lacks_file : FileCommand → List Answer → Bool
lacks_file (ArchiveFiles a) answers = is_none (number_found answers)
lacks_file (Incremental i) answers = is_none (number_found answers)
lacks_file (Put p) answers = is_none (number_found answers)
lacks_file (RestoreFiles r) answers = is_none (filespace_named r.filespace answers)
lacks_file (RetrieveFiles r) answers = is_none (filespace_named r.filespace answers)
lacks_file _ answers = false

abbrev pub lacks_database : DatabaseCommand → List Answer → Bool
lacks_database (BackupDatabase b) answers = lacks_class_named b.dev_class answers
lacks_database _ answers = false

abbrev pub lacks : Command → List Answer → Bool
lacks (commands.Policy c) answers = lacks_policy c answers
lacks (commands.Class c) answers = lacks_class c answers
lacks (commands.Node c) answers = lacks_node c answers
lacks (commands.Pool c) answers = lacks_pool c answers
lacks (commands.Volume c) answers = lacks_volume c answers
lacks (commands.File c) answers = lacks_file c answers
lacks (commands.Database c) answers = lacks_database c answers
lacks (commands.Block c) answers = false

-- ---- BadValue: the values of a command don't go together, or don't go with what stands there

-- a parameter of a copy group outside its range, which no line that was read has
abbrev pub misfits_class : ClassCommand → List Answer → Bool
misfits_class (DefineArchiveGroup g) answers = if_there (number_found answers) (λ d. not (is_archive_rule (new_archive g d)))
misfits_class (DefineGroup g) answers = if_there (number_found answers) (λ d. not (is_rule (new_rule g d)))
misfits_class (DeleteArchiveGroup c) answers = if_there (archive_of c.class answers) (λ old. not (is_archive_rule old))
misfits_class (DeleteGroup c) answers = if_there (group_of c.class answers) (λ old. not (is_rule old.rule))
misfits_class (UpdateArchiveGroup g) answers =
    if_there (archive_of g.class answers) (λ old. if_there (destination_for g.destination old.destination (behind answers)) (λ d. not (is_archive_rule (other_archive g old d))))
misfits_class (UpdateGroup g) answers =
    if_there (group_of g.class answers) (λ old. if_there (destination_for g.destination old.rule.destination (behind answers)) (λ d. not (is_rule (other_rule g old.rule d))))
misfits_class _ answers = false

-- LOWMIG above HIGHMIG, as they are given or with what stands there; COLLOCATE=NODE for a pool of the device class DISK
abbrev pub misfits_pool : PoolCommand → List Answer → Bool
misfits_pool (DefinePool d) answers = not (is_definition d) || if_there (next_found d.next answers) (λ next. not (is_pool (new_settings d next)))
misfits_pool (DeletePool p) answers = if_there (the_pool answers) (λ old. not (is_pool old.settings))
misfits_pool (UpdatePool u) answers =
    not (is_ordered u.low u.high)
    || if_there (the_pool answers) (λ old. collocates_disk u old || if_there (next_for u.next old.settings.next (behind answers)) (λ next. not (is_pool (other_settings u old.settings next))))
misfits_pool _ answers = false

-- FORMATSIZE for a sequential volume
abbrev pub misfits_volume : VolumeCommand → List Answer → Bool
misfits_volume (DefineVolume d) answers =
    if_there (the_pool answers) (λ p. if_there (device_named p.class (behind answers)) (λ device. is_none (capacity_for device.capacity d.format_size)))
misfits_volume _ answers = false

abbrev pub misfits : Command → List Answer → Bool
misfits (commands.Class c) answers = misfits_class c answers
misfits (commands.Pool c) answers = misfits_pool c answers
misfits (commands.Volume c) answers = misfits_volume c answers
misfits _ answers = false

-- ---- BadHierarchy

-- a pool without a next one
abbrev pub ends_there : Option PoolLine → Bool
ends_there None = false
ends_there (Some p) = not (is_some p.settings.next)

-- two pools between which data may not move
abbrev pub parts : Option PoolLine → Option PoolLine → Bool
parts None to = false
parts (Some own) None = false
parts (Some own) (Some to) = not (may_move own to)

-- the volume's pool, and the one that is named
abbrev pub leaves_from : Option VolumeLine → List ℕ → List Answer → Bool
leaves_from None name answers = false
leaves_from (Some v) name answers = parts (pool_called v.pool answers) (pool_named name answers)

abbrev pub leaves : Option (List ℕ) → List Answer → Bool
leaves None answers = false
leaves (Some name) answers = leaves_from (the_volume answers) name (behind answers)

-- MIGRATE STGPOOL of a pool without a next one, and MOVE DATA to another pool where one of the two is a copy pool
abbrev pub breaks_hierarchy : Command → List Answer → Bool
breaks_hierarchy (commands.Pool (MigratePool m)) answers = ends_there (the_pool answers)
breaks_hierarchy (commands.Volume (MoveData m)) answers = leaves m.pool answers
breaks_hierarchy _ answers = false
