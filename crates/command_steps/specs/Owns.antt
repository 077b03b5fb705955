-- Work of a command that is no one change and no one query.
use Rattle.std.specs.Prelude.{if◌then◌else◌, length, ℕ, Bool}
use Rattle.kinds.specs.declared.change.PoolChange.TheVariants as store
use Rattle.kinds.specs.declared.change.Verb.TheVariants as verb
use Rattle.client_trees.specs.Files.{ClientFile}
use Rattle.client_trees.specs.declared.tree.FileRow.{FileRow}
use Rattle.entries.specs.declared.change.Change.{Change}
use Rattle.entries.specs.declared.change.Change.TheVariants as change
use Rattle.admin_words.specs.declared.command.Command.{Command}
use Rattle.admin_words.specs.declared.command.Command.TheVariants as commands
use Rattle.admin_words.specs.declared.command.DatabaseCommand.{DatabaseCommand}
use Rattle.admin_words.specs.declared.command.DatabaseCommand.TheVariants.{BackupDatabase, Checkpoint, DeleteHistory, ExpireInventory}
use Rattle.admin_words.specs.declared.command.FileCommand.{FileCommand}
use Rattle.admin_words.specs.declared.command.FileCommand.TheVariants.{Erase, Get, Incremental, Put, RestoreFiles, Write}
use Rattle.admin_words.specs.declared.command.NodeCommand.{NodeCommand}
use Rattle.admin_words.specs.declared.command.NodeCommand.TheVariants.{DeleteFilespace}
use Rattle.admin_words.specs.declared.command.PolicyCommand.{PolicyCommand}
use Rattle.admin_words.specs.declared.command.PolicyCommand.TheVariants.{ValidateSet}
use Rattle.admin_words.specs.declared.command.PoolCommand.{PoolCommand}
use Rattle.admin_words.specs.declared.command.PoolCommand.TheVariants.{BackupPool, MigrateAll, MigratePool, ReclaimPool, RestorePool}
use Rattle.admin_words.specs.declared.command.VolumeCommand.{VolumeCommand}
use Rattle.admin_words.specs.declared.command.VolumeCommand.TheVariants.{AuditVolume, DeleteVolume, MoveData, RestoreVolume, ReuseVolumes}
use Rattle.admin_words.specs.declared.files.FileErase.{FileErase}
use Rattle.admin_words.specs.declared.files.FileGet.{FileGet}
use Rattle.admin_words.specs.declared.files.FilePut.{FilePut}
use Rattle.admin_words.specs.declared.files.FilesRestore.{FilesRestore}
use Rattle.admin_words.specs.declared.files.FileWrite.{FileWrite}
use Rattle.admin_words.specs.declared.files.IncrementalBackup.{IncrementalBackup}
use Rattle.admin_words.specs.declared.policy.NamedSet.{NamedSet}
use Rattle.admin_words.specs.declared.words.BackupType.{BackupType}
use Rattle.admin_words.specs.declared.words.BackupType.TheVariants.{Full, Incremental}
use Rattle.reports.specs.declared.shown.Shown.{Shown}
use Rattle.reports.specs.declared.shown.Shown.TheVariants.{DeletedVolume, Done, Reused}

-- What moves copies: MOVE DATA, over the numbers of a volume's file and of a pool or 0; RECLAIM STGPOOL, over a pool's number and a percentage; RESTORE STGPOOL, over a pool's number; RESTORE VOLUME, over that
-- of a volume's file; MIGRATE STGPOOL, over a pool's number and a percentage; MIGRATE ALL, over nothing
pub data Mover : Type 0 where
  data_mover : Mover
  reclaimer : Mover
  pool_restorer : Mover
  volume_restorer : Mover
  migrator : Mover
  all_migrator : Mover

-- work on a client's tree: WRITE, ERASE, DSMC INCREMENTAL and DSMC RESTORE
pub data OnTree : Type 0 where
  write : (file : FileWrite) → OnTree
  erase : (file : FileErase) → OnTree
  back_up : (files : IncrementalBackup) → OnTree
  restore : (files : FilesRestore) → OnTree

-- the number of the tree
abbrev pub tree_of : OnTree → ℕ
tree_of (write w) = w.tree
tree_of (erase e) = e.tree
tree_of (back_up i) = i.tree
tree_of (restore r) = r.tree

-- VALIDATE of a policy set, PUT, GET, work on a client's tree, CHECKPOINT, EXPIRE INVENTORY; DELETE FILESPACE, and DELETE VOLUME with its data, over the number of what they name; REUSE VOLUMES,
-- which does nothing but what comes behind it; BACKUP STGPOOL, over the numbers of a primary pool and of a copy pool; what moves copies; BACKUP DB of the whole database, and of what came behind the newest
-- backup; DELETE VOLHISTORY up to a day; AUDIT VOLUME, over the number of the volume's file; and what isn't done so far
pub data Own : Type 0 where
  validate : (set : NamedSet) → Own
  put : (file : FilePut) → Own
  get : (file : FileGet) → Own
  on_tree : (work : OnTree) → Own
  checkpoint : Own
  expire : Own
  empty_filespace : Own
  empty_volume : Own
  none_but_reuse : Own
  back_up_pool : Own
  moves : (mover : Mover) → Own
  back_up_database : Own
  back_up_since : Own
  delete_history : (to : ℕ) → Own
  audit_volume : (fix : Bool) → Own
  none_yet : Own

abbrev pub policy_own : PolicyCommand → Own
policy_own (ValidateSet s) = validate s
policy_own _ = none_yet

abbrev pub file_own : FileCommand → Own
file_own (Put p) = put p
file_own (Get g) = get g
file_own (Erase e) = on_tree (erase e)
file_own (Incremental i) = on_tree (back_up i)
file_own (RestoreFiles r) = on_tree (restore r)
file_own (Write w) = on_tree (write w)
file_own _ = none_yet

abbrev pub backup_own : BackupType → Own
backup_own Full = back_up_database
backup_own Incremental = back_up_since

abbrev pub database_own : DatabaseCommand → Own
database_own (BackupDatabase b) = backup_own b.backup_type
database_own Checkpoint = checkpoint
database_own (DeleteHistory h) = delete_history h.to_date
database_own ExpireInventory = expire
database_own _ = none_yet

abbrev pub node_own : NodeCommand → Own
node_own (DeleteFilespace f) = empty_filespace
node_own _ = none_yet

abbrev pub pool_own : PoolCommand → Own
pool_own (BackupPool b) = back_up_pool
pool_own MigrateAll = moves all_migrator
pool_own (MigratePool m) = moves migrator
pool_own (ReclaimPool r) = moves reclaimer
pool_own (RestorePool p) = moves pool_restorer
pool_own _ = none_yet

abbrev pub volume_own : VolumeCommand → Own
volume_own (AuditVolume a) = audit_volume a.fix
volume_own (DeleteVolume d) = if d.discard_data then empty_volume else none_yet
volume_own (MoveData m) = moves data_mover
volume_own (RestoreVolume v) = moves volume_restorer
volume_own ReuseVolumes = none_but_reuse
volume_own _ = none_yet

abbrev pub own_of : Command → Own
own_of (commands.Policy c) = policy_own c
own_of (commands.Node c) = node_own c
own_of (commands.Pool c) = pool_own c
own_of (commands.Volume c) = volume_own c
own_of (commands.File c) = file_own c
own_of (commands.Database c) = database_own c
own_of _ = none_yet

-- the file that a PUT stores, and its row as a client would list it
abbrev pub file_put : FilePut → ClientFile
file_put p = record { bytes = p.text; mtime = p.mtime }

abbrev pub row_put : FilePut → FileRow
row_put p = record { path = p.path; size = length p.text; mtime = p.mtime }

-- the last line of a change: of a new day with how many volumes are used again, before any is; of a volume that is taken off its pool, on which nothing lay
abbrev pub last_of : Change → Shown
last_of (change.Day day) = Reused 0
last_of (change.Pool (store.Volume verb.Delete name pool file capacity access)) = DeletedVolume 0 0
last_of c = Done
