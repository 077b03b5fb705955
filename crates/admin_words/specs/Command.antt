-- The command that a row and its values are.
use Rattle.std.specs.Prelude.{List}
use Rattle.command_words.specs.Rows.{Given}
use Rattle.admin_words.specs.declared.table.Form.{Form}
use Rattle.admin_words.specs.declared.table.Form.TheVariants as forms
use Rattle.admin_words.specs.declared.table.PolicyForm.{PolicyForm}
use Rattle.admin_words.specs.declared.table.PolicyForm.TheVariants.{ActivateSet, DefineDomain, DefineSet, DeleteDomain, DeleteSet, QueryDomain, QuerySet, UpdateDomain, ValidateSet}
use Rattle.admin_words.specs.declared.table.ClassForm.{ClassForm}
use Rattle.admin_words.specs.declared.table.ClassForm.TheVariants.{AssignClass, DefineArchiveGroup, DefineClass, DefineGroup, DeleteArchiveGroup, DeleteClass, DeleteGroup, QueryClass, QueryGroup, UpdateArchiveGroup, UpdateGroup}
use Rattle.admin_words.specs.declared.table.NodeForm.{NodeForm}
use Rattle.admin_words.specs.declared.table.NodeForm.TheVariants.{DeleteFilespace, QueryArchive, QueryBackup, QueryFilespace, QueryNode, RegisterNode, RemoveNode}
use Rattle.admin_words.specs.declared.table.PoolForm.{PoolForm}
use Rattle.admin_words.specs.declared.table.PoolForm.TheVariants.{BackupPool, DefineDevClass, DefinePool, DeleteDevClass, DeletePool, MigrateAll, MigratePool, QueryDevClass, QueryPool, ReclaimPool, RestorePool, UpdatePool}
use Rattle.admin_words.specs.declared.table.VolumeForm.{VolumeForm}
use Rattle.admin_words.specs.declared.table.VolumeForm.TheVariants.{AuditVolume, DefineVolume, DeleteVolume, MoveData, QueryContent, QueryVolume, RestoreVolume, ReuseVolumes, UpdateVolume}
use Rattle.admin_words.specs.declared.table.FileForm.{FileForm}
use Rattle.admin_words.specs.declared.table.FileForm.TheVariants.{ArchiveFiles, Erase, Get, Incremental, Put, RestoreFiles, RetrieveFiles, Write}
use Rattle.admin_words.specs.declared.table.DatabaseForm.{DatabaseForm}
use Rattle.admin_words.specs.declared.table.DatabaseForm.TheVariants.{BackupDatabase, Checkpoint, Day, DeleteHistory, ExpireInventory, QueryHistory}
use Rattle.admin_words.specs.declared.command.Command.{Command}
use Rattle.admin_words.specs.declared.command.Command.TheVariants as commands
use Rattle.admin_words.specs.declared.command.PolicyCommand.{PolicyCommand}
use Rattle.admin_words.specs.declared.command.PolicyCommand.TheVariants as policy_commands
use Rattle.admin_words.specs.declared.command.ClassCommand.{ClassCommand}
use Rattle.admin_words.specs.declared.command.ClassCommand.TheVariants as class_commands
use Rattle.admin_words.specs.declared.command.NodeCommand.{NodeCommand}
use Rattle.admin_words.specs.declared.command.NodeCommand.TheVariants as node_commands
use Rattle.admin_words.specs.declared.command.PoolCommand.{PoolCommand}
use Rattle.admin_words.specs.declared.command.PoolCommand.TheVariants as pool_commands
use Rattle.admin_words.specs.declared.command.VolumeCommand.{VolumeCommand}
use Rattle.admin_words.specs.declared.command.VolumeCommand.TheVariants as volume_commands
use Rattle.admin_words.specs.declared.command.FileCommand.{FileCommand}
use Rattle.admin_words.specs.declared.command.FileCommand.TheVariants as file_commands
use Rattle.admin_words.specs.declared.command.DatabaseCommand.{DatabaseCommand}
use Rattle.admin_words.specs.declared.command.DatabaseCommand.TheVariants as database_commands
use Rattle.admin_words.specs.Database.{database_backup, day_change, history_deletion}
use Rattle.admin_words.specs.Files.{file_erase, file_get, file_put, file_write, files_archive, files_restore, files_retrieve, incremental_backup}
use Rattle.admin_words.specs.Nodes.{filespace_query, named_node, node_filespace, node_registration}
use Rattle.admin_words.specs.Policy.{archive_definition, archive_update, domain_definition, domain_update, group_definition, group_update, named_class, named_domain, named_set}
use Rattle.admin_words.specs.Pools.{dev_class_definition, migration, named_dev_class, named_pool, pool_backup, pool_definition, pool_query, pool_update, reclamation}
use Rattle.admin_words.specs.Volumes.{data_move, named_volume, volume_audit, volume_definition, volume_deletion, volume_query, volume_update}

-- the command of policy domains and policy sets that has this form, by what was given for its places and its keywords
abbrev pub policy_command : PolicyForm → List Given → List Given → PolicyCommand
policy_command ActivateSet places keys = policy_commands.ActivateSet (named_set places keys)
policy_command DefineDomain places keys = policy_commands.DefineDomain (domain_definition places keys)
policy_command DefineSet places keys = policy_commands.DefineSet (named_set places keys)
policy_command DeleteDomain places keys = policy_commands.DeleteDomain (named_domain places keys)
policy_command DeleteSet places keys = policy_commands.DeleteSet (named_set places keys)
policy_command QueryDomain places keys = policy_commands.QueryDomain
policy_command QuerySet places keys = policy_commands.QuerySet (named_domain places keys)
policy_command UpdateDomain places keys = policy_commands.UpdateDomain (domain_update places keys)
policy_command ValidateSet places keys = policy_commands.ValidateSet (named_set places keys)

-- the command of management classes and copy groups that has this form, by what was given for its places and its keywords
abbrev pub class_command : ClassForm → List Given → List Given → ClassCommand
class_command AssignClass places keys = class_commands.AssignClass (named_class places keys)
class_command DefineArchiveGroup places keys = class_commands.DefineArchiveGroup (archive_definition places keys)
class_command DefineClass places keys = class_commands.DefineClass (named_class places keys)
class_command DefineGroup places keys = class_commands.DefineGroup (group_definition places keys)
class_command DeleteArchiveGroup places keys = class_commands.DeleteArchiveGroup (named_class places keys)
class_command DeleteClass places keys = class_commands.DeleteClass (named_class places keys)
class_command DeleteGroup places keys = class_commands.DeleteGroup (named_class places keys)
class_command QueryClass places keys = class_commands.QueryClass (named_set places keys)
class_command QueryGroup places keys = class_commands.QueryGroup (named_set places keys)
class_command UpdateArchiveGroup places keys = class_commands.UpdateArchiveGroup (archive_update places keys)
class_command UpdateGroup places keys = class_commands.UpdateGroup (group_update places keys)

-- the command of nodes and filespaces that has this form, by what was given for its places and its keywords
abbrev pub node_command : NodeForm → List Given → List Given → NodeCommand
node_command DeleteFilespace places keys = node_commands.DeleteFilespace (node_filespace places keys)
node_command QueryArchive places keys = node_commands.QueryArchive (node_filespace places keys)
node_command QueryBackup places keys = node_commands.QueryBackup (node_filespace places keys)
node_command QueryFilespace places keys = node_commands.QueryFilespace (filespace_query places keys)
node_command QueryNode places keys = node_commands.QueryNode
node_command RegisterNode places keys = node_commands.RegisterNode (node_registration places keys)
node_command RemoveNode places keys = node_commands.RemoveNode (named_node places keys)

-- the command of device classes and storage pools that has this form, by what was given for its places and its keywords
abbrev pub pool_command : PoolForm → List Given → List Given → PoolCommand
pool_command BackupPool places keys = pool_commands.BackupPool (pool_backup places keys)
pool_command DefineDevClass places keys = pool_commands.DefineDevClass (dev_class_definition places keys)
pool_command DefinePool places keys = pool_commands.DefinePool (pool_definition places keys)
pool_command DeleteDevClass places keys = pool_commands.DeleteDevClass (named_dev_class places keys)
pool_command DeletePool places keys = pool_commands.DeletePool (named_pool places keys)
pool_command MigrateAll places keys = pool_commands.MigrateAll
pool_command MigratePool places keys = pool_commands.MigratePool (migration places keys)
pool_command QueryDevClass places keys = pool_commands.QueryDevClass
pool_command QueryPool places keys = pool_commands.QueryPool (pool_query places keys)
pool_command ReclaimPool places keys = pool_commands.ReclaimPool (reclamation places keys)
pool_command RestorePool places keys = pool_commands.RestorePool (named_pool places keys)
pool_command UpdatePool places keys = pool_commands.UpdatePool (pool_update places keys)

-- the command of volumes that has this form, by what was given for its places and its keywords
abbrev pub volume_command : VolumeForm → List Given → List Given → VolumeCommand
volume_command AuditVolume places keys = volume_commands.AuditVolume (volume_audit places keys)
volume_command DefineVolume places keys = volume_commands.DefineVolume (volume_definition places keys)
volume_command DeleteVolume places keys = volume_commands.DeleteVolume (volume_deletion places keys)
volume_command MoveData places keys = volume_commands.MoveData (data_move places keys)
volume_command QueryContent places keys = volume_commands.QueryContent (named_volume places keys)
volume_command QueryVolume places keys = volume_commands.QueryVolume (volume_query places keys)
volume_command RestoreVolume places keys = volume_commands.RestoreVolume (named_volume places keys)
volume_command ReuseVolumes places keys = volume_commands.ReuseVolumes
volume_command UpdateVolume places keys = volume_commands.UpdateVolume (volume_update places keys)

-- the command of files that has this form, by what was given for its places and its keywords
abbrev pub file_command : FileForm → List Given → List Given → FileCommand
file_command ArchiveFiles places keys = file_commands.ArchiveFiles (files_archive places keys)
file_command Erase places keys = file_commands.Erase (file_erase places keys)
file_command Get places keys = file_commands.Get (file_get places keys)
file_command Incremental places keys = file_commands.Incremental (incremental_backup places keys)
file_command Put places keys = file_commands.Put (file_put places keys)
file_command RestoreFiles places keys = file_commands.RestoreFiles (files_restore places keys)
file_command RetrieveFiles places keys = file_commands.RetrieveFiles (files_retrieve places keys)
file_command Write places keys = file_commands.Write (file_write places keys)

-- the command of the database, its history and the day that has this form, by what was given for its places and its keywords
abbrev pub database_command : DatabaseForm → List Given → List Given → DatabaseCommand
database_command BackupDatabase places keys = database_commands.BackupDatabase (database_backup places keys)
database_command Checkpoint places keys = database_commands.Checkpoint
database_command Day places keys = database_commands.Day (day_change places keys)
database_command DeleteHistory places keys = database_commands.DeleteHistory (history_deletion places keys)
database_command ExpireInventory places keys = database_commands.ExpireInventory
database_command QueryHistory places keys = database_commands.QueryHistory

-- the command of a row, by what was given for its places and its keywords
abbrev pub command_of : Form → List Given → List Given → Command
command_of (forms.Policy form) places keys = commands.Policy (policy_command form places keys)
command_of (forms.Class form) places keys = commands.Class (class_command form places keys)
command_of (forms.Node form) places keys = commands.Node (node_command form places keys)
command_of (forms.Pool form) places keys = commands.Pool (pool_command form places keys)
command_of (forms.Volume form) places keys = commands.Volume (volume_command form places keys)
command_of (forms.File form) places keys = commands.File (file_command form places keys)
command_of (forms.Database form) places keys = commands.Database (database_command form places keys)
command_of (forms.Block form) places keys = commands.Block form
