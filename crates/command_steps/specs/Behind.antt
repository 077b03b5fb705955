-- What comes behind a command's work, before it is answered.
use Rattle.std.specs.Prelude.{if◌then◌else◌, ℕ}
use Rattle.admin_words.specs.declared.command.Command.{Command}
use Rattle.admin_words.specs.declared.command.Command.TheVariants as commands
use Rattle.admin_words.specs.declared.command.DatabaseCommand.{DatabaseCommand}
use Rattle.admin_words.specs.declared.command.DatabaseCommand.TheVariants.{BackupDatabase, Day, DeleteHistory, ExpireInventory}
use Rattle.admin_words.specs.declared.command.FileCommand.{FileCommand}
use Rattle.admin_words.specs.declared.command.FileCommand.TheVariants.{Incremental}
use Rattle.admin_words.specs.declared.command.NodeCommand.{NodeCommand}
use Rattle.admin_words.specs.declared.command.NodeCommand.TheVariants.{DeleteFilespace}
use Rattle.admin_words.specs.declared.command.PoolCommand.{PoolCommand}
use Rattle.admin_words.specs.declared.command.PoolCommand.TheVariants.{BackupPool, MigrateAll, MigratePool, ReclaimPool, RestorePool}
use Rattle.admin_words.specs.declared.command.VolumeCommand.{VolumeCommand}
use Rattle.admin_words.specs.declared.command.VolumeCommand.TheVariants.{AuditVolume, DeleteVolume, MoveData, RestoreVolume, ReuseVolumes}
use Rattle.reports.specs.declared.shown.Shown.{Shown}
use Rattle.reports.specs.declared.shown.Shown.TheVariants.{DiscardedFilespace, Expired, Moved, RestoredCopies, Reused}
use Rattle.command_steps.specs.declared.outcome.Outcome.{Outcome}
use Rattle.command_steps.specs.declared.outcome.Outcome.TheVariants.{Said}

-- Nothing; or all is made durable, whatever came of the work; or, where the work was done, emptied volumes whose reuse delay is over are reused, and then all is made durable.
pub data Behind : Type 0 where
  no_more : Behind
  forces : Behind
  reuses : Behind

abbrev pub node_behind : NodeCommand → Behind
node_behind (DeleteFilespace f) = reuses
node_behind _ = no_more

abbrev pub pool_behind : PoolCommand → Behind
pool_behind (BackupPool b) = forces
pool_behind MigrateAll = reuses
pool_behind (MigratePool m) = reuses
pool_behind (ReclaimPool r) = reuses
pool_behind (RestorePool p) = reuses
pool_behind _ = no_more

abbrev pub volume_behind : VolumeCommand → Behind
volume_behind (AuditVolume a) = forces
volume_behind (DeleteVolume d) = if d.discard_data then forces else no_more
volume_behind (MoveData m) = reuses
volume_behind (RestoreVolume v) = reuses
volume_behind ReuseVolumes = reuses
volume_behind _ = no_more

abbrev pub file_behind : FileCommand → Behind
file_behind (Incremental i) = forces
file_behind _ = no_more

abbrev pub database_behind : DatabaseCommand → Behind
database_behind (BackupDatabase b) = forces
database_behind (Day d) = reuses
database_behind (DeleteHistory h) = forces
database_behind ExpireInventory = reuses
database_behind _ = no_more

-- what comes behind a command's work
abbrev pub behind : Command → Behind
behind (commands.Node c) = node_behind c
behind (commands.Pool c) = pool_behind c
behind (commands.Volume c) = volume_behind c
behind (commands.File c) = file_behind c
behind (commands.Database c) = database_behind c
behind _ = no_more

-- ---- the volumes that are reused

-- the last line with how many volumes are used again, where it says so
abbrev pub line_reused : ℕ → Shown → Shown
line_reused number (Reused before) = Reused number
line_reused number (Expired expired before) = Expired expired number
line_reused number (DiscardedFilespace discarded before) = DiscardedFilespace discarded number
line_reused number (Moved moved failed before) = Moved moved failed number
line_reused number (RestoredCopies restored failed before) = RestoredCopies restored failed number
line_reused number it = it

abbrev pub with_reused : ℕ → Outcome → Outcome
with_reused number (Said it) = Said (line_reused number it)
with_reused number it = it
