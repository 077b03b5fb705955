-- The code's values of what a line is, of work of a command's own, and of what comes behind it.
use Rattle.command_steps.specs.Behind as comes
use Rattle.command_steps.specs.Lines.{Line, asks, comment, refused}
use Rattle.command_steps.specs.Owns as owns
use Rattle.command_steps.specs.declared.behind.Behind.{Behind}
use Rattle.command_steps.specs.declared.behind.Behind.TheVariants.{Forces, NoMore, Reuses}
use Rattle.command_steps.specs.declared.lines.Line as code
use Rattle.command_steps.specs.declared.lines.Line.TheVariants.{Asks, Comment, Refused}
use Rattle.command_steps.specs.declared.own.Own.{Own}
use Rattle.command_steps.specs.declared.own.Own.TheVariants.{AuditVolume, BackUpDatabase, BackUpPool, BackUpSince, Checkpoint, DeleteHistory, EmptyFilespace, EmptyVolume, Expire, Get, Moves, NoneButReuse, NoneYet, OnATree, Put, Validate}
use Rattle.command_steps.specs.declared.own.Mover.{Mover}
use Rattle.command_steps.specs.declared.own.Mover.TheVariants.{Migrate, MigrateAll, MoveData, Reclaim, RestorePool, RestoreVolume}
use Rattle.command_steps.specs.declared.own.OnTree.{OnTree}
use Rattle.command_steps.specs.declared.own.OnTree.TheVariants as tree

-- what the code's value stands for
abbrev pub line_view : code.Line → Line
line_view Comment = comment
line_view (Refused why) = refused why
line_view (Asks command) = asks command

abbrev pub mover_view : Mover → owns.Mover
mover_view MoveData = owns.data_mover
mover_view Reclaim = owns.reclaimer
mover_view RestorePool = owns.pool_restorer
mover_view RestoreVolume = owns.volume_restorer
mover_view Migrate = owns.migrator
mover_view MigrateAll = owns.all_migrator

abbrev pub tree_view : OnTree → owns.OnTree
tree_view (tree.Write file) = owns.write file.now
tree_view (tree.Erase file) = owns.erase file.now
tree_view (tree.BackUp files) = owns.back_up files.now
tree_view (tree.Restore files) = owns.restore files.now

abbrev pub own_view : Own → owns.Own
own_view (Validate set) = owns.validate set.now
own_view (Put file) = owns.put file.now
own_view (Get file) = owns.get file.now
own_view (OnATree work) = owns.on_tree (tree_view work)
own_view Checkpoint = owns.checkpoint
own_view Expire = owns.expire
own_view EmptyFilespace = owns.empty_filespace
own_view EmptyVolume = owns.empty_volume
own_view NoneButReuse = owns.none_but_reuse
own_view BackUpPool = owns.back_up_pool
own_view (Moves mover) = owns.moves (mover_view mover)
own_view BackUpDatabase = owns.back_up_database
own_view BackUpSince = owns.back_up_since
own_view (DeleteHistory to) = owns.delete_history to
own_view (AuditVolume fix) = owns.audit_volume fix
own_view NoneYet = owns.none_yet

abbrev pub behind_view : Behind → comes.Behind
behind_view NoMore = comes.no_more
behind_view Forces = comes.forces
behind_view Reuses = comes.reuses
