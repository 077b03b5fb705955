-- The table of the commands: the first words, and the rows that begin with each.
use Rattle.std.specs.Prelude.{ℕ, Bool, true, false, ◌==◌, List, [], ◌∷◌, map, length, codes, Option, Some, None}
use Rattle.std.specs.Borrow.{Bor}
use Rattle.command_words.specs.declared.value.Kind.{Kind}
use Rattle.command_words.specs.declared.row.Need.{Need}
use Rattle.command_words.specs.Rows.{Place, Slot, place_view, slot_view}
use Rattle.admin_words.specs.declared.table.Form.{Form}
use Rattle.admin_words.specs.declared.table.Form.TheVariants as forms
use Rattle.admin_words.specs.declared.table.PolicyForm.TheVariants as policies
use Rattle.admin_words.specs.declared.table.ClassForm.TheVariants as classes
use Rattle.admin_words.specs.declared.table.NodeForm.TheVariants as nodes
use Rattle.admin_words.specs.declared.table.PoolForm.TheVariants as pools
use Rattle.admin_words.specs.declared.table.VolumeForm.TheVariants as volumes
use Rattle.admin_words.specs.declared.table.FileForm.TheVariants as files
use Rattle.admin_words.specs.declared.table.DatabaseForm.TheVariants as databases
use Rattle.admin_words.specs.declared.table.BlockForm.TheVariants as blocks
use Rattle.admin_words.specs.declared.table.FirstWord.{FirstWord}
use Rattle.admin_words.specs.declared.table.FirstWord.TheVariants.{Activate, And, Assign, Audit, Backup, Checkpoint, Day, Define, Delete, Dsmc, End, Erase, Expire, Get, Migrate, Move, Parallel, Put, Query, Reclaim, Register, Remove, Restore, Reuse, Update, Validate, Write}
use Rattle.admin_words.specs.Grammar.{shape}

-- a row of the table: the second word, or an empty text where the command has none; which command it is; its places and its keywords
pub record Row : Type 0 where
  pub word : List ℕ
  pub form : Form
  pub places : List Place
  pub slots : List Slot

-- a row as the code has it
abbrev pub noun_view : Bor (List ℕ) × Form × Bor (List (Kind × Bor (List (Bor (List ℕ))) × Bool)) × Bor (List (Bor (List ℕ) × Kind × Bor (List (Bor (List ℕ))) × Need)) → Row
noun_view n = record { word = n.0.now; form = n.1; places = map place_view n.2.now; slots = map slot_view n.3.now }

-- the row of a command that has this second word
abbrev pub row : List ℕ → Form → Row
row word form = record { word = word; form = form; places = (shape form).0; slots = (shape form).1 }

-- the rows that begin with a first word
unfoldable pub rows_of : FirstWord → List Row
rows_of Activate = row (codes "POLICYSET") (forms.Policy policies.ActivateSet) ∷ []
rows_of And = row [] (forms.Block blocks.And) ∷ []
rows_of Assign = row (codes "DEFMGMTCLASS") (forms.Class classes.AssignClass) ∷ []
rows_of Audit = row (codes "VOLUME") (forms.Volume volumes.AuditVolume) ∷ []
rows_of Backup =
    row (codes "DB") (forms.Database databases.BackupDatabase)
    ∷ row (codes "STGPOOL") (forms.Pool pools.BackupPool)
    ∷ []
rows_of Checkpoint = row [] (forms.Database databases.Checkpoint) ∷ []
rows_of Day = row [] (forms.Database databases.Day) ∷ []
rows_of Define =
    row (codes "COPYGROUP") (forms.Class classes.DefineGroup)
    ∷ row (codes "DEVCLASS") (forms.Pool pools.DefineDevClass)
    ∷ row (codes "DOMAIN") (forms.Policy policies.DefineDomain)
    ∷ row (codes "MGMTCLASS") (forms.Class classes.DefineClass)
    ∷ row (codes "POLICYSET") (forms.Policy policies.DefineSet)
    ∷ row (codes "STGPOOL") (forms.Pool pools.DefinePool)
    ∷ row (codes "VOLUME") (forms.Volume volumes.DefineVolume)
    ∷ []
rows_of Delete =
    row (codes "COPYGROUP") (forms.Class classes.DeleteGroup)
    ∷ row (codes "DEVCLASS") (forms.Pool pools.DeleteDevClass)
    ∷ row (codes "DOMAIN") (forms.Policy policies.DeleteDomain)
    ∷ row (codes "FILESPACE") (forms.Node nodes.DeleteFilespace)
    ∷ row (codes "MGMTCLASS") (forms.Class classes.DeleteClass)
    ∷ row (codes "POLICYSET") (forms.Policy policies.DeleteSet)
    ∷ row (codes "STGPOOL") (forms.Pool pools.DeletePool)
    ∷ row (codes "VOLHISTORY") (forms.Database databases.DeleteHistory)
    ∷ row (codes "VOLUME") (forms.Volume volumes.DeleteVolume)
    ∷ []
rows_of Dsmc =
    row (codes "ARCHIVE") (forms.File files.ArchiveFiles)
    ∷ row (codes "INCREMENTAL") (forms.File files.Incremental)
    ∷ row (codes "RESTORE") (forms.File files.RestoreFiles)
    ∷ row (codes "RETRIEVE") (forms.File files.RetrieveFiles)
    ∷ []
rows_of End = row [] (forms.Block blocks.End) ∷ []
rows_of Erase = row [] (forms.File files.Erase) ∷ []
rows_of Expire = row (codes "INVENTORY") (forms.Database databases.ExpireInventory) ∷ []
rows_of Get = row [] (forms.File files.Get) ∷ []
rows_of Migrate =
    row (codes "ALL") (forms.Pool pools.MigrateAll)
    ∷ row (codes "STGPOOL") (forms.Pool pools.MigratePool)
    ∷ []
rows_of Move = row (codes "DATA") (forms.Volume volumes.MoveData) ∷ []
rows_of Parallel = row [] (forms.Block blocks.Parallel) ∷ []
rows_of Put = row [] (forms.File files.Put) ∷ []
rows_of Query =
    row (codes "ARCHIVE") (forms.Node nodes.QueryArchive)
    ∷ row (codes "BACKUP") (forms.Node nodes.QueryBackup)
    ∷ row (codes "CONTENT") (forms.Volume volumes.QueryContent)
    ∷ row (codes "COPYGROUP") (forms.Class classes.QueryGroup)
    ∷ row (codes "DEVCLASS") (forms.Pool pools.QueryDevClass)
    ∷ row (codes "DOMAIN") (forms.Policy policies.QueryDomain)
    ∷ row (codes "FILESPACE") (forms.Node nodes.QueryFilespace)
    ∷ row (codes "MGMTCLASS") (forms.Class classes.QueryClass)
    ∷ row (codes "NODE") (forms.Node nodes.QueryNode)
    ∷ row (codes "POLICYSET") (forms.Policy policies.QuerySet)
    ∷ row (codes "STGPOOL") (forms.Pool pools.QueryPool)
    ∷ row (codes "VOLHISTORY") (forms.Database databases.QueryHistory)
    ∷ row (codes "VOLUME") (forms.Volume volumes.QueryVolume)
    ∷ []
rows_of Reclaim = row (codes "STGPOOL") (forms.Pool pools.ReclaimPool) ∷ []
rows_of Register = row (codes "NODE") (forms.Node nodes.RegisterNode) ∷ []
rows_of Remove = row (codes "NODE") (forms.Node nodes.RemoveNode) ∷ []
rows_of Restore =
    row (codes "STGPOOL") (forms.Pool pools.RestorePool)
    ∷ row (codes "VOLUME") (forms.Volume volumes.RestoreVolume)
    ∷ []
rows_of Reuse = row (codes "VOLUMES") (forms.Volume volumes.ReuseVolumes) ∷ []
rows_of Update =
    row (codes "COPYGROUP") (forms.Class classes.UpdateGroup)
    ∷ row (codes "DOMAIN") (forms.Policy policies.UpdateDomain)
    ∷ row (codes "STGPOOL") (forms.Pool pools.UpdatePool)
    ∷ row (codes "VOLUME") (forms.Volume volumes.UpdateVolume)
    ∷ []
rows_of Validate = row (codes "POLICYSET") (forms.Policy policies.ValidateSet) ∷ []
rows_of Write = row [] (forms.File files.Write) ∷ []

-- the row that stands in the place of a command's where TYPE is ARCHIVE: that of the archive copy group, for a command of copy groups
unfoldable pub archive_row : Form → Option Row
archive_row (forms.Class classes.DefineGroup) = Some (row (codes "COPYGROUP") (forms.Class classes.DefineArchiveGroup))
archive_row (forms.Class classes.DeleteGroup) = Some (row (codes "COPYGROUP") (forms.Class classes.DeleteArchiveGroup))
archive_row (forms.Class classes.UpdateGroup) = Some (row (codes "COPYGROUP") (forms.Class classes.UpdateArchiveGroup))
archive_row form = None

-- a first word, and the rows that begin with it
pub record Verb : Type 0 where
  pub word : List ℕ
  pub rows : List Row

-- a first word as the code has it
abbrev pub verb_view : Bor (List ℕ) × FirstWord → Verb
verb_view v = record { word = v.0.now; rows = rows_of v.1 }

abbrev pub verb : List ℕ → FirstWord → Verb
verb word first = record { word = word; rows = rows_of first }

-- the table: the commands that are possible in a block, and those outside one
unfoldable pub verbs : Bool → List Verb
verbs true =
    verb (codes "ACTIVATE") Activate
    ∷ verb (codes "AND") And
    ∷ verb (codes "ASSIGN") Assign
    ∷ verb (codes "AUDIT") Audit
    ∷ verb (codes "BACKUP") Backup
    ∷ verb (codes "CHECKPOINT") Checkpoint
    ∷ verb (codes "DEFINE") Define
    ∷ verb (codes "DELETE") Delete
    ∷ verb (codes "DSMC") Dsmc
    ∷ verb (codes "END") End
    ∷ verb (codes "ERASE") Erase
    ∷ verb (codes "EXPIRE") Expire
    ∷ verb (codes "GET") Get
    ∷ verb (codes "MIGRATE") Migrate
    ∷ verb (codes "MOVE") Move
    ∷ verb (codes "PUT") Put
    ∷ verb (codes "QUERY") Query
    ∷ verb (codes "RECLAIM") Reclaim
    ∷ verb (codes "REGISTER") Register
    ∷ verb (codes "REMOVE") Remove
    ∷ verb (codes "RESTORE") Restore
    ∷ verb (codes "REUSE") Reuse
    ∷ verb (codes "UPDATE") Update
    ∷ verb (codes "VALIDATE") Validate
    ∷ verb (codes "WRITE") Write
    ∷ []
verbs false =
    verb (codes "ACTIVATE") Activate
    ∷ verb (codes "ASSIGN") Assign
    ∷ verb (codes "AUDIT") Audit
    ∷ verb (codes "BACKUP") Backup
    ∷ verb (codes "CHECKPOINT") Checkpoint
    ∷ verb (codes "DAY") Day
    ∷ verb (codes "DEFINE") Define
    ∷ verb (codes "DELETE") Delete
    ∷ verb (codes "DSMC") Dsmc
    ∷ verb (codes "ERASE") Erase
    ∷ verb (codes "EXPIRE") Expire
    ∷ verb (codes "GET") Get
    ∷ verb (codes "MIGRATE") Migrate
    ∷ verb (codes "MOVE") Move
    ∷ verb (codes "PARALLEL") Parallel
    ∷ verb (codes "PUT") Put
    ∷ verb (codes "QUERY") Query
    ∷ verb (codes "RECLAIM") Reclaim
    ∷ verb (codes "REGISTER") Register
    ∷ verb (codes "REMOVE") Remove
    ∷ verb (codes "RESTORE") Restore
    ∷ verb (codes "REUSE") Reuse
    ∷ verb (codes "UPDATE") Update
    ∷ verb (codes "VALIDATE") Validate
    ∷ verb (codes "WRITE") Write
    ∷ []

-- the command has no second word
abbrev pub is_bare : List Row → Bool
is_bare [] = false
is_bare (r ∷ rs) = length r.word == 0
