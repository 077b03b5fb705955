-- The grammar of each command: its words, its places and its keywords, with the kinds and the ranges of their values. A place is taken by a
-- word from the left; a keyword and its value stand behind the places, in any order.
use Rattle.std.specs.Prelude.{ℕ, suc, true, false, List, [], ◌∷◌, codes, if◌then◌else◌, Option}
use Rattle.command_words.specs.declared.value.Kind.{Kind}
use Rattle.command_words.specs.declared.value.Kind.TheVariants.{Name, NodeName, NameOrNone, Path, FilespaceName, Pattern, Number, Size, Limit, SizeLimit, Text, Description, OneOf}
use Rattle.command_words.specs.declared.row.Need.{Need}
use Rattle.command_words.specs.declared.row.Need.TheVariants.{Optional, Required, OneSide, AnySide}
use Rattle.command_words.specs.Choice.{is_whole}
use Rattle.command_words.specs.Rows.{Place, Slot, Given, text_at}
use Rattle.admin_words.specs.declared.table.Form.{Form}
use Rattle.admin_words.specs.declared.table.Form.TheVariants as forms
use Rattle.admin_words.specs.declared.table.PolicyForm.{PolicyForm}
use Rattle.admin_words.specs.declared.table.PolicyForm.TheVariants.{ActivateSet, DefineDomain, DefineSet, DeleteDomain, DeleteSet, QueryDomain, QuerySet, UpdateDomain, ValidateSet}
use Rattle.admin_words.specs.declared.table.ClassForm.{ClassForm}
use Rattle.admin_words.specs.declared.table.ClassForm.TheVariants.{AssignClass, DefineArchiveGroup, DefineClass, DefineGroup, DeleteArchiveGroup, DeleteClass, DeleteGroup, QueryClass, QueryGroup, UpdateArchiveGroup, UpdateGroup}
use Rattle.admin_words.specs.declared.table.NodeForm.{NodeForm}
use Rattle.admin_words.specs.declared.table.NodeForm.TheVariants.{DeleteFilespace, QueryArchive, QueryBackup, QueryFilespace, QueryNode, RegisterNode, RemoveNode}
use Rattle.admin_words.specs.declared.table.PoolForm.{PoolForm}
use Rattle.admin_words.specs.declared.table.PoolForm.TheVariants.{BackupPool, DefineDevClass, DefinePool, DeleteDevClass, DeletePool, MigrateAll, MigratePool, QueryDevClass, QueryPool, ReclaimPool, RestorePool, UpdatePool}
use Rattle.admin_words.specs.declared.table.VolumeForm.{VolumeForm}
use Rattle.admin_words.specs.declared.table.VolumeForm.TheVariants.{AuditVolume, DefineVolume, DeleteVolume, MoveData, QueryContent, QueryVolume, RestoreVolume, ReuseVolumes, UpdateVolume}
use Rattle.admin_words.specs.declared.table.FileForm.{FileForm}
use Rattle.admin_words.specs.declared.table.FileForm.TheVariants.{ArchiveFiles, Erase, Get, Incremental, Put, RestoreFiles, RetrieveFiles, Write}
use Rattle.admin_words.specs.declared.table.DatabaseForm.{DatabaseForm}
use Rattle.admin_words.specs.declared.table.DatabaseForm.TheVariants.{BackupDatabase, Checkpoint, Day, DeleteHistory, ExpireInventory, QueryHistory}

-- the words that may stand as values
abbrev pub yes_words : List (List ℕ)
yes_words = codes "NO" ∷ codes "YES" ∷ []

abbrev pub access_words : List (List ℕ)
access_words = codes "READWRITE" ∷ codes "READONLY" ∷ codes "UNAVAILABLE" ∷ codes "OFFSITE" ∷ codes "DESTROYED" ∷ []

abbrev pub pool_type_words : List (List ℕ)
pool_type_words = codes "PRIMARY" ∷ codes "COPY" ∷ []

abbrev pub collocate_words : List (List ℕ)
collocate_words = codes "NO" ∷ codes "NODE" ∷ []

abbrev pub backup_type_words : List (List ℕ)
backup_type_words = codes "FULL" ∷ codes "INCREMENTAL" ∷ []

abbrev pub mode_words : List (List ℕ)
mode_words = codes "MODIFIED" ∷ codes "ABSOLUTE" ∷ []

abbrev pub serialization_words : List (List ℕ)
serialization_words = codes "SHRSTATIC" ∷ codes "STATIC" ∷ []

-- the kinds of whole numbers: one of at most ten digits, a day, a span of days or a count, and a limit of versions or days
abbrev pub number : Kind
number = Number 0 9999999999

abbrev pub day : Kind
day = Number 0 2147483647

abbrev pub count : Kind
count = Number 0 9999

abbrev pub limit : Kind
limit = Limit 0 9999

-- a place that must be there, and one that may be missing
abbrev pub place : Kind → Place
place kind = record { kind = kind; words = []; required = true }

abbrev pub place_if : Kind → Place
place_if kind = record { kind = kind; words = []; required = false }

-- the name of a copy group, which may be missing
abbrev pub standard_if : Place
standard_if = record { kind = OneOf; words = codes "STANDARD" ∷ []; required = false }

-- a keyword with a value of this kind
abbrev pub slot : List ℕ → Kind → Need → Slot
slot word kind need = record { key = word; kind = kind; words = []; need = need }

-- a keyword with one of these words as its value
abbrev pub slot_among : List ℕ → List (List ℕ) → Need → Slot
slot_among word words need = record { key = word; kind = OneOf; words = words; need = need }

-- keywords of several commands
abbrev pub description : Slot
description = slot (codes "DESCRIPTION") (Text 0 255) Optional

abbrev pub wait : Slot
wait = slot_among (codes "WAIT") yes_words Optional

abbrev pub pool_if : Slot
pool_if = slot (codes "STGPOOL") Name Optional

abbrev pub low : Slot
low = slot (codes "LOWMIG") (Number 0 99) Optional

abbrev pub pattern_if : Slot
pattern_if = slot (codes "PATTERN") Pattern Optional

abbrev pub archive_description : Slot
archive_description = slot (codes "DESCRIPTION") Description Optional

-- the keywords of a backup copy group
abbrev pub group_slots : Need → List Slot
group_slots need =
    slot_among (codes "TYPE") (codes "BACKUP" ∷ []) Optional
    ∷ slot (codes "DESTINATION") Name need
    ∷ slot (codes "FREQUENCY") count Optional
    ∷ slot (codes "VEREXISTS") (Limit 1 9999) Optional
    ∷ slot (codes "VERDELETED") limit Optional
    ∷ slot (codes "RETEXTRA") limit Optional
    ∷ slot (codes "RETONLY") limit Optional
    ∷ slot_among (codes "MODE") mode_words Optional
    ∷ slot_among (codes "SERIALIZATION") serialization_words Optional
    ∷ []

-- TYPE of an archive copy group, and its keywords; RETVER is in days
abbrev pub type_archive : Slot
type_archive = slot_among (codes "TYPE") (codes "ARCHIVE" ∷ []) Required

abbrev pub archive_slots : Need → List Slot
archive_slots need = type_archive ∷ slot (codes "DESTINATION") Name need ∷ slot (codes "RETVER") (Limit 0 30000) Optional ∷ []

-- the keywords of a storage pool that may be changed, in bytes, percent, days and volumes
abbrev pub pool_slots : List Slot
pool_slots =
    slot (codes "MAXSIZE") (SizeLimit 1 1099511627776) Optional
    ∷ slot (codes "NEXTSTGPOOL") NameOrNone Optional
    ∷ slot (codes "HIGHMIG") (Number 0 100) Optional
    ∷ low
    ∷ slot (codes "RECLAIM") (Number 1 100) Optional
    ∷ slot (codes "REUSEDELAY") count Optional
    ∷ slot (codes "MAXSCRATCH") count Optional
    ∷ slot_among (codes "COLLOCATE") collocate_words Optional
    ∷ description
    ∷ []

-- the places and the keywords of a command
abbrev pub Shape : Type 0
Shape = List Place × List Slot

abbrev pub names_alone : List Place → Shape
names_alone places = (places, [])

abbrev pub no_words : Shape
no_words = ([], [])

-- a domain; a domain and a policy set; a domain, a policy set and a management class
abbrev pub policy_shape : PolicyForm → Shape
policy_shape ActivateSet = names_alone (place Name ∷ place Name ∷ [])
policy_shape DefineDomain = (place Name ∷ [], slot (codes "BACKRETENTION") count Optional ∷ description ∷ [])
policy_shape DefineSet = (place Name ∷ place Name ∷ [], description ∷ [])
policy_shape DeleteDomain = names_alone (place Name ∷ [])
policy_shape DeleteSet = names_alone (place Name ∷ place Name ∷ [])
policy_shape QueryDomain = no_words
policy_shape QuerySet = names_alone (place Name ∷ [])
policy_shape UpdateDomain = (place Name ∷ [], slot (codes "BACKRETENTION") count Required ∷ description ∷ [])
policy_shape ValidateSet = names_alone (place Name ∷ place Name ∷ [])

abbrev pub class_shape : ClassForm → Shape
class_shape AssignClass = names_alone (place Name ∷ place Name ∷ place Name ∷ [])
class_shape DefineArchiveGroup = (place Name ∷ place Name ∷ place Name ∷ standard_if ∷ [], archive_slots Required)
class_shape DefineClass = (place Name ∷ place Name ∷ place Name ∷ [], description ∷ [])
class_shape DefineGroup = (place Name ∷ place Name ∷ place Name ∷ standard_if ∷ [], group_slots Required)
class_shape DeleteArchiveGroup = (place Name ∷ place Name ∷ place Name ∷ standard_if ∷ [], type_archive ∷ [])
class_shape DeleteClass = names_alone (place Name ∷ place Name ∷ place Name ∷ [])
class_shape DeleteGroup = (place Name ∷ place Name ∷ place Name ∷ standard_if ∷ [], slot_among (codes "TYPE") (codes "BACKUP" ∷ []) Optional ∷ [])
class_shape QueryClass = names_alone (place Name ∷ place Name ∷ [])
class_shape QueryGroup = names_alone (place Name ∷ place Name ∷ [])
class_shape UpdateArchiveGroup = (place Name ∷ place Name ∷ place Name ∷ standard_if ∷ [], archive_slots Optional)
class_shape UpdateGroup = (place Name ∷ place Name ∷ place Name ∷ standard_if ∷ [], group_slots Optional)

-- a node and its filespace; a node's password
abbrev pub node_shape : NodeForm → Shape
node_shape DeleteFilespace = names_alone (place NodeName ∷ place FilespaceName ∷ [])
node_shape QueryArchive = names_alone (place NodeName ∷ place FilespaceName ∷ [])
node_shape QueryBackup = names_alone (place NodeName ∷ place FilespaceName ∷ [])
node_shape QueryFilespace = names_alone (place_if NodeName ∷ [])
node_shape QueryNode = no_words
node_shape RegisterNode = (place NodeName ∷ place (Text 1 64) ∷ [], slot (codes "DOMAIN") Name Optional ∷ [])
node_shape RemoveNode = names_alone (place NodeName ∷ [])

-- a pool or a device class; two pools; a pool and its device class. MAXCAPACITY is in bytes
abbrev pub pool_shape : PoolForm → Shape
pool_shape BackupPool = (place Name ∷ place Name ∷ [], wait ∷ [])
pool_shape DefineDevClass =
    (place Name ∷ [], slot_among (codes "DEVTYPE") (codes "FILE" ∷ []) Required ∷ slot (codes "MAXCAPACITY") (Size 65536 1099511627776) Optional ∷ [])
pool_shape DefinePool = (place Name ∷ place Name ∷ [], slot_among (codes "POOLTYPE") pool_type_words Optional ∷ pool_slots)
pool_shape DeleteDevClass = names_alone (place Name ∷ [])
pool_shape DeletePool = names_alone (place Name ∷ [])
pool_shape MigrateAll = ([], wait ∷ [])
pool_shape MigratePool = (place Name ∷ [], low ∷ wait ∷ [])
pool_shape QueryDevClass = no_words
pool_shape QueryPool = names_alone (place_if Name ∷ [])
pool_shape ReclaimPool = (place Name ∷ [], slot (codes "THRESHOLD") (Number 1 100) Optional ∷ wait ∷ [])
pool_shape RestorePool = (place Name ∷ [], wait ∷ [])
pool_shape UpdatePool = (place Name ∷ [], pool_slots)

-- a volume; a pool and its volume. FORMATSIZE is in mebibytes
abbrev pub volume_shape : VolumeForm → Shape
volume_shape AuditVolume = (place Name ∷ [], slot_among (codes "FIX") yes_words Optional ∷ wait ∷ [])
volume_shape DefineVolume = (place Name ∷ place Name ∷ [], slot (codes "FORMATSIZE") (Number 1 65536) Optional ∷ [])
volume_shape DeleteVolume = (place Name ∷ [], slot_among (codes "DISCARDDATA") yes_words Optional ∷ [])
volume_shape MoveData = (place Name ∷ [], pool_if ∷ wait ∷ [])
volume_shape QueryContent = names_alone (place Name ∷ [])
volume_shape QueryVolume = (place_if Name ∷ [], pool_if ∷ [])
volume_shape RestoreVolume = (place Name ∷ [], wait ∷ [])
volume_shape ReuseVolumes = no_words
volume_shape UpdateVolume = (place Name ∷ [], slot_among (codes "ACCESS") access_words Required ∷ [])

-- a node, its filespace, and a path or a tree; a tree and a path; PUT and WRITE have the file's time behind the path
abbrev pub file_shape : FileForm → Shape
file_shape ArchiveFiles = (
  place NodeName ∷ place FilespaceName ∷ place number ∷ [],
  pattern_if ∷ slot (codes "ARCHMC") Name Optional ∷ archive_description ∷ slot_among (codes "DELETEFILES") yes_words Optional ∷ [],
)
file_shape Erase = names_alone (place number ∷ place Path ∷ [])
file_shape Get = names_alone (place NodeName ∷ place FilespaceName ∷ place Path ∷ [])
file_shape Incremental = names_alone (place NodeName ∷ place FilespaceName ∷ place number ∷ [])
file_shape Put = (place NodeName ∷ place FilespaceName ∷ place Path ∷ place number ∷ [], slot (codes "TEXT") (Text 0 4294967295) Required ∷ [])
file_shape RestoreFiles = (
  place NodeName ∷ place FilespaceName ∷ place number ∷ [],
  slot (codes "PATTERN") Pattern (AnySide 0) ∷ slot (codes "PITDATE") day (AnySide 1) ∷ slot (codes "OBJECT") number (AnySide 2) ∷ [],
)
file_shape RetrieveFiles = (place NodeName ∷ place FilespaceName ∷ place number ∷ [], pattern_if ∷ archive_description ∷ [])
file_shape Write = (
  place number ∷ place Path ∷ place number ∷ [],
  slot (codes "TEXT") (Text 0 4294967295) (OneSide 0)
      ∷ slot (codes "SIZE") (Size 0 18446744073709551615) (OneSide 1)
      ∷ slot (codes "FILL") (Number 0 250) (OneSide 1)
      ∷ [],
)

abbrev pub database_shape : DatabaseForm → Shape
database_shape BackupDatabase =
    ([], slot (codes "DEVCLASS") Name Optional ∷ slot_among (codes "TYPE") backup_type_words Optional ∷ wait ∷ [])
database_shape Checkpoint = no_words
database_shape Day = names_alone (place day ∷ [])
database_shape DeleteHistory =
    ([], slot (codes "TODATE") day Required ∷ slot_among (codes "TYPE") (codes "DBBACKUP" ∷ []) Required ∷ [])
database_shape ExpireInventory = ([], wait ∷ [])
database_shape QueryHistory = no_words

abbrev pub shape : Form → Shape
shape (forms.Policy form) = policy_shape form
shape (forms.Class form) = class_shape form
shape (forms.Node form) = node_shape form
shape (forms.Pool form) = pool_shape form
shape (forms.Volume form) = volume_shape form
shape (forms.File form) = file_shape form
shape (forms.Database form) = database_shape form
shape (forms.Block form) = no_words

-- the number of a keyword among these, counted from 0
abbrev pub slot_number : List ℕ → List Slot → ℕ
slot_number word [] = 0
slot_number word (s ∷ ss) = if is_whole s.key word then 0 else suc (slot_number word ss)

-- the value that was given for a keyword of a command
abbrev pub given_for : Form → List ℕ → List Given → Option (List ℕ)
given_for form word given = text_at (slot_number word (shape form).1) given
