-- What holds of the table of commands as a whole.
use Rattle.std.specs.Prelude.{ℕ, ◌+◌, Bool, true, false, not, ◌==◌, ◌&&◌, ◌||◌, nat_lt, List, [], ◌∷◌, length, map, filter, codes, if◌then◌else◌, Result, Ok, Err}
use Rattle.std.specs.Char.{is_ascii_uppercase}
use Rattle.std.specs.List.{list_all, list_any}
use Rattle.kinds.specs.declared.refusal.Refusal.{Refusal}
use Rattle.command_words.specs.declared.value.Kind.{Kind}
use Rattle.command_words.specs.declared.value.Kind.TheVariants.{Name, NodeName, Path, FilespaceName, Number}
use Rattle.command_words.specs.Choice.{is_whole, choose}
use Rattle.command_words.specs.Rows.{Place}
use Rattle.command_words.specs.Values.{has_words}
use Rattle.admin_words.specs.declared.table.Form.{Form}
use Rattle.admin_words.specs.declared.table.Form.TheVariants as forms
use Rattle.admin_words.specs.declared.table.PolicyForm.{PolicyForm}
use Rattle.admin_words.specs.declared.table.PolicyForm.TheVariants.{ActivateSet, DefineDomain, DefineSet, DeleteDomain, DeleteSet, QuerySet, UpdateDomain, ValidateSet}
use Rattle.admin_words.specs.declared.table.ClassForm.{ClassForm}
use Rattle.admin_words.specs.declared.table.ClassForm.TheVariants.{AssignClass, DefineArchiveGroup, DefineClass, DefineGroup, DeleteArchiveGroup, DeleteClass, DeleteGroup, QueryClass, QueryGroup, UpdateArchiveGroup, UpdateGroup}
use Rattle.admin_words.specs.declared.table.NodeForm.{NodeForm}
use Rattle.admin_words.specs.declared.table.NodeForm.TheVariants.{DeleteFilespace, QueryArchive, QueryBackup, RegisterNode, RemoveNode}
use Rattle.admin_words.specs.declared.table.PoolForm.{PoolForm}
use Rattle.admin_words.specs.declared.table.PoolForm.TheVariants.{BackupPool, DefineDevClass, DefinePool, DeleteDevClass, DeletePool, MigratePool, ReclaimPool, RestorePool, UpdatePool}
use Rattle.admin_words.specs.declared.table.VolumeForm.{VolumeForm}
use Rattle.admin_words.specs.declared.table.VolumeForm.TheVariants.{AuditVolume, DefineVolume, DeleteVolume, MoveData, QueryContent, RestoreVolume, UpdateVolume}
use Rattle.admin_words.specs.declared.table.FileForm.{FileForm}
use Rattle.admin_words.specs.declared.table.FileForm.TheVariants.{ArchiveFiles, Erase, Get, Incremental, Put, RestoreFiles, RetrieveFiles, Write}
use Rattle.admin_words.specs.declared.table.DatabaseForm.{DatabaseForm}
use Rattle.admin_words.specs.declared.table.DatabaseForm.TheVariants.{Day}
use Rattle.admin_words.specs.Grammar.{number, day}
use Rattle.admin_words.specs.Rows.{Row, Verb, is_bare}

-- a word of one or more letters, all in upper case
abbrev pub is_capitals : List ℕ → Bool
is_capitals word = nat_lt 0 (length word) && list_all is_ascii_uppercase word

-- no word stands twice among these
abbrev pub are_distinct : List (List ℕ) → Bool
are_distinct [] = true
are_distinct (w ∷ ws) = not (list_any (λ v. is_whole v w) ws) && are_distinct ws

-- the option that was chosen has this number
abbrev pub is_choice : ℕ → Result ℕ Refusal → Bool
is_choice at (Ok i) = i == at
is_choice at (Err e) = false

-- each of these options, the first of which has this number among all, is meant by its own word
abbrev pub mean_themselves : List (List ℕ) → ℕ → List (List ℕ) → Bool
mean_themselves all at [] = true
mean_themselves all at (w ∷ ws) = is_choice at (choose 0 w all) && mean_themselves all (at + 1) ws

-- words among which one is chosen: in upper case, distinct, and each meant by itself
abbrev pub are_options : List (List ℕ) → Bool
are_options words = list_all is_capitals words && (are_distinct words && mean_themselves words 0 words)

-- the kind of a value has options where one of its words may stand, and none otherwise
abbrev pub has_options : Kind → List (List ℕ) → Bool
has_options kind words = if has_words kind then nat_lt 0 (length words) && are_options words else length words == 0

-- no place that must be there stands behind one that may be missing
abbrev pub are_ordered : List Place → Bool
are_ordered [] = true
are_ordered (p ∷ ps) = (p.required || list_all (λ q. not q.required) ps) && are_ordered ps

-- a row whose lists of words are options
abbrev pub is_sound_row : Row → Bool
is_sound_row r =
    are_options (map (λ s. s.key) r.slots)
    && (list_all (λ s. has_options s.kind s.words) r.slots && (list_all (λ p. has_options p.kind p.words) r.places && are_ordered r.places))

-- the rows of a first word: one that has no second word, or some with distinct ones
abbrev pub are_sound_rows : List Row → Bool
are_sound_rows rows =
    (if is_bare rows then length rows == 1 else are_options (map (λ r. r.word) rows)) && list_all is_sound_row rows

-- the first word is one of these
abbrev pub is_among : List (List ℕ) → Verb → Bool
is_among words v = list_any (λ w. is_whole w v.word) words

-- the commands of a block that are not possible outside, and those outside that are not possible in a block
abbrev pub block_alone : List (List ℕ)
block_alone = codes "AND" ∷ codes "END" ∷ []

abbrev pub main_alone : List (List ℕ)
main_alone = codes "DAY" ∷ codes "PARALLEL" ∷ []

-- the others
abbrev pub without : List (List ℕ) → List Verb → List Verb
without words verbs = filter (λ v. not (is_among words v)) verbs

-- the places that a command can't do without, from the first on, by the kinds as which its reader takes them
abbrev pub policy_places : PolicyForm → List Kind
policy_places ActivateSet = Name ∷ Name ∷ []
policy_places DefineDomain = Name ∷ []
policy_places DefineSet = Name ∷ Name ∷ []
policy_places DeleteDomain = Name ∷ []
policy_places DeleteSet = Name ∷ Name ∷ []
policy_places QuerySet = Name ∷ []
policy_places UpdateDomain = Name ∷ []
policy_places ValidateSet = Name ∷ Name ∷ []
policy_places form = []

abbrev pub class_places : ClassForm → List Kind
class_places AssignClass = Name ∷ Name ∷ Name ∷ []
class_places DefineArchiveGroup = Name ∷ Name ∷ Name ∷ []
class_places DefineClass = Name ∷ Name ∷ Name ∷ []
class_places DefineGroup = Name ∷ Name ∷ Name ∷ []
class_places DeleteArchiveGroup = Name ∷ Name ∷ Name ∷ []
class_places DeleteClass = Name ∷ Name ∷ Name ∷ []
class_places DeleteGroup = Name ∷ Name ∷ Name ∷ []
class_places QueryClass = Name ∷ Name ∷ []
class_places QueryGroup = Name ∷ Name ∷ []
class_places UpdateArchiveGroup = Name ∷ Name ∷ Name ∷ []
class_places UpdateGroup = Name ∷ Name ∷ Name ∷ []

abbrev pub node_places : NodeForm → List Kind
node_places DeleteFilespace = NodeName ∷ FilespaceName ∷ []
node_places QueryArchive = NodeName ∷ FilespaceName ∷ []
node_places QueryBackup = NodeName ∷ FilespaceName ∷ []
node_places RegisterNode = NodeName ∷ []
node_places RemoveNode = NodeName ∷ []
node_places form = []

abbrev pub pool_places : PoolForm → List Kind
pool_places BackupPool = Name ∷ Name ∷ []
pool_places DefineDevClass = Name ∷ []
pool_places DefinePool = Name ∷ Name ∷ []
pool_places DeleteDevClass = Name ∷ []
pool_places DeletePool = Name ∷ []
pool_places MigratePool = Name ∷ []
pool_places ReclaimPool = Name ∷ []
pool_places RestorePool = Name ∷ []
pool_places UpdatePool = Name ∷ []
pool_places form = []

abbrev pub volume_places : VolumeForm → List Kind
volume_places AuditVolume = Name ∷ []
volume_places DefineVolume = Name ∷ Name ∷ []
volume_places DeleteVolume = Name ∷ []
volume_places MoveData = Name ∷ []
volume_places QueryContent = Name ∷ []
volume_places RestoreVolume = Name ∷ []
volume_places UpdateVolume = Name ∷ []
volume_places form = []

abbrev pub file_places : FileForm → List Kind
file_places ArchiveFiles = NodeName ∷ FilespaceName ∷ number ∷ []
file_places Erase = number ∷ Path ∷ []
file_places Get = NodeName ∷ FilespaceName ∷ Path ∷ []
file_places Incremental = NodeName ∷ FilespaceName ∷ number ∷ []
file_places Put = NodeName ∷ FilespaceName ∷ Path ∷ number ∷ []
file_places RestoreFiles = NodeName ∷ FilespaceName ∷ number ∷ []
file_places RetrieveFiles = NodeName ∷ FilespaceName ∷ number ∷ []
file_places Write = number ∷ Path ∷ number ∷ []

abbrev pub database_places : DatabaseForm → List Kind
database_places Day = day ∷ []
database_places form = []

abbrev pub taken_as : Form → List Kind
taken_as (forms.Policy form) = policy_places form
taken_as (forms.Class form) = class_places form
taken_as (forms.Node form) = node_places form
taken_as (forms.Pool form) = pool_places form
taken_as (forms.Volume form) = volume_places form
taken_as (forms.File form) = file_places form
taken_as (forms.Database form) = database_places form
taken_as (forms.Block form) = []

-- the same kind, among those as which a reader takes a place
abbrev pub is_kind : Kind → Kind → Bool
is_kind Name Name = true
is_kind NodeName NodeName = true
is_kind FilespaceName FilespaceName = true
is_kind Path Path = true
is_kind (Number a b) (Number c d) = a == c && b == d
is_kind k l = false

-- places that must be there and have these kinds, from the first on
abbrev pub have_kinds : List Kind → List Place → Bool
have_kinds [] ps = true
have_kinds (k ∷ ks) [] = false
have_kinds (k ∷ ks) (p ∷ ps) = (p.required && is_kind k p.kind) && have_kinds ks ps

-- each row has the places that its command can't do without
abbrev pub are_legible : List Row → Bool
are_legible rows = list_all (λ r. have_kinds (taken_as r.form) r.places) rows
