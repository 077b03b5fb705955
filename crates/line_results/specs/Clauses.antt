-- What holds of each line of a script beside how it may be answered: which transactions it makes, which rows and bytes it shows, what it says of stored bytes, why it is refused, what it did that
-- wasn't refused, and when it isn't. A line stands between two states; `mid` is the one behind its command, before the checkpoint that may follow it, and `added` the transactions that it made, oldest first.
use Rattle.std.specs.Prelude.{◌≡◌, ◌⊎◌, ℕ, ◌+◌, ◌^◌, ◌<◌, ◌≤◌, Bool, true, false, Contains, List, [], ◌∷◌, ◌++◌, length, Option, None, Some, Result, Ok, Err}
use Rattle.std.specs.List.{AllByRecursion}
use Rattle.sha2.specs.Sha256.{sha256}
use Rattle.kinds.specs.ValueForms.{digest_with}
use Rattle.kinds.specs.declared.change.DefineOrDelete.TheVariants as two
use Rattle.kinds.specs.declared.change.ObjectChange.TheVariants as client
use Rattle.kinds.specs.declared.refusal.Refusal.{Refusal}
use Rattle.kinds.specs.declared.refusal.Refusal.TheVariants.{InventoryFull, NotFound, UnknownWord}
use Rattle.choosers.specs.declared.rule.Rule.{Rule}
use Rattle.entries.specs.change_items.declared.items.NewVersion.{NewVersion}
use Rattle.entries.specs.declared.change.Change.{Change}
use Rattle.entries.specs.declared.change.Change.TheVariants as change
use Rattle.entries.specs.declared.entry.Entry.{Entry}
use Rattle.inventory_rows.specs.object_rows.Names.{filespace_named, node_named}
use Rattle.inventory_rows.specs.version_groups.declared.copies.CopyRow.{CopyRow}
use Rattle.inventory_rows.specs.version_groups.declared.versions.Version.{Version}
use Rattle.inventory_rows.specs.Search.{version}
use Rattle.inventory_rows.specs.State.{Inv}
use Rattle.inventory_work.specs.Copies.{has_volume}
use Rattle.inventory_work.specs.Rules.{rules_of}
use Rattle.inventory_work.specs.declared.lines.Rules.{Rules}
use Rattle.inventory_answers.specs.Answered.{answered}
use Rattle.inventory_answers.specs.Stores.{backup_lines}
use Rattle.inventory_answers.specs.declared.reply.Answer as rows
use Rattle.placing.specs.Placing.{active_version, can_read}
use Rattle.admin_words.specs.declared.files.FileGet.{FileGet}
use Rattle.admin_words.specs.declared.files.FilePut.{FilePut}
use Rattle.admin_words.specs.declared.files.FilesRestore.{FilesRestore}
use Rattle.admin_words.specs.declared.files.IncrementalBackup.{IncrementalBackup}
use Rattle.admin_commands.specs.declared.work.Work.{Work}
use Rattle.admin_commands.specs.declared.work.Work.TheVariants.{Commit, Show, Run}
use Rattle.command_steps.specs.restores.declared.choosing.RestoreLine.{RestoreLine}
use Rattle.reports.specs.Lines.{shown_line}
use Rattle.reports.specs.declared.shown.Shown.TheVariants.{BackedUp, Stored}
use Rattle.script_loop.specs.Reply.{Answer}
use Rattle.tree_api.specs.Cause.{Rose}
use Rattle.machine.specs.Machine.{Places}
use Rattle.machine.specs.State.{Core, Machine, Place}
use Rattle.command_steps.specs.sessions.Homes.{home_of}
use Rattle.command_steps.specs.sessions.declared.getting.FileRead.{FileRead}
use Rattle.command_steps.specs.sessions.declared.homes.Home.{Home}
use Rattle.command_steps.specs.db_backup.Listing.{newest_file}
use Rattle.command_steps.specs.Answers.{answer_of, done, file_lines, refusal, row_lines}
use Rattle.command_steps.specs.Behind.{Behind, behind, forces, no_more, reuses}
use Rattle.command_steps.specs.Clients.{Client, Known, Turns}
use Rattle.command_steps.specs.Doing.{the_number, the_second}
use Rattle.command_steps.specs.Leaving.{ChangesOnly, tree_named}
use Rattle.command_steps.specs.Trees.{is_absent}
use Rattle.command_steps.specs.Lines.{Line, asks, comment, refused}
use Rattle.command_steps.specs.Owns.{OnTree, Own, audit_volume, back_up, back_up_database, back_up_pool, back_up_since, checkpoint, delete_history, empty_filespace, empty_volume, erase, expire, get, last_of, moves, none_but_reuse, on_tree, own_of, put, restore, validate, write}
use Rattle.command_steps.specs.declared.outcome.Outcome.{Outcome}
use Rattle.command_steps.specs.declared.outcome.Outcome.TheVariants.{Said}
use Rattle.admin_words.specs.declared.command.Command.{Command}
use Rattle.line_results.specs.Bounds.{HasNoneToFollow, IsBounded, ReachesBound, begins, end_refused, illegal, is_near, is_of_run}
use Rattle.line_results.specs.Commands.{Does, DoesThere, EndsWith, IsReuse, MayMake, Works, drawn, validated, work_over}
use Rattle.line_results.specs.Files.{Gets, IsPlacedIn, Puts, backed_up, filespace_defined, why_no_place}
use Rattle.line_results.specs.Moving.{MayCopy, MayMove}
use Rattle.line_results.specs.Removing.{has_filespace}
use Rattle.line_results.specs.Resting.{Makes, RoseFrom, database, entry, why_not}
use Rattle.line_results.specs.Room.{NoneFails}
use Rattle.line_results.specs.Trees.{HasBytes, IsChosen, IsOfTree, new_versions}

-- ---- journal: which transactions a line may make

-- a filespace with the file's name for one is defined, or the version that its bytes are is stored
abbrev pub IsOfFile : FilePut → Change → Type 0
IsOfFile p c =
    ((node : ℕ) × (number : ℕ) × (c ≡ change.Object (client.Filespace two.Define node p.filespace number)))
    ⊎ ((filespace : ℕ) × (class : List ℕ) × (place : Place) × (at : Core) × (c ≡ backed_up filespace p class place at))

-- work on a tree makes the transactions of a backup, or none
abbrev pub OrderedOn : Client → OnTree → (old : Machine) → Change → Type 0
OrderedOn k (back_up i) old c = IsOfTree k i (database old) c
OrderedOn k work old c = ⊥

abbrev pub OrderedOwn : Client → (numbers : List ℕ) → Own → (old : Machine) → Change → Type 0
OrderedOwn k numbers (put file) old c = IsOfFile file c
OrderedOwn k numbers (on_tree work) old c = OrderedOn k work old c
OrderedOwn k numbers own old c = MayMake numbers own c

-- a change makes the one transaction that it names, and a query none
abbrev pub OrderedBy : Client → Own → Result Work Refusal → Machine → Change → Type 0
OrderedBy k own (Err why) old c = ⊥
OrderedBy k own (Ok (Commit what)) old c = c ≡ drawn what old
OrderedBy k own (Ok (Show query)) old c = ⊥
OrderedBy k own (Ok (Run numbers)) old c = OrderedOwn k numbers own old c

-- behind some commands volumes are reused
abbrev pub OrderedWith : Client → Behind → Own → Result Work Refusal → Machine → Change → Type 0
OrderedWith k no_more own w old c = OrderedBy k own w old c
OrderedWith k b own w old c = OrderedBy k own w old c ⊎ IsReuse b c

-- which transactions a line may make
abbrev pub orders : Client → Line → Machine → Change → Type 0
orders k comment old c = ⊥
orders k (refused why) old c = ⊥
orders k (asks command) old c = OrderedWith k (behind command) (own_of command) (work_over command (database old)) old c

-- each transaction of a line is of the script, actor 0, and its command orders it
abbrev pub AreOrdered : Client → Line → (old : Machine) → (added : List Entry) → Type 0
AreOrdered k line old added = AllByRecursion (λ e. (e.actor ≡ 0) × orders k line old e.change) added

-- ---- queries: which rows are printed

abbrev pub IsRows : (n : ℕ) → Result rows.Answer Refusal → Answer → Type 0
IsRows n (Ok answer) printed = printed ≡ done (row_lines n answer)
IsRows n (Err why) printed = printed ≡ refusal n why

abbrev pub RowsBy : (n : ℕ) → Inv → Result Work Refusal → Answer → Type 0
RowsBy n v (Ok (Show query)) answer = IsRows n (answered query v) answer
RowsBy n v (Ok (Commit what)) answer = Unit {0}
RowsBy n v (Ok (Run numbers)) answer = Unit {0}
RowsBy n v (Err why) answer = Unit {0}

-- a query shows the rows over the database before its line, each in its order, and how many they are; or it is refused as the query is
abbrev pub ShowsRows : (n : ℕ) → Line → (old : Machine) → Answer → Type 0
ShowsRows n comment old answer = Unit {0}
ShowsRows n (refused why) old answer = Unit {0}
ShowsRows n (asks command) old answer = RowsBy n (database old) (work_over command (database old)) answer

-- ---- bytes: what a GET shows

-- it shows a file as its reading came to: `Gets` of specs/Files says which version that is and, where the store is trusted, that its bytes are those of its object
abbrev pub ShowsFile : (trusted : Type 0) → (n : ℕ) → FileGet → (old mid : Machine) → Answer → Type 0
ShowsFile trusted n g old mid answer =
    ((file : FileRead) × Gets trusted g old mid (Ok file) × (answer ≡ done (file_lines n file)))
    ⊎ ((why : Refusal) × Gets trusted g old mid (Err why) × (answer ≡ refusal n why))

abbrev pub BytesOwn : (trusted : Type 0) → (n : ℕ) → Own → (old mid : Machine) → Answer → Type 0
BytesOwn trusted n (get g) old mid answer = ShowsFile trusted n g old mid answer
BytesOwn trusted n own old mid answer = Unit {0}

abbrev pub BytesBy : (trusted : Type 0) → (n : ℕ) → Own → Result Work Refusal → (old mid : Machine) → Answer → Type 0
BytesBy trusted n own (Ok (Run numbers)) old mid answer = BytesOwn trusted n own old mid answer
BytesBy trusted n own (Ok (Commit what)) old mid answer = Unit {0}
BytesBy trusted n own (Ok (Show query)) old mid answer = Unit {0}
BytesBy trusted n own (Err why) old mid answer = Unit {0}

abbrev pub ShowsBytes : (trusted : Type 0) → (n : ℕ) → Line → (old mid : Machine) → Answer → Type 0
ShowsBytes trusted n comment old mid answer = Unit {0}
ShowsBytes trusted n (refused why) old mid answer = Unit {0}
ShowsBytes trusted n (asks command) old mid answer = BytesBy trusted n (own_of command) (work_over command (database old)) old mid answer

-- ---- items: what a stored version says of its bytes

-- as many bytes as the text has, and its SHA-256; and these are the object's bytes from then on
abbrev pub HasText : List ℕ → (mid : Machine) → NewVersion → Type 0
HasText text mid item = (item.size ≡ length text) × (item.digest ≡ digest_with (sha256 text)) × (mid.contents item.object ≡ text)

abbrev pub ItemsOwn : Own → (mid : Machine) → Change → Type 0
ItemsOwn (put p) mid (change.Backup c) = AllByRecursion (HasText p.text mid) c.items
ItemsOwn (on_tree (back_up i)) mid c = AllByRecursion (HasBytes mid) (new_versions c)
ItemsOwn own mid c = Unit {0}

abbrev pub ItemsBy : Own → Result Work Refusal → (mid : Machine) → Change → Type 0
ItemsBy own (Ok (Run numbers)) mid c = ItemsOwn own mid c
ItemsBy own (Ok (Commit what)) mid c = Unit {0}
ItemsBy own (Ok (Show query)) mid c = Unit {0}
ItemsBy own (Err why) mid c = Unit {0}

abbrev pub ItemsOf : Line → (old mid : Machine) → Change → Type 0
ItemsOf comment old mid c = Unit {0}
ItemsOf (refused why) old mid c = Unit {0}
ItemsOf (asks command) old mid c = ItemsBy (own_of command) (work_over command (database old)) mid c

-- each item that a PUT's transaction has says so of the text that was put, and each that a backup's has of its object's bytes
abbrev pub AreItems : Line → (old mid : Machine) → (added : List Entry) → Type 0
AreItems line old mid added = AllByRecursion (λ e. ItemsOf line old mid e.change) added

-- ---- causes: why a line is refused

-- a PUT and a GET are refused as `Puts` and `Gets` of specs/Files say, refusal by refusal; and work on a tree as it was done there, or since there is no such tree
abbrev pub CauseOwn : (trusted : Type 0) → Places → Client → Own → (old mid : Machine) → Refusal → (added : List Entry) → Type 0
CauseOwn trusted places k (validate set) old mid why added = validated set (database old) ≡ Err why
CauseOwn trusted places k (put p) old mid why added = Puts places k.choice p old mid (Err why) added
CauseOwn trusted places k (get g) old mid why added = Gets trusted g old mid (Err why)
CauseOwn trusted places k (on_tree work) old mid why added = DoesThere trusted places k work old mid (Err why) added
CauseOwn trusted places k checkpoint old mid why added = (why ≡ InventoryFull) × (2 ^ 62 ≤ old.core.generation + 1)
CauseOwn trusted places k own old mid why added = why ≡ UnknownWord 1

-- a look-up or the command's own words refuse it; the database refuses its change, or its query
abbrev pub CauseBy : (trusted : Type 0) → Places → Client → Own → Result Work Refusal → (old mid : Machine) → Refusal → (added : List Entry) → Type 0
CauseBy trusted places k own (Err given) old mid why added = why ≡ given
CauseBy trusted places k own (Ok (Commit what)) old mid why added = why_not (drawn what old) old.core ≡ Some why
CauseBy trusted places k own (Ok (Show query)) old mid why added = answered query (database old) ≡ Err why
CauseBy trusted places k own (Ok (Run numbers)) old mid why added = CauseOwn trusted places k own old mid why added

-- a backup that follows another is refused as not found only there
abbrev pub DeniedOwn : Own → (old : Machine) → Refusal → Type 0
DeniedOwn back_up_since old why = why ≡ NotFound → HasNoneToFollow old
DeniedOwn own old why = Unit {0}

-- what is said beside that of the refusal of a process behind which all is forced
abbrev pub DeniedBy : Own → Result Work Refusal → (old : Machine) → Refusal → Type 0
DeniedBy own (Ok (Run numbers)) old why = DeniedOwn own old why
DeniedBy own (Ok (Commit what)) old why = Unit {0}
DeniedBy own (Ok (Show query)) old why = Unit {0}
DeniedBy own (Err given) old why = Unit {0}

-- where something comes behind a command's work, the steps of both say why it is refused
abbrev pub CauseWith : (trusted : Type 0) → Places → Client → Command → Behind → (old mid : Machine) → Refusal → (added : List Entry) → Type 0
CauseWith trusted places k c no_more old mid why added = CauseBy trusted places k (own_of c) (work_over c (database old)) old mid why added
CauseWith trusted places k c forces old mid why added =
    Works trusted places k c (work_over c (database old)) forces old mid (Err why) added × DeniedBy (own_of c) (work_over c (database old)) old why
CauseWith trusted places k c b old mid why added = Works trusted places k c (work_over c (database old)) b old mid (Err why) added

-- the cause of a line's refusal
abbrev pub Cause : (trusted : Type 0) → Places → Client → Line → (old mid : Machine) → Refusal → (added : List Entry) → Type 0
Cause trusted places k comment old mid why added = ⊥
Cause trusted places k (refused given) old mid why added = why ≡ given
Cause trusted places k (asks command) old mid why added = CauseWith trusted places k command (behind command) old mid why added

-- a line that counts as refused prints a refusal that has its cause
abbrev pub HasCause : (trusted : Type 0) → Places → Client → (n : ℕ) → Line → (old mid : Machine) → Answer → (added : List Entry) → Type 0
HasCause trusted places k n line old mid answer added =
    answer.tally.refused ≡ 1 → (why : Refusal) × (answer ≡ refusal n why) × Cause trusted places k line old mid why added

-- ---- done: what a line did that was answered OK

abbrev pub DidOwn : (trusted : Type 0) → Places → Client → (n : ℕ) → Own → (old mid : Machine) → Answer → (added : List Entry) → Type 0
DidOwn trusted places k n (validate set) old mid answer added = (validated set (database old) ≡ Ok tt) × (added ≡ [])
DidOwn trusted places k n (put p) old mid answer added =
    (filespace : ℕ) × (class : List ℕ) × (place : Place) × (at : Core) × (earlier : List Entry)
    × (added ≡ earlier ++ entry (backed_up filespace p class place at) ∷ []) × (answer ≡ done (shown_line n (Stored at.next_object)))
DidOwn trusted places k n (get g) old mid answer added = added ≡ []
DidOwn trusted places k n checkpoint old mid answer added = (mid.core.generation ≡ old.core.generation + 1) × (added ≡ [])
DidOwn trusted places k n (on_tree work) old mid answer added = (it : Outcome) × (answer ≡ answer_of n it) × DoesThere trusted places k work old mid (Ok it) added
DidOwn trusted places k n own old mid answer added = ⊥

abbrev pub DidBy : (trusted : Type 0) → Places → Client → (n : ℕ) → Own → Result Work Refusal → (old mid : Machine) → Answer → (added : List Entry) → Type 0
DidBy trusted places k n own (Err given) old mid answer added = ⊥
DidBy trusted places k n own (Ok (Commit what)) old mid answer added = (added ≡ entry (drawn what old) ∷ []) × (answer ≡ done (shown_line n (last_of what)))
DidBy trusted places k n own (Ok (Show query)) old mid answer added = added ≡ []
DidBy trusted places k n own (Ok (Run numbers)) old mid answer added = DidOwn trusted places k n own old mid answer added

-- A backup of the database is as it is said: its file is the next one that is drawn, its number that of the transaction by which it begins, and by this one, which names the backup that it follows, if any, and
-- that of its end it was made.
abbrev pub IsBackedUp : (after : Option ℕ) → (old : Machine) → Outcome → (added : List Entry) → Type 0
IsBackedUp after old it added =
    (it ≡ Said (BackedUp old.core.next_file ((database old).number + 1)))
    × (added ≡ entry (change.DbBegin old.core.next_file after) ∷ entry (change.DbEnd old.core.next_file) ∷ [])

-- one that follows the whole backup with the greatest number on the list, which is of this run
abbrev pub HasFollowedNewest : (old : Machine) → Outcome → (added : List Entry) → Type 0
HasFollowedNewest old it added =
    (after : ℕ) × (newest_file (backup_lines (database old).backups) ≡ Some after) × (is_of_run after old.core ≡ true) × IsBackedUp (Some after) old it added

abbrev pub ToldOwn : Own → (old : Machine) → Outcome → (added : List Entry) → Type 0
ToldOwn back_up_database old it added = IsBackedUp None old it added
ToldOwn back_up_since old it added = HasFollowedNewest old it added
ToldOwn own old it added = Unit {0}

-- what is said beside that of a process behind which all is forced
abbrev pub ToldBy : Own → Result Work Refusal → (old : Machine) → Outcome → (added : List Entry) → Type 0
ToldBy own (Ok (Run numbers)) old it added = ToldOwn own old it added
ToldBy own (Ok (Commit what)) old it added = Unit {0}
ToldBy own (Ok (Show query)) old it added = Unit {0}
ToldBy own (Err why) old it added = Unit {0}

-- where something comes behind a command's work, the steps of both say what was done, and that is printed
abbrev pub DidWith : (trusted : Type 0) → Places → Client → (n : ℕ) → Command → Behind → (old mid : Machine) → Answer → (added : List Entry) → Type 0
DidWith trusted places k n c no_more old mid answer added = DidBy trusted places k n (own_of c) (work_over c (database old)) old mid answer added
DidWith trusted places k n c forces old mid answer added =
    (it : Outcome) × (answer ≡ answer_of n it) × Works trusted places k c (work_over c (database old)) forces old mid (Ok it) added × ToldBy (own_of c) (work_over c (database old)) old it added
DidWith trusted places k n c b old mid answer added =
    (it : Outcome) × (answer ≡ answer_of n it) × Works trusted places k c (work_over c (database old)) b old mid (Ok it) added

abbrev pub Did : (trusted : Type 0) → Places → Client → (n : ℕ) → Line → (old mid : Machine) → Answer → (added : List Entry) → Type 0
Did trusted places k n comment old mid answer added = added ≡ []
Did trusted places k n (refused given) old mid answer added = ⊥
Did trusted places k n (asks command) old mid answer added = DidWith trusted places k n command (behind command) old mid answer added

-- a line that doesn't count as refused did what it names
abbrev pub IsDone : (trusted : Type 0) → Places → Client → (n : ℕ) → Line → (old mid : Machine) → Answer → (added : List Entry) → Type 0
IsDone trusted places k n line old mid answer added = answer.tally.refused ≡ 0 → Did trusted places k n line old mid answer added

-- ---- complete: which lines are not refused

-- wherever the file is placed it has a place, and the database has no reason against its version
abbrev pub HasRoom : Places → FilePut → Home → (filespace : ℕ) → Core → Type 0
HasRoom places p home filespace c =
    (placed : Result Place Refusal) → IsPlacedIn places home.pool (length p.text) c placed
    → (why_no_place home.pool (length p.text) c placed ≡ None) × ((place : Place) → placed ≡ Ok place → why_not (backed_up filespace p home.class place c) c ≡ None)

-- the same in the filespace that is there; where it isn't, the database has no reason against defining it, and this holds behind that
abbrev pub HasRoomUnder : Places → Option ℕ → FilePut → Home → (old : Machine) → Type 0
HasRoomUnder places (Some filespace) p home old = HasRoom places p home filespace old.core
HasRoomUnder places None p home old =
    (why_not (filespace_defined home.node p.filespace (database old)) old.core ≡ None)
    × ((mid : Machine) → Makes (filespace_defined home.node p.filespace (database old)) old mid → HasRoom places p home (database old).next_filespace mid.core)

-- a file may be put: its node is there, by the include-exclude list its path is bound to a class with a copy group, and there is room
abbrev pub MayPut : Places → List Rule → FilePut → (old : Machine) → Type 0
MayPut places choice p old =
    (node : ℕ) × (node_named p.node (database old).clients.nodes ≡ Some node) × (rules : Rules) × (rules_of node (database old) ≡ Ok rules)
    × (home : Home) × (home_of node rules choice p.path ≡ Ok home) × HasRoomUnder places (filespace_named home.node p.filespace (database old).clients.filespaces) p home old

-- a file may be read: its node, its filespace and an active version of its path are there, which is the one with its object's number, and one of its copies lies on volumes that may be read
abbrev pub MayGet : FileGet → Inv → Type 0
MayGet g v =
    (node : ℕ) × (node_named g.node v.clients.nodes ≡ Some node) × (filespace : ℕ) × (filespace_named node g.filespace v.clients.filespaces ≡ Some filespace)
    × (w : Version) × (active_version filespace g.path v ≡ Some w) × (version w.object v ≡ Some w) × (copy : CopyRow) × Contains w.copies copy × (can_read copy v ≡ true)

-- a tree has this number, and its count of faults doesn't rise by the line
abbrev pub IsSound : (tree : ℕ) → Client → Type 0
IsSound tree k = (tree < length k.old) × ((before : Known) → (after : Known) → Turns tree before after k → Rose before.faults after.faults → ⊥)

-- it is known which versions of the filespace are wanted; and where one object is, it is among them
abbrev pub MayGive : FilesRestore → Inv → Type 0
MayGive r v = (lines : List RestoreLine) × IsChosen r v lines × (is_absent r.wanted lines ≡ false)

-- a filespace is there, or the database has no reason against defining it
abbrev pub IsThereOrDefined : Option ℕ → (node : ℕ) → (name : List ℕ) → (old : Machine) → Type 0
IsThereOrDefined (Some filespace) node name old = Unit {0}
IsThereOrDefined None node name old = why_not (filespace_defined node name (database old)) old.core ≡ None

-- a tree may be backed up: the node is there with the rules of its classes, and so is its filespace, or it may be defined
abbrev pub MayBackUp : IncrementalBackup → (old : Machine) → Type 0
MayBackUp i old =
    (node : ℕ) × (node_named i.node (database old).clients.nodes ≡ Some node) × (rules : Rules) × (rules_of node (database old) ≡ Ok rules)
    × IsThereOrDefined (filespace_named node i.filespace (database old).clients.filespaces) node i.filespace old

-- a file may be written or erased where no call on its tree fails, so may a tree be backed up, and files may be restored into a tree that is there
abbrev pub MayOn : Client → OnTree → (old : Machine) → Type 0
MayOn k (write w) old = IsSound w.tree k
MayOn k (erase e) old = IsSound e.tree k
MayOn k (restore r) old = MayGive r (database old) × (r.tree < length k.old)
MayOn k (back_up i) old = MayBackUp i old × IsSound i.tree k

-- The bound of the database's isn't reached from the one state to the other: behind the last transaction another one has a number.
abbrev pub StaysWithin : (old mid : Machine) → Type 0
StaysWithin old mid = ReachesBound old mid → ⊥

-- the database has no reason against the transactions by which a backup begins and ends, of the whole of it or of what came behind the backup in a file
abbrev pub MayBackUpDatabase : (after : Option ℕ) → (old : Machine) → Type 0
MayBackUpDatabase after old = (illegal (begins after old.core) old.core ≡ None) × (end_refused after old.core ≡ None)

-- the whole backup with the greatest number on the list is of this run, fewer than 2^32 transactions come behind it, and one that follows it may be made
abbrev pub MayFollow : (old : Machine) → Type 0
MayFollow old =
    (file : ℕ) × (newest_file (backup_lines (database old).backups) ≡ Some file) × (is_of_run file old.core ≡ true) × (is_near file old.core ≡ true) × MayBackUpDatabase (Some file) old

-- a volume that is there may be audited; and where damaged copies are to go, so it is within the database's bound
abbrev pub MayAudit : (fix : Bool) → (file : ℕ) → (old mid : Machine) → Type 0
MayAudit fix file old mid = (has_volume file (database old) ≡ true) × (fix ≡ true → StaysWithin old mid)

-- Work of a command's own is legal over the numbers of the things that it names. `mid` is the state behind it. None is that isn't done so far.
abbrev pub MayOwn : Places → Client → (numbers : List ℕ) → Own → (old mid : Machine) → Type 0
MayOwn places k numbers (validate set) old mid = validated set (database old) ≡ Ok tt
MayOwn places k numbers (put p) old mid = MayPut places k.choice p old
MayOwn places k numbers (get g) old mid = MayGet g (database old)
MayOwn places k numbers checkpoint old mid = old.core.generation + 1 < 2 ^ 62
MayOwn places k numbers (on_tree work) old mid = MayOn k work old
MayOwn places k numbers expire old mid = StaysWithin old mid
MayOwn places k numbers empty_filespace old mid = (has_filespace (the_number numbers) (database old) ≡ true) × StaysWithin old mid
MayOwn places k numbers empty_volume old mid = (has_volume (the_number numbers) (database old) ≡ true) × StaysWithin old mid
MayOwn places k numbers back_up_database old mid = MayBackUpDatabase None old
MayOwn places k numbers back_up_since old mid = MayFollow old
MayOwn places k numbers (delete_history to) old mid = StaysWithin old mid
MayOwn places k numbers (audit_volume fix) old mid = MayAudit fix (the_number numbers) old mid
MayOwn places k numbers back_up_pool old mid = MayCopy places (the_number numbers) (the_second numbers) old
MayOwn places k numbers (moves mover) old mid = MayMove places numbers mover old
MayOwn places k numbers none_but_reuse old mid = Unit {0}
MayOwn places k numbers own old mid = ⊥

-- what the command names is there; and the database has no reason against its change, or shows its rows
abbrev pub MayBy : Places → Client → Own → Result Work Refusal → (old mid : Machine) → Type 0
MayBy places k own (Err why) old mid = ⊥
MayBy places k own (Ok (Commit what)) old mid = why_not (drawn what old) old.core ≡ None
MayBy places k own (Ok (Show query)) old mid = (shown : rows.Answer) × (answered query (database old) ≡ Ok shown)
MayBy places k own (Ok (Run numbers)) old mid = MayOwn places k numbers own old mid

-- A line is legal: it is a comment, or a command of the grammar that is done so far, of which this holds.
abbrev pub IsLegal : Places → Client → Line → (old mid : Machine) → Type 0
IsLegal places k comment old mid = Unit {0}
IsLegal places k (refused why) old mid = ⊥
IsLegal places k (asks command) old mid = MayBy places k (own_of command) (work_over command (database old)) old mid

-- what comes behind its work, which was done, was refused for the bound of the database's
abbrev pub IsRefusedBehind : (trusted : Type 0) → Places → Client → (n : ℕ) → Command → Behind → (old mid : Machine) → Answer → Type 0
IsRefusedBehind trusted places k n c b old mid answer =
    (why : Refusal) × (answer ≡ refusal n why) × (it : Outcome) × (between : Machine) × (first : List Entry)
    × Does trusted places k c (work_over c (database old)) old between (Ok it) first × EndsWith trusted places b (Ok it) between mid (Err why) × IsBounded between mid why

-- only the reuse of volumes may be
abbrev pub IsAnsweredWith : (trusted : Type 0) → Places → Client → (n : ℕ) → Command → Behind → (old mid : Machine) → Answer → Type 0
IsAnsweredWith trusted places k n c reuses old mid answer = (answer.tally.refused ≡ 0) ⊎ IsRefusedBehind trusted places k n c reuses old mid answer
IsAnsweredWith trusted places k n c b old mid answer = answer.tally.refused ≡ 0

abbrev pub IsAnswered : (trusted : Type 0) → Places → Client → (n : ℕ) → Line → (old mid : Machine) → Answer → Type 0
IsAnswered trusted places k n (asks c) old mid answer = IsAnsweredWith trusted places k n c (behind c) old mid answer
IsAnswered trusted places k n line old mid answer = answer.tally.refused ≡ 0

-- A line that is legal, and in which no count of faults rose, doesn't count as refused, unless the reuse of volumes behind its work is.
abbrev pub IsComplete : (trusted : Type 0) → Places → Client → (n : ℕ) → Line → (old mid : Machine) → Answer → Type 0
IsComplete trusted places k n line old mid answer = ((file : ℕ) → RoseFrom old mid file → ⊥) → IsLegal places k line old mid → IsAnswered trusted places k n line old mid answer

-- ---- all of them

-- what holds of a line that was answered so; and no tree changed but the one that it names
pub record Holds (trusted : Type 0) (places : Places) (k : Client) (n : ℕ) (line : Line) (old mid : Machine) (answer : Answer) (added : List Entry) : Type 0 where
  pub journal : AreOrdered k line old added
  pub queries : ShowsRows n line old answer
  pub bytes : ShowsBytes trusted n line old mid answer
  pub items : AreItems line old mid added
  pub causes : HasCause trusted places k n line old mid answer added
  pub done : IsDone trusted places k n line old mid answer added
  pub complete : IsComplete trusted places k n line old mid answer
  pub none_fails : NoneFails trusted places k line old mid answer
  pub trees : ChangesOnly (tree_named line) k
