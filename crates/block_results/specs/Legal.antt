-- When a line of a job isn't refused. A line stands among turns of several actors, which lead from the state behind its actor's last step before it to the one behind its own last step: other actors' turns may be between two of its
-- steps. It is legal where it would be at each of the states that these turns pass, as a line outside blocks is at the one before it.
-- A line that makes its transaction passes states behind it too, at which it may not be legal any more: it wasn't refused. A change that is refused makes none, so where no other actor's transaction concerns what it names it stays legal.
use Rattle.std.specs.Prelude.{◌≡◌, ◌⊎◌, ℕ, ◌+◌, ◌^◌, ◌<◌, ◌≤◌, Bool, false, true, Contains, List, [], ◌∷◌, ◌++◌, length, Option, None, Some, Result, Ok, Err}
use Rattle.std.specs.List.{AllByRecursion}
use Rattle.sha2.specs.Sha256.{sha256}
use Rattle.kinds.specs.Refusals.{foremost}
use Rattle.kinds.specs.ValueForms.{digest_with}
use Rattle.kinds.specs.declared.refusal.Holder.{Holder}
use Rattle.kinds.specs.declared.refusal.Refusal.{Refusal}
use Rattle.kinds.specs.declared.refusal.Refusal.TheVariants.{Busy, InventoryFull}
use Rattle.choosers.specs.declared.rule.Rule.{Rule}
use Rattle.blocks.specs.Shapes.{Placed}
use Rattle.blocks.specs.declared.block.Fate.{Fate}
use Rattle.blocks.specs.declared.block.Fate.TheVariants.{Beyond, Done}
use Rattle.entries.specs.declared.change.Change.{Change}
use Rattle.entries.specs.declared.change.Change.TheVariants as change
use Rattle.inventory_rows.specs.object_rows.Names.{filespace_named, node_named}
use Rattle.inventory_rows.specs.version_groups.declared.copies.CopyRow.{CopyRow}
use Rattle.inventory_rows.specs.version_groups.declared.versions.Version.{Version}
use Rattle.inventory_rows.specs.Search.{version}
use Rattle.inventory_rows.specs.State.{Inv}
use Rattle.inventory_work.specs.Rules.{rules_of}
use Rattle.inventory_work.specs.declared.lines.Rules.{Rules}
use Rattle.inventory_answers.specs.Answered.{answered}
use Rattle.inventory_work.specs.Copies.{has_volume}
use Rattle.inventory_answers.specs.Clients.{path_versions_of}
use Rattle.inventory_answers.specs.Stores.{volume_lines}
use Rattle.inventory_answers.specs.declared.lines.VersionLine.{VersionLine}
use Rattle.placing.specs.Placing.{can_read}
use Rattle.space.specs.declared.aim.Aim.TheVariants as aim
use Rattle.line_results.specs.sessions.Getting.{active_line}
use Rattle.line_results.specs.sessions.Homes.{home_of}
use Rattle.line_results.specs.sessions.Putting.{object_among}
use Rattle.line_results.specs.sessions.declared.homes.Home.{Home}
use Rattle.inventory_answers.specs.declared.query.Query.{Query}
use Rattle.inventory_answers.specs.declared.reply.Answer as rows
use Rattle.admin_words.specs.declared.command.Command.{Command}
use Rattle.admin_words.specs.declared.files.FileGet.{FileGet}
use Rattle.admin_words.specs.declared.files.FilePut.{FilePut}
use Rattle.admin_words.specs.declared.files.IncrementalBackup.{IncrementalBackup}
use Rattle.admin_commands.specs.Orders.{needs, work_of}
use Rattle.admin_commands.specs.declared.work.Work.{Work}
use Rattle.admin_commands.specs.declared.work.Work.TheVariants.{Commit, Show, Run}
use Rattle.script_loop.specs.Reply.{Answer}
use Rattle.line_results.specs.pool_restores.Listing.{destroying_of}
use Rattle.line_results.specs.reuse_delay.Reusing.{VolumeReuse}
use Rattle.steps.specs.Events.{Deed, Event}
use Rattle.steps.specs.Events.Deed.{OpenNew}
use Rattle.machine.specs.Causes.{change_refused, new_refused}
use Rattle.machine.specs.Machine.{IsAnswer, Places, held_refused, IsTicket, space}
use Rattle.machine.specs.State.{Image as Picture, Machine, checkpoint as checkpoint_image, own_image, sight, Ticket}
use Rattle.machine.specs.Changes.{scratch_of, version_from}
use Rattle.machine.specs.Turns.{Turn, events_of}
use Rattle.crew.specs.Ran.{Turned}
use Rattle.line_results.specs.command_steps.Answers.{refusal}
use Rattle.line_results.specs.command_steps.Behind.{Behind, behind, reuses}
use Rattle.line_results.specs.command_steps.Clients.{Client, Known}
use Rattle.line_results.specs.command_steps.Doing.{the_number}
use Rattle.line_results.specs.command_steps.Lines.{Line, asks, comment, line_in, refused}
use Rattle.line_results.specs.command_steps.Owns.{OnTree, Own, back_up, checkpoint, erase, get, moves, none_but_reuse, on_tree, own_of, restore, validate, volume_restorer, write, put, row_put}
use Rattle.line_jobs.specs.Jobs.{AnswersFate, JobLine, between, lines_of}
use Rattle.line_jobs.specs.Shares.{Came}
use Rattle.line_jobs.specs.declared.job.Said.{Said}
use Rattle.line_results.specs.Clauses.{IsSound, MayGive}
use Rattle.line_results.specs.Files.{filespace_defined}
use Rattle.line_results.specs.Commands.{drawn, validated}
use Rattle.line_results.specs.Resting.{RoseFrom, database}
use Rattle.block_results.specs.Filled.{IsInUse}
use Rattle.block_results.specs.Gone.{IsUnopened}
use Rattle.block_results.specs.Processes.{HaveNumbers, MayProcess}
use Rattle.block_results.specs.Refusing.{Meets}

-- ---- states

-- the turns pass this state: some lead to it, and the others on from there
abbrev pub Passes : (trusted : Type 0) → Places → List Turn → (old new m : Machine) → Type 0
Passes trusted places turns old new m = (front : List Turn) × (back : List Turn) × (turns ≡ front ++ back) × Turned trusted places front old m × Turned trusted places back m new

-- A step of the actor that was so (`So`) stands among the turns. Behind it a step of another turn, of whichever actor, met a state at which this wasn't there, and left one at which it was; and turns led on from there to this state.
abbrev pub BringsTo : (trusted : Type 0) → Places → (actor : ℕ) → List Turn → (old new : Machine) → (So : Deed → Type 0) → (is_there : Inv → Bool) → Machine → Type 0
BringsTo trusted places actor turns old new So is_there m =
    (t : Turn) × (at : Meets trusted places turns old new t) × (t.actor ≡ actor) × So t.did.deed
    × (front : List Turn) × (back : List Turn) × (at.back ≡ front ++ back) × Turned trusted places back m new
    × (b : Turn) × (by : Meets trusted places front at.after m b) × (is_there (database by.before) ≡ false) × (is_there (database by.after) ≡ true)

-- a step of the actor that opens a ticket for a new object of this size in this pool met this state
abbrev pub OpensAt : (trusted : Type 0) → Places → (actor : ℕ) → List Turn → (old new : Machine) → (pool size : ℕ) → Machine → Type 0
OpensAt trusted places actor turns old new pool size m =
    (t : Turn) × (at : Meets trusted places turns old new t) × (t.actor ≡ actor) × (answer : Result ℕ Refusal) × (t.did.deed ≡ OpenNew pool size 0 answer) × (at.before ≡ m)

-- ---- a command

-- In what follows `Is` says which states are meant, and `Opening` at which of them a ticket is opened for a new object of this size in this pool.

-- each look-up is answered at each of them
abbrev pub AreThere : (Is : Machine → Type 0) → List Query → Type 0
AreThere Is queries = AllByRecursion (λ q. (m : Machine) → Is m → (a : rows.Answer) × (answered q (database m) ≡ Ok a)) queries

-- these are answers to the look-ups, each at one of them
abbrev pub AreAnswers : (Is : Machine → Type 0) → List Query → List rows.Answer → Type 0
AreAnswers Is [] [] = Unit {0}
AreAnswers Is (q ∷ queries) (a ∷ answers) = ((m : Machine) × Is m × IsAnswer m.core.log_length q (database m) a) × AreAnswers Is queries answers
AreAnswers Is _ _ = ⊥

-- the database has no reason against the change, and nobody holds what it takes away
abbrev pub MayCommit : (actor : ℕ) → Change → Machine → Type 0
MayCommit actor what m = (foremost (change_refused actor (Some (drawn what m)) (sight actor m.core)) ≡ None) × (held_refused (drawn what m) m.core ≡ [])

-- this is the active version of the path, its object is kept, and one of its copies lies on volumes that may be read
abbrev pub IsReadable : FileGet → VersionLine → Inv → Type 0
IsReadable g line v =
    (lines : List VersionLine) × (path_versions_of g.node g.filespace g.path v ≡ Ok lines) × (active_line lines ≡ Some line)
    × (w : Version) × (version line.object v ≡ Some w) × (copy : CopyRow) × Contains w.copies copy × (can_read copy v ≡ true)

-- a file may be read where the active version of its path is the same at each of them, and may be read
abbrev pub MayGet : (Is : Machine → Type 0) → FileGet → Type 0
MayGet Is g = (line : VersionLine) × ((m : Machine) → Is m → IsReadable g line (database m))

-- a filespace is there, or the database has no reason against defining it
abbrev pub IsThereOrDefined : (actor : ℕ) → Option ℕ → (node : ℕ) → (name : List ℕ) → Machine → Type 0
IsThereOrDefined actor (Some filespace) node name m = Unit {0}
IsThereOrDefined actor None node name m = MayCommit actor (filespace_defined node name (database m)) m

-- the node is there with the rules of its classes, and so is its filespace, or it may be defined
abbrev pub IsHome : (actor : ℕ) → (owner name : List ℕ) → (node : ℕ) → Machine → Type 0
IsHome actor owner name node m =
    (node_named owner (database m).clients.nodes ≡ Some node) × (rules : Rules) × (rules_of node (database m) ≡ Ok rules)
    × IsThereOrDefined actor (filespace_named node name (database m).clients.filespaces) node name m

-- a filespace that is there at one of them has its number at each whose database is no older
abbrev pub Remains : (Is : Machine → Type 0) → (node : ℕ) → (name : List ℕ) → Type 0
Remains Is node name =
    (m n : Machine) → Is m → Is n → (database m).number ≤ (database n).number → (filespace : ℕ) → filespace_named node name (database m).clients.filespaces ≡ Some filespace
    → filespace_named node name (database n).clients.filespaces ≡ Some filespace

-- A tree may be backed up into a filespace that is there, or that is still to be defined, by the backup itself or by another actor, and that stays once it is there.
abbrev pub MayBackUp : (Is : Machine → Type 0) → (actor : ℕ) → IncrementalBackup → Type 0
MayBackUp Is actor i = (node : ℕ) × ((m : Machine) → Is m → IsHome actor i.node i.filespace node m) × Remains Is node i.filespace

-- The file has a place, or waits for room that others hold: the pool takes new objects of this size, no room is wanting but what others hold, and there is a number for the object, and one for its ticket.
abbrev pub HasRoom : Places → (actor pool size : ℕ) → Machine → Type 0
HasRoom places actor pool size m =
    (new_refused pool size (sight actor m.core) ≡ []) × ((e : Refusal) → places (database m) (space m.core) actor size (aim.New pool) 0 0 (Err e) → (h : Holder) × (e ≡ Busy h))
    × (m.core.next_object + 1 < 2 ^ 62) × (m.core.next_ticket + 1 < 2 ^ 62)

-- the transaction by which the file becomes a version of its path, where it lies in the place of this ticket
abbrev pub stored_with : (filespace : ℕ) → FilePut → (class : List ℕ) → Ticket → Inv → Change
stored_with filespace p class t v = change.Backup (record {
  filespace = filespace;
  scratch = scratch_of v (t ∷ []);
  items = version_from (record { path = p.path; class = class; mtime = p.mtime; digest = digest_with (sha256 p.text) }) t ∷ [];
})

-- whichever ticket of its actor's it lies in, the database has no reason against that transaction, in the filespace that is there
abbrev pub MayStore : (actor node : ℕ) → FilePut → (class : List ℕ) → Machine → Type 0
MayStore actor node p class m =
    (filespace number : ℕ) (t : Ticket) → filespace_named node p.filespace (database m).clients.filespaces ≡ Some filespace → IsTicket actor number m t
    → MayCommit actor (stored_with filespace p class t (database m)) m

-- by the include-exclude list and the rules of its node the path is bound to this class, whose files that pool takes
abbrev pub IsBound : (node : ℕ) → List Rule → FilePut → Home → Inv → Type 0
IsBound node choice p home v = (rules : Rules) × (rules_of node v ≡ Ok rules) × (home_of node rules choice p.path ≡ Ok home)

-- a version of the path is told that has the file's time and the SHA-256 of its text
abbrev pub IsKeptIn : FilePut → Inv → Type 0
IsKeptIn p v =
    (lines : List VersionLine) × (path_versions_of p.node p.filespace p.path v ≡ Ok lines) × (object : ℕ) × (object_among (row_put p) (digest_with (sha256 p.text)) lines ≡ Some object)

-- where one is told at one of them, one is at each whose database is no older
abbrev pub StaysKept : (Is : Machine → Type 0) → FilePut → Type 0
StaysKept Is p = (m n : Machine) → Is m → Is n → (database m).number ≤ (database n).number → IsKeptIn p (database m) → IsKeptIn p (database n)

-- A file may be put: at each of them its node is there, its filespace is or may be defined, its path is bound to the same class and pool, and it may be stored there; wherever a ticket is opened for it it has a place; its filespace stays
-- once it is there, and so does a version that tells of it, until its object's number was asked.
abbrev pub MayPut : Places → (Is : Machine → Type 0) → (Opening : (pool size : ℕ) → Machine → Type 0) → (actor : ℕ) → List Rule → FilePut → Type 0
MayPut places Is Opening actor choice p =
    (node : ℕ) × (home : Home)
    × ((m : Machine) → Is m → IsHome actor p.node p.filespace node m × IsBound node choice p home (database m) × MayStore actor node p home.class m)
    × ((m : Machine) → Opening home.pool (length p.text) m → HasRoom places actor home.pool (length p.text) m)
    × Remains Is node p.filespace × StaysKept Is p

-- A file may be written or erased where no call on its tree fails, and so may a tree be backed up whose node is there at each of them, and whose filespace is there or may be defined; and files may be restored into a tree that is there, where at each of them what is
-- wanted may be.
abbrev pub MayOn : (Is : Machine → Type 0) → (actor : ℕ) → Client → OnTree → Type 0
MayOn Is actor k (write w) = IsSound w.tree k
MayOn Is actor k (erase e) = IsSound e.tree k
MayOn Is actor k (restore r) = ((m : Machine) → Is m → MayGive r (database m)) × (r.tree < length k.old)
MayOn Is actor k (back_up i) = MayBackUp Is actor i × IsSound i.tree k

-- an image that is in progress is a checkpoint's
abbrev pub IsNoBackup : Option Picture → Type 0
IsNoBackup None = Unit {0}
IsNoBackup (Some i) = i.picture ≡ checkpoint_image

-- there is a generation behind the newest, and the actor itself has no backup of the database in progress
abbrev pub MayCheckpoint : (actor : ℕ) → Machine → Type 0
MayCheckpoint actor m = (m.core.generation + 1 < 2 ^ 62) × IsNoBackup (own_image actor m.core.image)

-- Work of a command's own. Of what isn't told apart here, the processes among it, none is said to be legal.
abbrev pub MayOwn : Places → (Is : Machine → Type 0) → (Opening : (pool size : ℕ) → Machine → Type 0) → (actor : ℕ) → Client → Own → Type 0
MayOwn places Is Opening actor k checkpoint = (m : Machine) → Is m → MayCheckpoint actor m
MayOwn places Is Opening actor k (validate set) = (m : Machine) → Is m → validated set (database m) ≡ Ok tt
MayOwn places Is Opening actor k (get g) = MayGet Is g
MayOwn places Is Opening actor k (on_tree work) = MayOn Is actor k work
MayOwn places Is Opening actor k none_but_reuse = Unit {0}
MayOwn places Is Opening actor k (put p) = MayPut places Is Opening actor k.choice p
MayOwn places Is Opening actor k own = ⊥

-- RESTORE VOLUME is legal where at each of them the volume is there, no bound stands in the way of a copy, wherever it is aimed, and the transaction by which what the volume held is made known as lost may be made at each of them.
abbrev pub MayLose : Places → (Is : Machine → Type 0) → (actor : ℕ) → (numbers : List ℕ) → Own → Type 0
MayLose places Is actor numbers (moves volume_restorer) =
    HaveNumbers places Is actor
    × ((m : Machine) → Is m → (has_volume (the_number numbers) (database m) ≡ true)
    × (c : Change) × (destroying_of (the_number numbers) (volume_lines None None (database m).stores) ≡ Ok c) × ((n : Machine) → Is n → MayCommit actor c n))
MayLose places Is actor numbers own = ⊥

-- at each of them the change may be made, the query shows rows, or the work of its own may be done; so may a process (specs/Processes), and RESTORE VOLUME
abbrev pub MayBy : Places → (Is : Machine → Type 0) → (Opening : (pool size : ℕ) → Machine → Type 0) → (actor : ℕ) → Client → Own → Result Work Refusal → Type 0
MayBy places Is Opening actor k own (Err why) = ⊥
MayBy places Is Opening actor k own (Ok (Commit what)) = (m : Machine) → Is m → MayCommit actor what m
MayBy places Is Opening actor k own (Ok (Show query)) = (m : Machine) → Is m → (shown : rows.Answer) × (answered query (database m) ≡ Ok shown)
MayBy places Is Opening actor k own (Ok (Run numbers)) = MayOwn places Is Opening actor k own ⊎ MayProcess places Is actor numbers own ⊎ MayLose places Is actor numbers own

-- its look-ups are answered, and whatever they are answered, so is what it asks for then
abbrev pub MayDo : Places → (Is : Machine → Type 0) → (Opening : (pool size : ℕ) → Machine → Type 0) → (actor : ℕ) → Client → Command → Type 0
MayDo places Is Opening actor k c = AreThere Is (needs c) × ((answers : List rows.Answer) → AreAnswers Is (needs c) answers → MayBy places Is Opening actor k (own_of c) (work_of c answers))

-- ---- a line

-- no line is legal that names a tree which an earlier job of the block has
abbrev pub MayAsk : Places → (Is : Machine → Type 0) → (Opening : (pool size : ℕ) → Machine → Type 0) → (actor : ℕ) → Client → (in_use : Option ℕ) → Command → Type 0
MayAsk places Is Opening actor k (Some number) c = ⊥
MayAsk places Is Opening actor k None c = MayDo places Is Opening actor k c

abbrev pub IsLegal : Places → (Is : Machine → Type 0) → (Opening : (pool size : ℕ) → Machine → Type 0) → (actor : ℕ) → Client → (in_use : Option ℕ) → Line → Type 0
IsLegal places Is Opening actor k in_use comment = Unit {0}
IsLegal places Is Opening actor k in_use (refused why) = ⊥
IsLegal places Is Opening actor k in_use (asks c) = MayAsk places Is Opening actor k in_use c

-- the reuse of volumes, which comes behind its work, was refused since a bound of the database is reached
abbrev pub IsRefusedBehind : (n : ℕ) → List Event → Answer → Type 0
IsRefusedBehind n events answer =
    (answer ≡ refusal n InventoryFull) × (front : List Event) × (own : List Event) × (back : List Event) × (events ≡ front ++ (own ++ back)) × VolumeReuse own (Err InventoryFull)

abbrev pub IsAnsweredWith : Behind → (n : ℕ) → List Event → Answer → Type 0
IsAnsweredWith reuses n events answer = (answer.tally.refused ≡ 0) ⊎ IsRefusedBehind n events answer
IsAnsweredWith b n events answer = answer.tally.refused ≡ 0

-- It doesn't count as refused, unless the reuse of volumes behind its work was, or since something is kept in a filespace, or lies on a volume, when it is to go, behind steps that took away what they had found there, into the filespace by a step meanwhile (`IsInUse` of Filled), or a copy that is to move got no ticket, as its pool isn't there (`IsUnopened` of Gone).
abbrev pub IsAnswered : (Is : Machine → Type 0) → (Brings : (Deed → Type 0) → (Inv → Bool) → Machine → Type 0) → (n : ℕ) → Line → List Event → Answer → Type 0
IsAnswered Is Brings n (asks c) events answer = IsAnsweredWith (behind c) n events answer ⊎ IsInUse Is Brings (own_of c) n events answer ⊎ IsUnopened Is (own_of c) n events answer
IsAnswered Is Brings n line events answer = answer.tally.refused ≡ 0

-- A line that stands among these turns and was answered so: where it is legal, and no count of faults rose in them, it isn't refused.
abbrev pub IsComplete : (trusted : Type 0) → Places → (actor : ℕ) → Client → (in_use : Option ℕ) → (n : ℕ) → Line → List Turn → (old new : Machine) → Answer → Type 0
IsComplete trusted places actor k in_use n line turns old new answer =
    ((file : ℕ) → RoseFrom old new file → ⊥) → IsLegal places (Passes trusted places turns old new) (OpensAt trusted places actor turns old new) actor k in_use line → IsAnswered (Passes trusted places turns old new) (BringsTo trusted places actor turns old new) n line (events_of actor turns) answer

-- ---- a job, and all of a block

abbrev pub FateComplete : (trusted : Type 0) → Places → (actor : ℕ) → Client → Fate → JobLine → List Turn → (old new : Machine) → Answer → Type 0
FateComplete trusted places actor k Beyond l turns old new answer = Unit {0}
FateComplete trusted places actor k (Done tree) l turns old new answer = IsComplete trusted places actor k l.in_use l.line.number (line_in true l.line.text) turns old new answer

-- Of these lines, of which this is said, each was answered by its actor's steps among some of these turns, one after the other, over the one state of the trees and the next; and so each is complete.
abbrev pub AreComplete : (trusted : Type 0) → Places → (actor : ℕ) → List Rule → List JobLine → (trees : List Known) → List Turn → (old new : Machine) → List Said → Type 0
AreComplete trusted places actor choice lines trees turns old new [] = Unit {0}
AreComplete trusted places actor choice [] trees turns old new (s ∷ said) = ⊥
AreComplete trusted places actor choice (l ∷ lines) trees turns old new (s ∷ said) =
    (mid : List Known) × (mine : List Turn) × (others : List Turn) × (next : Machine) × (turns ≡ mine ++ others)
    × Turned trusted places mine old next × Turned trusted places others next new
    × AnswersFate (between choice trees mid) l.line.fate l (events_of actor mine) (Ok (s.reply, s.why))
    × FateComplete trusted places actor (between choice trees mid) l.line.fate l mine old next s.reply
    × AreComplete trusted places actor choice lines mid others next new said

-- Of each job, from the one at this place on, each line that was answered is complete.
abbrev pub JobsComplete : (trusted : Type 0) → Places → List Rule → (all : List Placed) → (job first : ℕ) → List Turn → (old new : Machine) → (trees : List (List Known)) → List Came → Type 0
JobsComplete trusted places choice all job first turns old new trees [] = Unit {0}
JobsComplete trusted places choice all job first turns old new [] came = Unit {0}
JobsComplete trusted places choice all job first turns old new (own ∷ trees) (c ∷ came) =
    AreComplete trusted places (first + job) choice (lines_of all job all) own turns old new c.said × JobsComplete trusted places choice all (job + 1) first turns old new trees came
