-- When no file and no object fails in a line of a job. The line stands among turns of several actors (specs/Legal), and each step of its own met a state that these turns pass: there it has room.
use Rattle.std.specs.Prelude.{◌≡◌, true, false, ℕ, ◌+◌, Contains, List, [], ◌∷◌, ◌++◌, length, Option, None, Some, Result, Ok, Err}
use Rattle.std.specs.List.{AllByRecursion}
use Rattle.sha2.specs.Sha256.{sha256}
use Rattle.kinds.specs.Refusals.{foremost}
use Rattle.kinds.specs.ValueForms.{digest_with}
use Rattle.kinds.specs.declared.refusal.Holder.{Holder}
use Rattle.kinds.specs.declared.refusal.Refusal.{Refusal}
use Rattle.kinds.specs.declared.refusal.Refusal.TheVariants.{Busy}
use Rattle.choosers.specs.declared.rule.Rule.{Rule}
use Rattle.entries.specs.declared.change.Change.{Change}
use Rattle.blocks.specs.Shapes.{Placed}
use Rattle.blocks.specs.declared.block.Fate.{Fate}
use Rattle.blocks.specs.declared.block.Fate.TheVariants.{Beyond, Done}
use Rattle.inventory_rows.specs.object_rows.Names.{node_named}
use Rattle.inventory_rows.specs.version_groups.declared.copies.CopyRow.{CopyRow}
use Rattle.inventory_rows.specs.version_groups.declared.versions.Version.{Version}
use Rattle.inventory_rows.specs.Search.{version}
use Rattle.inventory_work.specs.Rules.{rules_of}
use Rattle.placing.specs.Placing.{can_read}
use Rattle.space.specs.declared.aim.Aim.{Aim}
use Rattle.space.specs.declared.aim.Aim.TheVariants as aim
use Rattle.admin_words.specs.declared.command.Command.{Command}
use Rattle.admin_words.specs.declared.command.Command.TheVariants as commands
use Rattle.admin_words.specs.declared.command.FileCommand.{FileCommand}
use Rattle.admin_words.specs.declared.command.FileCommand.TheVariants as files
use Rattle.admin_words.specs.declared.files.FilesRestore.{FilesRestore}
use Rattle.admin_words.specs.declared.files.IncrementalBackup.{IncrementalBackup}
use Rattle.client_trees.specs.Files.{Files}
use Rattle.client_trees.specs.declared.tree.FileRow.{FileRow}
use Rattle.script_loop.specs.Reply.{Answer}
use Rattle.line_results.specs.incrementals.Planning.{IsListing, IsPlanned}
use Rattle.line_results.specs.incrementals.declared.asking.Basis.{Basis}
use Rattle.line_results.specs.incrementals.declared.planning.Begun.{Begun}
use Rattle.line_results.specs.restores.declared.choosing.RestoreLine.{RestoreLine}
use Rattle.steps.specs.declared.asked.Asked.{Asked}
use Rattle.steps.specs.Calls.{fails_object}
use Rattle.steps.specs.Events.Deed.{Commit, CopyPiece, OpenCopy, OpenNew}
use Rattle.machine.specs.Causes.{commit_refused, new_refused}
use Rattle.machine.specs.Machine.{IsTicket, Places, asked_change, size_of, space}
use Rattle.machine.specs.State.{Machine, Ticket, inventory, sight}
use Rattle.machine.specs.Turns.{Turn, events_of}
use Rattle.crew.specs.Ran.{Turned}
use Rattle.line_results.specs.command_steps.Clients.{Client, Known, Turns}
use Rattle.line_results.specs.command_steps.Lines.{Line, asks, comment, line_in, refused}
use Rattle.line_results.specs.command_steps.Owns.{Own, back_up_pool, moves, own_of}
use Rattle.line_jobs.specs.Jobs.{AnswersFate, JobLine, between, lines_of}
use Rattle.line_jobs.specs.Shares.{Came}
use Rattle.line_jobs.specs.declared.job.Said.{Said}
use Rattle.line_results.specs.Copied.{CanTake, IsShortBy}
use Rattle.line_results.specs.Resting.{RoseFrom, database}
use Rattle.line_results.specs.Room.{CanBeSent, IsCalm, IsOfOne}
use Rattle.line_results.specs.Trees.{HasVersions, IsChosen}
use Rattle.block_results.specs.Legal.{Passes}
use Rattle.block_results.specs.Refusing.{Meets, bounds}

-- ---- a backup of a tree

-- The pool is there and takes an object of this size, no number is at its bound, and the object has a place, but for room that others hold: for that a backup waits.
abbrev pub HasRoomAt : Places → (actor pool size : ℕ) → Machine → Type 0
HasRoomAt places actor pool size m =
    (foremost (new_refused pool size (sight actor m.core)) ≡ None) × (foremost (bounds (OpenNew pool size 0 (Ok 0)) m.core) ≡ None)
    × ((why : Refusal) → places (inventory m.core) (space m.core) actor size (aim.New pool) 0 0 (Err why) → (h : Holder) × (why ≡ Busy h))

-- what a backup's plan goes by, each part of it asked at one of these states: the versions of the filespace, the node, and the rules of its classes with the day
abbrev pub IsBasisOf : (Is : Machine → Type 0) → IncrementalBackup → Basis → Type 0
IsBasisOf Is i basis =
    ((m : Machine) × Is m × HasVersions i.node i.filespace (database m) basis.versions)
    × ((m : Machine) × Is m × (node_named i.node (database m).clients.nodes ≡ Some basis.ruled.node))
    × ((m : Machine) × Is m × (rules_of basis.ruled.node (database m) ≡ Ok basis.ruled.rules) × (basis.ruled.today ≡ (database m).today))

-- A backup of a tree that tells these files has room for all of them. By every plan that its turns may give, each listed file that isn't left out is bound to a class with a copy group, and those that are to be sent can be. Wherever one
-- of its steps opens a ticket there is room; and wherever one tries a transaction of one line nothing refuses that. Where a transaction of several lines is refused, each of these is tried by itself.
pub record HasRoomForAll (trusted : Type 0) (places : Places) (actor : ℕ) (choice : List Rule) (i : IncrementalBackup) (told : Option Files) (turns : List Turn) (old new : Machine) : Type 0 where
  pub planned : (basis : Basis) (files : List FileRow) (b : Begun) → IsBasisOf (Passes trusted places turns old new) i basis → IsListing told files → IsPlanned choice files basis b
      → (b.plan.failed ≡ []) × AllByRecursion (CanBeSent b.classes told) b.plan.send
  pub placed : (t : Turn) (m : Meets trusted places turns old new t) → t.actor ≡ actor → (pool size : ℕ) (answer : Result ℕ Refusal) → t.did.deed ≡ OpenNew pool size 0 answer → HasRoomAt places actor pool size m.before
  pub free : (t : Turn) (m : Meets trusted places turns old new t) → t.actor ≡ actor → (asked : Asked) (tickets : List ℕ) (answer : Result ℕ Refusal) → t.did.deed ≡ Commit asked tickets answer → IsOfOne asked
      → foremost (commit_refused actor asked tickets (sight actor m.before.core)) ≡ None

-- ---- a restore

-- A version can be given back with these bytes: the database has it under its object's number, with the same digest; one of its copies lies on volumes that may be read; and these are the object's bytes.
abbrev pub IsThereWith : (bytes : List ℕ) → Machine → RestoreLine → Type 0
IsThereWith bytes m l =
    (w : Version) × (version l.stored.object (database m) ≡ Some w) × (w.digest ≡ l.stored.digest) × (copy : CopyRow) × Contains w.copies copy × (can_read copy (database m) ≡ true) × (m.contents l.stored.object ≡ bytes)

-- So it can at each of these states, with the same bytes: they are as many as it says, with its digest.
abbrev pub CanBeGiven : (Is : Machine → Type 0) → RestoreLine → Type 0
CanBeGiven Is l = (bytes : List ℕ) × (length bytes ≡ l.stored.size) × (l.stored.digest ≡ digest_with (sha256 bytes)) × ((m : Machine) → Is m → IsThereWith bytes m l)

-- Whichever versions are wanted of the database of one of these states, each of them can be given back at each.
abbrev pub CanGiveAll : (Is : Machine → Type 0) → FilesRestore → Type 0
CanGiveAll Is r = (m : Machine) (lines : List RestoreLine) → Is m → IsChosen r (database m) lines → AllByRecursion (CanBeGiven Is) lines

-- ---- copies

-- The copy has a place. Or it has none for another reason than those for which an object fails, as where others hold the room: for that a process waits.
abbrev pub HasPlaceAt : Places → (actor object : ℕ) → Aim → (avoid : ℕ) → Machine → Type 0
HasPlaceAt places actor object a avoid m = (why : Refusal) → places (inventory m.core) (space m.core) actor (size_of object (inventory m.core)) a 0 avoid (Err why) → fails_object why ≡ false

-- A process that makes further copies of objects, or moves copies, has room for these and can read them. Wherever one of its steps opens a ticket for a copy this has a place; wherever one copies a piece, one of the object's copies has
-- that on volumes that may be read; and the record of each transaction that one tries has at most 2^24 bytes.
pub record HasRoomForCopies (trusted : Type 0) (places : Places) (actor : ℕ) (turns : List Turn) (old new : Machine) : Type 0 where
  pub placed : (t : Turn) (m : Meets trusted places turns old new t) → t.actor ≡ actor → (object : ℕ) (a : Aim) (avoid : ℕ) (answer : Result ℕ Refusal) → t.did.deed ≡ OpenCopy object a avoid answer → HasPlaceAt places actor object a avoid m.before
  pub read : (t : Turn) (m : Meets trusted places turns old new t) → t.actor ≡ actor → (number : ℕ) (answer : Result ℕ Refusal) (own : Ticket) → t.did.deed ≡ CopyPiece number answer → IsTicket actor number m.before own
      → CanTake own (inventory m.before.core)
  pub short : (t : Turn) (m : Meets trusted places turns old new t) → t.actor ≡ actor → (asked : Asked) (tickets : List ℕ) (answer : Result ℕ Refusal) (c : Change) → t.did.deed ≡ Commit asked tickets answer
      → asked_change actor asked tickets m.before.core ≡ Some c → IsShortBy actor c

-- ---- a line

-- In a backup of a tree whose count of faults doesn't rise, and that has room for all files, none fails: its answer counts none. Nor does one in a restore into such a tree, from a store that is trusted to have the objects' bytes, of versions
-- that can be given back at each state that these turns pass.
abbrev pub FileUnfailed : (trusted : Type 0) → Places → (actor : ℕ) → Client → FileCommand → List Turn → (old new : Machine) → Answer → Type 0
FileUnfailed trusted places actor k (files.Incremental i) turns old new answer =
    IsCalm i.tree k → ((before : Known) (after : Known) → Turns i.tree before after k → HasRoomForAll trusted places actor k.choice i before.files turns old new) → answer.tally.failed ≡ 0
FileUnfailed trusted places actor k (files.RestoreFiles r) turns old new answer = IsCalm r.tree k → trusted → CanGiveAll (Passes trusted places turns old new) r → answer.tally.failed ≡ 0
FileUnfailed trusted places actor k c turns old new answer = Unit {0}

-- In what makes further copies of objects, or moves copies, and has room for these and can read them, no object fails: its answer counts none.
abbrev pub OwnUnfailed : (trusted : Type 0) → Places → (actor : ℕ) → Own → List Turn → (old new : Machine) → Answer → Type 0
OwnUnfailed trusted places actor back_up_pool turns old new answer = HasRoomForCopies trusted places actor turns old new → answer.tally.failed ≡ 0
OwnUnfailed trusted places actor (moves mover) turns old new answer = HasRoomForCopies trusted places actor turns old new → answer.tally.failed ≡ 0
OwnUnfailed trusted places actor own turns old new answer = Unit {0}

abbrev pub CommandUnfailed : (trusted : Type 0) → Places → (actor : ℕ) → Client → Command → List Turn → (old new : Machine) → Answer → Type 0
CommandUnfailed trusted places actor k (commands.File c) turns old new answer = FileUnfailed trusted places actor k c turns old new answer
CommandUnfailed trusted places actor k c turns old new answer = OwnUnfailed trusted places actor (own_of c) turns old new answer

-- of one that names a tree which an earlier job of the block has nothing is said here
abbrev pub AsksUnfailed : Option ℕ → (trusted : Type 0) → Places → (actor : ℕ) → Client → Command → List Turn → (old new : Machine) → Answer → Type 0
AsksUnfailed (Some number) trusted places actor k c turns old new answer = Unit {0}
AsksUnfailed None trusted places actor k c turns old new answer = CommandUnfailed trusted places actor k c turns old new answer

abbrev pub LineUnfailed : Option ℕ → (trusted : Type 0) → Places → (actor : ℕ) → Client → Line → List Turn → (old new : Machine) → Answer → Type 0
LineUnfailed in_use trusted places actor k comment turns old new answer = Unit {0}
LineUnfailed in_use trusted places actor k (refused why) turns old new answer = Unit {0}
LineUnfailed in_use trusted places actor k (asks c) turns old new answer = AsksUnfailed in_use trusted places actor k c turns old new answer

-- ---- a job, and all of a block

-- so where no count of faults rose in its turns
abbrev pub FateUnfailed : (trusted : Type 0) → Places → (actor : ℕ) → Client → Fate → JobLine → List Turn → (old new : Machine) → Answer → Type 0
FateUnfailed trusted places actor k Beyond l turns old new answer = Unit {0}
FateUnfailed trusted places actor k (Done tree) l turns old new answer =
    ((file : ℕ) → RoseFrom old new file → ⊥) → LineUnfailed l.in_use trusted places actor k (line_in true l.line.text) turns old new answer

-- Of these lines, of which this is said, each was answered by its actor's steps among some of these turns, one after the other, over the one state of the trees and the next; and so none fails in each.
abbrev pub AreUnfailed : (trusted : Type 0) → Places → (actor : ℕ) → List Rule → List JobLine → (trees : List Known) → List Turn → (old new : Machine) → List Said → Type 0
AreUnfailed trusted places actor choice lines trees turns old new [] = Unit {0}
AreUnfailed trusted places actor choice [] trees turns old new (s ∷ said) = ⊥
AreUnfailed trusted places actor choice (l ∷ lines) trees turns old new (s ∷ said) =
    (mid : List Known) × (mine : List Turn) × (others : List Turn) × (next : Machine) × (turns ≡ mine ++ others)
    × Turned trusted places mine old next × Turned trusted places others next new
    × AnswersFate (between choice trees mid) l.line.fate l (events_of actor mine) (Ok (s.reply, s.why))
    × FateUnfailed trusted places actor (between choice trees mid) l.line.fate l mine old next s.reply
    × AreUnfailed trusted places actor choice lines mid others next new said

-- So it is of each job, from the one at this place on.
abbrev pub JobsUnfailed : (trusted : Type 0) → Places → List Rule → (all : List Placed) → (job first : ℕ) → List Turn → (old new : Machine) → (trees : List (List Known)) → List Came → Type 0
JobsUnfailed trusted places choice all job first turns old new trees [] = Unit {0}
JobsUnfailed trusted places choice all job first turns old new [] came = Unit {0}
JobsUnfailed trusted places choice all job first turns old new (own ∷ trees) (c ∷ came) =
    AreUnfailed trusted places (first + job) choice (lines_of all job all) own turns old new c.said × JobsUnfailed trusted places choice all (job + 1) first turns old new trees came
