-- When nothing fails in a line, where one actor has the machine alone: in a DSMC INCREMENTAL each file of the plan has room wherever its turn comes, in a DSMC RESTORE each version that is wanted can be read, and
-- in a process that copies objects or moves copies each copy has a place and can be read.
use Rattle.std.specs.Prelude.{◌≡◌, ◌⊎◌, ℕ, Contains, List, [], ◌∷◌, ◌++◌, length, Option, None, Some, Result, Ok, true}
use Rattle.std.specs.List.{AllByRecursion}
use Rattle.sha2.specs.Sha256.{sha256}
use Rattle.kinds.specs.Refusals.{foremost}
use Rattle.kinds.specs.ValueForms.{digest_with}
use Rattle.kinds.specs.declared.refusal.Refusal.{Refusal}
use Rattle.choosers.specs.declared.rule.Rule.{Rule}
use Rattle.inventory_rows.specs.version_groups.declared.copies.CopyRow.{CopyRow}
use Rattle.inventory_rows.specs.version_groups.declared.versions.Version.{Version}
use Rattle.inventory_rows.specs.Search.{version}
use Rattle.inventory_rows.specs.State.{Inv}
use Rattle.inventory_work.specs.declared.lines.Rules.{Rules}
use Rattle.placing.specs.Placing.{can_read}
use Rattle.admin_commands.specs.declared.work.Work.{Work}
use Rattle.admin_commands.specs.declared.work.Work.TheVariants.{Run}
use Rattle.admin_words.specs.declared.files.IncrementalBackup.{IncrementalBackup}
use Rattle.client_trees.specs.Files.{ClientFile, Files}
use Rattle.command_steps.specs.client_files.Reading.{file_of}
use Rattle.client_plan.specs.Classes.{destination}
use Rattle.client_plan.specs.Plans.{Lists}
use Rattle.client_plan.specs.declared.lines.GoneLine.{GoneLine}
use Rattle.client_plan.specs.declared.lines.RebindLine.{RebindLine}
use Rattle.client_plan.specs.declared.lines.SendLine.{SendLine}
use Rattle.client_batches.specs.Listings.{ending, rebinding, storing}
use Rattle.client_batches.specs.declared.listing.SealedLine.{SealedLine}
use Rattle.command_steps.specs.incrementals.Process.{Increments}
use Rattle.command_steps.specs.incrementals.declared.answering.Sent.{Sent}
use Rattle.command_steps.specs.restores.declared.choosing.RestoreLine.{RestoreLine}
use Rattle.script_loop.specs.Reply.{Answer}
use Rattle.steps.specs.declared.asked.Asked.{Asked}
use Rattle.steps.specs.Events.{Deed, Event, event}
use Rattle.steps.specs.Events.Deed.{Commit, OpenNew}
use Rattle.tree_api.specs.Cause.{Rose}
use Rattle.machine.specs.Alone.{Alone}
use Rattle.machine.specs.Causes.{commit_refused}
use Rattle.machine.specs.Machine.{Places}
use Rattle.machine.specs.State.{Core, Machine, Place, sight}
use Rattle.command_steps.specs.Clients.{Client, Known, Turns}
use Rattle.command_steps.specs.Lines.{Line, asks}
use Rattle.command_steps.specs.Owns.{OnTree, Own, back_up, back_up_pool, moves, on_tree, own_of, restore}
use Rattle.line_results.specs.Commands.{IsStill, work_over}
use Rattle.line_results.specs.Copied.{HasRoomForCopies}
use Rattle.line_results.specs.Files.{IsPlacedIn, why_no_place}
use Rattle.line_results.specs.Resting.{IsAtRest, RoseFrom, database}
use Rattle.line_results.specs.Trees.{IsChosen, IsPlan}

-- ---- the steps of a backup

-- The backup may come to this step: by the steps before it, which an incremental backup of a tree that tells these files may begin with, the machine went from the one state to the other, and by them
-- neither a file's count of faults rose nor the tree's.
pub record ComesTo (trusted : Type 0) (places : Places) (choice : List Rule) (i : IncrementalBackup) (told : Option Files) (d : Deed) (old m : Machine) : Type 0 where
  pub start : Machine
  pub first : List Event
  pub number : ℕ
  pub later : List Event
  pub before : ℕ
  pub after : ℕ
  pub result : Result Sent Refusal
  pub order : Increments i.node i.filespace choice told before after (first ++ event number d ∷ later) result
  pub still : IsStill old start
  pub made : Alone trusted places 0 first start m
  pub sound : (file : ℕ) → RoseFrom old m file → ⊥
  pub whole : Rose before after → ⊥

-- wherever it opens a ticket for a file there is a place for it, in the pool of the file's class or one behind it, beside all that was placed before
abbrev pub HasPlaces : (trusted : Type 0) → Places → List Rule → IncrementalBackup → Option Files → (old : Machine) → Type 0
HasPlaces trusted places choice i told old =
    (pool size : ℕ) (answer : Result ℕ Refusal) (m : Machine) (placed : Result Place Refusal) → ComesTo trusted places choice i told (OpenNew pool size 0 answer) old m → IsPlacedIn places pool size m.core placed
    → why_no_place pool size m.core placed ≡ None

-- it asks for one version, one path that is bound anew, or one version that is ended
abbrev pub IsOfOne : Asked → Type 0
IsOfOne asked =
    ((filespace : ℕ) × (line : SealedLine) × (asked ≡ storing filespace (line ∷ [])))
    ⊎ ((filespace : ℕ) × (line : RebindLine) × (asked ≡ rebinding filespace (line ∷ [])))
    ⊎ ((filespace : ℕ) × (line : GoneLine) × (asked ≡ ending filespace (line ∷ [])))

-- Nothing refuses the transaction: its tickets are there and sealed, it is legal, and its record has at most 2^24 bytes.
abbrev pub IsFree : Asked → (tickets : List ℕ) → Core → Type 0
IsFree asked tickets c = foremost (commit_refused 0 asked tickets (sight 0 c)) ≡ None

-- Wherever it tries a transaction of one line nothing refuses that. Where one of several lines is refused, each of these is tried by itself.
abbrev pub HasNoReasons : (trusted : Type 0) → Places → List Rule → IncrementalBackup → Option Files → (old : Machine) → Type 0
HasNoReasons trusted places choice i told old =
    (asked : Asked) (tickets : List ℕ) (answer : Result ℕ Refusal) (m : Machine) → ComesTo trusted places choice i told (Commit asked tickets answer) old m → IsOfOne asked → IsFree asked tickets m.core

-- the file's class has a copy group, and the tree tells the file, which has as many bytes as were listed
abbrev pub CanBeSent : Rules → Option Files → SendLine → Type 0
CanBeSent rules told l = ((pool : ℕ) × (destination rules l.class ≡ Some pool)) × ((f : ClientFile) × (file_of told l.file.path ≡ Some f) × (length f.bytes ≡ l.file.size))

-- each listed file that isn't left out is bound to a class with a copy group, and those that are to be sent can be
abbrev pub ArePlanned : List Rule → IncrementalBackup → Option Files → Inv → Type 0
ArePlanned choice i told v = (plan : Lists) (p : IsPlan choice i told v plan) → (plan.failed ≡ []) × AllByRecursion (CanBeSent p.rules told) plan.send

-- a backup of a tree that tells these files has room for all of them
pub record HasRoomForAll (trusted : Type 0) (places : Places) (choice : List Rule) (i : IncrementalBackup) (told : Option Files) (old : Machine) : Type 0 where
  pub planned : ArePlanned choice i told (database old)
  pub placed : HasPlaces trusted places choice i told old
  pub free : HasNoReasons trusted places choice i told old

-- ---- versions that are restored

-- A version can be given back: the database has it under its object's number, with the same digest; one of its copies lies on volumes that may be read; and the object has as many bytes as it says, with that digest.
abbrev pub CanBeGiven : Machine → RestoreLine → Type 0
CanBeGiven m l =
    (w : Version) × (version l.stored.object (database m) ≡ Some w) × (w.digest ≡ l.stored.digest) × (copy : CopyRow) × Contains w.copies copy × (can_read copy (database m) ≡ true)
    × (length (m.contents l.stored.object) ≡ l.stored.size) × (l.stored.digest ≡ digest_with (sha256 (m.contents l.stored.object)))

-- ---- lines

-- the count of the tree's faults doesn't rise by the line
abbrev pub IsCalm : (tree : ℕ) → Client → Type 0
IsCalm tree k = (before : Known) (after : Known) → Turns tree before after k → Rose before.faults after.faults → ⊥

-- A backup of the tree has room for all of its files. Each version that is wanted can be given back, by a store that is trusted to have the objects' bytes. What is written or erased doesn't fail so.
abbrev pub HasRoomOn : (trusted : Type 0) → Places → Client → OnTree → (old : Machine) → Type 0
HasRoomOn trusted places k (back_up i) old = IsCalm i.tree k × ((before : Known) (after : Known) → Turns i.tree before after k → HasRoomForAll trusted places k.choice i before.files old)
HasRoomOn trusted places k (restore r) old = IsCalm r.tree k × trusted × ((lines : List RestoreLine) → IsChosen r (database old) lines → AllByRecursion (CanBeGiven old) lines)
HasRoomOn trusted places k work old = Unit {0}

-- What makes further copies of objects, or moves copies, has room for them and can read them.
abbrev pub HasRoomOwn : (trusted : Type 0) → Places → Client → (numbers : List ℕ) → Own → (old : Machine) → Type 0
HasRoomOwn trusted places k numbers (on_tree work) old = HasRoomOn trusted places k work old
HasRoomOwn trusted places k numbers back_up_pool old = HasRoomForCopies trusted places k.choice numbers back_up_pool old
HasRoomOwn trusted places k numbers (moves mover) old = HasRoomForCopies trusted places k.choice numbers (moves mover) old
HasRoomOwn trusted places k numbers own old = Unit {0}

abbrev pub HasRoomBy : (trusted : Type 0) → Places → Client → Own → Result Work Refusal → (old : Machine) → Type 0
HasRoomBy trusted places k own (Ok (Run numbers)) old = HasRoomOwn trusted places k numbers own old
HasRoomBy trusted places k own w old = Unit {0}

-- A line has room for what it stores: a DSMC INCREMENTAL, a DSMC RESTORE, and what makes further copies or moves copies, of which this holds; and any other line.
abbrev pub HasRoomFor : (trusted : Type 0) → Places → Client → Line → (old : Machine) → Type 0
HasRoomFor trusted places k (asks c) old = HasRoomBy trusted places k (own_of c) (work_over c (database old)) old
HasRoomFor trusted places k line old = Unit {0}

-- In such a line behind others, by which no count of faults rises, no file and no object fails, and its answer counts none.
abbrev pub NoneFails : (trusted : Type 0) → Places → Client → Line → (old mid : Machine) → Answer → Type 0
NoneFails trusted places k line old mid answer = IsAtRest old.core → ((file : ℕ) → RoseFrom old mid file → ⊥) → HasRoomFor trusted places k line old → answer.tally.failed ≡ 0
