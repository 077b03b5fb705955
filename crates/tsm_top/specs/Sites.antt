-- A script's run as a machine beside the clients' trees: what it has made so far, what each line makes of it and of the trees, and what images of the store give back.
use Rattle.std.specs.Prelude.{◌≡◌, ℕ, ◌≤◌, true, Option, None, IfSome, List, length}
use Rattle.std.specs.List.{AllByRecursion}
use Rattle.store_api.specs.Disk.{History, ImageAt}
use Rattle.kinds.specs.declared.refusal.Refusal.{Refusal}
use Rattle.choosers.specs.declared.rule.Rule.{Rule}
use Rattle.inventory_rules.specs.Valid.{is_valid}
use Rattle.script_loop.specs.Reply.{Answer}
use Rattle.script_loop.specs.declared.ends.Halt.{Halt}
use Rattle.machine.specs.Stamps.{KeepsStamps}
use Rattle.machine.specs.State.{Machine, inventory}
use Rattle.hall.specs.Placed.{hall_places}
use Rattle.hall_turns.specs.Left.{GivesState}
use Rattle.block_results.specs.command_steps.Clients.{Client, Known}
use Rattle.block_results.specs.command_steps.Leaving.{ChangesOnly, tree_named}
use Rattle.block_results.specs.command_steps.Lines.{line_of}
use Rattle.block_results.specs.line_results.Clauses.{Holds}
use Rattle.block_results.specs.line_results.Lines.{Halts, Replies}
use Rattle.tsm_top.specs.Notes.{note_of, number_in, with_note}
use Rattle.tsm_top.specs.Trees.{LeavesFile}
use Rattle.tsm_top.specs.declared.note.Note.{Note}

-- What a run has made so far, as a state of the machine: the database that it began with, its transactions with their stamps, the bytes of the objects, the newest image's generation and its log's length,
-- and the store's moment and its counts of faults. And the clients' trees, and what was noted of its lines.
pub record Site : Type 0 where
  pub machine : Machine
  pub trees : List Known
  pub notes : List Note

abbrev pub site : Machine → List Known → List Note → Site
site machine trees notes = record { machine = machine; trees = trees; notes = notes }

-- the clients between two sites: the include-exclude list, and the trees as they were and as they are
abbrev pub between : List Rule → (old new : Site) → Client
between choice old new = record { choice = choice; old = old.trees; new = new.trees }

-- each image of the machine's moment gives back its state: all that was made, and no more
abbrev pub IsThere : Option History → Machine → Type 0
IsThere told m = IfSome told (λ h. (image : ℕ → List ℕ) → ImageAt h m.moment image → GivesState m image)

-- the same of a machine that no fault has halted, whose transactions are all durable
abbrev pub IsThereWhole : Option History → Machine → Type 0
IsThereWhole told m = m.core.fault ≡ None → length m.core.stamps ≡ length m.core.journal → IsThere told m

-- the stamps that were there stay in front of those that were added, and each is a moment that has come
pub record IsTimely (old new : Machine) : Type 0 where
  pub keeps : KeepsStamps old.core new.core
  pub come : AllByRecursion (λ stamp. stamp ≤ new.moment) new.core.stamps

-- The database is valid, and the numbers of the files and objects that are drawn next are the database's or greater, so that none is given twice.
pub record IsInOrder (m : Machine) : Type 0 where
  pub valid : is_valid (inventory m.core) ≡ true
  pub next_file : (inventory m.core).next_file ≤ m.core.next_file
  pub next_object : (inventory m.core).next_object ≤ m.core.next_object

-- `trusted` says that the store was sound when it was opened, and tells its bytes; `told` is what it tells at the return.
module _ (trusted : Type 0) (choice : List Rule) (told : Option History) where
  -- Line n may be answered so, which leaves the second site, with what is noted of it; it has what the headline says of each line (`Holds`), by which no tree changed but the one that it names; in that a WRITE
  -- and an ERASE did what they say (`LeavesFile`); and each image of the moment behind it gives back all that was made by then.
  abbrev pub RepliesAt : Site → (n : ℕ) → List ℕ → Answer → Site → Type 0
  RepliesAt old n line answer new =
      (why : Option Refusal) × (r : Replies trusted hall_places (between choice old new) n (line_of line) old.machine answer why new.machine)
      × Holds trusted hall_places (between choice old new) n (line_of line) old.machine r.mid answer r.added × LeavesFile (line_of line) why (between choice old new) × (trusted → IsThere told new.machine)
      × IsTimely old.machine new.machine × IsInOrder new.machine
      × (new.notes ≡ with_note (line_of line) (note_of n old.machine.core.base.number (number_in old.machine) (number_in new.machine) why) old.notes)

  -- The line may end the run so. No tree changed but the one that it names. Nothing is noted of it, as none of its lines is put. Where no fault ended it and all is durable each image of the last moment gives
  -- back all that was made.
  abbrev pub StopsAt : Site → (n : ℕ) → List ℕ → Halt → Site → Type 0
  StopsAt old n line how new =
      Halts trusted hall_places (between choice old new) n (line_of line) old.machine how new.machine × ChangesOnly (tree_named (line_of line)) (between choice old new) × IsTimely old.machine new.machine
      × IsInOrder new.machine × (trusted → IsThereWhole told new.machine) × (new.notes ≡ old.notes)
