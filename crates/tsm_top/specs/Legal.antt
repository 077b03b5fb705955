-- A script each line of which is legal where it runs, with room, and a database that is to be made: when they end well.
use Rattle.std.specs.Prelude.{◌≡◌, ◌⊎◌, ℕ, ◌+◌, ◌-◌, ◌^◌, ◌≤◌, false, Option, None, Some, List, [], ◌∷◌, Ok}
use Rattle.std.specs.List.{AllByRecursion}
use Rattle.std.specs.Str.Lines.{lines}
use Rattle.store_api.specs.Cause.{Rose}
use Rattle.store_api.specs.Disk.{History}
use Rattle.choosers.specs.declared.rule.Rule.{Rule}
use Rattle.admin_words.specs.declared.command.Command.{Command as Words}
use Rattle.entries.specs.declared.entry.Entry.{Entry}
use Rattle.inventory_rows.specs.State.{Inv}
use Rattle.script_loop.specs.Limit.{first_excess}
use Rattle.script_loop.specs.Reply.{Answer}
use Rattle.script_loop.specs.declared.ends.Halt.TheVariants.{LogFault, Memory, RunFull}
use Rattle.script_loop.specs.declared.ends.End.{End}
use Rattle.script_loop.specs.declared.ends.End.TheVariants.{Done, SourceFault, SinkFault, Halted, TooLong}
use Rattle.machine.specs.State.{Machine}
use Rattle.hall.specs.Placed.{hall_places}
use Rattle.block_results.specs.command_steps.Behind.{Behind, behind, reuses}
use Rattle.block_results.specs.command_steps.Clients.{Client}
use Rattle.block_results.specs.command_steps.Lines.{Line, asks, line_of}
use Rattle.block_results.specs.command_steps.declared.outcome.Outcome.{Outcome}
use Rattle.block_results.specs.line_results.Clauses.{IsLegal, StaysWithin}
use Rattle.block_results.specs.line_results.Commands.{Does, work_over}
use Rattle.block_results.specs.line_results.Resting.{RoseFrom, database}
use Rattle.block_results.specs.line_results.Room.{HasRoomFor}
use Rattle.blocks.specs.Parts.{begins}
use Rattle.tsm_top.specs.Serve.{Begins, Closing, Command, RunsOver, StartsAt, formatted}
use Rattle.tsm_top.specs.Sites.{RepliesAt, Site, between}

-- ---- a line

-- Where the reuse of volumes comes behind a command's work, it reaches no bound of the database's, whatever the work came to.
abbrev pub ReusesWithin : (trusted : Type 0) → Client → Words → Behind → (old mid : Machine) → Type 0
ReusesWithin trusted k c reuses old mid =
    (it : Outcome) (behind_work : Machine) (first : List Entry) → Does trusted hall_places k c (work_over c (database old)) old behind_work (Ok it) first → StaysWithin behind_work mid
ReusesWithin trusted k c b old mid = Unit {0}

abbrev pub EndsWithin : (trusted : Type 0) → Client → Line → (old mid : Machine) → Type 0
EndsWithin trusted k (asks c) old mid = ReusesWithin trusted k c (behind c) old mid
EndsWithin trusted k line old mid = Unit {0}

-- A line is legal with room: it isn't refused, neither it nor the reuse behind it, and it has room for what it stores. `old` is the state where it runs, and `mid` the one behind its command.
pub record CanBeDone (trusted : Type 0) (k : Client) (line : Line) (old mid : Machine) : Type 0 where
  pub legal : IsLegal hall_places k line old mid
  pub within : EndsWithin trusted k line old mid
  pub room : HasRoomFor trusted hall_places k line old

-- ---- lines

-- no file's count of faults rose from the one to the other
abbrev pub IsQuiet : (old new : Machine) → Type 0
IsQuiet old new = (file : ℕ) → RoseFrom old new file → ⊥

module _ (trusted : Type 0) (choice : List Rule) (told : Option History) where
  -- These lines, the first of which is line n, are legal in turn from this site on: however the first may be answered there without that a count of faults rises, it is legal with room there, and so are the others, in turn, behind that.
  abbrev pub AreLegal : (n : ℕ) → Site → List (List ℕ) → Type 0
  AreLegal n old [] = Unit {0}
  AreLegal n old (line ∷ more) =
      (answer : Answer) (new : Site) (it : RepliesAt trusted choice told old n line answer new) → IsQuiet old.machine new.machine
      → CanBeDone trusted (between choice old new) (line_of line) old.machine it.1.mid × AreLegal (n + 1) new more

-- ---- a script

-- none of these lines begins a block
abbrev pub AreOutside : List (List ℕ) → Type 0
AreOutside all = AllByRecursion (λ line. begins line ≡ false) all

-- the source tells this script, which is within its limits and has no block
pub record IsPlain (script : Option (List ℕ)) (all : List ℕ) : Type 0 where
  pub is : script ≡ Some all
  pub short : first_excess all ≡ None
  pub outside : AreOutside (lines all)

-- A script begins with this state of the machine: over the database that the command opens, which is of this generation.
pub record StartsWith (command : Command) (told : Option History) (base : Option Inv) (opened : ℕ) (counts : ℕ → ℕ) (first : Machine) : Type 0 where
  pub database : Inv
  pub base_is : base ≡ Some database
  pub over : RunsOver command told database
  pub begins : Begins database opened counts first
  pub generation : StartsAt command told first.core.generation

-- no file's count of faults rose
abbrev pub NoneRose : (before after : ℕ → ℕ) → Type 0
NoneRose before after = (file : ℕ) → Rose (before file) (after file) → ⊥

-- The run ended with status 0, with no refused line and no failed file; or with 8, where memory was wanted; or with 3 or 4, where the source or the sink failed; or with 9, where the moment was all but the last. `last` is the moment at the return.
abbrev pub EndsWell : End → (status last : ℕ) → Type 0
EndsWell (Done tally) status last = (status ≡ 0) × (tally.refused ≡ 0) × (tally.failed ≡ 0)
EndsWell SourceFault status last = status ≡ 3
EndsWell SinkFault status last = status ≡ 4
EndsWell (Halted (LogFault file)) status last = ⊥
EndsWell (Halted RunFull) status last = (status ≡ 9) × (2 ^ 62 - 2 ^ 24 ≤ last)
EndsWell (Halted Memory) status last = status ≡ 8
EndsWell (TooLong n) status last = ⊥

-- ---- a new database

-- A call that was to make a database ended with status 0, and made one; or with 8, where memory was wanted; or with 4, where the sink failed; or with 9, where the moment was all but the last.
abbrev pub FormatsWell : Closing → (sink_rose : Type 0) → (status last : ℕ) → Type 0
FormatsWell why sink_rose status last = ((why ≡ formatted) × (status ≡ 0)) ⊎ ((status ≡ 8) ⊎ (((status ≡ 4) × sink_rose) ⊎ ((status ≡ 9) × (2 ^ 62 - 2 ^ 24 ≤ last))))
