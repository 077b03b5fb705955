-- When no object fails in a process that makes further copies of objects, or moves copies, where one actor has the machine alone: each copy has a place wherever its turn comes, and can be read.
use Rattle.std.specs.Prelude.{◌≡◌, ℕ, ◌^◌, ◌≤◌, true, false, Contains, List, ◌∷◌, ◌++◌, length, Some, Result, Ok, Err}
use Rattle.std.specs.List.{AllByRecursion}
use Rattle.kinds.specs.declared.refusal.Refusal.{Refusal}
use Rattle.choosers.specs.declared.rule.Rule.{Rule}
use Rattle.entries.specs.EntryForm.{entry as entry_form}
use Rattle.entries.specs.declared.change.Change.{Change}
use Rattle.inventory_rows.specs.version_groups.declared.copies.CopyRow.{CopyRow}
use Rattle.inventory_rows.specs.version_groups.declared.versions.Version.{Version}
use Rattle.inventory_rows.specs.Search.{version}
use Rattle.inventory_rows.specs.State.{Inv}
use Rattle.contents.specs.Reading.{segments_in}
use Rattle.placing.specs.Placing.{is_readable}
use Rattle.space.specs.declared.aim.Aim.{Aim}
use Rattle.steps.specs.declared.asked.Asked.{Asked}
use Rattle.steps.specs.Calls.{fails_object}
use Rattle.steps.specs.Events.{Deed, Event, event}
use Rattle.steps.specs.Events.Deed.{Commit, CopyPiece, OpenCopy}
use Rattle.machine.specs.Alone.{Alone}
use Rattle.machine.specs.Machine.{IsPlaced, IsTicket, Places, asked_change, can_place_copy, next_count, size_of, space}
use Rattle.machine.specs.State.{Core, Machine, Place, Ticket, inventory, object_of}
use Rattle.command_steps.specs.Doing.{DoesAlone}
use Rattle.command_steps.specs.Owns.{Own}
use Rattle.command_steps.specs.declared.outcome.Outcome.{Outcome}
use Rattle.line_results.specs.Commands.{IsStill}
use Rattle.line_results.specs.Resting.{RoseFrom}

-- The process, over the numbers of the things that it names, may come to this step: by the steps before it, which one that answers may begin with, the machine went from the one state to the other, and by
-- them no file's count of faults rose.
pub record ComesTo (trusted : Type 0) (places : Places) (choice : List Rule) (numbers : List ℕ) (own : Own) (d : Deed) (old m : Machine) : Type 0 where
  pub start : Machine
  pub first : List Event
  pub number : ℕ
  pub later : List Event
  pub result : Outcome
  pub order : DoesAlone choice own numbers (first ++ event number d ∷ later) (Ok result)
  pub still : IsStill old start
  pub made : Alone trusted places 0 first start m
  pub sound : (file : ℕ) → RoseFrom old m file → ⊥

-- ---- places

-- where the copy of an object is placed by this aim, on other volumes than the one that is to be avoided; or why it isn't
abbrev pub IsCopyPlaced : Places → (object : ℕ) → Aim → (avoid : ℕ) → Core → Result Place Refusal → Type 0
IsCopyPlaced places object a avoid c placed =
    IsPlaced (can_place_copy object a (inventory c)) (places (inventory c) (space c) 0 (size_of object (inventory c)) a 0 avoid) placed

-- It has a place. Or it has none for another reason than those for which an object fails, as where a transaction that isn't forced yet holds the room.
abbrev pub HasPlace : Result Place Refusal → Type 0
HasPlace (Ok place) = Unit {0}
HasPlace (Err e) = fails_object e ≡ false

-- wherever it opens a ticket for a copy this has a place, beside all that was placed before
abbrev pub HasPlaces : (trusted : Type 0) → Places → List Rule → (numbers : List ℕ) → Own → (old : Machine) → Type 0
HasPlaces trusted places choice numbers own old =
    (object : ℕ) (a : Aim) (avoid : ℕ) (answer : Result ℕ Refusal) (m : Machine) (placed : Result Place Refusal)
    → ComesTo trusted places choice numbers own (OpenCopy object a avoid answer) old m → IsCopyPlaced places object a avoid m.core placed → HasPlace placed

-- ---- pieces

-- what the copy has of so many bytes from the offset on lies on volumes that may be read
abbrev pub IsReadableIn : (offset count : ℕ) → CopyRow → Inv → Type 0
IsReadableIn offset count copy v = AllByRecursion (λ s. is_readable s.file v ≡ true) (segments_in 0 offset count copy.segments)

-- one of the object's copies has the piece that the ticket takes next so
abbrev pub CanTake : Ticket → Inv → Type 0
CanTake t v =
    (w : Version) → version (object_of t.purpose) v ≡ Some w → (copy : CopyRow) × Contains w.copies copy × IsReadableIn (length t.bytes) (next_count t) copy v

-- wherever it copies a piece this can be read
abbrev pub HasPieces : (trusted : Type 0) → Places → List Rule → (numbers : List ℕ) → Own → (old : Machine) → Type 0
HasPieces trusted places choice numbers own old =
    (number : ℕ) (answer : Result ℕ Refusal) (m : Machine) (t : Ticket)
    → ComesTo trusted places choice numbers own (CopyPiece number answer) old m → IsTicket 0 number m t → CanTake t (inventory m.core)

-- ---- transactions

-- the record of the transaction of this actor has at most 2^24 bytes
abbrev pub IsShortBy : (actor : ℕ) → Change → Type 0
IsShortBy actor c = length (entry_form.spell (record { actor = actor; change = c })) ≤ 2 ^ 24

abbrev pub IsShort : Change → Type 0
IsShort c = IsShortBy 0 c

-- so has each that it tries, of which each is of one copy
abbrev pub HasRecords : (trusted : Type 0) → Places → List Rule → (numbers : List ℕ) → Own → (old : Machine) → Type 0
HasRecords trusted places choice numbers own old =
    (asked : Asked) (tickets : List ℕ) (answer : Result ℕ Refusal) (m : Machine) (c : Change)
    → ComesTo trusted places choice numbers own (Commit asked tickets answer) old m → asked_change 0 asked tickets m.core ≡ Some c → IsShort c

-- ---- the whole

-- the process has room for all copies that it makes, and can read what it copies
pub record HasRoomForCopies (trusted : Type 0) (places : Places) (choice : List Rule) (numbers : List ℕ) (own : Own) (old : Machine) : Type 0 where
  pub placed : HasPlaces trusted places choice numbers own old
  pub read : HasPieces trusted places choice numbers own old
  pub short : HasRecords trusted places choice numbers own old
