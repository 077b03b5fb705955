-- Copies on a volume of a copy pool that are dropped, and the objects whose last copies they are.
use Rattle.std.specs.Prelude.{◌≡◌, ◌⊎◌, ℕ, ◌+◌, ◌≤◌, Bool, true, false, ◌||◌, List, [], ◌∷◌, ◌++◌, map, length, Result, Ok, Err}
use Rattle.std.specs.List.{AllByRecursion, flat_map}
use Rattle.kinds.specs.declared.refusal.Refusal.{Refusal}
use Rattle.entries.specs.change_items.declared.items.DroppedCopy.{DroppedCopy}
use Rattle.entries.specs.change_items.declared.reasons.DiscardReason.{DiscardReason}
use Rattle.entries.specs.change_items.declared.reasons.DiscardReason.TheVariants as because
use Rattle.entries.specs.change_items.declared.reasons.DropReason.TheVariants as since
use Rattle.entries.specs.declared.change.Change.TheVariants as change
use Rattle.inventory_work.specs.declared.lines.CopyLine.{CopyLine}
use Rattle.steps.specs.declared.asked.Asked.{Asked}
use Rattle.steps.specs.declared.asked.Asked.TheVariants as asked
use Rattle.steps.specs.Events.{Deed, Event, event}
use Rattle.steps.specs.Events.Deed.{Commit}
use Rattle.steps.specs.Receipts.{made}
use Rattle.copy_attempts.specs.Attempts.{is_passed}
use Rattle.copy_runs.specs.Ends.{IsStopped}
use Rattle.deletions.specs.declared.copies.Removed.{Removed}
use Rattle.deletions.specs.declared.objects.Doomed.{Doomed}
use Rattle.deletions.specs.Discarding.{IsDiscarding, PassingOver, Removing, discards, is_long}

-- both together
abbrev pub sum : Removed → Removed → Removed
sum a b = record { discarded = a.discarded + b.discarded; dropped = a.dropped + b.dropped }

-- ---- transactions

-- objects go since the volume that their copies lie on is deleted
abbrev pub for_volume : ℕ → DiscardReason
for_volume file = because.Volume file

abbrev pub doomed : CopyLine → Doomed
doomed line = record { object = line.object; found = line.digest }

abbrev pub dropped : CopyLine → DroppedCopy
dropped line = record { object = line.object; pool = line.pool; placed = line.placed; found = line.digest }

-- the transaction that drops these copies, since their volume is deleted
abbrev pub dropping : ℕ → List CopyLine → Asked
dropping file lines = asked.Plain (change.DropCopies (record { reason = since.Volume file; items = map dropped lines }))

-- ---- what was dropped

abbrev pub drops_of : Asked → List DroppedCopy
drops_of (asked.Plain (change.DropCopies c)) = c.items
drops_of _ = []

abbrev pub drops_by : Deed → List DroppedCopy
drops_by (Commit asked tickets answer) = drops_of asked
drops_by _ = []

-- the copies that the transactions of these steps drop, one after the other
abbrev pub drops_in : List Event → List DroppedCopy
drops_in events = flat_map (λ e. drops_by e.deed) events

-- how many they are
abbrev pub drops : List Event → ℕ
drops events = length (drops_in events)

-- ---- parts

-- it commits that copies on the volume are dropped
abbrev pub IsDropping : ℕ → Deed → Type 0
IsDropping file d = (lines : List CopyLine) × (answer : Result ℕ Refusal) × (d ≡ Commit (dropping file lines) [] answer)

-- or that objects are discarded for it
abbrev pub IsTaking : ℕ → Deed → Type 0
IsTaking file d = IsDropping file d ⊎ IsDiscarding (for_volume file) d

abbrev pub AreTaking : ℕ → List Event → Type 0
AreTaking file events = AllByRecursion (λ e. IsTaking file e.deed) events

-- these steps ended with this refusal
pub record TakingBreaks (file : ℕ) (events : List Event) (e : Refusal) : Type 0 where
  pub cause : IsStopped events e
  pub only : AreTaking file events

-- a transaction dropped these copies
abbrev pub Dropping : ℕ → List CopyLine → Event → Type 0
Dropping file lines e = (n : ℕ) × (number : ℕ) × (length lines ≤ 256) × (e ≡ event n (Commit (dropping file lines) [] (Ok number)))

-- the transaction of one copy alone was refused: it is the object's last one, or isn't as it was named, or the object is gone
abbrev pub Keeping : ℕ → CopyLine → Event → Type 0
Keeping file line e = (n : ℕ) × (why : Refusal) × (is_passed why ≡ true) × (e ≡ event n (Commit (dropping file (line ∷ [])) [] (Err why)))

-- a transaction was refused for one of its copies, or for its length
abbrev pub RefusingDrop : ℕ → Event → Type 0
RefusingDrop file e = (n : ℕ) × (why : Refusal) × (lines : List CopyLine) × ((is_passed why || is_long why) ≡ true) × (e ≡ event n (Commit (dropping file lines) [] (Err why)))

-- the object of one copy is discarded alone, or that is refused too
abbrev pub DiscardingLast : ℕ → CopyLine → Event → Type 0
DiscardingLast file line e = Removing (for_volume file) (doomed line ∷ []) e ⊎ PassingOver (for_volume file) (doomed line) e

-- These copies are handled one after the other: each step drops the next ones by one transaction; or the next one alone can't be dropped, and behind it its object is discarded or passed over; or
-- a transaction is refused and changes nothing. `due` says that the next copy's object is to be discarded.
abbrev pub Empties : (due : Bool) → ℕ → List CopyLine → List Event → Type 0
Empties due file lines [] = (due ≡ false) × (lines ≡ [])
Empties true file [] (e ∷ events) = ⊥
Empties true file (line ∷ lines) (e ∷ events) = DiscardingLast file line e × Empties false file lines events
Empties false file lines (e ∷ events) =
    ((run : List CopyLine) × (rest : List CopyLine) × (lines ≡ run ++ rest) × Dropping file run e × Empties false file rest events)
    ⊎ ((line : CopyLine) × (rest : List CopyLine) × (lines ≡ line ∷ rest) × Keeping file line e × Empties true file lines events)
    ⊎ (RefusingDrop file e × Empties false file lines events)

-- so many objects were discarded, and so many copies dropped
pub record Counts (events : List Event) (m : Removed) : Type 0 where
  pub discarded : discards (made events) ≡ m.discarded
  pub dropped : drops (made events) ≡ m.dropped

-- these copies were handled, and this went
pub record Emptied (due : Bool) (file : ℕ) (lines : List CopyLine) (events : List Event) (m : Removed) : Type 0 where
  pub each : Empties due file lines events
  pub counts : Counts events m

abbrev pub Drops : ℕ → List CopyLine → List Event → Result Removed Refusal → Type 0
Drops file lines events (Ok m) = Emptied false file lines events m
Drops file lines events (Err e) = TakingBreaks file events e

-- the object of a copy that can't be dropped
abbrev pub DiscardsLast : ℕ → List CopyLine → List Event → Result Removed Refusal → Type 0
DiscardsLast file lines events (Ok m) = Emptied true file lines events m
DiscardsLast file lines events (Err e) = TakingBreaks file events e
