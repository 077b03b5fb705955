-- Lists of objects that are discarded.
use Rattle.std.specs.Prelude.{◌≡◌, ◌⊎◌, ℕ, ◌≤◌, ◌==◌, Bool, true, ◌||◌, List, [], ◌∷◌, ◌++◌, map, length, if◌then◌else◌, Result, Ok, Err}
use Rattle.std.specs.List.{AllByRecursion, flat_map}
use Rattle.kinds.specs.Refusals.{number_of}
use Rattle.kinds.specs.declared.refusal.Refusal.{Refusal}
use Rattle.kinds.specs.declared.refusal.Refusal.TheVariants as refused
use Rattle.entries.specs.change_items.declared.items.DiscardedVersion.{DiscardedVersion}
use Rattle.entries.specs.change_items.declared.reasons.DiscardReason.{DiscardReason}
use Rattle.entries.specs.declared.change.Change.TheVariants as change
use Rattle.steps.specs.declared.asked.Asked.{Asked}
use Rattle.steps.specs.declared.asked.Asked.TheVariants as asked
use Rattle.steps.specs.Events.{Deed, Event, event}
use Rattle.steps.specs.Events.Deed.{Commit}
use Rattle.steps.specs.Receipts.{made}
use Rattle.copy_attempts.specs.Attempts.{is_passed, stopping}
use Rattle.copy_runs.specs.Ends.{IsStopped}
use Rattle.deletions.specs.declared.objects.Doomed.{Doomed}
use Rattle.deletions.specs.declared.objects.Tried.{Tried}
use Rattle.deletions.specs.declared.objects.Tried.TheVariants as came

-- ---- transactions

abbrev pub discarded : Doomed → DiscardedVersion
discarded it = record { object = it.object; found = it.found }

-- the transaction that discards these objects for this reason
abbrev pub discarding : DiscardReason → List Doomed → Asked
discarding reason objects = asked.Plain (change.Discard (record { reason = reason; items = map discarded objects }))

-- ---- what was discarded

abbrev pub items_of : Asked → List DiscardedVersion
items_of (asked.Plain (change.Discard c)) = c.items
items_of _ = []

abbrev pub items_by : Deed → List DiscardedVersion
items_by (Commit asked tickets answer) = items_of asked
items_by _ = []

-- the objects that the transactions of these steps discard, one after the other
abbrev pub items_in : List Event → List DiscardedVersion
items_in events = flat_map (λ e. items_by e.deed) events

-- how many they are
abbrev pub discards : List Event → ℕ
discards events = length (items_in events)

-- ---- refusals

-- a transaction with more bytes than a record may have
abbrev pub is_long : Refusal → Bool
is_long e = number_of e == 30

abbrev pub refused_as : Refusal → Result Tried Refusal
refused_as e = if is_passed e then Ok came.Refused else (if is_long e then Ok came.TooLong else Err (stopping e))

abbrev pub outcome : Result ℕ Refusal → Result Tried Refusal
outcome (Ok number) = Ok came.Made
outcome (Err e) = refused_as e

-- ---- parts

-- it commits that objects are discarded for this reason
abbrev pub IsDiscarding : DiscardReason → Deed → Type 0
IsDiscarding reason d = (objects : List Doomed) × (answer : Result ℕ Refusal) × (d ≡ Commit (discarding reason objects) [] answer)

abbrev pub AreDiscarding : DiscardReason → List Event → Type 0
AreDiscarding reason events = AllByRecursion (λ e. IsDiscarding reason e.deed) events

-- one transaction was tried, and came to what `of` makes of its answer; or memory was wanted before it
abbrev pub TriesBy : {A : Type 0} → (of : Result ℕ Refusal → Result A Refusal) → Asked → List Event → Result A Refusal → Type 0
TriesBy of asked events result =
    ((events ≡ []) × (result ≡ Err refused.Memory))
    ⊎ ((n : ℕ) × (answer : Result ℕ Refusal) × (events ≡ event n (Commit asked [] answer) ∷ []) × (result ≡ of answer))

abbrev pub TriesAsked : Asked → List Event → Result Tried Refusal → Type 0
TriesAsked asked events result = TriesBy outcome asked events result

abbrev pub Tries : DiscardReason → List Doomed → List Event → Result Tried Refusal → Type 0
Tries reason objects events result = TriesAsked (discarding reason objects) events result

-- these steps ended with this refusal
pub record Breaks (reason : DiscardReason) (events : List Event) (e : Refusal) : Type 0 where
  pub cause : IsStopped events e
  pub only : AreDiscarding reason events

-- a transaction discarded these objects
abbrev pub Removing : DiscardReason → List Doomed → Event → Type 0
Removing reason objects e = (n : ℕ) × (number : ℕ) × (length objects ≤ 256) × (e ≡ event n (Commit (discarding reason objects) [] (Ok number)))

-- the transaction of one object alone was refused: the object is gone, or isn't as it was named
abbrev pub PassingOver : DiscardReason → Doomed → Event → Type 0
PassingOver reason it e = (n : ℕ) × (why : Refusal) × (is_passed why ≡ true) × (e ≡ event n (Commit (discarding reason (it ∷ [])) [] (Err why)))

-- a transaction was refused for one of its objects, or for its length
abbrev pub Refusing : DiscardReason → Event → Type 0
Refusing reason e = (n : ℕ) × (why : Refusal) × (objects : List Doomed) × ((is_passed why || is_long why) ≡ true) × (e ≡ event n (Commit (discarding reason objects) [] (Err why)))

-- These objects are handled one after the other: each step discards the next ones by one transaction, or passes over the next one, or is refused and changes nothing.
abbrev pub Handles : DiscardReason → List Doomed → List Event → Type 0
Handles reason objects [] = objects ≡ []
Handles reason objects (e ∷ events) =
    ((run : List Doomed) × (rest : List Doomed) × (objects ≡ run ++ rest) × Removing reason run e × Handles reason rest events)
    ⊎ ((it : Doomed) × (rest : List Doomed) × (objects ≡ it ∷ rest) × PassingOver reason it e × Handles reason rest events)
    ⊎ (Refusing reason e × Handles reason objects events)

-- so were these, and so many were discarded
pub record Handled (reason : DiscardReason) (objects : List Doomed) (events : List Event) (number : ℕ) : Type 0 where
  pub each : Handles reason objects events
  pub count : discards (made events) ≡ number

abbrev pub Works : DiscardReason → List Doomed → List Event → Result ℕ Refusal → Type 0
Works reason objects events (Ok count) = Handled reason objects events count
Works reason objects events (Err e) = Breaks reason events e
