-- What a pass did, and what came of a job.
use Rattle.std.specs.Prelude.{◌≡◌, ℕ, ◌+◌, ◌<◌, List, [], ◌∷◌, ◌++◌, length, Option, None, Some, IfSome, slice_index_or}
use Rattle.std.specs.List.{AllByRecursion}
use Rattle.steps.specs.Calls.{risen}
use Rattle.steps.specs.Events.{Event}
use Rattle.machine.specs.Turns.{Turn, events_of}

-- an actor and its steps so far
abbrev pub Diary : Type 0
Diary = ℕ × List Event

-- these events were added to its diary, the refused steps among them are counted, and it is still the same actor
abbrev pub Did : Diary → (refused : ℕ) → List Event → Diary → (refused_after : ℕ) → Type 0
Did old refused events new refused_after = (new.0 ≡ old.0) × (new.1 ≡ old.1 ++ events) × (refused_after ≡ risen refused events)

-- a job was run by the actor that it was to be: it made these events, and no others
abbrev pub Worked : {J : Type 0} → (did : J → ℕ → List Event → J → Type 0) → J → Option Diary → J → Option Diary → Type 0
Worked did old (Some diary) new after = (events : List Event) × did old diary.0 events new × (after ≡ Some (diary.0, diary.1 ++ events))
Worked did old None new after = Unit {0}

-- a job, and the pass of its actor
abbrev pub Seat : Type 0 → Type 0
Seat J = J × Option Diary

-- the jobs with passes of actors that are numbered from this one on, who have made no step
abbrev pub seats_of : {J : Type 0} → (first : ℕ) → List J → List (Seat J)
seats_of first [] = []
seats_of first (job ∷ jobs) = (job, Some (first, [])) ∷ seats_of (first + 1) jobs

-- what an actor did is what these turns say of it
abbrev pub IsTold : {J : Type 0} → List Turn → Seat J → Type 0
IsTold turns seat = IfSome seat.1 (λ diary. diary.1 ≡ events_of diary.0 turns)

-- each job did, as the actor of its number, what these turns say of that one
abbrev pub EachDid : {J : Type 0} → (did : J → ℕ → List Event → J → Type 0) → (first : ℕ) → List Turn → List J → List J → Type 0
EachDid {J} did first turns old new = (i : ℕ) (d : J) → i < length old → did (slice_index_or old i d) (first + i) (events_of (first + i) turns) (slice_index_or new i d)
