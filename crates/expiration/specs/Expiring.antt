-- What an expiration did.
use Rattle.std.specs.Prelude.{◌≡◌, ◌⊎◌, ℕ, ◌==◌, Bool, true, ◌||◌, List, [], ◌∷◌, ◌++◌, map, length, if◌then◌else◌, Result, Ok, Err, IfOk, IfErr, Some}
use Rattle.std.specs.List.{AllByRecursion, flat_map}
use Rattle.kinds.specs.Refusals.{number_of}
use Rattle.kinds.specs.declared.refusal.Refusal.{Refusal}
use Rattle.kinds.specs.declared.refusal.Refusal.TheVariants as refusal
use Rattle.entries.specs.change_items.declared.items.NamedVersion.{NamedVersion}
use Rattle.entries.specs.declared.change.Change.TheVariants as change
use Rattle.inventory_answers.specs.declared.query.Query.TheVariants as query
use Rattle.inventory_answers.specs.declared.reply.Answer.{Answer}
use Rattle.inventory_answers.specs.declared.reply.Rows.TheVariants as rows
use Rattle.inventory_work.specs.Expiring.{unretained}
use Rattle.inventory_work.specs.declared.lines.UnretainedLine.{UnretainedLine}
use Rattle.steps.specs.declared.asked.Asked.{Asked}
use Rattle.steps.specs.declared.asked.Asked.TheVariants as asked
use Rattle.steps.specs.Events.{Deed, Event, event, has_number, refusal as refusal_of}
use Rattle.steps.specs.Events.Deed.{Ask, Commit, Force}
use Rattle.steps.specs.Receipts.{is_forced, made, receipts}
use Rattle.machine.specs.Fits.{History, Own, inv}
use Rattle.expiration.specs.Alone.{AreInTurn, FitsAlone}
use Rattle.expiration.specs.Rows.{AreSound, IsExpired, first_of}
use Rattle.expiration.specs.declared.lines.Tried.{Tried}
use Rattle.expiration.specs.declared.lines.Tried.TheVariants as came

-- ---- transactions

abbrev pub named : UnretainedLine → NamedVersion
named line = record { path = line.path; object = line.object }

-- the transaction that removes these objects of one filespace
abbrev pub removing : ℕ → List UnretainedLine → Asked
removing filespace lines = asked.Plain (change.Expire (record { filespace = filespace; items = map named lines }))

-- objects of one filespace
abbrev pub AreOf : ℕ → List UnretainedLine → Type 0
AreOf filespace lines = AllByRecursion (λ l. l.filespace ≡ filespace) lines

-- ---- what was removed

abbrev pub line_of : ℕ → NamedVersion → UnretainedLine
line_of filespace item = record { filespace = filespace; path = item.path; object = item.object }

-- the objects that a transaction removes
abbrev pub lines_of : Asked → List UnretainedLine
lines_of (asked.Plain (change.Expire c)) = map (line_of c.filespace) c.items
lines_of _ = []

abbrev pub lines_by : Deed → List UnretainedLine
lines_by (Commit asked tickets answer) = lines_of asked
lines_by _ = []

-- the objects that the transactions of these steps remove, one after the other
abbrev pub removed_lines : List Event → List UnretainedLine
removed_lines events = flat_map (λ e. lines_by e.deed) events

-- how many they are
abbrev pub removed : List Event → ℕ
removed events = length (removed_lines events)

-- ---- refusals

-- a bound of the database's, a halted hall, a full run, or want of memory
abbrev pub is_ending : Refusal → Bool
is_ending e = has_number (31 ∷ 40 ∷ 41 ∷ 50 ∷ []) e

abbrev pub ending : Refusal → Refusal
ending e = if is_ending e then e else refusal.Memory

-- an object that is gone, is retained, or isn't as it was named
abbrev pub is_passed : Refusal → Bool
is_passed e = has_number (10 ∷ 12 ∷ 22 ∷ 23 ∷ []) e

-- a transaction with more bytes than a record may have
abbrev pub is_long : Refusal → Bool
is_long e = number_of e == 30

abbrev pub refused_as : Refusal → Result Tried Refusal
refused_as e = if is_passed e then Ok came.Refused else (if is_long e then Ok came.TooLong else Err (ending e))

abbrev pub outcome : Result ℕ Refusal → Result Tried Refusal
outcome (Ok number) = Ok came.Removed
outcome (Err e) = refused_as e

-- one of the steps was refused so
abbrev pub Met : Refusal → List Event → Type 0
Met e [] = ⊥
Met e (x ∷ events) = (refusal_of x.deed ≡ Some e) ⊎ Met e events

-- ---- steps

-- an expiration asks, commits the removal of objects, and forces
abbrev pub IsExpiring : Deed → Type 0
IsExpiring (Ask query answer) = Unit {0}
IsExpiring (Commit asked tickets answer) = (filespace : ℕ) × (lines : List UnretainedLine) × (asked ≡ removing filespace lines) × (tickets ≡ [])
IsExpiring (Force answer) = Unit {0}
IsExpiring _ = ⊥

-- no others
abbrev pub AreExpiring : List Event → Type 0
AreExpiring events = AllByRecursion (λ e. IsExpiring e.deed) events

-- the refusal is want of memory, or ends a run and was met by one of the steps
abbrev pub IsCaused : List Event → Refusal → Type 0
IsCaused events e = (e ≡ refusal.Memory) ⊎ ((is_ending e ≡ true) × Met e events)

-- ---- parts

-- one transaction was tried, or memory was wanted before it
abbrev pub Tries : ℕ → List UnretainedLine → List Event → Result Tried Refusal → Type 0
Tries filespace lines events result =
    ((events ≡ []) × (result ≡ Err refusal.Memory))
    ⊎ ((n : ℕ) × (answer : Result ℕ Refusal) × (events ≡ event n (Commit (removing filespace lines) [] answer) ∷ []) × (result ≡ outcome answer))

-- these steps ended with this refusal
pub record Breaks (events : List Event) (e : Refusal) : Type 0 where
  pub cause : IsCaused events e
  pub only : AreExpiring events

-- a transaction removed these objects of one filespace
abbrev pub Removing : List UnretainedLine → Event → Type 0
Removing lines e = (n : ℕ) × (number : ℕ) × (filespace : ℕ) × AreOf filespace lines × (e ≡ event n (Commit (removing filespace lines) [] (Ok number)))

-- the transaction of one object alone was refused: the object is gone, is retained, or isn't as it was named
abbrev pub PassingOver : UnretainedLine → Event → Type 0
PassingOver line e = (n : ℕ) × (why : Refusal) × (is_passed why ≡ true) × (e ≡ event n (Commit (removing line.filespace (line ∷ [])) [] (Err why)))

-- a transaction was refused for one of its objects, or for its length
abbrev pub Refusing : Event → Type 0
Refusing e = (n : ℕ) × (why : Refusal) × (filespace : ℕ) × (lines : List UnretainedLine) × ((is_passed why || is_long why) ≡ true) × (e ≡ event n (Commit (removing filespace lines) [] (Err why)))

-- These objects are handled one after the other: each step removes the next ones by one transaction, or passes over the next one, or is refused and changes nothing.
abbrev pub Handles : List UnretainedLine → List Event → Type 0
Handles lines [] = lines ≡ []
Handles lines (e ∷ events) =
    ((run : List UnretainedLine) × (rest : List UnretainedLine) × (lines ≡ run ++ rest) × Removing run e × Handles rest events)
    ⊎ ((line : UnretainedLine) × (rest : List UnretainedLine) × (lines ≡ line ∷ rest) × PassingOver line e × Handles rest events)
    ⊎ (Refusing e × Handles lines events)

-- so were these, and so many were removed
pub record Handled (lines : List UnretainedLine) (events : List Event) (number : ℕ) : Type 0 where
  pub each : Handles lines events
  pub count : removed (made events) ≡ number

abbrev pub Works : List UnretainedLine → List Event → Result ℕ Refusal → Type 0
Works lines events (Ok count) = Handled lines events count
Works lines events (Err e) = Breaks events e

-- the first step: what isn't retained was asked, and answered with these lines
abbrev pub Lists : List Event → Result (List UnretainedLine) Refusal → Type 0
Lists events (Ok lines) = (n : ℕ) × (answer : Answer) × (events ≡ event n (Ask query.Unretained (Ok answer)) ∷ []) × (answer.rows ≡ rows.Unretained lines)
Lists events (Err e) = Breaks events e

-- the last step: the number of the last transaction was asked
abbrev pub AsksToday : List Event → Result (Unit {0}) Refusal → Type 0
AsksToday events (Ok done) = (n : ℕ) × (answer : Answer) × (events ≡ event n (Ask query.Today (Ok answer)) ∷ [])
AsksToday events (Err e) = Breaks events e

-- the last steps: all was made durable, and then the number of the last transaction was asked
pub record IsFinish (events : List Event) : Type 0 where
  pub forced : is_forced events ≡ true
  pub none : receipts events ≡ []
  pub only : AreExpiring events

abbrev pub Finishes : List Event → Result (Unit {0}) Refusal → Type 0
Finishes events (Ok done) = IsFinish events
Finishes events (Err e) = Breaks events e

-- ---- the whole

-- Where no other actor's transaction comes between its steps, and the versions of each path stand in the order of their numbers, an expiration removes exactly the objects that aren't retained
-- where it begins, in ascending order of their numbers.
abbrev pub IsExact : List Event → Type 0
IsExact events =
    (w : History) (actor : ℕ) (a b : Own) → AreSound w → FitsAlone w actor a events b → AreInTurn (inv w (first_of events)) → removed_lines (receipts events) ≡ unretained (inv w (first_of events))

-- What an expiration did: its count is that of the objects in its receipts; where it answered one, nothing is left of what was kept and unretained from its first step to its last; alone, it
-- removed exactly what wasn't retained where it began; a refusal is want of memory, or one that ends a run and that one of its own steps met; and it made no transaction but the removal of objects.
pub record Expiration (events : List Event) (result : Result ℕ Refusal) : Type 0 where
  pub count : IfOk result (λ count. count ≡ removed (receipts events))
  pub expired : IfOk result (λ count. IsExpired events)
  pub exact : IfOk result (λ count. IsExact events)
  pub cause : IfErr result (λ e. IsCaused events e)
  pub only : AreExpiring events
