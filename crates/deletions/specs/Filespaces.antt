-- What the deletion of a filespace did.
use Rattle.std.specs.Prelude.{◌≡◌, ◌⊎◌, ℕ, ◌≤◌, ◌==◌, Bool, true, false, List, [], ◌∷◌, ◌++◌, map, if◌then◌else◌, Option, None, Some, Result, Ok, Err}
use Rattle.std.specs.List.{AllByRecursion, find}
use Rattle.kinds.specs.Refusals.{number_of}
use Rattle.kinds.specs.declared.change.DefineOrDelete.TheVariants as two
use Rattle.kinds.specs.declared.change.ObjectChange.TheVariants as client
use Rattle.kinds.specs.declared.refusal.Refusal.{Refusal}
use Rattle.kinds.specs.declared.refusal.Refusal.TheVariants as refused
use Rattle.entries.specs.change_items.declared.reasons.DiscardReason.{DiscardReason}
use Rattle.entries.specs.change_items.declared.reasons.DiscardReason.TheVariants as because
use Rattle.entries.specs.declared.change.Change.TheVariants as change
use Rattle.inventory_answers.specs.declared.lines.FilespaceLine.{FilespaceLine}
use Rattle.inventory_answers.specs.declared.lines.HeldLine.{HeldLine}
use Rattle.inventory_answers.specs.declared.lines.VersionLine.{VersionLine}
use Rattle.inventory_answers.specs.declared.query.Query.{Query}
use Rattle.inventory_answers.specs.declared.query.Query.TheVariants as query
use Rattle.inventory_answers.specs.declared.reply.Answer.{Answer}
use Rattle.inventory_answers.specs.declared.reply.Rows.TheVariants as rows
use Rattle.inventory_rules.specs.Ordered.{IsOrdered}
use Rattle.inventory_rules.specs.Versions.{is_under}
use Rattle.inventory_rows.specs.object_rows.Filespaces.{filespace_at}
use Rattle.steps.specs.declared.asked.Asked.{Asked}
use Rattle.steps.specs.declared.asked.Asked.TheVariants as asked
use Rattle.steps.specs.Calls.{Then}
use Rattle.steps.specs.Events.{Deed, Event, event, has_number}
use Rattle.steps.specs.Events.Deed.{Ask, Commit, Force}
use Rattle.steps.specs.Receipts.{receipts}
use Rattle.machine.specs.Fits.{Fits, History, Own, inv, last}
use Rattle.copy_attempts.specs.Attempts.{stopping}
use Rattle.copy_attempts.specs.Outcomes.{MetBy}
use Rattle.copy_runs.specs.Ends.{AreAsking, IsAsking, IsEnding, IsStopped, first_of, last_of}
use Rattle.deletions.specs.declared.filespace.Names.{Names}
use Rattle.deletions.specs.declared.objects.Doomed.{Doomed}
use Rattle.deletions.specs.Discarding.{Handled, Handles, IsDiscarding, discards}

-- ---- what is asked

-- the names of a filespace, where its node is there
abbrev pub with_node : List ℕ → Option (List ℕ) → Result Names Refusal
with_node name None = Err refused.NotFound
with_node name (Some node) = Ok (record { node = node; name = name })

abbrev pub names_of : FilespaceLine → Result Names Refusal
names_of line = with_node line.name line.node

abbrev pub names_found : Option FilespaceLine → Result Names Refusal
names_found None = Err refused.NotFound
names_found (Some line) = names_of line

-- the filespace with this number, where it is among these
abbrev pub line_of : ℕ → List FilespaceLine → Option FilespaceLine
line_of filespace lines = find (λ l. l.number == filespace) lines

abbrev pub names_in : ℕ → List FilespaceLine → Result Names Refusal
names_in filespace lines = names_found (line_of filespace lines)

abbrev pub of_version : VersionLine → Doomed
of_version line = record { object = line.object; found = line.digest }

abbrev pub of_held : HeldLine → Doomed
of_held line = record { object = line.object; found = line.digest }

-- ---- transactions

-- the objects go for this reason
abbrev pub reason_of : ℕ → DiscardReason
reason_of filespace = because.Filespace filespace

-- the filespace's own transaction
abbrev pub deleting : List ℕ → ℕ → Asked
deleting name filespace = asked.Plain (change.Object (client.Filespace two.Delete 0 name filespace))

-- ---- refusals

-- the refusals of that transaction which are answered as they are: it isn't there, or in use
abbrev pub is_kept_by : Refusal → Bool
is_kept_by e = has_number (10 ∷ 12 ∷ 32 ∷ []) e

abbrev pub unremoved : Refusal → Refusal
unremoved e = if is_kept_by e then e else stopping e

-- a question was so refused; or the filespace isn't among those that were answered, or its node isn't there
abbrev pub IsNotThere : (filespace : ℕ) → Refusal → Deed → Type 0
IsNotThere filespace e d =
    ((q : Query) × (d ≡ Ask q (Err e)))
    ⊎ ((answer : Answer) × (lines : List FilespaceLine) × (d ≡ Ask (query.Filespaces None) (Ok answer)) × (answer.rows ≡ rows.Filespaces lines) × (names_in filespace lines ≡ Err e))

-- the filespace's own transaction was so refused
abbrev pub IsRowKept : (filespace : ℕ) → Refusal → Deed → Type 0
IsRowKept filespace e d = (name : List ℕ) × (d ≡ Commit (deleting name filespace) [] (Err e))

-- The refusal is want of memory, or one that ends a process and that one of its steps met; or what was asked for isn't there; or it is that of the filespace's own transaction.
abbrev pub IsCaused : (filespace : ℕ) → List Event → Refusal → Type 0
IsCaused filespace events e =
    IsStopped events e
    ⊎ (((number_of e == 10) ≡ true) × MetBy (IsNotThere filespace e) events)
    ⊎ ((is_kept_by e ≡ true) × MetBy (IsRowKept filespace e) events)

-- ---- steps

-- it asks or forces, discards objects of the filespace, or deletes its row
abbrev pub IsDeleting : (filespace : ℕ) → Deed → Type 0
IsDeleting filespace d = IsEnding d ⊎ IsDiscarding (reason_of filespace) d ⊎ ((name : List ℕ) × (answer : Result ℕ Refusal) × (d ≡ Commit (deleting name filespace) [] answer))

-- no others
abbrev pub AreDeleting : (filespace : ℕ) → List Event → Type 0
AreDeleting filespace events = AllByRecursion (λ e. IsDeleting filespace e.deed) events

-- it asks, or discards objects of the filespace: so do the steps before its own transaction
abbrev pub IsBefore : (filespace : ℕ) → Deed → Type 0
IsBefore filespace d = IsAsking d ⊎ IsDiscarding (reason_of filespace) d

abbrev pub AreBefore : (filespace : ℕ) → List Event → Type 0
AreBefore filespace events = AllByRecursion (λ e. IsBefore filespace e.deed) events

-- What is named isn't there: nothing was done but to ask, and one of the questions was answered so.
abbrev pub IsMissing : (Deed → Type 0) → List Event → Refusal → Type 0
IsMissing So events e = ((number_of e == 10) ≡ true) × AreAsking events × MetBy So events

-- these steps ended with this refusal, before the filespace's own transaction: it ends a process, or a question was answered so
pub record Stops (filespace : ℕ) (So : Deed → Type 0) (events : List Event) (e : Refusal) : Type 0 where
  pub cause : IsCaused filespace events e
  pub only : AreBefore filespace events
  pub met : IsStopped events e ⊎ IsMissing So events e

-- this question was so refused
abbrev pub IsAnswer : Query → Refusal → Deed → Type 0
IsAnswer q e d = d ≡ Ask q (Err e)

-- the question for the filespaces was so refused; or this one isn't among those that were answered, or its node isn't there
abbrev pub IsUnfound : (filespace : ℕ) → Refusal → Deed → Type 0
IsUnfound filespace e d =
    (d ≡ Ask (query.Filespaces None) (Err e))
    ⊎ ((answer : Answer) × (lines : List FilespaceLine) × (d ≡ Ask (query.Filespaces None) (Ok answer)) × (answer.rows ≡ rows.Filespaces lines) × (names_in filespace lines ≡ Err e))

-- the question for its versions was so refused, or the one for what is held in it
abbrev pub IsUnlisted : (filespace : ℕ) → Names → Refusal → Deed → Type 0
IsUnlisted filespace names e d = (d ≡ Ask (query.Versions names.node names.name) (Err e)) ⊎ (d ≡ Ask (query.Held filespace) (Err e))

-- its own transaction was so refused, and is the only step
abbrev pub IsRefused : (filespace : ℕ) → List Event → Refusal → Type 0
IsRefused filespace events e = (n : ℕ) × (name : List ℕ) × (events ≡ event n (Commit (deleting name filespace) [] (Err e)) ∷ [])

-- these steps ended with this refusal, which is that of its own transaction or ends a process
pub record Keeps (filespace : ℕ) (events : List Event) (e : Refusal) : Type 0 where
  pub cause : IsCaused filespace events e
  pub only : AreDeleting filespace events
  pub last : IsStopped events e ⊎ IsRefused filespace events e

-- ---- parts

-- this was asked, and answered so
abbrev pub Answered : Query → List Event → Answer → Type 0
Answered q events answer = (n : ℕ) × (events ≡ event n (Ask q (Ok answer)) ∷ [])

abbrev pub Asks : (filespace : ℕ) → Query → List Event → Result Answer Refusal → Type 0
Asks filespace q events (Ok answer) = Answered q events answer
Asks filespace q events (Err e) = Stops filespace (IsAnswer q e) events e

-- the filespaces were asked for, and the one with this number has these names
abbrev pub Found : (filespace : ℕ) → List Event → Names → Type 0
Found filespace events names =
    (answer : Answer) × (lines : List FilespaceLine) × Answered (query.Filespaces None) events answer × (answer.rows ≡ rows.Filespaces lines) × (names_in filespace lines ≡ Ok names)

abbrev pub Finds : (filespace : ℕ) → List Event → Result Names Refusal → Type 0
Finds filespace events (Ok names) = Found filespace events names
Finds filespace events (Err e) = Stops filespace (IsUnfound filespace e) events e

-- its versions were asked for
abbrev pub ListsVersions : (filespace : ℕ) → Names → List Event → Result (List VersionLine) Refusal → Type 0
ListsVersions filespace names events (Ok lines) = (answer : Answer) × Answered (query.Versions names.node names.name) events answer × (answer.rows ≡ rows.Versions lines)
ListsVersions filespace names events (Err e) = Stops filespace (IsUnlisted filespace names e) events e

-- and what is held in it
abbrev pub ListsHeld : (filespace : ℕ) → List Event → Result (List HeldLine) Refusal → Type 0
ListsHeld filespace events (Ok lines) = (answer : Answer) × Answered (query.Held filespace) events answer × (answer.rows ≡ rows.Held lines)
ListsHeld filespace events (Err e) = Stops filespace (IsAnswer (query.Held filespace) e) events e

-- so these are its objects, the versions first
abbrev pub Objects : (filespace : ℕ) → Names → List Event → List Doomed → Type 0
Objects filespace names events objects =
    (versions : List VersionLine) × (held : List HeldLine) × (objects ≡ map of_version versions ++ map of_held held)
    × Then (λ xs. ListsVersions filespace names xs (Ok versions)) (λ ys. ListsHeld filespace ys (Ok held)) events

abbrev pub ListsObjects : (filespace : ℕ) → Names → List Event → Result (List Doomed) Refusal → Type 0
ListsObjects filespace names events (Ok objects) = Objects filespace names events objects
ListsObjects filespace names events (Err e) = Stops filespace (IsUnlisted filespace names e) events e

-- they were discarded, as far as they were there
abbrev pub Cleared : (filespace : ℕ) → Names → List Event → ℕ → Type 0
Cleared filespace names events count =
    (objects : List Doomed) × Then (λ xs. Objects filespace names xs objects) (λ ys. Handled (reason_of filespace) objects ys count) events

abbrev pub Clears : (filespace : ℕ) → Names → List Event → Result ℕ Refusal → Type 0
Clears filespace names events (Ok count) = Cleared filespace names events count
Clears filespace names events (Err e) = Stops filespace (IsUnlisted filespace names e) events e

-- its row went, and then all was made durable
abbrev pub Removed : (filespace : ℕ) → (name : List ℕ) → List Event → Type 0
Removed filespace name events =
    (n : ℕ) × (number : ℕ) × (m : ℕ) × (last : ℕ) × (events ≡ event n (Commit (deleting name filespace) [] (Ok number)) ∷ event m (Force (Ok last)) ∷ [])

abbrev pub RemovesRow : (filespace : ℕ) → (name : List ℕ) → List Event → Result (Unit {0}) Refusal → Type 0
RemovesRow filespace name events (Ok done) = (n : ℕ) × (number : ℕ) × (events ≡ event n (Commit (deleting name filespace) [] (Ok number)) ∷ [])
RemovesRow filespace name events (Err e) = Keeps filespace events e

abbrev pub Removes : (filespace : ℕ) → (name : List ℕ) → List Event → Result (Unit {0}) Refusal → Type 0
Removes filespace name events (Ok done) = Removed filespace name events
Removes filespace name events (Err e) = Keeps filespace events e

-- both
abbrev pub Emptied : (filespace : ℕ) → Names → List Event → ℕ → Type 0
Emptied filespace names events count = Then (λ xs. Cleared filespace names xs count) (λ ws. Removed filespace names.name ws) events

-- its objects were listed and discarded, and then its own transaction was so refused
abbrev pub IsKept : (filespace : ℕ) → Names → List Event → Refusal → Type 0
IsKept filespace names events e = (count : ℕ) × Then (λ xs. Cleared filespace names xs count) (λ ys. IsRefused filespace ys e) events

-- these steps ended with this refusal: it ends a process; or one of the questions was so refused; or it is that of its own transaction, behind all that comes before it
pub record Fails (filespace : ℕ) (names : Names) (events : List Event) (e : Refusal) : Type 0 where
  pub cause : IsCaused filespace events e
  pub only : AreDeleting filespace events
  pub order : IsStopped events e ⊎ IsMissing (IsUnlisted filespace names e) events e ⊎ IsKept filespace names events e

abbrev pub Empties : (filespace : ℕ) → Names → List Event → Result ℕ Refusal → Type 0
Empties filespace names events (Ok count) = Emptied filespace names events count
Empties filespace names events (Err e) = Fails filespace names events e

-- ---- the row

-- In every history that the events fit, of databases whose rows stand in order, the filespace isn't there at one of the numbers up to the last event's, and nothing is kept under a path of it.
abbrev pub IsGone : (filespace : ℕ) → List Event → Type 0
IsGone filespace events =
    (w : History) (actor : ℕ) (a b : Own) → ((n : ℕ) → w.base.number ≤ n → n ≤ last w → IsOrdered (inv w n)) → Fits w actor a events b
    → (n : ℕ) × (first_of events ≤ n) × (n ≤ last_of events) × (filespace_at filespace (inv w n).clients.filespaces ≡ None)
    × ((path : List ℕ) (object : ℕ) → is_under filespace path object (inv w n) ≡ false)

-- ---- the whole

-- the filespace was found and its objects listed, they were discarded in turn, its row went, and all was made durable
abbrev pub IsInOrder : (filespace : ℕ) → List Event → Type 0
IsInOrder filespace events =
    (names : Names) × (objects : List Doomed)
    × Then (λ xs. Found filespace xs names)
    (λ ys. Then (λ zs. Then (λ us. Objects filespace names us objects) (λ vs. Handles (reason_of filespace) objects vs) zs) (λ ws. Removed filespace names.name ws) ys) events

-- What it did where it answered a count: that is of the objects in its receipts; its steps came in their order; and the filespace is gone.
pub record Deleted (filespace : ℕ) (events : List Event) (number : ℕ) : Type 0 where
  pub count : number ≡ discards (receipts events)
  pub order : IsInOrder filespace events
  pub row : IsGone filespace events

abbrev pub Came : (filespace : ℕ) → List Event → Result ℕ Refusal → Type 0
Came filespace events (Ok count) = Deleted filespace events count
Came filespace events (Err e) = IsCaused filespace events e

-- Where it was refused: the refusal ends a process; or the filespace wasn't found; or it was, and then a question for its objects was so refused, or, behind all that comes before it, its own transaction.
abbrev pub IsInPlace : (filespace : ℕ) → List Event → Refusal → Type 0
IsInPlace filespace events e =
    IsStopped events e
    ⊎ IsMissing (IsUnfound filespace e) events e
    ⊎ ((names : Names) × Then (λ xs. Found filespace xs names) (λ ys. IsMissing (IsUnlisted filespace names e) ys e ⊎ IsKept filespace names ys e) events)

abbrev pub HasPlace : (filespace : ℕ) → List Event → Result ℕ Refusal → Type 0
HasPlace filespace events (Ok count) = Unit {0}
HasPlace filespace events (Err e) = IsInPlace filespace events e

-- What it did, that it asked, forced, discarded objects of the filespace and deleted its row, and no more, and where it was refused.
pub record FilespaceDeletion (filespace : ℕ) (events : List Event) (result : Result ℕ Refusal) : Type 0 where
  pub came : Came filespace events result
  pub only : AreDeleting filespace events
  pub place : HasPlace filespace events result
