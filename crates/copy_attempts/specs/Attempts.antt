-- How an object's copy is made: which steps, in which order, and what each answer leads to.
use Rattle.std.specs.Prelude.{◌≡◌, ◌⊎◌, ℕ, ◌+◌, ◌-◌, ◌<◌, ◌/◌, ◌%◌, ◌^◌, ◌==◌, Bool, true, false, zero, suc, List, [], ◌∷◌, length, if◌then◌else◌, Option, None, Some, Result, Ok, Err}
use Rattle.std.specs.List.{AllByRecursion}
use Rattle.kinds.specs.Refusals.{number_of}
use Rattle.kinds.specs.declared.refusal.Holder.{Holder}
use Rattle.kinds.specs.declared.refusal.Holder.TheVariants as holder
use Rattle.kinds.specs.declared.refusal.Refusal.{Refusal}
use Rattle.kinds.specs.declared.refusal.Refusal.TheVariants as refused
use Rattle.space.specs.declared.aim.Aim.{Aim}
use Rattle.steps.specs.declared.asked.Asked.TheVariants as asked
use Rattle.steps.specs.Calls.{IsStep, Made, Then, fails_object, forced}
use Rattle.steps.specs.Events.{Deed, Event, has_number}
use Rattle.steps.specs.Events.Deed.{OpenCopy, CopyPiece, Seal, Commit, DropTicket, Force}
use Rattle.copy_attempts.specs.declared.outcome.Came.{Came}
use Rattle.copy_attempts.specs.declared.outcome.Came.TheVariants as came

-- ---- what refusals lead to

-- the object, or the copy that was named, isn't as it was named
abbrev pub is_passed : Refusal → Bool
is_passed e = has_number (10 ∷ 12 ∷ 22 ∷ 23 ∷ []) e

-- the room is held, a bound of the database's, a halted hall, a full run, or want of memory
abbrev pub is_stopping : Refusal → Bool
is_stopping e = has_number (21 ∷ 31 ∷ 40 ∷ 41 ∷ 50 ∷ []) e

abbrev pub stopping : Refusal → Refusal
stopping e = if is_stopping e then e else refused.Memory

-- what comes of the object for which a step was so refused
abbrev pub came_of : Refusal → Result Came Refusal
came_of e = if is_passed e then Ok came.Passed else (if fails_object e then Ok came.Failed else Err (stopping e))

-- what comes of it where it got no ticket: a pool that isn't there ends the process
abbrev pub unopened : Refusal → Result Came Refusal
unopened e = if number_of e == 10 then Err e else came_of e

-- a fault of writing has dropped the ticket, the hall is halted, or the run is full
abbrev pub is_spent_by : Refusal → Bool
is_spent_by e = has_number (25 ∷ 40 ∷ 41 ∷ []) e

-- what comes of it behind the drop of its ticket
abbrev pub behind_drop : Refusal → Result (Unit {0}) Refusal → Result Came Refusal
behind_drop e (Ok done) = came_of e
behind_drop e (Err other) = Err (stopping other)

-- who is waited for
abbrev pub holder_in : Result Came Refusal → Option Holder
holder_in (Err (refused.Busy h)) = Some h
holder_in _ = None

-- ---- pieces

-- in how many pieces of 65,536 bytes, the last one of fewer, an object is copied
abbrev pub piece_count : ℕ → ℕ
piece_count size = size / 2 ^ 16 + (if size % 2 ^ 16 == 0 then 0 else 1)

abbrev pub IsPiece : ℕ → Deed → Type 0
IsPiece ticket (CopyPiece number (Ok done)) = number ≡ ticket
IsPiece ticket _ = ⊥

-- so many pieces were copied
pub record Pieces (ticket number : ℕ) (events : List Event) : Type 0 where
  pub only : AllByRecursion (λ e. IsPiece ticket e.deed) events
  pub count : length events ≡ number

-- all pieces were copied, or fewer and then one was refused
abbrev pub Copies : (ticket number : ℕ) → List Event → Result (Unit {0}) Refusal → Type 0
Copies ticket number events (Ok done) = Pieces ticket number events
Copies ticket number events (Err e) = (some : ℕ) × (some < number) × Then (λ xs. Pieces ticket some xs) (λ ys. Made (CopyPiece ticket (Err e)) ys) events

-- ---- a ticket

-- its object is copied, and then it is sealed
abbrev pub Fills : (ticket size : ℕ) → List Event → Result (Unit {0}) Refusal → Type 0
Fills ticket size events result =
    ((e : Refusal) × Copies ticket (piece_count size) events (Err e) × (result ≡ Err e))
    ⊎ Then (λ xs. Pieces ticket (piece_count size) xs) (λ ys. Made (Seal ticket result) ys) events

-- its copy is committed, where it is filled
abbrev pub Makes : (ticket size : ℕ) → List Event → Result ℕ Refusal → Type 0
Makes ticket size events result =
    ((e : Refusal) × Fills ticket size events (Err e) × (result ≡ Err e))
    ⊎ Then (λ xs. Fills ticket size xs (Ok tt)) (λ ys. Made (Commit asked.Placed (ticket ∷ []) result) ys) events

-- it is given back behind a refusal, unless it isn't there any more or nobody can give it back
abbrev pub GivesUp : (ticket : ℕ) → Refusal → List Event → Result Came Refusal → Type 0
GivesUp ticket e events result =
    ((is_spent_by e ≡ true) × (events ≡ []) × (result ≡ came_of e))
    ⊎ ((is_spent_by e ≡ false) × (answer : Result (Unit {0}) Refusal) × IsStep (DropTicket ticket answer) events × (result ≡ behind_drop e answer))

-- it is committed, or given back
abbrev pub Spends : (ticket size : ℕ) → List Event → Result Came Refusal → Type 0
Spends ticket size events result =
    ((number : ℕ) × Makes ticket size events (Ok number) × (result ≡ Ok (came.Copied number)))
    ⊎ ((e : Refusal) × Then (λ xs. Makes ticket size xs (Err e)) (λ ys. GivesUp ticket e ys result) events)

-- ---- tries

-- a ticket is opened, and then it is spent
abbrev pub Tries : (object : ℕ) → Aim → (avoid size : ℕ) → List Event → Result Came Refusal → Type 0
Tries object aim avoid size events result =
    ((e : Refusal) × Made (OpenCopy object aim avoid (Err e)) events × (result ≡ unopened e))
    ⊎ ((ticket : ℕ) × Then (λ xs. Made (OpenCopy object aim avoid (Ok ticket)) xs) (λ ys. Spends ticket size ys result) events)

-- waiting for a transaction that isn't forced yet is a force, and for others no step
abbrev pub Awaits : Holder → List Event → Result (Unit {0}) Refusal → Type 0
Awaits (holder.Unforced number) events result = (answer : Result ℕ Refusal) × (result ≡ forced answer) × Made (Force answer) events
Awaits (holder.Ticket number) events result = (events ≡ []) × ((result ≡ Ok tt) ⊎ (result ≡ Err (refused.Busy (holder.Ticket number))) ⊎ (result ≡ Err refused.Memory))
Awaits (holder.Image actor) events result = (events ≡ []) × ((result ≡ Ok tt) ⊎ (result ≡ Err (refused.Busy (holder.Image actor))) ⊎ (result ≡ Err refused.Memory))

-- a try that found the room held, and then the wait for the holder
abbrev pub Held : (object : ℕ) → Aim → (avoid size : ℕ) → List Event → Result (Unit {0}) Refusal → Type 0
Held object aim avoid size events answer =
    (tried : Result Came Refusal) × (h : Holder) × (holder_in tried ≡ Some h) × Then (λ xs. Tries object aim avoid size xs tried) (λ ys. Awaits h ys answer) events

-- so many tries found the room held, and each time the wait was over
abbrev pub Waited : (object : ℕ) → Aim → (avoid size : ℕ) → ℕ → List Event → Type 0
Waited object aim avoid size zero events = events ≡ []
Waited object aim avoid size (suc number) events =
    Then (λ xs. Waited object aim avoid size number xs) (λ ys. Held object aim avoid size ys (Ok tt)) events

-- The last try, behind so many that waited: it came to something, or its wait was refused; or there is none, where as many waited as a number of 64 bits counts.
abbrev pub Ends : (object : ℕ) → Aim → (avoid size waited : ℕ) → List Event → Result Came Refusal → Type 0
Ends object aim avoid size waited events result =
    ((holder_in result ≡ None) × Tries object aim avoid size events result)
    ⊎ ((e : Refusal) × Held object aim avoid size events (Err e) × (result ≡ Err (stopping e)))
    ⊎ ((waited ≡ 2 ^ 64 - 1) × (events ≡ []) × (result ≡ Err refused.Memory))

-- all tries
abbrev pub Goes : (object : ℕ) → Aim → (avoid size : ℕ) → List Event → Result Came Refusal → Type 0
Goes object aim avoid size events result =
    (waited : ℕ) × Then (λ xs. Waited object aim avoid size waited xs) (λ ys. Ends object aim avoid size waited ys result) events
