-- How a client's file goes into a ticket: which steps, in which order, and what each answer leads to.
use Rattle.std.specs.Prelude.{◌≡◌, ◌⊎◌, ℕ, ◌==◌, ◌<◌, ◌≤◌, Bool, true, false, List, [], ◌∷◌, length, take, if◌then◌else◌, Option, IfSome, Result, Ok, Err}
use Rattle.std.specs.List.{AllByRecursion, flat_map}
use Rattle.sha2.specs.Sha256.{sha256}
use Rattle.kinds.specs.Refusals.{number_of}
use Rattle.kinds.specs.ValueForms.{digest_with}
use Rattle.kinds.specs.declared.refusal.Refusal.{Refusal}
use Rattle.kinds.specs.declared.refusal.Refusal.TheVariants as refused
use Rattle.kinds.specs.declared.segment.Digest.{Digest}
use Rattle.client_trees.specs.Files.{ClientFile}
use Rattle.steps.specs.Calls.{IsStep, Made, Then}
use Rattle.steps.specs.Events.{Deed, Event, has_number}
use Rattle.steps.specs.Events.Deed.{OpenNew, WritePiece, Seal, DropTicket}
use Rattle.client_files.specs.declared.outcome.Came.{Came}
use Rattle.client_files.specs.declared.outcome.Came.TheVariants as came
use Rattle.client_files.specs.Reading.{EndsEarly, GoesOn, TreeFails}

-- ---- what refusals lead to

-- a halted hall, a full run, or want of memory
abbrev pub is_stopping : Refusal → Bool
is_stopping e = has_number (40 ∷ 41 ∷ 50 ∷ []) e

-- what a step can't answer stands for want of memory
abbrev pub stopping : Refusal → Refusal
stopping e = if is_stopping e then e else refused.Memory

-- the file gets no ticket: the pool isn't there, no pool has room, the file is too large, or a bound of the database's
abbrev pub is_unopened : Refusal → Bool
is_unopened e = has_number (10 ∷ 20 ∷ 29 ∷ 31 ∷ []) e

-- what comes of a file that got no ticket: where others hold the room it waits
abbrev pub unopened : Refusal → Result Came Refusal
unopened (refused.Busy holder) = Ok (came.Held holder)
unopened e = if is_unopened e then Ok (came.Failed e) else Err (stopping e)

-- the ticket isn't filled: a volume can't be written, a call on the tree failed, or the file's length isn't the listed one
abbrev pub is_unfilled : Refusal → Bool
is_unfilled e = has_number (25 ∷ 26 ∷ 27 ∷ []) e

-- what comes of a file whose ticket isn't filled
abbrev pub failing : Refusal → Result Came Refusal
failing e = if is_unfilled e then Ok (came.Failed e) else Err (stopping e)

-- why it isn't, where writing or sealing was refused so
abbrev pub unwritten : Refusal → Refusal
unwritten e = if number_of e == 25 then e else stopping e

-- a fault of writing has dropped the ticket, the hall is halted, or the run is full
abbrev pub is_spent_by : Refusal → Bool
is_spent_by e = has_number (25 ∷ 40 ∷ 41 ∷ []) e

-- what comes of the file behind the drop of its ticket
abbrev pub behind_drop : Refusal → Result (Unit {0}) Refusal → Result Came Refusal
behind_drop e (Ok done) = failing e
behind_drop e (Err other) = Err (stopping other)

-- ---- bytes

-- the step wrote a piece into this ticket
abbrev pub Writes : ℕ → Deed → Type 0
Writes ticket (WritePiece number bytes (Ok done)) = number ≡ ticket
Writes ticket _ = ⊥

abbrev pub bytes_by : Deed → List ℕ
bytes_by (WritePiece number bytes answer) = bytes
bytes_by _ = []

-- what these steps wrote, one piece behind another
abbrev pub written : List Event → List ℕ
written events = flat_map (λ e. bytes_by e.deed) events

-- these bytes were written into the ticket, which are the first of the file
pub record Wrote (file : Option ClientFile) (ticket : ℕ) (bytes : List ℕ) (events : List Event) : Type 0 where
  pub only : AllByRecursion (λ e. Writes ticket e.deed) events
  pub whole : written events ≡ bytes
  pub front : IfSome file (λ f. take (length bytes) f.bytes ≡ bytes)

-- Why not all bytes were written: the tree's call failed, or the file ended early, behind those that were; or the writing of a piece was refused.
abbrev pub Breaks : Option ClientFile → (ticket size : ℕ) → (before after : ℕ) → Refusal → List Event → Type 0
Breaks file ticket size before after e events =
    (bytes : List ℕ) × (length bytes < size) × Then (λ xs. Wrote file ticket bytes xs)
    (λ ys. ((ys ≡ []) × (TreeFails before after e ⊎ EndsEarly file (length bytes) size e)) ⊎
    ((piece : List ℕ) × (why : Refusal) × (e ≡ unwritten why) × Made (WritePiece ticket piece (Err why)) ys)) events

-- so many bytes of a file were written, and this is their SHA-256
abbrev pub Copies : Option ClientFile → (ticket size : ℕ) → (before after : ℕ) → List Event → Result Digest Refusal → Type 0
Copies file ticket size before after events (Ok digest) = (bytes : List ℕ) × Wrote file ticket bytes events × (length bytes ≡ size) × (digest ≡ digest_with (sha256 bytes))
Copies file ticket size before after events (Err e) = Breaks file ticket size before after e events

-- ---- a ticket

-- The file's bytes are written, it has no others, and the ticket is sealed.
abbrev pub Fills : Option ClientFile → (ticket size : ℕ) → (before after : ℕ) → List Event → Result Digest Refusal → Type 0
Fills file ticket size before after events (Ok digest) =
    IfSome file (λ f. length f.bytes ≤ size)
    × Then (λ xs. Copies file ticket size before after xs (Ok digest)) (λ ys. IsStep (Seal ticket (Ok tt)) ys) events
Fills file ticket size before after events (Err e) =
    Breaks file ticket size before after e events
    ⊎ ((digest : Digest) × Copies file ticket size before after events (Ok digest) × (TreeFails before after e ⊎ GoesOn file size e))
    ⊎ ((digest : Digest) × (why : Refusal) × (e ≡ unwritten why) × Then (λ xs. Copies file ticket size before after xs (Ok digest)) (λ ys. Made (Seal ticket (Err why)) ys) events)

-- it is given back behind a refusal, unless it isn't there any more or nobody can give it back
abbrev pub GivesUp : (ticket : ℕ) → Refusal → List Event → Result Came Refusal → Type 0
GivesUp ticket e events result =
    ((is_spent_by e ≡ true) × (events ≡ []) × (result ≡ failing e))
    ⊎ ((is_spent_by e ≡ false) × (answer : Result (Unit {0}) Refusal) × IsStep (DropTicket ticket answer) events × (result ≡ behind_drop e answer))

-- it is filled, or given back
abbrev pub Spends : Option ClientFile → (ticket size : ℕ) → (before after : ℕ) → List Event → Result Came Refusal → Type 0
Spends file ticket size before after events result =
    ((digest : Digest) × Fills file ticket size before after events (Ok digest) × (result ≡ Ok (came.Written ticket digest)))
    ⊎ ((e : Refusal) × Then (λ xs. Fills file ticket size before after xs (Err e)) (λ ys. GivesUp ticket e ys result) events)

-- A ticket is opened, and then it is spent.
abbrev pub Sends : Option ClientFile → (pool size : ℕ) → (before after : ℕ) → List Event → Result Came Refusal → Type 0
Sends file pool size before after events result =
    ((e : Refusal) × Made (OpenNew pool size 0 (Err e)) events × (result ≡ unopened e))
    ⊎ ((ticket : ℕ) × Then (λ xs. Made (OpenNew pool size 0 (Ok ticket)) xs) (λ ys. Spends file ticket size before after ys result) events)
