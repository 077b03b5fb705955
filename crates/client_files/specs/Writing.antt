-- How a client's file is written into a ticket that is sealed later, and how a file's ticket is sealed then.
use Rattle.std.specs.Prelude.{◌≡◌, ◌⊎◌, ℕ, ◌≤◌, List, [], length, Option, IfSome, Result, Ok, Err}
use Rattle.kinds.specs.declared.refusal.Refusal.{Refusal}
use Rattle.kinds.specs.declared.segment.Digest.{Digest}
use Rattle.client_trees.specs.Files.{ClientFile}
use Rattle.steps.specs.Calls.{IsStep, Made, Then}
use Rattle.steps.specs.Events.{Event}
use Rattle.steps.specs.Events.Deed.{OpenNew, Seal}
use Rattle.client_files.specs.declared.outcome.Came.{Came}
use Rattle.client_files.specs.declared.outcome.Came.TheVariants as came
use Rattle.client_files.specs.Reading.{GoesOn, TreeFails}
use Rattle.client_files.specs.Sending.{Breaks, Copies, GivesUp, unopened, unwritten}

-- The file's bytes are written, and it has no others.
abbrev pub Loads : Option ClientFile → (ticket size : ℕ) → (before after : ℕ) → List Event → Result Digest Refusal → Type 0
Loads file ticket size before after events (Ok digest) = IfSome file (λ f. length f.bytes ≤ size) × Copies file ticket size before after events (Ok digest)
Loads file ticket size before after events (Err e) =
    Breaks file ticket size before after e events
    ⊎ ((digest : Digest) × Copies file ticket size before after events (Ok digest) × (TreeFails before after e ⊎ GoesOn file size e))

-- they are, or the ticket is given back
abbrev pub Keeps : Option ClientFile → (ticket size : ℕ) → (before after : ℕ) → List Event → Result Came Refusal → Type 0
Keeps file ticket size before after events result =
    ((digest : Digest) × Loads file ticket size before after events (Ok digest) × (result ≡ Ok (came.Written ticket digest)))
    ⊎ ((e : Refusal) × Then (λ xs. Loads file ticket size before after xs (Err e)) (λ ys. GivesUp ticket e ys result) events)

-- A ticket is opened, and the file is written into it, which isn't sealed.
abbrev pub Puts : Option ClientFile → (pool size : ℕ) → (before after : ℕ) → List Event → Result Came Refusal → Type 0
Puts file pool size before after events result =
    ((e : Refusal) × Made (OpenNew pool size 0 (Err e)) events × (result ≡ unopened e))
    ⊎ ((ticket : ℕ) × Then (λ xs. Made (OpenNew pool size 0 (Ok ticket)) xs) (λ ys. Keeps file ticket size before after ys result) events)

-- The ticket of a file that is written is sealed, or given back; of another file there is none.
abbrev pub Closes : Came → List Event → Result Came Refusal → Type 0
Closes (came.Written ticket digest) events result =
    (IsStep (Seal ticket (Ok tt)) events × (result ≡ Ok (came.Written ticket digest)))
    ⊎ ((why : Refusal) × Then (λ xs. Made (Seal ticket (Err why)) xs) (λ ys. GivesUp ticket (unwritten why) ys result) events)
Closes (came.Failed e) events result = (events ≡ []) × (result ≡ Ok (came.Failed e))
Closes (came.Held holder) events result = (events ≡ []) × (result ≡ Ok (came.Held holder))
