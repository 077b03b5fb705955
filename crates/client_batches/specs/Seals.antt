-- How the tickets of a batch are sealed, behind the last piece of its last file: so a volume on which several of them lie is made durable once.
use Rattle.std.specs.Prelude.{◌≡◌, ◌⊎◌, ℕ, ◌==◌, List, [], ◌∷◌, ◌++◌, if◌then◌else◌, Result, Ok, Err}
use Rattle.kinds.specs.Refusals.{number_of}
use Rattle.kinds.specs.declared.refusal.Refusal.{Refusal}
use Rattle.kinds.specs.declared.refusal.Refusal.TheVariants as refused
use Rattle.kinds.specs.declared.segment.Digest.{Digest}
use Rattle.client_files.specs.declared.outcome.Came.{Came}
use Rattle.client_files.specs.declared.outcome.Came.TheVariants as came
use Rattle.client_files.specs.Sending.{stopping}
use Rattle.steps.specs.Calls.{Made, Then}
use Rattle.steps.specs.Events.{Event}
use Rattle.steps.specs.Events.Deed.{Seal}
use Rattle.client_batches.specs.Sends.{tickets_in}
use Rattle.client_batches.specs.Tickets.{GivesBack}

-- What came of a file that is written, where its ticket's seal was answered so: it stays, it fails since one of its volumes can't be written, by which its ticket went, or the call ends.
abbrev pub sealed_as : (ticket : ℕ) → Digest → Result (Unit {0}) Refusal → Result Came Refusal
sealed_as ticket digest (Ok done) = Ok (came.Written ticket digest)
sealed_as ticket digest (Err e) = if number_of e == 25 then Ok (came.Failed e) else Err (stopping e)

-- the ticket of a file that is written is sealed; of another file there is none
abbrev pub SealsOne : Came → List Event → Result Came Refusal → Type 0
SealsOne (came.Written ticket digest) events result = (answer : Result (Unit {0}) Refusal) × Made (Seal ticket answer) events × (result ≡ sealed_as ticket digest answer)
SealsOne (came.Failed e) events result = (events ≡ []) × (result ≡ Ok (came.Failed e))
SealsOne (came.Held holder) events result = (events ≡ []) × (result ≡ Ok (came.Held holder))

-- each in its turn, and what came of it then
abbrev pub SealsEach : List Came → List Came → List Event → Type 0
SealsEach [] [] events = events ≡ []
SealsEach (c ∷ all) (s ∷ sealed) events = Then (λ xs. SealsOne c xs (Ok s)) (λ ys. SealsEach all sealed ys) events
SealsEach _ _ events = ⊥

-- Some were sealed, and then memory was wanted, or the call ended at the next one.
pub record StopsSealing (all : List Came) (e : Refusal) (events : List Event) : Type 0 where
  pub front : List Came
  pub back : List Came
  pub sealed : List Came
  pub xs : List Event
  pub ys : List Event
  pub parts : all ≡ front ++ back
  pub made : events ≡ xs ++ ys
  pub seals : SealsEach front sealed xs
  pub ends : ((e ≡ refused.Memory) × (ys ≡ [])) ⊎ ((c : Came) × (rest : List Came) × (back ≡ c ∷ rest) × SealsOne c ys (Err e))

abbrev pub SealsSo : (all sealed : List Came) → List Event → Result (Unit {0}) Refusal → Type 0
SealsSo all sealed events (Ok done) = SealsEach all sealed events
SealsSo all sealed events (Err e) = StopsSealing all e events

-- So they are, and where the call ends the tickets are given back, those that are sealed and the others.
abbrev pub Seals : (all sealed : List Came) → List Event → Result (Unit {0}) Refusal → Type 0
Seals all sealed events (Ok done) = SealsEach all sealed events
Seals all sealed events (Err e) = (why : Refusal) × Then (λ xs. StopsSealing all why xs) (λ ys. GivesBack (tickets_in all) why ys e) events
