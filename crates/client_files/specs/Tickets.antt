-- Which tickets an actor has behind a file that was sent, if it had none before.
use Rattle.std.specs.Prelude.{◌≡◌, ℕ, Bool, true, false, List, [], ◌∷◌, length, Option, IfSome, Result, Ok, Err}
use Rattle.sha2.specs.Sha256.{sha256}
use Rattle.kinds.specs.ValueForms.{digest_with}
use Rattle.kinds.specs.declared.refusal.Refusal.{Refusal}
use Rattle.kinds.specs.declared.segment.Digest.{Digest}
use Rattle.client_trees.specs.Files.{ClientFile}
use Rattle.machine.specs.State.{Ticket, storing}
use Rattle.steps.specs.Events.{has_number}
use Rattle.client_files.specs.declared.outcome.Came.{Came}
use Rattle.client_files.specs.declared.outcome.Came.TheVariants as came

-- The actor's ticket with this number is for a new object, and took a file: so many bytes, with this SHA-256, and those of the client's file, where its tree tells it.
pub record HasFile (whose its : ℕ) (file : Option ClientFile) (listed : ℕ) (sent : Digest) (t : Ticket) : Type 0 where
  pub actor : t.actor ≡ whose
  pub number : t.number ≡ its
  pub object : ℕ
  pub purpose : t.purpose ≡ storing object
  pub size : t.size ≡ listed
  pub long : length t.bytes ≡ listed
  pub hash : sent ≡ digest_with (sha256 t.bytes)
  pub whole : IfSome file (λ f. f.bytes ≡ t.bytes)
  pub sealed : t.is_sealed ≡ true

-- the hall is halted, or the run is full: nobody can give a ticket back
abbrev pub is_lasting : Refusal → Bool
is_lasting e = has_number (40 ∷ 41 ∷ []) e

-- The one ticket that was sealed; else none, unless the hall is halted or the run is full.
abbrev pub LeavesTickets : (actor : ℕ) → Option ClientFile → (size : ℕ) → Result Came Refusal → List Ticket → Type 0
LeavesTickets actor file size (Ok (came.Written number digest)) tickets = (t : Ticket) × (tickets ≡ t ∷ []) × HasFile actor number file size digest t
LeavesTickets actor file size (Ok (came.Failed e)) tickets = tickets ≡ []
LeavesTickets actor file size (Ok (came.Held holder)) tickets = tickets ≡ []
LeavesTickets actor file size (Err e) tickets = is_lasting e ≡ false → tickets ≡ []
