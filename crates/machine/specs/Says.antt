-- What a step's reply says of the database that it was made on, and of the actor's own tickets and image.
use Rattle.std.specs.Prelude.{◌≡◌, ◌⊎◌, ℕ, ◌+◌, Bool, true, List, [], ◌∷◌, length, None, Some, Result, Ok, Err}
use Rattle.kinds.specs.Refusals.{foremost}
use Rattle.kinds.specs.declared.refusal.Refusal.{Refusal}
use Rattle.steps.specs.declared.image.ImageKind.{ImageKind}
use Rattle.steps.specs.declared.image.ImageKind.TheVariants as image
use Rattle.steps.specs.declared.image.ImageReply.{ImageReply}
use Rattle.steps.specs.declared.image.ImageReply.TheVariants as reply
use Rattle.steps.specs.Events.{Deed, has_number}
use Rattle.steps.specs.Events.Deed.{OpenNew, OpenCopy, WritePiece, CopyPiece, Seal, Commit, DropTicket, ReadPiece, Ask, Image, Reuse, Force}
use Rattle.machine.specs.Causes.{ask_refused, commit_refused, copy_refused_by, copying_refused, drop_refused, image_refused, new_refused, read_refused, reuse_refused, seal_refused, write_refused}
use Rattle.machine.specs.Machine.{IsAnswer, next_count, read_count}
use Rattle.machine.specs.Pieces.{piece}
use Rattle.machine.specs.State.{Image as Picture, Sight, Ticket, ticket}

-- What comes from others, from the store or from memory: room that isn't there or is held, copies and volumes that fail, numbers at their bounds, a halted hall, a full run.
abbrev pub is_elsewhere : Refusal → Bool
is_elsewhere e = has_number (20 ∷ 21 ∷ 24 ∷ 25 ∷ 31 ∷ 40 ∷ 41 ∷ 50 ∷ []) e

-- A step was answered: none of these refusals held, and the answer is such a one. Or it was refused: with the foremost of them, or for a cause elsewhere.
abbrev pub Answered : {A : Type 0} → (held : List Refusal) → (Is : A → Type 0) → Result A Refusal → Type 0
Answered held Is (Ok x) = (foremost held ≡ None) × Is x
Answered held Is (Err e) = (foremost held ≡ Some e) ⊎ (is_elsewhere e ≡ true)

-- any answer
abbrev pub Any : {A : Type 0} → A → Type 0
Any x = Unit {0}

-- of the caller's ticket with this number
abbrev pub OfTicket : (number : ℕ) → Sight → (Ticket → Type 0) → Type 0
OfTicket number s Is = (t : Ticket) × (ticket number s.tickets ≡ Some t) × Is t

abbrev pub next_number : Sight → ℕ
next_number s = s.inventory.number + 1

-- a checkpoint is of the database as it is, and a backup has a transaction of its own; what goes on is the caller's own
abbrev pub ImageTold : ImageKind → Sight → ImageReply → Type 0
ImageTold image.Checkpoint s (reply.Begun file seq) = seq ≡ s.inventory.number
ImageTold image.Backup s (reply.Begun file seq) = seq ≡ next_number s
ImageTold (image.Since after) s (reply.Begun file seq) = seq ≡ next_number s
ImageTold image.Next s (reply.Done seq) = (i : Picture) × (s.image ≡ Some i) × (seq ≡ i.seq)
ImageTold image.Next s reply.More = (i : Picture) × (s.image ≡ Some i)
ImageTold _ s _ = ⊥

-- `contents` are the bytes of each object
unfoldable pub Says : (actor : ℕ) → (contents : ℕ → List ℕ) → Sight → Deed → Type 0
Says actor contents s (OpenNew pool size prefer answer) = Answered (new_refused pool size s) Any answer
Says actor contents s (OpenCopy object aim avoid answer) = Answered (copy_refused_by object aim s) Any answer
Says actor contents s (WritePiece number bytes answer) = Answered (write_refused number (length bytes) s) (λ count. OfTicket number s (λ t. count ≡ length t.bytes + length bytes)) answer
Says actor contents s (CopyPiece number answer) = Answered (copying_refused number s) (λ count. OfTicket number s (λ t. count ≡ length t.bytes + next_count t)) answer
Says actor contents s (Seal number answer) = Answered (seal_refused number s) Any answer
Says actor contents s (Commit asked numbers answer) = Answered (commit_refused actor asked numbers s) (λ number. number ≡ next_number s) answer
Says actor contents s (DropTicket number answer) = Answered (drop_refused number s) Any answer
Says actor contents s (ReadPiece object kept from offset wanted answer) =
    Answered (read_refused object kept from offset wanted s) (λ bytes. bytes ≡ piece offset (read_count object wanted offset s.inventory) (contents object)) answer
Says actor contents s (Ask query answer) = Answered (ask_refused query s) (λ told. (log_length : ℕ) × IsAnswer log_length query s.inventory told) answer
Says actor contents s (Image kind answer) = Answered (image_refused kind s) (ImageTold kind s) answer
Says actor contents s (Reuse file answer) = Answered (reuse_refused file s) (λ number. number ≡ next_number s) answer
Says actor contents s (Force answer) = Answered [] (λ number. number ≡ s.inventory.number) answer
