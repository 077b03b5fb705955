-- What the steps of an image make of what the hall holds.
use Rattle.std.specs.Prelude.{◌≡◌, ℕ, ◌+◌, ◌^◌, ◌==◌, nat_lt, List, [], ◌∷◌, ◌++◌, Option, None, Some, if◌then◌else◌, Result, Ok, Err}
use Rattle.kinds.specs.Refusals.{unless}
use Rattle.kinds.specs.declared.refusal.Holder.TheVariants as holder
use Rattle.kinds.specs.declared.refusal.Refusal.{Refusal}
use Rattle.kinds.specs.declared.refusal.Refusal.TheVariants as refusal
use Rattle.db_image.specs.declared.phase.Progress.{Progress}
use Rattle.db_image.specs.declared.phase.Progress.TheVariants.{Done, More}
use Rattle.inventory_rows.specs.State.{Inv}
use Rattle.steps.specs.declared.image.ImageReply.{ImageReply}
use Rattle.steps.specs.declared.image.ImageReply.TheVariants as reply
use Rattle.vault.specs.Files.{image_file}
use Rattle.vault.specs.Vaults.{GoesTo, State}
use Rattle.machine.specs.State.{checkpoint}
use Rattle.hall.specs.Held.{BegunImage, Held}
use Rattle.hall.specs.Seats.{all_stamped, ended_at, with_vault}

-- ---- refusals

-- another image is in progress
abbrev pub image_held : Option BegunImage → List Refusal
image_held None = []
image_held (Some i) = refusal.Busy (holder.Image i.actor) ∷ []

-- Why no checkpoint begins: the run is full, or a fault has halted the hall; another image is in progress; or no later generation is below its bound.
abbrev pub checkpoint_refused : (moment : ℕ) → Held → List Refusal
checkpoint_refused moment h = ended_at moment h ++ (image_held h.image ++ unless (nat_lt (h.vault.generation + 1) (2 ^ 62)) refusal.InventoryFull)

-- the image in progress, where it is the actor's
abbrev pub own_begun : (actor : ℕ) → Option BegunImage → Option BegunImage
own_begun actor None = None
own_begun actor (Some i) = if i.actor == actor then Some i else None

-- ---- what is held then

-- the same with this image in progress
abbrev pub with_begun : Option BegunImage → Held → Held
with_begun i h = record h { image = i }

-- the checkpoint that an actor begins over a vault
abbrev pub checkpoint_by : (actor : ℕ) → State Inv → BegunImage
checkpoint_by actor vault = record { actor = actor; picture = checkpoint; file = image_file (vault.generation + 1); seq = vault.database.number }

-- A checkpoint was begun, by which the vault is this one: all is forced.
abbrev pub checkpoint_begun : (actor moment : ℕ) → State Inv → Held → Held
checkpoint_begun actor moment vault h = all_stamped moment (with_begun (Some (checkpoint_by actor h.vault)) (with_vault vault h))

-- it is done: all is forced, and no image is in progress
abbrev pub checkpoint_done : (moment : ℕ) → State Inv → Held → Held
checkpoint_done moment vault h = all_stamped moment (with_begun None (with_vault vault h))

-- ---- how a checkpoint goes on

-- what the vault's step answered
abbrev pub progress_of : Result ImageReply Refusal → Result Progress Refusal
progress_of (Ok reply.More) = Ok More
progress_of (Ok (reply.Done seq)) = Ok Done
progress_of (Ok (reply.Begun file seq)) = Ok More
progress_of (Err e) = Err e

-- The checkpoint in progress went on by a step of the vault, at whose end it was this moment; or it is done, with the number of its database.
abbrev pub GoesFurther : (moment : ℕ) → (old new : Held) → ImageReply → Type 0
GoesFurther moment old new reply.More = (new ≡ with_vault new.vault old) × GoesTo old.vault new.vault More
GoesFurther moment old new (reply.Done seq) = (i : BegunImage) × (old.image ≡ Some i) × (seq ≡ i.seq) × (new ≡ checkpoint_done moment new.vault old) × GoesTo old.vault new.vault Done
GoesFurther moment old new (reply.Begun file seq) = ⊥
