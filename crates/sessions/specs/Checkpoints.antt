-- A checkpoint is begun and written to its end.
use Rattle.std.specs.Prelude.{◌≡◌, ◌⊎◌, ℕ, ◌-◌, ◌^◌, Bool, false, List, [], ◌∷◌, length, Result, Ok, Err}
use Rattle.std.specs.List.{AllByRecursion}
use Rattle.kinds.specs.declared.refusal.Refusal.{Refusal}
use Rattle.kinds.specs.declared.refusal.Refusal.TheVariants.{Memory}
use Rattle.client_files.specs.Sending.{is_stopping, stopping as broken_off}
use Rattle.copy_attempts.specs.Attempts.{stopping}
use Rattle.steps.specs.declared.image.ImageKind.TheVariants as image
use Rattle.steps.specs.declared.image.ImageReply.{ImageReply}
use Rattle.steps.specs.declared.image.ImageReply.TheVariants as reply
use Rattle.steps.specs.Calls.{Made, Then}
use Rattle.steps.specs.Events.{Deed, Event}
use Rattle.steps.specs.Events.Deed.{Force, Image}
use Rattle.sessions.specs.Outcomes.{HasCause}
use Rattle.sessions.specs.Waiting.{Obtains}

-- one try to begin it, and the number of the last transaction that its image has; what can't be answered there stands for want of memory
abbrev pub Begins : Result ℕ Refusal → List Event → Type 0
Begins (Ok seq) events = (file : ℕ) × Made (Image image.Checkpoint (Ok (reply.Begun file seq))) events
Begins (Err e) events =
    ((why : Refusal) × (e ≡ stopping why) × Made (Image image.Checkpoint (Err why)) events)
    ⊎ ((told : ImageReply) × (e ≡ Memory) × Made (Image image.Checkpoint (Ok told)) events)

-- it is begun, as soon as no other image is being written
abbrev pub Opens : List Event → Result ℕ Refusal → Type 0
Opens events result = Obtains Begins events result

-- pieces of the image were written, behind each of which there is more
abbrev pub AreMore : List Event → Type 0
AreMore events = AllByRecursion (λ e. e.deed ≡ Image image.Next (Ok reply.More)) events

-- Why the image isn't written to its end: the next piece was refused, or answered as none is; or as many were written as a number of 64 bits counts.
abbrev pub BreaksOff : (count : ℕ) → Refusal → List Event → Type 0
BreaksOff count e events =
    ((why : Refusal) × (e ≡ broken_off why) × Made (Image image.Next (Err why)) events)
    ⊎ ((file : ℕ) × (seq : ℕ) × (e ≡ Memory) × Made (Image image.Next (Ok (reply.Begun file seq))) events)
    ⊎ ((count ≡ 2 ^ 64 - 1) × (e ≡ Memory) × (events ≡ []))

-- it is written to its end, or not
abbrev pub Continues : List Event → Result ℕ Refusal → Type 0
Continues events (Ok seq) = Then AreMore (λ ys. Made (Image image.Next (Ok (reply.Done seq))) ys) events
Continues events (Err e) = (xs : List Event) × Then (λ zs. (zs ≡ xs) × AreMore zs) (λ ys. BreaksOff (length xs) e ys) events

-- it is begun, and then written to its end
abbrev pub Checkpoints : List Event → Result ℕ Refusal → Type 0
Checkpoints events result =
    ((e : Refusal) × Opens events (Err e) × (result ≡ Err e))
    ⊎ ((seq : ℕ) × Then (λ xs. Opens xs (Ok seq)) (λ ys. Continues ys result) events)

-- it begins a checkpoint, goes on with one, or forces
abbrev pub IsOf : Deed → Type 0
IsOf (Image image.Checkpoint answer) = Unit {0}
IsOf (Image image.Next answer) = Unit {0}
IsOf (Force answer) = Unit {0}
IsOf _ = ⊥

-- what a checkpoint may be refused with: another image is being written, there is no generation behind the newest, a halted hall, a full run, want of memory
abbrev pub numbers : List ℕ
numbers = 21 ∷ 31 ∷ 40 ∷ 41 ∷ 50 ∷ []

-- What a checkpoint did: its steps in their order, and no others; and its refusal has its cause.
pub record Checkpointing (events : List Event) (result : Result ℕ Refusal) : Type 0 where
  pub order : Checkpoints events result
  pub only : AllByRecursion (λ e. IsOf e.deed) events
  pub cause : HasCause numbers events result

-- the image may still be in progress: the hall is halted, the run is full, or memory was wanted
abbrev pub may_leave : Result ℕ Refusal → Bool
may_leave (Ok seq) = false
may_leave (Err e) = is_stopping e
