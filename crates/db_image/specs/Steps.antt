-- What the steps of writing an image do to the store.
use Rattle.std.specs.Prelude.{◌≡◌, ◌≢◌, ◌⊎◌, ℕ, ◌+◌, ◌-◌, ◌<◌, min, nat_le, if◌then◌else◌, List, [], ◌∷◌, ◌++◌, length, take, Result, OnOk}
use Rattle.store_api.specs.Disk.{Standing, History, standing, reads, now}
use Rattle.store_api.specs.Runs.{Stands, Firm, GoesOn, EachImage, WroteWithin}
use Rattle.log_file.specs.Blocks.{IsClosed}
use Rattle.db_image.specs.declared.mark.Mark.{Mark}
use Rattle.db_image.specs.declared.phase.Phase.{Phase}
use Rattle.db_image.specs.declared.phase.Phase.TheVariants.{Begun, Written, Durable, Open, Failed}
use Rattle.db_image.specs.declared.phase.Progress.{Progress}
use Rattle.db_image.specs.declared.phase.Progress.TheVariants.{More, Done}
use Rattle.db_image.specs.Images.{head_bytes, body_bytes, image_bytes}

-- an image as its writer sees it
pub record Job : Type 0 where
  pub file : ℕ
  pub mark : Mark
  pub number : ℕ
  pub payload : List ℕ
  pub phase : Phase

-- the same image, written so far
abbrev pub at_phase : Phase → Job → Job
at_phase phase job = record { file = job.file; mark = job.mark; number = job.number; payload = job.payload; phase = phase }

-- No stop changes the gate, and it isn't open.
pub record FirmShut (file : Standing) : Type 0 where
  pub gate : ℕ
  pub closed : gate ≢ 1
  pub firm : Firm file 0 (gate ∷ [])

-- The gate can be shut for good: no stop changes it, or the file is empty.
abbrev pub CanShut : Standing → Type 0
CanShut file = ((gate : ℕ) × Firm file 0 (gate ∷ [])) ⊎ (file.bytes ≡ [])

-- what stands in the file when an image has been written so far
abbrev pub UnderwayAs : Phase → Job → History → Type 0
UnderwayAs Begun job h = CanShut (standing h job.file)
UnderwayAs (Written done) job h = FirmShut (standing h job.file) × Stands (reads h job.file) 1 (head_bytes job.mark job.number (length job.payload) ++ take done job.payload)
UnderwayAs Durable job h = FirmShut (standing h job.file) × Firm (standing h job.file) 1 (body_bytes job.mark job.number job.payload)
UnderwayAs Open job h = Firm (standing h job.file) 0 (image_bytes job.mark job.number job.payload)
UnderwayAs Failed job h = Unit {0}

-- the image stands in its file as far as it has been written
abbrev pub Underway : Job → History → Type 0
Underway job h = UnderwayAs job.phase job h

-- how far it is after the payload was written up to a place
abbrev pub written_to : ℕ → ℕ → Phase
written_to done len = if nat_le len done then Durable else Written done

-- How far it is after one more step: with 65,536 bytes of the payload more, or the rest of it and all on the disk, or with its gate open.
abbrev pub further : Phase → ℕ → Phase
further Begun len = written_to 65536 len
further (Written done) len = written_to (done + 65536) len
further Durable len = Open
further Open len = Open
further Failed len = Failed

-- what a step answers
abbrev pub progress_at : Phase → Progress
progress_at Open = Done
progress_at Begun = More
progress_at (Written done) = More
progress_at Durable = More
progress_at Failed = More

-- Where that which a step may write of its file begins, and how many bytes it has: with the first step the gate, the head and at most
-- 65,536 bytes of the payload, then at most 65,536 bytes of the payload more, and at the end the gate.
abbrev pub from_of : Phase → ℕ
from_of Begun = 0
from_of (Written done) = 24 + done
from_of Durable = 0
from_of Open = 0
from_of Failed = 0

abbrev pub most_of : Phase → ℕ → ℕ
most_of Begun len = 24 + min 65536 len
most_of (Written done) len = min 65536 (len - done)
most_of Durable len = 1
most_of Open len = 0
most_of Failed len = 0

-- the image may still be written, and its gate is not to be opened yet
abbrev pub IsWriting : Phase → Type 0
IsWriting Begun = Unit {0}
IsWriting (Written done) = Unit {0}
IsWriting Durable = ⊥
IsWriting Open = ⊥
IsWriting Failed = ⊥

-- A file whose gate was shut for good stays so, and each image since has it shut.
abbrev pub KeepsShut : ℕ → History → History → Type 0
KeepsShut file old new = FirmShut (standing old file) → FirmShut (standing new file) × EachImage (now old) new (λ image. IsClosed (image file))

-- Where an image or whatever else stood firm behind an open gate, each image since has it, or its gate is shut.
abbrev pub OldOrShut : ℕ → History → History → Type 0
OldOrShut file old new = (piece : List ℕ) → Firm (standing old file) 0 (1 ∷ piece) → EachImage (now old) new (λ image. IsClosed (image file) ⊎ Stands (image file) 0 (1 ∷ piece))

-- The gate was shut.
pub record Shut {T E : Type 0} (file : ℕ) (result : Result T E) (old new : History) : Type 0 where
  pub within : WroteWithin file 0 1 old new
  pub shut : OnOk result (CanShut (standing old file) → FirmShut (standing new file))
  pub keeps : KeepsShut file old new
  pub older : OldOrShut file old new

-- The payload was written on from a place, and where that was its end, all was made durable.
pub record Put {T E : Type 0} (job next : Job) (done : ℕ) (result : Result T E) (old new : History) : Type 0 where
  pub goes : GoesOn (λ other. other ≡ job.file) old new
  pub within : WroteWithin job.file (from_of (Written done)) (most_of (Written done) (length job.payload)) old new
  pub underway : OnOk result (UnderwayAs (Written done) job old → Underway next new)
  pub shut : KeepsShut job.file old new

-- The gate was shut, and what stands first behind it was written.
pub record Started {T E : Type 0} (job next : Job) (result : Result T E) (old new : History) : Type 0 where
  pub goes : GoesOn (λ other. other ≡ job.file) old new
  pub within : WroteWithin job.file (from_of Begun) (most_of Begun (length job.payload)) old new
  pub underway : OnOk result (CanShut (standing old job.file) → Underway next new)
  pub shut : KeepsShut job.file old new
  pub older : OldOrShut job.file old new

-- each image since has the image, or its gate is shut
abbrev pub NewOrShut : Job → History → History → Type 0
NewOrShut job old new = EachImage (now old) new (λ image. IsClosed (image job.file) ⊎ Stands (image job.file) 0 (image_bytes job.mark job.number job.payload))

-- The gate was opened.
pub record Opened {T E : Type 0} (job next : Job) (result : Result T E) (old new : History) : Type 0 where
  pub goes : GoesOn (λ other. other ≡ job.file) old new
  pub within : WroteWithin job.file (from_of Durable) (most_of Durable (length job.payload)) old new
  pub underway : OnOk result (UnderwayAs Durable job old → Underway next new)
  pub opening : UnderwayAs Durable job old → NewOrShut job old new

-- One step of writing an image. It writes no more of its file than that of which it is the turn. Where the image stood as far as it was
-- written, it stands as far as it is written now. Until its gate is to be opened the gate stays shut in each image since; while it is being shut, each has what stood there before, or a shut gate; and while it is
-- being opened, each has the image or a shut gate.
pub record Stepped {T E : Type 0} (job next : Job) (result : Result T E) (old new : History) : Type 0 where
  pub goes : GoesOn (λ other. other ≡ job.file) old new
  pub within : WroteWithin job.file (from_of job.phase) (most_of job.phase (length job.payload)) old new
  pub underway : OnOk result (Underway job old → Underway next new)
  pub shut : IsWriting job.phase → KeepsShut job.file old new
  pub older : job.phase ≡ Begun → OldOrShut job.file old new
  pub opening : job.phase ≡ Durable → Underway job old → NewOrShut job old new

-- not all of the payload was written as long as some of it is to be written
abbrev pub IsWithin : Phase → ℕ → Type 0
IsWithin Begun len = Unit {0}
IsWithin (Written done) len = done < len
IsWithin Durable len = Unit {0}
IsWithin Open len = Unit {0}
IsWithin Failed len = Unit {0}
