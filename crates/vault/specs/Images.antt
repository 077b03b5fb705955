-- How an image and its empty log are put in place of what was there.
use Rattle.std.specs.Prelude.{◌≡◌, ◌⊎◌, ℕ, ◌+◌, ◌-◌, ◌*◌, ◌<◌, ◌≤◌, ◌^◌, List, [], length, Result, OnOk}
use Rattle.store_api.specs.Disk.{History, standing, now}
use Rattle.store_api.specs.Runs.{Firm, GoesOn, EachImage}
use Rattle.log_file.specs.Blocks.{LogEnds}
use Rattle.log_file.specs.Sure.{IsSure}
use Rattle.db_image.specs.declared.mark.Mark.TheVariants.{Server}
use Rattle.db_image.specs.declared.phase.Phase.TheVariants.{Durable, Begun, Written, Open, Failed}
use Rattle.db_image.specs.Images.{image_bytes, IsNumber, NeverSpent, HasImage}
use Rattle.db_image.specs.declared.phase.Phase.{Phase}
use Rattle.db_image.specs.Steps.{Job, FirmShut, CanShut, Underway, UnderwayAs, KeepsShut}
use Rattle.vault.specs.Files.{image_file, log_file, IsOf}
use Rattle.vault.specs.Recovery.{Older}

-- a server's image that no stop takes away
pub record IsImage (h : History) (file generation : ℕ) (payload : List ℕ) : Type 0 where
  pub firm : Firm (standing h file) 0 (image_bytes Server generation payload)
  pub allowed : IsNumber Server file generation
  pub unspent : NeverSpent Server generation payload
  pub small : length payload < 2 ^ 64

-- No stop changes that no image with an open gate is in the file, or one of an older generation.
abbrev pub StaysOlder : ℕ → ℕ → History → Type 0
StaysOlder generation file h = FirmShut (standing h file) ⊎ ((older : ℕ) × (payload : List ℕ) × IsImage h file older payload × (older < generation))

-- The image was written but for its gate, which was shut first. Each image since has what was there, or a shut gate.
pub record Wrote {T E : Type 0} (job : Job) (result : Result T E) (old new : History) : Type 0 where
  pub goes : GoesOn (λ file. file ≡ job.file) old new
  pub durable : OnOk result (CanShut (standing old job.file) → UnderwayAs Durable job new)
  pub since : (bound : ℕ) → StaysOlder bound job.file old → EachImage (now old) new (λ files. Older bound job.file (files job.file))

-- the files have the image of this generation and an empty log
abbrev pub IsBegun : ℕ → List ℕ → (ℕ → List ℕ) → Type 0
IsBegun generation payload files = HasImage (image_file generation) Server (files (image_file generation)) generation payload × LogEnds (files (log_file generation)) []

-- An image was written into its file, behind it an empty log, and then its gate was opened. Each image since has what was in the
-- image's file, or a shut gate, or the new image and the empty log.
pub record Replaced {T E : Type 0} (generation : ℕ) (payload : List ℕ) (result : Result T E) (old new : History) : Type 0 where
  pub goes : GoesOn (IsOf generation) old new
  pub stands : OnOk result (NeverSpent Server generation payload → CanShut (standing old (image_file generation)) → IsImage new (image_file generation) generation payload × IsSure new (log_file generation) [] 0)
  pub since : (bound : ℕ) → NeverSpent Server generation payload → StaysOlder bound (image_file generation) old → EachImage (now old) new (λ files. Older bound (image_file generation) (files (image_file generation)) ⊎ IsBegun generation payload files)

-- An image was written on, up to its gate. Its gate stays shut.
pub record Went {T E : Type 0} (job next : Job) (result : Result T E) (old new : History) : Type 0 where
  pub goes : GoesOn (λ file. file ≡ job.file) old new
  pub underway : OnOk result (Underway job old → Underway next new)
  pub shut : KeepsShut job.file old new

-- The payload is being written, or is all on the disk, and for each 8,192 bytes of it no more than one call was made since a moment.
abbrev pub IsPaced : Phase → (len began moment : ℕ) → Type 0
IsPaced Begun len began moment = ⊥
IsPaced (Written done) len began moment = (done ≤ len) × (8192 * moment ≤ 8192 * began + done)
IsPaced Durable len began moment = 8192 * moment ≤ 8192 * began + (len + 65536)
IsPaced Open len began moment = ⊥
IsPaced Failed len began moment = ⊥

-- how much of the payload is left to write
abbrev pub left_of : Phase → ℕ → ℕ
left_of Begun len = len + 2
left_of (Written done) len = len - done + 1
left_of Durable len = 0
left_of Open len = 0
left_of Failed len = 0
