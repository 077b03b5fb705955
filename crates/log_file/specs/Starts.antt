-- What reading a log does and finds.
use Rattle.std.specs.Prelude.{◌≡◌, ℕ, ◌<◌, ◌^◌, List, [], ◌∷◌, ◌++◌, length, Option, None, Some, Result, IfOk, OnOk, IfErr, OnErr, map, Vec}
use Rattle.std.specs.declared.alloc.Global.{Global}
use Rattle.store_api.specs.Disk.{Leaves, History, standing, reads, now, settled, ImageAt}
use Rattle.store_api.specs.Runs.{GoesOn, EachImage}
use Rattle.kinds.specs.declared.refusal.OpenRefused.{OpenRefused}
use Rattle.log_file.specs.declared.found.Record.{Record}
use Rattle.log_file.specs.Blocks.{blocks, LogIs, LogEnds}
use Rattle.log_file.specs.Sure.{State, IsSure}
use Rattle.log_file.specs.Cursor.{Place, CameTo, DamageBehind, SaysDamage, Looked}

-- Where each image at the start had a log of these records that ends within the file, each image since has.
abbrev pub KeepsEnd : ℕ → History → History → Type 0
KeepsEnd file old new = (payloads : List (List ℕ)) → ((image : ℕ → List ℕ) → ImageAt old (now old) image → LogEnds (image file) payloads) → EachImage (now old) new (λ image. LogEnds (image file) payloads)

-- Each image since has of the file what a stop might have left at the start.
abbrev pub KeepsLeft : ℕ → History → History → Type 0
KeepsLeft file old new = EachImage (now old) new (λ image. Leaves (standing old file) (image file))

-- A file was made durable, or that failed. Nothing that is read changed.
pub record Settled {T E : Type 0} (file : ℕ) (result : Result T E) (old new : History) : Type 0 where
  pub goes : GoesOn (λ other. other ≡ file) old new
  pub same : reads new file ≡ reads old file
  pub images : KeepsEnd file old new
  pub left : KeepsLeft file old new
  pub durable : OnOk result (standing new file ≡ settled (reads old file))

-- A cursor was opened over a file. Nothing that is read changed; on Ok all of the file is on the disk, and the cursor is before
-- its first record.
pub record Opened {E : Type 0} (file : ℕ) (result : Result Place E) (old new : History) : Type 0 where
  pub goes : GoesOn (λ other. other ≡ file) old new
  pub same : reads new file ≡ reads old file
  pub images : KeepsEnd file old new
  pub left : KeepsLeft file old new
  pub durable : OnOk result (standing new file ≡ settled (reads old file))
  pub begun : IfOk result (λ cursor. CameTo (reads old file) cursor [])
  pub small : OnOk result (length (reads old file) < 2 ^ 64)

-- what a cursor that had come past these records found, and where it is then: the next record, or that these are the log
abbrev pub Finds : List ℕ → List (List ℕ) → Option Record → Place → Type 0
Finds bytes payloads None cursor = LogIs bytes payloads × CameTo bytes cursor payloads
Finds bytes payloads (Some record_found) cursor = (record_found.at ≡ length (blocks payloads)) × CameTo bytes cursor (payloads ++ record_found.payload.items ∷ [])

-- A cursor went on by one record, by calls that only looked. No file is other than before.
pub record Advanced (cursor next : Place) (result : Result (Option Record) OpenRefused) (old new : History) : Type 0 where
  pub looked : Looked old new
  pub same : (file : ℕ) → standing new file ≡ standing old file
  pub finds : (payloads : List (List ℕ)) → CameTo (reads old cursor.held.file) cursor payloads → IfOk result (λ found. Finds (reads old cursor.held.file) payloads found next)
  pub again : (payloads : List (List ℕ)) → CameTo (reads old cursor.held.file) cursor payloads → OnErr result (CameTo (reads old cursor.held.file) next payloads)
  pub damaged : (payloads : List (List ℕ)) → CameTo (reads old cursor.held.file) cursor payloads → IfErr result (DamageBehind (reads old cursor.held.file) payloads)

-- the records that were read
abbrev pub payloads_of : Vec (Vec ℕ Global) Global → List (List ℕ)
payloads_of records = map (λ record_bytes. record_bytes.items) records.items

-- A log was started. Nothing that is read changed. On Ok these are its records, and where the gate that ends it lies within
-- the file the log is sure. It says that the file is damaged only where it is, and then where.
pub record Started (file : ℕ) (result : Result (State × Vec (Vec ℕ Global) Global) OpenRefused) (old new : History) : Type 0 where
  pub goes : GoesOn (λ other. other ≡ file) old new
  pub same : reads new file ≡ reads old file
  pub images : KeepsEnd file old new
  pub records : IfOk result (λ started. LogIs (reads old file) (payloads_of started.1))
  pub end : IfOk result (λ started. started.0.end ≡ length (blocks (payloads_of started.1)))
  pub sure : IfOk result (λ started. LogEnds (reads old file) (payloads_of started.1) → IsSure new file (payloads_of started.1) started.0.end)
  pub damaged : IfErr result (SaysDamage (reads old file))
