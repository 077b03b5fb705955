-- A log of which no stop can take a record away, and what was appended to it since.
use Rattle.std.specs.Prelude.{◌≡◌, ◌≢◌, ℕ, ◌+◌, ◌<◌, ◌^◌, List, [], ◌∷◌, ◌++◌, length, drop, Option, Some}
use Rattle.std.specs.List.{AllByRecursion}
use Rattle.store_api.specs.Disk.{History, standing, reads}
use Rattle.store_api.specs.Runs.{Stands, Firm}
use Rattle.log_file.specs.Blocks.{Fits, blocks}

-- A log as its writer sees it: its file; where the gate lies behind the records that the last force made durable; where the gate lies
-- behind all that were appended; and, after a fault, the count to which the faults of its file had risen.
pub record State : Type 0 where
  pub file : ℕ
  pub sure : ℕ
  pub end : ℕ
  pub doubt : Option ℕ

-- the log after a call on its file failed, by which the count of the file's faults rose to this
abbrev pub in_doubt : State → ℕ → State
in_doubt log count = record { file = log.file; sure = log.sure; end = log.end; doubt = Some count }

-- Whatever a stop leaves of the file has these records, and behind them, at `end`, a closed gate.
pub record IsSure (h : History) (file : ℕ) (payloads : List (List ℕ)) (end : ℕ) : Type 0 where
  pub gate : ℕ
  pub closed : gate ≢ 1
  pub firm : Firm (standing h file) 0 (blocks payloads ++ gate ∷ [])
  pub fits : AllByRecursion Fits payloads
  pub is_end : end ≡ length (blocks payloads)
  pub room : end + 1 < 2 ^ 64

-- No stop takes away these records, behind which, at `sure`, a closed gate is. Others were appended since the last force: they are
-- written but for the first one's gate, each of the others with its gate open, and behind them, at `end`, is a closed gate.
pub record HasWaiting (h : History) (file : ℕ) (payloads waiting : List (List ℕ)) (sure end : ℕ) : Type 0 where
  pub durable : IsSure h file payloads sure
  pub written : 0 < length waiting → Stands (reads h file) (sure + 1) (drop 1 (blocks waiting ++ 0 ∷ []))
  pub fits : AllByRecursion Fits waiting
  pub is_end : end ≡ sure + length (blocks waiting)
  pub room : end + 1 < 2 ^ 64

-- The file reads as these records with their gates open, and behind them, at `end`, a closed gate. A stop may take any of it away.
pub record IsWritten (h : History) (file : ℕ) (payloads : List (List ℕ)) (end : ℕ) : Type 0 where
  pub gate : ℕ
  pub closed : gate ≢ 1
  pub stands : Stands (reads h file) 0 (blocks payloads ++ gate ∷ [])
  pub fits : AllByRecursion Fits payloads
  pub is_end : end ≡ length (blocks payloads)
  pub room : end + 1 < 2 ^ 64
