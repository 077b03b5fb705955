-- A cursor over the records of a log, and how reading may be refused.
use Rattle.std.specs.Prelude.{◌≡◌, ℕ, ◌-◌, ◌≤◌, ◌^◌, Bool, List, ◌++◌, length, take, drop, IsTrue}
use Rattle.std.specs.List.{AllByRecursion}
use Rattle.store_api.specs.Cause.{Rose}
use Rattle.store_api.specs.Disk.{History}
use Rattle.store_api.specs.Runs.{GoesOn}
use Rattle.kinds.specs.declared.refusal.OpenRefused.{OpenRefused}
use Rattle.kinds.specs.declared.refusal.OpenRefused.TheVariants.{ReadFault, NotFormatted, Damaged, RunFull, Memory}
use Rattle.log_file.specs.Blocks.{Fits, blocks, LogIs, DamagedAt}

-- a piece of a file that is held in memory: the file, its length, where the piece begins, and its bytes
pub record Held : Type 0 where
  pub file : ℕ
  pub len : ℕ
  pub from : ℕ
  pub piece : List ℕ

-- where a cursor is: the piece of the file that it holds, the place of the next gate, and whether that gate ends the log
pub record Place : Type 0 where
  pub held : Held
  pub at : ℕ
  pub ended : Bool

-- the piece that is held stands in the file's bytes
pub record Shows (bytes : List ℕ) (held : Held) : Type 0 where
  pub len : held.len ≡ length bytes
  pub piece : take (length held.piece) (drop held.from bytes) ≡ held.piece

-- The cursor has come past these records of the bytes, and where it has ended they are the log.
pub record CameTo (bytes : List ℕ) (cursor : Place) (payloads : List (List ℕ)) : Type 0 where
  pub shows : Shows bytes cursor.held
  pub rest : List ℕ
  pub whole : bytes ≡ blocks payloads ++ rest
  pub at : cursor.at ≡ length (blocks payloads)
  pub fits : AllByRecursion Fits payloads
  pub ended : IsTrue cursor.ended → LogIs bytes payloads

-- Why reading a log was refused: the file's count of faults rose, the file is damaged, the moment is all but the last, or want of memory.
abbrev pub MayRefuse : (file : ℕ) (before after : ℕ → ℕ) (moment : ℕ) → OpenRefused → Type 0
MayRefuse file before after moment (ReadFault which) = (which ≡ file) × Rose (before file) (after file)
MayRefuse file before after moment NotFormatted = ⊥
MayRefuse file before after moment (Damaged which at) = which ≡ file
MayRefuse file before after moment RunFull = 2 ^ 62 - 2 ^ 24 ≤ moment
MayRefuse file before after moment Memory = Unit {0}

-- a refusal that says that the bytes are damaged says where: behind these records
abbrev pub DamageBehind : List ℕ → List (List ℕ) → OpenRefused → Type 0
DamageBehind bytes payloads (Damaged which at) = DamagedAt bytes payloads at
DamageBehind bytes payloads (ReadFault which) = Unit {0}
DamageBehind bytes payloads NotFormatted = Unit {0}
DamageBehind bytes payloads RunFull = Unit {0}
DamageBehind bytes payloads Memory = Unit {0}

-- the same, behind some records
abbrev pub SaysDamage : List ℕ → OpenRefused → Type 0
SaysDamage bytes (Damaged which at) = (payloads : List (List ℕ)) × DamagedAt bytes payloads at
SaysDamage bytes (ReadFault which) = Unit {0}
SaysDamage bytes NotFormatted = Unit {0}
SaysDamage bytes RunFull = Unit {0}
SaysDamage bytes Memory = Unit {0}

-- calls that only looked
abbrev pub Looked : History → History → Type 0
Looked old new = GoesOn (λ other. ⊥) old new
