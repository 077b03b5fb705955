-- What the steps of reading say of the bytes that a store tells.
use Rattle.std.specs.Prelude.{◌≡◌, ◌⊎◌, ℕ, ◌+◌, ◌-◌, ◌<◌, ◌≤◌, ◌^◌, max, List, ◌∷◌, length, take, drop, Option, None, Some, Result, Ok, Err}
use Rattle.std.specs.Int.{w32, to_be_bytes, from_be_bytes}
use Rattle.store_api.specs.Cause.{NoneFell}
use Rattle.store_api.specs.Disk.{History, reads}
use Rattle.kinds.specs.declared.refusal.OpenRefused.{OpenRefused}
use Rattle.kinds.specs.declared.refusal.OpenRefused.TheVariants.{ReadFault, NotFormatted, Damaged, RunFull, Memory}
use Rattle.log_file.specs.Blocks.{IsClosed, IsBroken}

-- where the store tells, this holds of what the file reads as
abbrev pub IfReads : Option History → ℕ → (List ℕ → Type 0) → Type 0
IfReads None file P = Unit {0}
IfReads (Some h) file P = P (reads h file)

-- calls were made, none of them near the last moment, and no count fell
pub record Onward (before after : ℕ) (faults_before faults_after : ℕ → ℕ) : Type 0 where
  pub later : before ≤ after
  pub time : after ≤ max before (2 ^ 62 - 2 ^ 24)
  pub counts : NoneFell faults_before faults_after

-- the refusal doesn't say that the bytes are damaged
abbrev pub NoDamage : OpenRefused → Type 0
NoDamage (Damaged which at) = ⊥
NoDamage (ReadFault which) = Unit {0}
NoDamage NotFormatted = Unit {0}
NoDamage RunFull = Unit {0}
NoDamage Memory = Unit {0}

-- where it says so, an open gate is at the place, and no record behind it
abbrev pub HeadBroken : List ℕ → ℕ → OpenRefused → Type 0
HeadBroken bytes at (Damaged which place) = (place ≡ at + 1) × ((rest : List ℕ) × (drop at bytes ≡ 1 ∷ rest) × IsBroken rest)
HeadBroken bytes at (ReadFault which) = Unit {0}
HeadBroken bytes at NotFormatted = Unit {0}
HeadBroken bytes at RunFull = Unit {0}
HeadBroken bytes at Memory = Unit {0}

-- what is at the place: no open gate; or an open gate, a length and as many bytes; or else it is broken
abbrev pub HeadIs : List ℕ → ℕ → Result (Option ℕ) OpenRefused → Type 0
HeadIs bytes at (Ok None) = IsClosed (drop at bytes)
HeadIs bytes at (Ok (Some len)) = (take 5 (drop at bytes) ≡ 1 ∷ to_be_bytes w32 len) × (len ≤ 2 ^ 24) × (at + (5 + len) ≤ length bytes)
HeadIs bytes at (Err refusal) = HeadBroken bytes at refusal

-- the bytes that stand from one place to another
abbrev pub between : List ℕ → ℕ → ℕ → List ℕ
between bytes low high = take (high - low) (drop low bytes)

-- what the first bytes of a record say, of which all are there or five, with so many left to the end
abbrev pub HeadGives : List ℕ → ℕ → Result (Option ℕ) OpenRefused → Type 0
HeadGives head left (Ok None) = IsClosed head
HeadGives head left (Ok (Some len)) = head ≡ 1 ∷ to_be_bytes w32 len
HeadGives head left (Err refusal) = (rest : List ℕ) × (head ≡ 1 ∷ rest) × ((left < 5) ⊎ ((2 ^ 24 < from_be_bytes w32 rest) ⊎ (left < 5 + from_be_bytes w32 rest)))
