-- What is kept of the parts of a hall beside what it holds: room for stamps, and what the run's transactions tell.
use Rattle.std.specs.Prelude.{◌≡◌, ℕ, ◌≤◌, List, length, Option, None}
use Rattle.entries.specs.declared.entry.Entry.{Entry}
use Rattle.inventory_rows.specs.State.{Inv}
use Rattle.inventory_rules.specs.Run.{journal_of}
use Rattle.run_past.specs.Told.{Told, behind_all, journal_from}
use Rattle.vault.specs.Vaults.{State}

-- There is room for a stamp of each transaction. While no fault has halted the vault, its database is the base behind the transactions of its journal, and what is told of these is what the
-- journal tells.
pub record IsNoted (base database : Inv) (journal : List Entry) (fault : Option (ℕ × ℕ)) (told : Told) (stamps : ℕ) : Type 0 where
  pub room : length journal ≤ stamps
  pub behind : fault ≡ None → database ≡ behind_all base journal
  pub tells : fault ≡ None → journal_from told ≡ journal_of base journal

-- what is kept of this vault
abbrev pub Keeps : Inv → State Inv → Told → ℕ → Type 0
Keeps base vault told stamps = IsNoted base vault.database vault.journal vault.fault told stamps
