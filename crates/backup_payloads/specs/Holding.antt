-- The increment that holds transactions.
use Rattle.std.specs.Prelude.{ℕ, ◌^◌, ◌<◌, ◌≤◌, List, ◌∷◌, ◌++◌, length, map}
use Rattle.std.specs.Int.{w32, w64, to_be_bytes}
use Rattle.entries.specs.declared.entry.Entry.{Entry}
use Rattle.entries.specs.EntryForm.{entry}
use Rattle.backup_payloads.specs.Increments.{Increment, record_bytes}

-- each record is the spelling of a transaction, in the form that is written
abbrev pub holding : ℕ → ℕ → List Entry → Increment
holding after number entries = record { after = after; number = number; records = map entry.spell entries }

-- a transaction that can be a record of the log: it has a spelling of at most 2^24 bytes
abbrev pub IsShort : Entry → Type 0
IsShort e = entry.Fits e × (length (entry.spell e) ≤ 2 ^ 24)

-- a transaction whose spelling is longer
abbrev pub IsLong : Entry → Type 0
IsLong e = 2 ^ 24 < length (entry.spell e)

-- the record of a transaction
abbrev pub record_of : Entry → List ℕ
record_of e = record_bytes.spell (entry.spell e)

-- what stands before the records: the byte 3, the file, the number, and how many records there are
abbrev pub front_bytes : ℕ → ℕ → ℕ → List ℕ
front_bytes after number count = 3 ∷ (to_be_bytes w32 after ++ (to_be_bytes w64 number ++ to_be_bytes w32 count))
