-- What a stop of a store in memory leaves of a file: its calls since its last sync are undone, and those that the choice
-- keeps are done again. Lists of calls have the oldest first.
use Rattle.std.specs.Prelude.{ℕ, ◌+◌, ◌-◌, ◌/◌, ◌%◌, ◌==◌, ◌&&◌, not, true, false, Bool, if◌then◌else◌, List, [], ◌∷◌, ◌++◌, length, take, replicate}
use Rattle.std.specs.List.{list_any}
use Rattle.std.specs.Int.{bit_at}
use Rattle.store_api.specs.Disk.{overwritten}
use Rattle.mem_store.specs.declared.entry.Kind.{Kind}
use Rattle.mem_store.specs.declared.entry.Kind.TheVariants.{Write, FailedWrite, Cut, Sync}
use Rattle.mem_store.specs.declared.entry.Entry.{Entry}
use Rattle.mem_store.specs.Entries.{undo}

abbrev pub is_sync : Kind → Bool
is_sync Write = false
is_sync FailedWrite = false
is_sync Cut = false
is_sync Sync = true

-- failed ones too
abbrev pub is_write : Kind → Bool
is_write Write = true
is_write FailedWrite = true
is_write Cut = false
is_write Sync = false

-- a sync of the file, or a write of it, is among the calls
abbrev pub has_sync : List Entry → ℕ → Bool
has_sync calls file = list_any (λ e. is_sync e.kind && (e.file == file)) calls

abbrev pub has_write : List Entry → ℕ → Bool
has_write calls file = list_any (λ e. is_write e.kind && (e.file == file)) calls

-- the call changed the file, and no sync came after it
abbrev pub is_pending : Entry → List Entry → ℕ → Bool
is_pending e newer file = (e.file == file) && not (is_sync e.kind) && not (has_sync newer file)

-- how many writes of the file are pending after these calls
abbrev pub pending_writes : List Entry → ℕ → ℕ
pending_writes [] file = 0
pending_writes (e ∷ newer) file = (if is_write e.kind && is_pending e newer file then 1 else 0) + pending_writes newer file

-- the same after one more call, from how many there were
abbrev pub pending_after : Kind → ℕ → ℕ
pending_after Write count = count + 1
pending_after FailedWrite count = count + 1
pending_after Cut count = count
pending_after Sync count = 0

abbrev pub pending_next : Entry → ℕ → ℕ → ℕ
pending_next e file count = if e.file == file then pending_after e.kind count else count

-- the file as it was at its last sync, or at the start
abbrev pub synced : List Entry → ℕ → List ℕ → List ℕ
synced [] file bytes = bytes
synced (e ∷ newer) file bytes = if is_pending e newer file then undo e (synced newer file bytes) else synced newer file bytes

-- the first half of a piece is written, rounded down, and 0xA5 in place of its other bytes
abbrev pub half_written : ℕ → List ℕ → List ℕ → List ℕ
half_written at piece bytes = overwritten (overwritten bytes at (take (length piece / 2) piece)) (at + length piece / 2) (replicate (length piece - length piece / 2) 165)

-- The pending write with this number, done again as the choice says. Its bit is the number mod 63; bit 63 speaks of the last.
abbrev pub chosen : ℕ → ℕ → Bool → ℕ → List ℕ → List ℕ → List ℕ
chosen choice number is_last at piece bytes =
    if is_last && (bit_at choice 63 == 1) then half_written at piece bytes
    else (if bit_at choice (number % 63) == 1 then overwritten bytes at piece else bytes)

-- A pending call done again. Each pending cut is kept.
abbrev pub kept : Kind → ℕ → ℕ → Bool → ℕ → List ℕ → List ℕ → List ℕ
kept Write choice number is_last at piece bytes = chosen choice number is_last at piece bytes
kept FailedWrite choice number is_last at piece bytes = chosen choice number is_last at piece bytes
kept Cut choice number is_last at piece bytes = take at bytes
kept Sync choice number is_last at piece bytes = bytes

-- one call done again, between older and newer ones
abbrev pub kept_one : ℕ → List Entry → Entry → List Entry → ℕ → List ℕ → List ℕ
kept_one choice older e newer file bytes =
    if is_pending e newer file then kept e.kind choice (pending_writes older file) (not (has_write newer file)) e.at e.bytes.items bytes else bytes

-- the calls done again that come after the older ones
abbrev pub redone : ℕ → List Entry → List Entry → ℕ → List ℕ → List ℕ
redone choice older [] file bytes = bytes
redone choice older (e ∷ newer) file bytes = redone choice (older ++ e ∷ []) newer file (kept_one choice older e newer file bytes)

-- what a stop leaves
abbrev pub stopped : ℕ → List Entry → ℕ → List ℕ → List ℕ
stopped choice calls file bytes = redone choice [] calls file (synced calls file bytes)
