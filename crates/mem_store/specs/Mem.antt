-- A store in memory, as a history, moments and counts.
use Rattle.std.specs.Prelude.{ℕ, ◌+◌, ◌-◌, ◌^◌, min, List, [], ◌++◌, replicate, unwrap_or, Err}
use Rattle.std.specs.Ordering.{nat_cmp}
use Rattle.std.specs.BTreeMap.{get}
use Rattle.std.proofs.Common.{◌≡◌, arith, length-append}
use Rattle.std.proofs.lemmas.List.{length-replicate}
use Rattle.store_api.specs.Disk.{Call, idle, History, now}
use Rattle.store_api.specs.Told.{MayWrite}
use Rattle.mem_store.specs.declared.mem.MemStore.{MemStore}
use Rattle.mem_store.specs.declared.entry.Entry.{Entry}
use Rattle.mem_store.specs.Files.{content_of}
use Rattle.mem_store.specs.Entries.{first_of, calls_onto}

-- the bytes of a file
abbrev pub bytes_of : MemStore → ℕ → List ℕ
bytes_of m file = content_of m.files file

-- the calls that it keeps
abbrev pub kept_calls : MemStore → List Entry
kept_calls m = m.entries.items

abbrev pub history_of : MemStore → History
history_of m = record { first = first_of m.files m.entries.items; began = m.began; calls = replicate m.idles idle ++ calls_onto [] m.entries.items }

-- the moments at which a call is to fail
abbrev pub failing_of : MemStore → List ℕ
failing_of m = m.failing.items

-- the moment
abbrev pub moment_of : MemStore → ℕ
moment_of m = m.moment

-- A file's count of faults: its own, and those of calls that found no memory to count at their file.
abbrev pub faults_of : MemStore → ℕ → ℕ
faults_of m file = min (unwrap_or (get nat_cmp m.counts file) 0 + m.shared) (2 ^ 64 - 1)

-- its clock is the moment
pub clock_of : (m : MemStore) → now (history_of m) ≡ m.moment
clock_of m = omega (arith, m.clock, length-append (replicate m.idles idle) (calls_onto [] m.entries.items), length-replicate {A = Call} m.idles idle)

-- what a write that fails may be
abbrev pub MayFail : ℕ → ℕ → List ℕ → Call → Type 0
MayFail file at bytes call = MayWrite {T = Unit {0}} file at bytes (Err (record {})) call
