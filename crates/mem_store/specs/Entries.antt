-- The list of calls that a store in memory keeps, and how it stands for a history.
use Rattle.std.specs.Prelude.{◌≡◌, ℕ, ◌≤◌, ◌==◌, if◌then◌else◌, List, [], ◌∷◌, ◌++◌, length, take, drop, replicate, All}
use Rattle.store_api.specs.Disk.{Change, write, cut, settle, Call, on, idle, overwritten, standing_after}
use Rattle.mem_store.specs.declared.entry.Kind.{Kind}
use Rattle.mem_store.specs.declared.entry.Kind.TheVariants.{Write, FailedWrite, Cut, Sync}
use Rattle.mem_store.specs.declared.entry.Entry.{Entry}
use Rattle.mem_store.specs.declared.files.Files.{Files}
use Rattle.mem_store.specs.Files.{content_of, room_of, reach}

-- What a call did to its file. A write that failed left the old bytes readable, and its range is loose.
abbrev pub change_of : Kind → ℕ → List ℕ → Change
change_of Write at bytes = write at (length bytes) bytes
change_of FailedWrite at bytes = write at (length bytes) []
change_of Cut at bytes = cut at at
change_of Sync at bytes = settle

-- what the file reads as after it
abbrev pub applied : Kind → ℕ → List ℕ → List ℕ → List ℕ
applied Write at bytes file = overwritten file at bytes
applied FailedWrite at bytes file = file
applied Cut at bytes file = take at file
applied Sync at bytes file = file

-- how many bytes of a file, from the call's place on, it may take away
abbrev pub span_of : Kind → List ℕ → List ℕ → ℕ
span_of Write bytes file = length bytes
span_of FailedWrite bytes file = 0
span_of Cut bytes file = length file
span_of Sync bytes file = 0

-- the bytes that it took away
abbrev pub taken_of : Kind → ℕ → List ℕ → List ℕ → List ℕ
taken_of kind at bytes file = take (span_of kind bytes file) (drop at file)

-- the file as it was before the call
abbrev pub undo : Entry → List ℕ → List ℕ
undo e bytes = take e.old_len (overwritten bytes e.at e.old.items)

-- the file as it was before these calls, of which the oldest comes first
abbrev pub undone : List Entry → ℕ → List ℕ → List ℕ
undone [] file bytes = bytes
undone (e ∷ newer) file bytes = if e.file == file then undo e (undone newer file bytes) else undone newer file bytes

-- what the files had before these calls
abbrev pub first_of : Files → List Entry → ℕ → List ℕ
first_of files entries file = undone entries file (content_of files file)

-- the calls of these entries, newest first, in front of others; each comes after as many calls with no effect as it says
abbrev pub calls_onto : List Call → List Entry → List Call
calls_onto calls [] = calls
calls_onto calls (e ∷ newer) = calls_onto (on e.file (change_of e.kind e.at e.bytes.items) ∷ (replicate e.idles idle ++ calls)) newer

-- After any number of its calls the history reads as the files do, with the later calls undone.
abbrev pub Agrees : Files → List Entry → Type 0
Agrees files entries = (k file : ℕ) → (standing_after (first_of files entries) (calls_onto [] (take k entries)) file).bytes ≡ undone (drop k entries) file (content_of files file)

-- there is room for each call to be done again, and undone
abbrev pub HasRoom : Files → List Entry → Type 0
HasRoom files entries = All (λ e. (reach e.at e.bytes.items ≤ room_of files e.file) × (reach e.at e.old.items ≤ room_of files e.file)) entries

-- The entry keeps a call on a file that read so.
pub record IsEntryOf (e : Entry) (idles file : ℕ) (kind : Kind) (at : ℕ) (bytes was : List ℕ) : Type 0 where
  pub same_idles : e.idles ≡ idles
  pub same_file : e.file ≡ file
  pub same_kind : e.kind ≡ kind
  pub same_at : e.at ≡ at
  pub same_bytes : e.bytes.items ≡ bytes
  pub took : e.old.items ≡ taken_of kind at bytes was
  pub was_long : e.old_len ≡ length was
