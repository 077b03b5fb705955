-- A stored file is read.
use Rattle.std.specs.Prelude.{◌≡◌, ◌⊎◌, ℕ, ◌<◌, ◌≤◌, not, is_some, List, [], ◌∷◌, ◌++◌, length, Option, None, Some, if◌then◌else◌, Result, Ok, Err}
use Rattle.std.specs.List.{find}
use Rattle.kinds.specs.declared.refusal.Refusal.{Refusal}
use Rattle.kinds.specs.declared.refusal.Refusal.TheVariants as refused
use Rattle.client_files.specs.declared.restoring.Stored.{Stored}
use Rattle.client_files.specs.Restoring.{ReadOn, read_in}
use Rattle.inventory_answers.specs.Clients.{path_versions_of}
use Rattle.inventory_answers.specs.declared.lines.VersionLine.{VersionLine}
use Rattle.machine.specs.Fits.{History, inv}
use Rattle.steps.specs.Calls.{Made, Then}
use Rattle.steps.specs.Events.{Event, has_number}
use Rattle.steps.specs.Events.Deed.{ReadPiece}
use Rattle.sessions.specs.Asking.{AsksPath}
use Rattle.sessions.specs.Outcomes.{HasCauseOr}
use Rattle.sessions.specs.declared.getting.FileRead.{FileRead}

-- ---- which version

-- the active version among those of a path
abbrev pub active_line : List VersionLine → Option VersionLine
active_line lines = find (λ l. not (is_some l.since)) lines

-- a version, as it is read
abbrev pub stored_of : VersionLine → Stored
stored_of l = record { object = l.object; size = l.size; mtime = l.mtime; digest = l.digest }

-- The versions of the path were asked, and this is the active one; or there is none, or they weren't answered.
abbrev pub Chooses : (node filespace path : List ℕ) → List Event → Result Stored Refusal → Type 0
Chooses node filespace path events (Ok s) =
    (lines : List VersionLine) × (line : VersionLine) × AsksPath node filespace path events (Ok lines) × (active_line lines ≡ Some line) × (s ≡ stored_of line)
Chooses node filespace path events (Err e) =
    AsksPath node filespace path events (Err e)
    ⊎ ((lines : List VersionLine) × AsksPath node filespace path events (Ok lines) × (active_line lines ≡ None) × (e ≡ refused.NotFound))

-- ---- its bytes

-- the version went, none of its copies can be read, a halted hall, a full run; what can't be answered there stands for want of memory
abbrev pub unread : Refusal → Refusal
unread e = if has_number (23 ∷ 24 ∷ 40 ∷ 41 ∷ []) e then e else refused.Memory

-- What kept the next piece from being taken: its reading was refused, or gave no byte; or it was read, and memory was wanted for it.
abbrev pub Misses : Stored → (offset : ℕ) → Refusal → List Event → Type 0
Misses s at e events =
    ((wanted : ℕ) × (why : Refusal) × (e ≡ unread why) × Made (ReadPiece s.object s.digest 0 at wanted (Err why)) events)
    ⊎ ((wanted : ℕ) × (e ≡ refused.Memory) × Made (ReadPiece s.object s.digest 0 at wanted (Ok [])) events)
    ⊎ (ReadOn s at events × (e ≡ refused.Memory))

-- So many bytes were read at this place, and put behind the others; or they weren't.
abbrev pub Takes : Stored → (at : ℕ) → (old new : List ℕ) → List Event → Result ℕ Refusal → Type 0
Takes s at old new events (Ok count) = ReadOn s at events × (new ≡ old ++ read_in events) × (length (read_in events) ≡ count) × (0 < count)
Takes s at old new events (Err e) = Misses s at e events

-- The object was read from its first byte on, as many bytes as it has, which are these; or not all of it.
abbrev pub ReadsWhole : Stored → List Event → Result (List ℕ) Refusal → Type 0
ReadsWhole s events (Ok bytes) = ReadOn s 0 events × (read_in events ≡ bytes) × (length bytes ≡ s.size)
ReadsWhole s events (Err e) =
    (bytes : List ℕ) × (length bytes < s.size) × Then (λ xs. ReadOn s 0 xs × (read_in xs ≡ bytes)) (λ ys. Misses s (length bytes) e ys) events

-- ---- a file

-- the version that was chosen was read whole
abbrev pub GetsAll : (node filespace path : List ℕ) → List Event → FileRead → Type 0
GetsAll node filespace path events r =
    (s : Stored) × (r.object ≡ s.object) × (r.size ≡ s.size) × Then (λ xs. Chooses node filespace path xs (Ok s)) (λ ys. ReadsWhole s ys (Ok r.bytes)) events

-- A version was chosen, and it was read whole; or there was none, or not all of it was read.
abbrev pub Gets : (node filespace path : List ℕ) → List Event → Result FileRead Refusal → Type 0
Gets node filespace path events (Ok r) = GetsAll node filespace path events r
Gets node filespace path events (Err e) =
    Chooses node filespace path events (Err e)
    ⊎ ((s : Stored) × Then (λ xs. Chooses node filespace path xs (Ok s)) (λ ys. ReadsWhole s ys (Err e)) events)

-- what a step may be refused with: something isn't there, the version went, none of its copies can be read, a halted hall, a full run, want of memory
abbrev pub numbers : List ℕ
numbers = 10 ∷ 23 ∷ 24 ∷ 40 ∷ 41 ∷ 50 ∷ []

-- What a GET did: its steps in their order; and its refusal has its cause, which may be that none of the versions that were asked is active.
pub record Getting (node filespace path : List ℕ) (events : List Event) (result : Result FileRead Refusal) : Type 0 where
  pub order : Gets node filespace path events result
  pub cause : HasCauseOr (λ e. e ≡ refused.NotFound) numbers events result

-- ---- in a history

-- What was read is the active version of the path in the filespace as it was at some number of the history from the one on and up to the other, with the bytes that its object has.
abbrev pub IsActiveVersion : History → (since until : ℕ) → (node filespace path : List ℕ) → FileRead → Type 0
IsActiveVersion w since until node filespace path r =
    (n : ℕ) × (lines : List VersionLine) × (line : VersionLine)
    × (since ≤ n) × (n ≤ until)
    × (path_versions_of node filespace path (inv w n) ≡ Ok lines) × (active_line lines ≡ Some line)
    × (r.object ≡ line.object) × (r.size ≡ line.size) × (length r.bytes ≡ line.size)
    × (length (w.contents line.object) ≡ line.size → r.bytes ≡ w.contents line.object)
