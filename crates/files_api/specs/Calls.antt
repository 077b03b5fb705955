-- What the calls on the files of a folder do to it.
use Rattle.std.specs.Prelude.{◌≡◌, ◌≢◌, ◌⊎◌, ℕ, ◌+◌, ◌<◌, ◌≤◌, List, [], ◌∷◌, length, take, drop, Contains, Bool, IsTrue, true, false, Option, None, Some, Result, Ok, Err}
use Rattle.std.specs.List.{IsDistinct}
use Rattle.std.specs.Str.{bytes_eq}
use Rattle.store_api.specs.Disk.{write, cut, settle}
use Rattle.files_api.specs.declared.files.Failed.{Failed}
use Rattle.files_api.specs.Folder.{Stage, held, spoiled, File, no_file, renaming, removal, Folder, Label, with_change, IsMissing, IsNew}

-- the folder is as it was
abbrev pub Looks : Folder → Folder → Type 0
Looks old new = new ≡ old

-- a call that takes the folder from one stage to the next, where it is there
abbrev pub Reaches : {T : Type 0} → Stage → Stage → Result T Failed → Folder → Folder → Type 0
Reaches from to (Ok done) old new = old.stage ≡ from → new ≡ record old { stage = to }
Reaches from to (Err failed) old new = new ≡ old

-- The calls on this open file tell something: the run has the folder, no sync of the file failed, and it stands under its name still.
pub record IsUsable (folder : Folder) (label : Label) : Type 0 where
  pub stage : folder.stage ≡ held
  pub sound : IsTrue (folder.files label.name).is_sound
  pub current : folder.moves.turns label.name ≡ label.turn

-- nothing changed but the file of this name
pub record Only (name : List ℕ) (old new : Folder) : Type 0 where
  pub same_stage : new.stage ≡ old.stage
  pub same_moves : new.moves ≡ old.moves
  pub others : (other : List ℕ) → other ≢ name → new.files other ≡ old.files other

-- the file of this name became another
pub record Becomes (name : List ℕ) (file : File) (old new : Folder) : Type 0 where
  pub only : Only name old new
  pub gives : new.files name ≡ file

-- what the file that stands under a name is known by
abbrev pub label_at : Folder → List ℕ → Label
label_at folder name = record { name = name; turn = folder.moves.turns name }

-- what was looked for by its name
abbrev pub Found : {H : Type 0} → (H → Label) → List ℕ → Option H → Folder → Type 0
Found label_of name None folder = folder.stage ≡ held → IsMissing (folder.files name)
Found label_of name (Some handle) folder = folder.stage ≡ held → IsTrue (folder.files name).is_there × (label_of handle ≡ label_at folder name)

-- a file was made where there was none
pub record Makes (name : List ℕ) (old new : Folder) : Type 0 where
  pub only : Only name old new
  pub missing : IsMissing (old.files name)
  pub fresh : IsNew (new.files name)

abbrev pub Creates : {H : Type 0} → List ℕ → Result H Failed → Folder → Folder → Type 0
Creates name (Ok handle) old new = old.stage ≡ held → Makes name old new
Creates name (Err failed) old new = old.stage ≡ held → (new ≡ old) ⊎ Makes name old new

-- What was read is what stands there from the offset on: a front of it, and nothing of it only where there is no room or none is left.
pub record Reads (file : List ℕ) (offset : ℕ) (buffer : List ℕ) (count : ℕ) : Type 0 where
  pub within : count ≤ length (drop offset file)
  pub same : take count buffer ≡ take count (drop offset file)
  pub end : count ≡ 0 → 0 < length buffer → drop offset file ≡ []

abbrev pub ReadsSome : Label → ℕ → List ℕ → ℕ → Folder → Type 0
ReadsSome label offset buffer count folder = IsUsable folder label → Reads (folder.files label.name).standing.bytes offset buffer count

-- A write that failed: it had no effect, or changed a part of its range to any bytes.
abbrev pub FailsToWrite : List ℕ → ℕ → List ℕ → Folder → Folder → Type 0
FailsToWrite name at bytes old new = (new ≡ old)
    ⊎ ((start : ℕ) × (span : ℕ) × (other : List ℕ) × (at ≤ start) × (start + span ≤ at + length bytes) × (length other ≤ span) × Becomes name (with_change (write start span other) (old.files name)) old new)

abbrev pub WritesSome : Label → ℕ → List ℕ → Result ℕ Failed → Folder → Folder → Type 0
WritesSome label at bytes (Ok count) old new = IsUsable old label → Becomes label.name (with_change (write at count (take count bytes)) (old.files label.name)) old new
WritesSome label at bytes (Err failed) old new = IsUsable old label → FailsToWrite label.name at bytes old new

-- A cut to a length that the file has at least. One that failed may have had no effect, or have cut off a part of what was to go.
abbrev pub Cuts : {T : Type 0} → Label → ℕ → Result T Failed → Folder → Folder → Type 0
Cuts label len (Ok done) old new = IsUsable old label → len ≤ length (old.files label.name).standing.bytes → Becomes label.name (with_change (cut len len) (old.files label.name)) old new
Cuts label len (Err failed) old new = IsUsable old label → len ≤ length (old.files label.name).standing.bytes →
    (new ≡ old) ⊎ ((left : ℕ) × (len ≤ left) × Becomes label.name (with_change (cut len left) (old.files label.name)) old new)

-- A sync of a file. Where it failed the file is sound no more.
abbrev pub Syncs : {T : Type 0} → Label → Result T Failed → Folder → Folder → Type 0
Syncs label (Ok done) old new = IsUsable old label → Becomes label.name (with_change settle (old.files label.name)) old new
Syncs label (Err failed) old new = IsUsable old label → Becomes label.name (record (old.files label.name) { is_sound = false }) old new

-- A sync of the folder's names, after which no stop undoes a move. Where it failed the folder is of no more use; what it holds is as it was.
pub record NamesKept (old new : Folder) : Type 0 where
  pub same_stage : new.stage ≡ old.stage
  pub sure : (name : List ℕ) → new.files name ≡ record (old.files name) { is_sure = true }
  pub moves : new.moves ≡ record old.moves { pending = [] }

pub record NamesLost (old new : Folder) : Type 0 where
  pub stage : new.stage ≡ spoiled
  pub same : (name : List ℕ) → new.files name ≡ old.files name
  pub same_moves : new.moves ≡ old.moves

abbrev pub SyncsNames : {T : Type 0} → Result T Failed → Folder → Folder → Type 0
SyncsNames (Ok done) old new = old.stage ≡ held → NamesKept old new
SyncsNames (Err failed) old new = old.stage ≡ held → NamesLost old new

-- The names of the files that are there, each once.
pub record Lists (names : List (List ℕ)) (files : List ℕ → File) : Type 0 where
  pub there : (name : List ℕ) → Contains names name → IsTrue (files name).is_there
  pub all : (name : List ℕ) → IsTrue (files name).is_there → Contains names name
  pub once : IsDistinct bytes_eq names

-- A file got another name, in place of the file that stood there, and its former name has none. Calls on what was opened under one of
-- the two names before may tell nothing any more.
pub record Renamed (from to : List ℕ) (old new : Folder) : Type 0 where
  pub apart : from ≢ to
  pub there : IsTrue (old.files from).is_there
  pub same_stage : new.stage ≡ old.stage
  pub gives : new.files to ≡ record (old.files from) { is_sure = true }
  pub leaves : new.files from ≡ no_file
  pub others : (other : List ℕ) → other ≢ from → other ≢ to → new.files other ≡ old.files other
  pub pending : new.moves.pending ≡ renaming from to (old.files from).is_sure (old.files to) ∷ old.moves.pending
  pub turns : (other : List ℕ) → other ≢ from → other ≢ to → new.moves.turns other ≡ old.moves.turns other

-- A file gets another name, or keeps its own where both are the same. A call that failed may have done it.
abbrev pub Renames : {T : Type 0} → List ℕ → List ℕ → Result T Failed → Folder → Folder → Type 0
Renames from to (Ok done) old new = old.stage ≡ held → (Renamed from to old new) ⊎ ((from ≡ to) × IsTrue (old.files from).is_there × (new ≡ old))
Renames from to (Err failed) old new = old.stage ≡ held → (Renamed from to old new) ⊎ (new ≡ old)

-- A file is gone. Calls on what was opened under its name before may tell nothing any more.
pub record Removed (name : List ℕ) (old new : Folder) : Type 0 where
  pub there : IsTrue (old.files name).is_there
  pub same_stage : new.stage ≡ old.stage
  pub leaves : new.files name ≡ no_file
  pub others : (other : List ℕ) → other ≢ name → new.files other ≡ old.files other
  pub pending : new.moves.pending ≡ removal name (old.files name) ∷ old.moves.pending
  pub turns : (other : List ℕ) → other ≢ name → new.moves.turns other ≡ old.moves.turns other

-- A file is removed, where there is one of this name, and it is answered whether there was. A call that failed may have done it.
abbrev pub Removes : List ℕ → Result Bool Failed → Folder → Folder → Type 0
Removes name (Ok true) old new = old.stage ≡ held → Removed name old new
Removes name (Ok false) old new = old.stage ≡ held → IsMissing (old.files name) × (new ≡ old)
Removes name (Err failed) old new = old.stage ≡ held → (Removed name old new) ⊎ (new ≡ old)
