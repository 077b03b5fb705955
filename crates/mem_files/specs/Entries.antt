-- The files of a folder in memory, as the model of a folder has them.
use Rattle.std.specs.Prelude.{◌≡◌, ◌⊎◌, ℕ, ◌+◌, ◌<◌, ◌≤◌, ◌&&◌, ◌||◌, not, if◌then◌else◌, Bool, true, false, List, [], ◌∷◌, length, get_or, take, string_bytes, Result, Ok, Err}
use Rattle.std.specs.List.{list_any, list_all}
use Rattle.std.specs.Str.{bytes_eq}
use Rattle.store_api.specs.Disk.{standing, Call, on, idle, write, cut, settle}
use Rattle.files_api.specs.Folder.{File, no_file, put, with_change}
use Rattle.files_api.specs.declared.files.Failed.{Failed}
use Rattle.mem_store.specs.Mem.{history_of}
use Rattle.mem_files.specs.declared.entries.Body.{Body}
use Rattle.mem_files.specs.declared.entries.Entry.{Entry}

-- the file of a body, where it is one
abbrev pub present : Body → File
present b = record { is_there = true; standing = standing (history_of b.store) 0; is_sure = b.is_sure; is_sound = b.is_sound }

-- what a body is
abbrev pub file_of : Body → File
file_of b = if b.is_there then present b else no_file

-- the entry has this name
abbrev pub has_name : List ℕ → Entry → Bool
has_name name e = bytes_eq (string_bytes e.name) name

-- what stands under a name: what the first entry has which has the name
abbrev pub file_in : List Entry → List ℕ → File
file_in [] name = no_file
file_in (e ∷ entries) name = if has_name name e then file_of e.body else file_in entries name

-- the first entry of this name stands there
pub record IsFirst (entries : List Entry) (name : List ℕ) (at : ℕ) : Type 0 where
  pub within : at < length entries
  pub here : (other : Entry) → has_name name (get_or entries at other) ≡ true
  pub before : (k : ℕ) (other : Entry) → k < at → has_name name (get_or entries k other) ≡ false

-- the file of this name stands there
pub record IsFile (entries : List Entry) (name : List ℕ) (at : ℕ) : Type 0 where
  pub first : IsFirst entries name at
  pub there : (other : Entry) → (get_or entries at other).body.is_there ≡ true

-- no entry has this name
abbrev pub IsFree : List Entry → List ℕ → Type 0
IsFree entries name = (k : ℕ) (other : Entry) → k < length entries → has_name name (get_or entries k other) ≡ false

abbrev pub changes : Call → Bool
changes (on file change) = true
changes idle = false

-- no file, or one that is all on the disk
abbrev pub is_at_rest : Body → Bool
is_at_rest b = not b.is_there || (not (list_any changes (history_of b.store).calls) && b.is_sure && b.is_sound)

abbrev pub all_at_rest : List Entry → Bool
all_at_rest entries = list_all (λ e. is_at_rest e.body) entries

-- the same stands under each name
pub record SameFiles (old new : List Entry) : Type 0 where
  pub files : (name : List ℕ) → file_in new name ≡ file_in old name
  pub rest : all_at_rest new ≡ all_at_rest old

-- What stands at a place became this file. Each name stands first where it stood first.
pub record Puts (at : ℕ) (file : File) (old new : List Entry) : Type 0 where
  pub files : (name : List ℕ) → IsFirst old name at → (other : List ℕ) → file_in new other ≡ put name file (file_in old) other
  pub firsts : (name : List ℕ) (k : ℕ) → IsFirst old name k → IsFirst new name k

-- The file of an entry was changed, and became another.
pub record Turned (file : File) (old new : Entry) : Type 0 where
  pub name : new.name ≡ old.name
  pub there : new.body.is_there ≡ old.body.is_there
  pub file_is : present new.body ≡ file

-- the file is as it was
pub record Same (old new : Entry) : Type 0 where
  pub turned : Turned (present old.body) old new
  pub rest : is_at_rest new.body ≡ is_at_rest old.body

-- a write of a part of a file that may have failed
abbrev pub Wrote : ℕ → List ℕ → Result ℕ Failed → Entry → Entry → Type 0
Wrote at bytes (Ok count) old new = Turned (with_change (write at count (take count bytes)) (present old.body)) old new
Wrote at bytes (Err failed) old new = (Same old new)
    ⊎ ((start : ℕ) × (span : ℕ) × (other : List ℕ) × (at ≤ start) × (start + span ≤ at + length bytes) × (length other ≤ span) × Turned (with_change (write start span other) (present old.body)) old
    new)

-- a cut that may have failed
abbrev pub WasCut : {T : Type 0} → ℕ → Result T Failed → Entry → Entry → Type 0
WasCut len (Ok done) old new = Turned (with_change (cut len len) (present old.body)) old new
WasCut len (Err failed) old new = (Same old new) ⊎ ((left : ℕ) × (len ≤ left) × Turned (with_change (cut len left) (present old.body)) old new)

-- a sync that may have failed
abbrev pub WasSynced : {T : Type 0} → Result T Failed → Entry → Entry → Type 0
WasSynced (Ok done) old new = Turned (with_change settle (present old.body)) old new
WasSynced (Err failed) old new = Turned (record (present old.body) { is_sound = false }) old new

-- as many entries under the same names, each of which has what stands in a relation to what it had
pub record Pairs (R : File → File → Type 0) (old new : List Entry) : Type 0 where
  pub same_length : length new ≡ length old
  pub same_name : (k : ℕ) (other : Entry) → k < length old → (get_or new k other).name ≡ (get_or old k other).name
  pub each : (k : ℕ) (other : Entry) → k < length old → R (file_of (get_or old k other).body) (file_of (get_or new k other).body)
