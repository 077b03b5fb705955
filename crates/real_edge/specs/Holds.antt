-- What a store in a folder keeps true: how the files of the folder stand for those of the store, and what is known of each.
use Rattle.std.specs.Prelude.{◌≡◌, ◌⊎◌, ℕ, max, OnOk, ◌+◌, ◌<◌, ◌≤◌, ◌^◌, ◌==◌, if◌then◌else◌, List, length, take, drop, Bool, IsTrue, Option, None, Some, Result, Ok, Err}
use Rattle.std.specs.Ordering.{nat_cmp}
use Rattle.std.specs.BTreeMap.{is_at}
use Rattle.std.specs.List.{list_any, slice_index_or}
use Rattle.store_api.specs.Disk.{Standing, IsLoose, Call, on, idle, changed, write, cut, settle, settled}
use Rattle.files_api.specs.Folder.{Stage, away, held, File, unmoved, Folder, Label, IsMissing}
use Rattle.files_api.specs.Calls.{Only}
use Rattle.real_edge.specs.Ledger.{Faults, is_lost, Worse}
use Rattle.real_edge.specs.Names.{file_name, file_label}
use Rattle.real_edge.specs.Pool.{AreNamed}
use Rattle.real_edge.specs.declared.pool.Pool.{Pool}

-- A file of the folder stands for one of the store: they read the same, and a stop leaves nothing of the first that it may not leave of
-- the second.
pub record Tied (file : File) (seen : Standing) : Type 0 where
  pub same : seen.bytes ≡ file.standing.bytes
  pub within : seen.stable ≤ length seen.bytes
  pub stable : seen.stable ≤ file.standing.stable
  pub loose : (place : ℕ) → place < seen.stable → IsLoose file.standing.loose place → IsLoose seen.loose place
  pub unsure : ¬ IsTrue file.is_sure → seen.stable ≡ 0

-- What is known of a file: whether the names were synced since a file was made, whether the file is used no more, and whether it was
-- changed since its last sync.
pub record IsKnown (file : File) (seen : Standing) (is_synced lost is_changed : Bool) : Type 0 where
  pub tied : Tied file seen
  pub sure : IsTrue is_synced → IsTrue file.is_sure
  pub sound : ¬ IsTrue lost → IsTrue file.is_sound
  pub clean : ¬ IsTrue is_changed → file.standing ≡ settled file.standing.bytes

-- the number is among them
abbrev pub has : List ℕ → ℕ → Bool
has numbers file = list_any (is_at (nat_cmp file)) numbers

-- What a run has of the folder's files: those that are open, those that were changed since their last sync, and whether the names were
-- synced since a file was made.
pub record Desk (H : Type 0) : Type 0 where
  pub pool : Pool H
  pub changed : List ℕ
  pub is_synced : Bool

-- Where the run has entered the folder it holds it, as long as its files are used.
pub record IsAtStage (is_entered all_lost : Bool) (stage : Stage) : Type 0 where
  pub before : ¬ IsTrue is_entered → stage ≡ away
  pub within : IsTrue is_entered → ¬ IsTrue all_lost → stage ≡ held

-- what the store keeps true of the folder, whose files stand for those of the store
pub record Holds {H : Type 0} (label_of : H → Label) (is_entered : Bool) (desk : Desk H) (faults : Faults) (folder : Folder) (seen : ℕ → Standing) : Type 0 where
  pub each : (file : ℕ) → file < 2 ^ 32 → IsKnown (folder.files (file_name file)) (seen file) desk.is_synced (is_lost faults file) (has desk.changed file)
  pub stage : IsAtStage is_entered faults.all_lost folder.stage
  pub moves : folder.moves ≡ unmoved
  pub named : AreNamed label_of desk.pool

-- it holds of the faults where the call went well, and else of all later ones that count the loss
abbrev pub After : {T E : Type 0} → Result T E → (Faults → Type 0) → Faults → (Faults → Type 0) → Type 0
After (Ok done) lost faults P = P faults
After (Err failed) lost faults P = (after : Faults) → Worse faults after → lost after → P after

-- what was looked for: the file's handle, or none where the file is missing
abbrev pub Got : {H E : Type 0} → (H → Label) → ℕ → Result (Option H) E → Folder → Type 0
Got label_of file (Ok None) folder = IsMissing (folder.files (file_name file))
Got label_of file (Ok (Some handle)) folder = label_of handle ≡ file_label file
Got label_of file (Err failed) folder = Unit {0}

-- The bytes of a file were changed within a range at will, and the range isn't on the disk.
pub record Patched (at len : ℕ) (old new : Standing) : Type 0 where
  pub stable : new.stable ≡ old.stable
  pub loose : (place : ℕ) → IsLoose new.loose place → IsLoose old.loose place ⊎ ((at ≤ place) × (place < at + len))
  pub longer : length old.bytes ≤ length new.bytes
  pub reach : (length new.bytes ≡ length old.bytes) ⊎ ((at < length new.bytes) × (length new.bytes ≤ at + len))
  pub outside : (place : ℕ) → (place < at) ⊎ (at + len ≤ place) → slice_index_or new.bytes place 0 ≡ slice_index_or old.bytes place 0

-- A file was patched; its name and what is known of it stayed.
pub record PatchedFile (at len : ℕ) (old new : File) : Type 0 where
  pub standing : Patched at len old.standing new.standing
  pub there : new.is_there ≡ old.is_there
  pub sure : new.is_sure ≡ old.is_sure
  pub sound : new.is_sound ≡ old.is_sound

-- the store's file after a write of which a part may have been done, by what then stands in the range
abbrev pub rewritten : ℕ → ℕ → File → Standing → Standing
rewritten at len file seen = changed (write at len (take len (drop at file.standing.bytes))) seen

-- the front of the bytes stands from the place on
pub record StandsUpTo (bytes : List ℕ) (at : ℕ) (piece : List ℕ) (done : ℕ) : Type 0 where
  pub fits : 0 < done → at + done ≤ length bytes
  pub each : (k : ℕ) → k < done → slice_index_or bytes (at + k) 0 ≡ slice_index_or piece k 0

-- Only the file of this name was changed, and only within the range.
pub record PatchedOnly (name : List ℕ) (at len : ℕ) (old new : Folder) : Type 0 where
  pub only : Only name old new
  pub file : PatchedFile at len (old.files name) (new.files name)

-- the store's files after one more call
abbrev pub after_call : Call → (ℕ → Standing) → ℕ → Standing
after_call idle seen file = seen file
after_call (on changed_file change) seen file = if changed_file == file then changed change (seen file) else seen file

-- All the bytes were to be written from the place on. On Ok they are what then stands there.
pub record WroteAll {T E : Type 0} (name : List ℕ) (at : ℕ) (bytes : List ℕ) (result : Result T E) (old new : Folder) : Type 0 where
  pub patched : PatchedOnly name at (length bytes) old new
  pub gives : OnOk result (take (length bytes) (drop at (new.files name).standing.bytes) ≡ bytes)

-- the length that a cut left, as far as the store's file shows it
abbrev pub left_by : {T E : Type 0} → Result T E → ℕ → File → ℕ
left_by (Ok done) len file = len
left_by (Err failed) len file = max len (length file.standing.bytes)

-- The file was to be cut to a length. Its name and what is known of it stayed, and it stands for the store's file with the cut.
pub record CutTo {T E : Type 0} (name : List ℕ) (len : ℕ) (result : Result T E) (old new : Folder) : Type 0 where
  pub only : Only name old new
  pub there : (new.files name).is_there ≡ (old.files name).is_there
  pub sure : (new.files name).is_sure ≡ (old.files name).is_sure
  pub sound : (new.files name).is_sound ≡ (old.files name).is_sound
  pub tied : (seen : Standing) → Tied (old.files name) seen → Tied (new.files name) (changed (cut len (left_by result len (new.files name))) seen)

-- A front of the bytes was written from the place on, and stands there.
pub record WroteFront (name : List ℕ) (at : ℕ) (bytes : List ℕ) (done : ℕ) (old new : Folder) : Type 0 where
  pub patched : PatchedOnly name at (length bytes) old new
  pub front : StandsUpTo (new.files name).standing.bytes at bytes done

-- the store's files after a sync of one
abbrev pub after_sync : {T E : Type 0} → ℕ → Result T E → (ℕ → Standing) → ℕ → Standing
after_sync file (Ok done) seen = after_call (on file settle) seen
after_sync file (Err failed) seen = seen
