-- The files of a client, as a tree that tells them has them, and what calls make of them.
use Rattle.std.specs.Prelude.{◌≡◌, ◌⊎◌, ℕ, ◌<◌, ◌≤◌, not, List, [], ◌++◌, length, map, filter, take, drop, is_some, IsTrue, Option, Some, None, Result, OnOk, OnErr}
use Rattle.std.specs.BTreeMap.{is_at, insert_entry}
use Rattle.std.specs.Cmp.Lexicographic.{slice_cmp}
use Rattle.std.specs.List.Sorted.{IsStrictlySortedBy}
use Rattle.std.specs.Map.{lookup, set_value, remove_entry}
use Rattle.std.specs.Option.{option_map}
use Rattle.std.specs.Ordering.{nat_cmp}
use Rattle.client_trees.specs.declared.tree.FileRow.{FileRow}

-- a file of a client: its bytes, and the time of its last change in seconds
pub record ClientFile : Type 0 where
  pub bytes : List ℕ
  pub mtime : ℕ

-- files with their paths, in ascending order of these, one for each path
abbrev pub Files : Type 0
Files = List (List ℕ × ClientFile)

-- what a listing says of a file
abbrev pub row_of : List ℕ × ClientFile → FileRow
row_of f = record { path = f.0; size = length f.1.bytes; mtime = f.1.mtime }

-- the rows stand in ascending order of their paths' bytes, one for each path
abbrev pub AreInOrder : List FileRow → Type 0
AreInOrder rows = IsStrictlySortedBy (slice_cmp nat_cmp) (map (λ (f : FileRow). f.path) rows)

-- the file at a path
abbrev pub file_at : List ℕ → Files → Option ClientFile
file_at path files = lookup (is_at (slice_cmp nat_cmp path)) files

-- the files at other paths, each with its path
abbrev pub others : List ℕ → Files → Files
others path files = filter (λ f. not (is_at (slice_cmp nat_cmp path) f.0)) files

-- there is a file at the path
abbrev pub IsThere : List ℕ → Files → Type 0
IsThere path files = IsTrue (is_some (file_at path files))

-- the files once an empty one stands at the path; its time is 0 until it is set
abbrev pub created : List ℕ → Files → Files
created path files = insert_entry (slice_cmp nat_cmp) files path (record { bytes = []; mtime = 0 })

-- the files with a change of the one at the path, where one is there
abbrev pub altered : (ClientFile → ClientFile) → List ℕ → Files → Option ClientFile → Files
altered change path files None = files
altered change path files (Some file) = set_value (is_at (slice_cmp nat_cmp path)) files (change file)

-- the files with these bytes behind those of the file at the path
abbrev pub appended : List ℕ → List ℕ → Files → Files
appended path more files = altered (λ (f : ClientFile). record f { bytes = f.bytes ++ more }) path files (file_at path files)

-- the files with this time of the file at the path
abbrev pub finished : List ℕ → ℕ → Files → Files
finished path mtime files = altered (λ (f : ClientFile). record f { mtime = mtime }) path files (file_at path files)

-- the files but the one at the path
abbrev pub removed : List ℕ → Files → Files
removed path files = remove_entry (is_at (slice_cmp nat_cmp path)) files

-- where the tree tells its files, none stands at the path
abbrev pub IsGone : List ℕ → Option Files → Type 0
IsGone path None = Unit {0}
IsGone path (Some files) = file_at path files ≡ None

-- A call that is to change the files did, where it answered Ok; where it failed it did, or left them as they were.
abbrev pub Leaves : {E : Type 0} → Result (Unit {0}) E → Option Files → Option Files → (Files → Files) → Type 0
Leaves result old new change = OnOk result (new ≡ option_map change old) × OnErr result ((new ≡ old) ⊎ (new ≡ option_map change old))

-- A call that is to put bytes behind those of a file did, where it answered Ok; where it failed it put a front of them, or nothing.
abbrev pub LeavesFront : {E : Type 0} → Result (Unit {0}) E → Option Files → Option Files → List ℕ → List ℕ → Type 0
LeavesFront result old new path bytes =
    OnOk result (new ≡ option_map (appended path bytes) old)
    × OnErr result ((new ≡ old) ⊎ ((count : ℕ) × (count ≤ length bytes) × (new ≡ option_map (appended path (take count bytes)) old)))

-- So many bytes at the front of the buffer are the file's from the offset on: none, where the buffer has room, only at its end.
abbrev pub GivesOf : Option ClientFile → ℕ → List ℕ → ℕ → Type 0
GivesOf None offset buffer count = ⊥
GivesOf (Some file) offset buffer count = (take count buffer ≡ take count (drop offset file.bytes)) × (count ≡ 0 → 0 < length buffer → length file.bytes ≤ offset)

-- the same of the file at a path, which is there
abbrev pub Gives : List ℕ → ℕ → List ℕ → ℕ → Files → Type 0
Gives path offset buffer count files = GivesOf (file_at path files) offset buffer count
