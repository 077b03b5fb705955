-- What WRITE and ERASE leave in a client's tree.
use Rattle.std.specs.Prelude.{◌≡◌, ℕ, ◌+◌, ◌%◌, ◌≤◌, List, map, None, Result, Ok, Err}
use Rattle.std.specs.List.{range_with_len}
use Rattle.std.specs.Option.{option_map}
use Rattle.kinds.specs.declared.refusal.Refusal.{Refusal}
use Rattle.kinds.specs.declared.refusal.Refusal.TheVariants.{TreeFault}
use Rattle.tree_api.specs.Cause.{Rose}
use Rattle.client_trees.specs.Files.{Files, appended, file_at, others}
use Rattle.client_files.specs.Restoring.{HasFile, HasNone, HasOthers, Leads}
use Rattle.admin_words.specs.declared.files.Contents.{Contents}
use Rattle.admin_words.specs.declared.files.Contents.TheVariants.{Counted, Text}
use Rattle.command_steps.specs.Clients.{Known}

-- the byte at this place of a file of counted bytes
abbrev pub byte_at : (fill at : ℕ) → ℕ
byte_at fill at = (fill + at) % 251

-- so many of its bytes, from the place on
abbrev pub counted : (fill at count : ℕ) → List ℕ
counted fill at count = map (byte_at fill) (range_with_len at count)

-- what a file is written with
abbrev pub bytes_of : Contents → List ℕ
bytes_of (Text text) = text
bytes_of (Counted size fill) = counted fill 0 size

-- no file stands at the path, and all others are as they were
abbrev pub IsWithout : (path : List ℕ) → Files → Files → Type 0
IsWithout path old new = (others path new ≡ others path old) × (file_at path new ≡ None)

-- a call on the tree failed; all files at other paths are as they were
abbrev pub Fails : (path : List ℕ) → (before after : Known) → Refusal → Type 0
Fails path before after e = (e ≡ TreeFault) × Rose before.faults after.faults × Leads (HasOthers path) before.files after.files

-- The file at the path has these bytes and this time, whatever stood there. Or a call on the tree failed, and none stands there, unless the call failed too by which it was to be taken away. All
-- others are as they were.
abbrev pub Writes : (path bytes : List ℕ) → (mtime : ℕ) → (before after : Known) → Result (Unit {0}) Refusal → Type 0
Writes path bytes mtime before after (Ok done) = Leads (HasFile path bytes mtime) before.files after.files
Writes path bytes mtime before after (Err e) = (e ≡ TreeFault) × (count : ℕ) × Rose before.faults count × (count ≤ after.faults) × Leads (HasNone path count after.faults) before.files after.files

-- No file stands at the path, and all others are as they were. Or the call on the tree failed.
abbrev pub Erases : (path : List ℕ) → (before after : Known) → Result (Unit {0}) Refusal → Type 0
Erases path before after (Ok done) = Leads (IsWithout path) before.files after.files
Erases path before after (Err e) = Fails path before after e

-- ---- the parts

-- these bytes stand behind those of the file
abbrev pub PutsMore : (path bytes : List ℕ) → (before after : Known) → Result (Unit {0}) Refusal → Type 0
PutsMore path bytes before after (Ok done) = (before.faults ≤ after.faults) × (after.files ≡ option_map (appended path bytes) before.files)
PutsMore path bytes before after (Err e) = Fails path before after e

-- the file has these bytes and this time
abbrev pub PutsFile : (path bytes : List ℕ) → (mtime : ℕ) → (before after : Known) → Result (Unit {0}) Refusal → Type 0
PutsFile path bytes mtime before after (Ok done) = (before.faults ≤ after.faults) × Leads (HasFile path bytes mtime) before.files after.files
PutsFile path bytes mtime before after (Err e) = Fails path before after e
