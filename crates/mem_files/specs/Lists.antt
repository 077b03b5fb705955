-- The names of the files in memory, of the first so many entries.
use Rattle.std.specs.Prelude.{ℕ, ◌<◌, List, Bool, true, false, Contains, get_or, string_bytes}
use Rattle.std.specs.List.{IsDistinct}
use Rattle.std.specs.Str.{bytes_eq}
use Rattle.mem_files.specs.declared.entries.Entry.{Entry}
use Rattle.mem_files.specs.Entries.{IsFile}

-- the file that has the name of the entry at a place stands there, or no file does
abbrev pub IsFileAt : Bool → List Entry → ℕ → Type 0
IsFileAt true entries at = (other : Entry) → IsFile entries (string_bytes (get_or entries at other).name) at
IsFileAt false entries at = (name : List ℕ) → ¬ IsFile entries name at

-- The names of the files that stand before a place, each once.
pub record Listed (at : ℕ) (entries : List Entry) (names : List (List ℕ)) : Type 0 where
  pub there : (name : List ℕ) → Contains names name → (k : ℕ) × (k < at) × IsFile entries name k
  pub all : (name : List ℕ) (k : ℕ) → k < at → IsFile entries name k → Contains names name
  pub once : IsDistinct bytes_eq names
