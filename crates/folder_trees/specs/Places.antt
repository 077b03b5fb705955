-- Where the files of a tree lie below its folder.
use Rattle.std.specs.Prelude.{ℕ, Bool, not, ◌==◌, ◌&&◌, List, ◌++◌, drop, length, codes, Option, Some, None, if◌then◌else◌}
use Rattle.std.specs.List.{list_all, slice_split}
use Rattle.std.specs.Str.{byte, bytes_eq}

-- the name under which a file is written before it is whole
abbrev pub partial_name : List ℕ
partial_name = codes ".tsm-partial"

-- A part of a path that names a file or a folder of the tree: it isn't empty, it names neither the folder that it stands in nor the one above that, and it isn't the name of what isn't whole yet.
abbrev pub is_name : List ℕ → Bool
is_name part = not (length part == 0) && not (bytes_eq part (codes ".")) && not (bytes_eq part (codes "..")) && not (bytes_eq part partial_name)

-- the parts of a path: what stands before, between and behind its slashes
abbrev pub parts : List ℕ → List (List ℕ)
parts path = slice_split (λ b. b == byte "/") path

-- the path leads to a place below the folder: each of its parts behind the first slash is a name
abbrev pub is_below : List ℕ → Bool
is_below path = list_all is_name (drop 1 (parts path))

-- where the file of a path lies, below the tree's folder; nowhere, where its path leads elsewhere
abbrev pub place : (root path : List ℕ) → Option (List ℕ)
place root path = if is_below path then Some (root ++ path) else None
