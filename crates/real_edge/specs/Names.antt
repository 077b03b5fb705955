-- The names of a store's files in their folder.
use Rattle.std.specs.Prelude.{ℕ, ◌-◌, List, ◌++◌, length, replicate, codes, decimal}
use Rattle.files_api.specs.Folder.{Label}

-- `f`, and the file's number in eight decimal digits, or in as many as it has
abbrev pub file_name : ℕ → List ℕ
file_name file = codes "f" ++ (replicate (8 - length (decimal file)) 48 ++ decimal file)

-- what a store's file is known by while it is open, in a folder in which no file was moved
abbrev pub file_label : ℕ → Label
file_label file = record { name = file_name file; turn = 0 }
