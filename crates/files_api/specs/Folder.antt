-- The files of one folder by their names, and what a stop of the machine may leave of them.
use Rattle.std.specs.Prelude.{◌≡◌, ◌⊎◌, if◌then◌else◌, ℕ, List, [], ◌∷◌, All, Contains, Bool, IsTrue, true, false}
use Rattle.std.specs.Str.{bytes_eq}
use Rattle.store_api.specs.Disk.{Standing, Change, changed, settled, Leaves}

-- How far a run has come with the folder. It may be missing; or it was made, and a stop may still take it away; or no stop takes it
-- away; or this run alone has it; or a sync of the names in it failed, and then nothing more is known of it.
pub data Stage : Type 0 where
  away : Stage
  made : Stage
  kept : Stage
  held : Stage
  spoiled : Stage

-- What stands under a name. `is_there`: a file does. `is_sure`: no stop takes the name from it, but one that undoes a move. `is_sound`: no
-- sync of it failed.
pub record File : Type 0 where
  pub is_there : Bool
  pub standing : Standing
  pub is_sure : Bool
  pub is_sound : Bool

-- no file, and no stop brings one there but one that undoes a move
abbrev pub no_file : File
no_file = record { is_there = false; standing = settled []; is_sure = true; is_sound = true }

-- A file was renamed, or removed. `was_sure`: its former name was sure. `replaced`: what stood under its new name before. `file`: the file
-- that is gone.
pub data Move : Type 0 where
  renaming : (from to : List ℕ) (was_sure : Bool) (replaced : File) → Move
  removal : (name : List ℕ) (file : File) → Move

-- The moves of a run. `pending`: those that a stop may undo, newest first. `turns`: which of the files that it has had a name has now; a
-- move may change that of its own names.
pub record Moves : Type 0 where
  pub pending : List Move
  pub turns : List ℕ → ℕ

-- no file was moved
abbrev pub unmoved : Moves
unmoved = record { pending = []; turns = λ name. 0 }

-- The folder. Where `is_settled`, all that is in it is on the disk.
pub record Folder : Type 0 where
  pub stage : Stage
  pub is_settled : Bool
  pub files : List ℕ → File
  pub moves : Moves

-- What an open file is known by: the name under which it was opened, and which of the files that the name has had it is.
pub record Label : Type 0 where
  pub name : List ℕ
  pub turn : ℕ

-- all of the file is on the disk, and so is its name, but where nothing of it reads
pub record IsOnDisk (file : File) : Type 0 where
  pub bytes : file.standing ≡ settled file.standing.bytes
  pub name : ¬ IsTrue file.is_sure → file.standing.bytes ≡ []
  pub sound : IsTrue file.is_sound

-- all of each file is on the disk, and no file was moved
pub record IsAllOnDisk (folder : Folder) : Type 0 where
  pub files : (name : List ℕ) → IsOnDisk (folder.files name)
  pub moves : folder.moves ≡ unmoved

-- the file as it is with a change
abbrev pub with_change : Change → File → File
with_change change file = record file { standing = changed change file.standing }

-- no file stands there, and nothing of it reads
pub record IsMissing (file : File) : Type 0 where
  pub not_there : file.is_there ≡ false
  pub empty : file.standing ≡ settled []

-- A file that was just made: it is empty, and a stop may leave no file of it.
pub record IsNew (file : File) : Type 0 where
  pub there : file.is_there ≡ true
  pub empty : file.standing ≡ settled []
  pub unsure : file.is_sure ≡ false
  pub sound : file.is_sound ≡ true

-- the files with this one under a name
abbrev pub put : List ℕ → File → (List ℕ → File) → List ℕ → File
put name file files other = if bytes_eq name other then file else files other

-- The files as they were before a move. One that was renamed is as it is now, but where its former name wasn't sure it isn't again.
abbrev pub undone : Move → (List ℕ → File) → List ℕ → File
undone (renaming from to was_sure replaced) files = put from (record (files to) { is_sure = was_sure }) (put to replaced files)
undone (removal name file) files = put name file files

-- the names that a move is of
abbrev pub names_of : Move → List (List ℕ)
names_of (renaming from to was_sure replaced) = from ∷ (to ∷ [])
names_of (removal name file) = name ∷ []

-- no name is of both moves
abbrev pub AreApart : Move → Move → Type 0
AreApart one other = (name : List ℕ) → Contains (names_of one) name → ¬ Contains (names_of other) name

-- Which files a stop may leave under which names: of the moves, newest first, each stays or is undone, as a whole. None is undone where a
-- later one stays that is of one of its names. `staying` are those that were passed and stay.
abbrev pub Undoes : List Move → List Move → (List ℕ → File) → (List ℕ → File) → Type 0
Undoes staying [] files left = (name : List ℕ) → left name ≡ files name
Undoes staying (move ∷ moves) files left = (Undoes (move ∷ staying) moves files left) ⊎ (All (AreApart move) staying × Undoes staying moves (undone move files) left)

-- What a stop may leave under a name: what stood there, with what the stop may leave of its bytes; or no file, where the name wasn't sure.
-- Where no file is left nothing reads.
pub record LeavesFile (before after : File) : Type 0 where
  pub left : ((after.is_there ≡ before.is_there) × Leaves before.standing after.standing.bytes) ⊎ (¬ IsTrue before.is_sure × (after.is_there ≡ false))
  pub none : after.is_there ≡ false → after.standing.bytes ≡ []

-- After a stop some of the moves are undone, each file is what the stop may leave of it, and all of it is on the disk.
pub record StopsAs (before after : Folder) : Type 0 where
  pub settled : IsTrue after.is_settled
  pub stage : after.stage ≡ away
  pub files : List ℕ → File
  pub names : Undoes [] before.moves.pending before.files files
  pub left : (name : List ℕ) → LeavesFile (files name) (after.files name)
