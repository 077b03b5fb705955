-- Renamings and removals of the files in memory, as the model of a folder has them.
use Rattle.std.specs.Prelude.{◌≡◌, ℕ, List, [], ◌∷◌, ◌++◌, Bool, true, false, Option, None, Some, String, string_bytes}
use Rattle.std.specs.declared.alloc.Global.{Global}
use Rattle.files_api.specs.Folder.{File, no_file, renaming, removal, Move as Moved, Moves, put, undone, Undoes}
use Rattle.mem_files.specs.declared.entries.Entry.{Entry}
use Rattle.mem_files.specs.declared.moves.Move.{Move}
use Rattle.mem_files.specs.Entries.{file_of, file_in}

-- a renaming, where there is a former name, or a removal
abbrev pub moved : Option (String Global) → List ℕ → Bool → File → Moved
moved (Some from) name was_sure file = renaming (string_bytes from) name was_sure file
moved None name was_sure file = removal name file

abbrev pub move_of : Move → Moved
move_of it = moved it.from (string_bytes it.name) it.was_sure (file_of it.body)

-- the newest first; the newest stands last in memory
abbrev pub pending_of : List Move → List Moved
pending_of [] = []
pending_of (it ∷ moves) = pending_of moves ++ (move_of it ∷ [])

abbrev pub no_moves : List Move → Bool
no_moves [] = true
no_moves (it ∷ moves) = false

-- a name has whatever file it has for the whole run
abbrev pub moves_of : List Move → Moves
moves_of moves = record { pending = pending_of moves; turns = λ name. 0 }

-- the file was renamed, and that is kept
pub record HasRenamed (from to : List ℕ) (old : List Entry) (moves : List Move) (new : List Entry) (moves' : List Move) : Type 0 where
  pub files : (name : List ℕ) → file_in new name ≡ put to (record (file_in old from) { is_sure = true }) (put from no_file (file_in old)) name
  pub kept : pending_of moves' ≡ renaming from to (file_in old from).is_sure (file_in old to) ∷ pending_of moves

-- the file was removed, and that is kept
pub record HasRemoved (name : List ℕ) (old : List Entry) (moves : List Move) (new : List Entry) (moves' : List Move) : Type 0 where
  pub files : (other : List ℕ) → file_in new other ≡ put name no_file (file_in old) other
  pub kept : pending_of moves' ≡ removal name (file_in old name) ∷ pending_of moves

-- nothing was done
pub record Unchanged (old : List Entry) (moves : List Move) (new : List Entry) (moves' : List Move) : Type 0 where
  pub entries : new ≡ old
  pub kept : moves' ≡ moves

-- it was undone, or nothing was done
abbrev pub Undid : Moved → Bool → List Entry → List Entry → Type 0
Undid it true old new = (name : List ℕ) → file_in new name ≡ undone it (file_in old) name
Undid it false old new = new ≡ old

-- some were undone, as a stop may
abbrev pub UndidSome : List Move → List Entry → List Entry → Type 0
UndidSome moves old new = Undoes [] (pending_of moves) (file_in old) (file_in new)
