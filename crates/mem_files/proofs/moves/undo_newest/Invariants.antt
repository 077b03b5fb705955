use Rattle.std.proofs.Common.{ℕ, List, []}
use Rattle.files_api.specs.Folder.{File, Undoes}
use Rattle.mem_files.specs.Entries.{file_in}
use Rattle.mem_files.specs.Moves.{pending_of}
use Rattle.mem_files.proofs.moves.undo_newest.Given as goal

-- What a stop may leave by the moves that are left it may leave by all.
abbrev pub invariant-moves : goal.invariant-moves
invariant-moves l = (left : List ℕ → File) → Undoes [] (pending_of l.moves.items) (file_in l.entries.items) left → Undoes [] (pending_of l.fn.moves.items) (file_in l.fn.entries.items) left

abbrev pub decreases-moves : goal.decreases-moves
decreases-moves l = l.left
