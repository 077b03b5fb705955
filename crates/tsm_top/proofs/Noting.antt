-- What is noted of a line: nothing of a comment, and of every other line its note.
use Rattle.std.proofs.Common.{◌≡◌, ℕ, Bool, true, false, if◌then◌else◌, List, [], ◌∷◌, ◌++◌, Result, Ok, Err, refl}
use Rattle.kinds.specs.declared.refusal.Refusal.{Refusal}
use Rattle.kinds.specs.declared.refusal.Refusal.TheVariants.{UnknownWord}
use Rattle.command_words.specs.Comments.{is_comment}
use Rattle.admin_words.specs.Line.{command}
use Rattle.admin_words.specs.declared.command.Command.{Command}
use Rattle.block_results.specs.command_steps.Lines.{asks, is_done, line_of, read_as, refused}
use Rattle.tsm_top.specs.Notes.{with_note}
use Rattle.tsm_top.specs.declared.note.Note.{Note}

pub not_noted : (line : List ℕ) (note : Note) (notes : List Note) → is_comment line ≡ true → with_note (line_of line) note notes ≡ notes
not_noted line note notes is = rw is refl

read_noted : (r : Result Command Refusal) (note : Note) (notes : List Note) → with_note (read_as r) note notes ≡ notes ++ note ∷ []
read_noted (Ok c) note notes = done_noted (is_done c) c note notes
  where
    done_noted : (b : Bool) (c : Command) (note : Note) (notes : List Note) → with_note (if b then asks c else refused (UnknownWord 1)) note notes ≡ notes ++ note ∷ []
    done_noted true c note notes = refl
    done_noted false c note notes = refl
read_noted (Err why) note notes = refl

pub line_noted : (line : List ℕ) (note : Note) (notes : List Note) → is_comment line ≡ false → with_note (line_of line) note notes ≡ notes ++ note ∷ []
line_noted line note notes is = rw is (read_noted (command line false) note notes)
