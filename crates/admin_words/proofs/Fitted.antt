-- What was given for a row fits it.
use Rattle.std.proofs.Common.{◌≡◌, ℕ, ◌+◌, Bool, List, length, subst, Result, Ok, Err}
use Rattle.std.specs.Prelude.{OnOk, IfOk}
use Rattle.kinds.specs.declared.refusal.Refusal.{Refusal}
use Rattle.command_words.specs.Rows.{Given, row_values}
use Rattle.command_words.specs.Words.{Word, words}
use Rattle.admin_words.specs.declared.command.Command.{Command}
use Rattle.admin_words.specs.Line.{row_for}
use Rattle.admin_words.specs.Rows.{Row, verbs}
use Rattle.admin_words.specs.Legible.{IsFit, IsRead, LineIsRead}

-- what is sure anyway is sure of an answer
on_ok : {P : Type 0} (r : Result Command Refusal) → P → OnOk r P
on_ok (Ok x) h = h
on_ok (Err e) h = tt

if_ok : {A : Type 0} (P : A → Type 0) (r : Result A Refusal) (x : A) → r ≡ Ok x → P x → IfOk r P
if_ok P (Ok y) x e h = let k : x ≡ y = cc in subst P k h
if_ok P (Err d) x e h = tt

-- a row for which this was given
pub row_fits : (r : Result Command Refusal) (end : ℕ) (row : Row) (ws : List Word) (given : List Given × List Given) → row_values row.places row.slots end ws ≡ Ok given → IsFit row given → OnOk r (IsRead end (row, ws))
row_fits r end row ws given e h = on_ok r (if_ok (λ given. IsFit row given) (row_values row.places row.slots end ws) given e h)

-- a line that names this row
pub line_fits : (r : Result Command Refusal) (in_block : Bool) (line : List ℕ) (row : Row × List Word) → row_for (length line + 1) (verbs in_block) (words line) ≡ Ok row → OnOk r (IsRead (length line + 1) row) → OnOk r (LineIsRead in_block line)
line_fits (Ok x) in_block line row e h = if_ok (λ row. IsRead (length line + 1) row) (row_for (length line + 1) (verbs in_block) (words line)) row e h
line_fits (Err d) in_block line row e h = tt
