-- What spells an increment.
use Rattle.std.proofs.Common.{◌≡◌, ℕ, List, ◌++◌, None, sym, ap, ◌∙◌}
use Rattle.std.proofs.lemmas.Option.{none-some}
use Rattle.fields.specs.ListLaws.{one_value}
use Rattle.backup_payloads.specs.Increments.{Increment, increment, increment_form, IsIncrement, IsAlone}

-- bytes that begin with an increment's spelling are read
pub not_read : (bytes rest : List ℕ) (i : Increment) → increment.read bytes ≡ None → increment.Fits i → bytes ≡ increment.spell i ++ rest → ⊥
not_read bytes rest i none fits e = none-some (i, rest) (sym none ∙ ap increment.read e ∙ increment_form.again i rest fits)

-- no other increment's spelling begins with an increment's
pub alone : (bytes : List ℕ) (i : Increment) → IsIncrement bytes i → IsAlone bytes i
alone bytes i s = λ other rest fits e. one_value increment_form i other rest s.0 fits (ap (λ (whole : List ℕ). whole ++ rest) (sym s.1) ∙ e)
