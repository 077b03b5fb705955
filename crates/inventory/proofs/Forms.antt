-- Bytes that are no inventory's in either form.
use Rattle.std.proofs.Common.{ℕ, List, Option, Some, None, Result, Ok, Err, IfOk, IfNone}
use Rattle.fields.specs.Editions.{Edition, first_form, second_form}
use Rattle.entries.specs.Meaning.{Spells}
use Rattle.inventory_rows.specs.State.{Inv}
use Rattle.inventory.specs.Meant.{meaning}

-- what follows from the fact that nothing is found
pub none_then : {A E : Type 0} (P Q : Type 0) → (P → Q) → (r : Result (Option A) E) → IfOk r (λ o. IfNone o P) → IfOk r (λ o. IfNone o Q)
none_then P Q f (Ok (Some a)) h = h
none_then P Q f (Ok None) h = f h
none_then P Q f (Err e) h = h

-- the bytes are no inventory's in the form
abbrev pub IsNoneIn : Edition → List ℕ → Type 0
IsNoneIn form bytes = (d : Inv) → Spells meaning form bytes d → ⊥

-- bytes that are no inventory's in the one form and in the other are none's
pub none_in_both : (bytes : List ℕ) → IsNoneIn second_form bytes → IsNoneIn first_form bytes → (form : Edition) → IsNoneIn form bytes
none_in_both bytes second first first_form d spells = first d spells
none_in_both bytes second first second_form d spells = second d spells
