-- The bytes of an entry: the number of the actor, and the change.
use Rattle.std.specs.Prelude.{◌≡◌, ℕ, List, [], ◌++◌, refl}
use Rattle.std.specs.Int.{w32}
use Rattle.fields.specs.Editions.{Edition, second_form}
use Rattle.fields.specs.Forms.{Form, IsForm, number, pair, viewed}
use Rattle.fields.specs.FieldLaws.{number_form, wide32}
use Rattle.fields.specs.FormLaws.{pair_form, viewed_form}
use Rattle.entries.specs.ChangeForm.{change, change_form}
use Rattle.entries.specs.declared.change.Change.{Change}
use Rattle.entries.specs.declared.entry.Entry.{Entry}

-- who makes the change, and the change
abbrev pub entry_with : ℕ × Change → Entry
entry_with f = record { actor = f.0; change = f.1 }

abbrev pub entry_fields : Entry → ℕ × Change
entry_fields e = (e.actor, e.change)

unfoldable pub entry_in : Edition → Form Entry
entry_in form = viewed entry_with entry_fields (pair (number w32) (change form))

-- the bytes are the spelling of the entry in this form, and its values are in their ranges
abbrev pub SpellsIn : Edition → List ℕ → Entry → Type 0
SpellsIn form bytes e = (entry_in form).Fits e × (bytes ≡ (entry_in form).spell e)

-- no entry's spelling in this form begins with the bytes but that of this one, and nothing follows there
abbrev pub IsAlone : Edition → List ℕ → Entry → Type 0
IsAlone form bytes e = (other : Entry) (rest : List ℕ) → (entry_in form).Fits other → bytes ++ rest ≡ (entry_in form).spell other → (other ≡ e) × (rest ≡ [])

-- the form that is written
abbrev pub entry : Form Entry
entry = entry_in second_form

abbrev pub Spells : List ℕ → Entry → Type 0
Spells bytes e = SpellsIn second_form bytes e

-- ---- laws

pub entry_in_form : (form : Edition) → IsForm (entry_in form)
unfolding entry_in
entry_in_form form = viewed_form entry_with entry_fields (λ _. refl) (λ _. refl) (pair_form (number_form w32 wide32) (change_form form))

pub entry_form : IsForm entry
entry_form = entry_in_form second_form
