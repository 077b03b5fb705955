-- The bytes of what is done with a row, and that they are forms: 1 for define, 2 for update, 3 for delete.
use Rattle.std.specs.Prelude.{◌≡◌, ℕ, [], ◌∷◌, Some, refl}
use Rattle.fields.specs.Forms.{Form, IsForm, coded, value_of}
use Rattle.fields.specs.FormLaws.{coded_form}
use Rattle.kinds.specs.declared.change.DefineOrDelete.{DefineOrDelete}
use Rattle.kinds.specs.declared.change.DefineOrDelete.TheVariants as rows
use Rattle.kinds.specs.declared.change.Verb.{Verb}
use Rattle.kinds.specs.declared.change.Verb.TheVariants as verbs

abbrev pub verb_number : Verb → ℕ
verb_number verbs.Define = 1
verb_number verbs.Update = 2
verb_number verbs.Delete = 3

abbrev pub verb : Form Verb
verb = coded verb_number (verbs.Define ∷ verbs.Update ∷ verbs.Delete ∷ [])

-- the same of a row that is never updated
abbrev pub row_number : DefineOrDelete → ℕ
row_number rows.Define = 1
row_number rows.Delete = 3

abbrev pub define_or_delete : Form DefineOrDelete
define_or_delete = coded row_number (rows.Define ∷ rows.Delete ∷ [])

-- ---- laws

verb_told : (v : Verb) → value_of verb_number (verbs.Define ∷ verbs.Update ∷ verbs.Delete ∷ []) (verb_number v) ≡ Some v
verb_told verbs.Define = refl
verb_told verbs.Update = refl
verb_told verbs.Delete = refl

pub verb_form : IsForm verb
verb_form = coded_form verb_number (verbs.Define ∷ verbs.Update ∷ verbs.Delete ∷ []) verb_told

row_told : (v : DefineOrDelete) → value_of row_number (rows.Define ∷ rows.Delete ∷ []) (row_number v) ≡ Some v
row_told rows.Define = refl
row_told rows.Delete = refl

pub define_or_delete_form : IsForm define_or_delete
define_or_delete_form = coded_form row_number (rows.Define ∷ rows.Delete ∷ []) row_told
